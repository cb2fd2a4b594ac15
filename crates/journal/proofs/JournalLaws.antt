-- Laws of a journal: its entries one at a time and in pieces, and what they make. Assumes nothing.
use Prim.Native.Nat.{ℕ, zero, suc, ◌+◌, ◌-◌, ◌≤◌, ◌<◌}
use mathlib.Core.Path.{◌≡◌, refl, sym, ap, ◌∙◌}
use mathlib.Core.Bool.{Bool, true, false, cond}
use mathlib.Core.List.{List, [], ◌++◌}
use native.Mathlib.Omega.{arith}
use native.Mathlib.Nat.{add-zero}
use lib.ListN.{length, drop, length-drop}
use lib.Seq.{drop-append-le}
use borrow.Author.Tests.{lt-ltb}
use Rattle.fields.specs.Put.{part}
use Rattle.fields.proofs.PutLaws.{part_left}
use Rattle.journal.specs.declared.Body.{Body}
use Rattle.journal.specs.declared.Head.{Head}
use Rattle.journal.specs.declared.Head.TheVariants.{Cut, Bad, Whole}
use Rattle.journal.specs.Entries.{head_of}
use Rattle.journal.specs.Journal.{Entry, Parsed, more, on_head, parse_up_to, parse}
use Rattle.journal.proofs.HeadLaws.{whole-fits, head-stays}

pub short_cut : (seen : ℕ) (s : List ℕ) → length s < 3 → head_of seen s ≡ Cut
unfolding head_of
short_cut seen s h = rw (lt-ltb (length s) 3 h)

-- ---- one entry at a time
-- by what stands at the start of s; f reads on
abbrev turn : (ℕ → List ℕ → Parsed) → ℕ → List ℕ → Head → Parsed
turn f seen s h = on_head h s (λ n. f (seen + 1) (drop n s))

same_by : (m : ℕ) (f g : ℕ → List ℕ → Parsed) (seen : ℕ) (s : List ℕ)
    → ((k : ℕ) (t : List ℕ) → length t < m → f k t ≡ g k t)
    → length s ≤ m → (h : Head) → head_of seen s ≡ h → turn f seen s h ≡ turn g seen s h
same_by m f g seen s ih p Cut e = refl
same_by m f g seen s ih p Bad e = refl
same_by m f g seen s ih p (Whole b n) e =
    let w = whole-fits seen s b n e in
    ap (more _) (ih (seen + 1) (drop n s) (omega (arith, length-drop n s, w.0, w.1)))

-- more fuel than bytes changes nothing
pub same-fuel : (f g seen : ℕ) (s : List ℕ) → length s ≤ f → length s ≤ g → parse_up_to f seen s ≡ parse_up_to g seen s
unfolding parse_up_to
same-fuel zero zero seen s p q = refl
same-fuel zero (suc g) seen s p q = rw (short_cut seen s (omega arith))
same-fuel (suc f) zero seen s p q = rw (short_cut seen s (omega arith))
same-fuel (suc f) (suc g) seen s p q =
    same_by (length s) (parse_up_to f) (parse_up_to g) seen s
    (λ k t h. same-fuel f g k t (omega arith) (omega arith)) (omega arith) (head_of seen s) refl

-- enough fuel reads all
pub parse-fuel : (f seen : ℕ) (s : List ℕ) → length s ≤ f → parse_up_to f seen s ≡ parse seen s
unfolding parse
parse-fuel f seen s h = same-fuel f (length s) seen s h (omega arith)

module _ (seen : ℕ) (s : List ℕ) where
  by_turn : (h : Head) → head_of seen s ≡ h → parse seen s ≡ turn parse seen s h
  unfolding parse parse_up_to
  by_turn h e =
      same-fuel (length s) (suc (length s)) seen s (omega arith) (omega arith)
      ∙ ap (turn (parse_up_to (length s)) seen s) e
      ∙ same_by (length s) (parse_up_to (length s)) parse seen s
      (λ k t l. parse-fuel (length s) k t (omega arith)) (omega arith) h e

  pub parse-cut : head_of seen s ≡ Cut → parse seen s ≡ record { entries = []; stopped = false; rest = s }
  parse-cut e = by_turn Cut e

  pub parse-bad : head_of seen s ≡ Bad → parse seen s ≡ record { entries = []; stopped = true; rest = s }
  parse-bad e = by_turn Bad e

  pub parse-whole : (b : Body) (n : ℕ) → head_of seen s ≡ Whole b n
      → parse seen s ≡ more (record { body = b; bytes = part s 3 (n - 3) }) (parse (seen + 1) (drop n s))
  parse-whole b n e = by_turn (Whole b n) e

-- ---- in pieces
-- what was read of some bytes, where seen came before them, and then more bytes come
abbrev pub fed : ℕ → Parsed → List ℕ → Parsed
fed seen p ys =
    cond p.stopped (record { entries = p.entries; stopped = true; rest = p.rest ++ ys })
    (record {
      entries = p.entries ++ (parse (seen + length p.entries) (p.rest ++ ys)).entries;
      stopped = (parse (seen + length p.entries) (p.rest ++ ys)).stopped;
      rest = (parse (seen + length p.entries) (p.rest ++ ys)).rest;
    })

more-fed : (e : Entry) (seen : ℕ) (es : List Entry) (stopped : Bool) (rest ys : List ℕ)
    → more e (fed (seen + 1) (record { entries = es; stopped = stopped; rest = rest }) ys)
    ≡ fed seen (more e (record { entries = es; stopped = stopped; rest = rest })) ys
more-fed e seen es true rest ys = refl
more-fed e seen es false rest ys = let k : seen + 1 + length es ≡ seen + suc (length es) = omega arith in rw k

fed_by : (f seen : ℕ) (xs ys : List ℕ)
    → ((k : ℕ) (zs : List ℕ) → length zs ≤ f → parse k (zs ++ ys) ≡ fed k (parse_up_to f k zs) ys)
    → length xs ≤ suc f → (h : Head) → head_of seen xs ≡ h → parse seen (xs ++ ys) ≡ fed seen (turn (parse_up_to f) seen xs h) ys
fed_by f seen xs ys ih p Cut e = ap (λ (k : ℕ). parse k (xs ++ ys)) (sym (add-zero seen))
fed_by f seen xs ys ih p Bad e =
    parse-bad seen (xs ++ ys) (head-stays xs ys seen (λ z. let k : ◌≡◌ {A = ℕ} 0 1 = cc in omega arith) ∙ e)
fed_by f seen xs ys ih p (Whole b n) e =
    let w = whole-fits seen xs b n e in
    let q = parse_up_to f (seen + 1) (drop n xs) in
    let x : Entry = record { body = b; bytes = part xs 3 (n - 3) } in
    parse-whole seen (xs ++ ys) b n (head-stays xs ys seen (λ z. let k : ◌≡◌ {A = ℕ} 0 1 = cc in omega arith) ∙ e)
    ∙ ap (λ (k : List ℕ). more (record { body = b; bytes = k }) (parse (seen + 1) (drop n (xs ++ ys)))) (part_left xs ys 3 (n - 3) (omega (arith, w.0, w.1)))
    ∙ ap (λ (k : List ℕ). more x (parse (seen + 1) k)) (drop-append-le n xs ys w.1)
    ∙ ap (more x) (ih (seen + 1) (drop n xs) (omega (arith, length-drop n xs, w.0, w.1)))
    ∙ more-fed x seen q.entries q.stopped q.rest ys

fed-fuel : (f seen : ℕ) (xs ys : List ℕ) → length xs ≤ f → parse seen (xs ++ ys) ≡ fed seen (parse_up_to f seen xs) ys
unfolding parse_up_to
fed-fuel zero seen xs ys p = ap (λ (k : ℕ). parse k (xs ++ ys)) (sym (add-zero seen))
fed-fuel (suc f) seen xs ys p = fed_by f seen xs ys (λ k zs h. fed-fuel f k zs ys h) p (head_of seen xs) refl

-- feeding a piece more is reading the whole
pub parse-fed : (seen : ℕ) (xs ys : List ℕ) → parse seen (xs ++ ys) ≡ fed seen (parse seen xs) ys
unfolding parse
parse-fed seen xs ys = fed-fuel (length xs) seen xs ys (omega arith)

-- the two cases: reading goes on after the bytes that were left, or it has stopped
pub parse-append : (seen : ℕ) (xs ys : List ℕ) → (parse seen xs).stopped ≡ false
    → parse seen (xs ++ ys)
    ≡ record {
      entries = (parse seen xs).entries ++ (parse (seen + length (parse seen xs).entries) ((parse seen xs).rest ++ ys)).entries;
      stopped = (parse (seen + length (parse seen xs).entries) ((parse seen xs).rest ++ ys)).stopped;
      rest = (parse (seen + length (parse seen xs).entries) ((parse seen xs).rest ++ ys)).rest;
    }
parse-append seen xs ys e = rw e at (parse-fed seen xs ys)

pub parse-stopped : (seen : ℕ) (xs ys : List ℕ) → (parse seen xs).stopped ≡ true
    → parse seen (xs ++ ys) ≡ record { entries = (parse seen xs).entries; stopped = true; rest = (parse seen xs).rest ++ ys }
parse-stopped seen xs ys e = rw e at (parse-fed seen xs ys)
