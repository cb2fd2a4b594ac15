-- Where the reading of a journal stops. Assumes nothing.
use Prim.Native.Nat.{ℕ, zero, suc, ◌+◌, ◌≤◌, ◌<◌}
use mathlib.Core.Path.{◌≡◌, refl}
use mathlib.Core.Bool.{Bool, true, false, not, ◌&&◌, ◌||◌, false≢true}
use mathlib.Core.List.{List, [], ◌∷◌}
use native.Mathlib.Omega.{arith}
use native.Mathlib.Nat.{add-zero}
use lib.Dec.{eqb, ltb}
use lib.ListN.{length, drop, length-drop}
use borrow.Author.Tests.{lt-ltb, ne_eqb, eqb-true, eqb-false}
use Rattle.fields.proofs.BoolLaws.{cases}
use Rattle.journal.specs.declared.Head.{Head}
use Rattle.journal.specs.declared.Head.TheVariants.{Cut, Bad, Whole}
use Rattle.journal.specs.Entries.{head_of, head_number}
use Rattle.journal.specs.Journal.{Parsed, parse, ends_bad, is_bad, Stops}
use Rattle.journal.proofs.HeadLaws.{whole-fits}
use Rattle.journal.proofs.JournalLaws.{short_cut, parse-cut, parse-bad, parse-whole}

-- what is left after the entries of p, where seen came before them: no whole entry, and some bytes if a bad one stopped it
record Left (seen : ℕ) (p : Parsed) : Type 0 where
  number : head_number (head_of (seen + length p.entries) p.rest) ≡ 13
  bytes : p.stopped ≡ true → 0 < length p.rest

bad-bytes : (seen : ℕ) (s : List ℕ) → head_of seen s ≡ Bad → 0 < length s
bad-bytes seen [] e = let z : ◌≡◌ {A = ℕ} 0 1 = cc (short_cut seen [] (omega arith)) in absurd (omega arith)
bad-bytes seen (x ∷ xs) e = omega arith

left_cut : (seen : ℕ) (s : List ℕ) → head_of seen s ≡ Cut → Left seen (parse seen s)
left_cut seen s e = rw (parse-cut seen s e) (record { number = rw (add-zero, e); bytes = λ t. absurd (false≢true t) })

-- after one entry, where it is so after each list of bytes that is shorter
left-on : (f seen : ℕ) (s : List ℕ) → ((k : ℕ) (t : List ℕ) → length t ≤ f → Left k (parse k t)) → length s ≤ suc f
    → (h : Head) → head_of seen s ≡ h → Left seen (parse seen s)
left-on f seen s ih p Cut e = left_cut seen s e
left-on f seen s ih p Bad e = rw (parse-bad seen s e) (record { number = rw (add-zero, e); bytes = λ t. bad-bytes seen s e })
left-on f seen s ih p (Whole b n) e =
    let w = whole-fits seen s b n e in
    let l = ih (seen + 1) (drop n s) (omega (arith, length-drop n s, w.0, w.1)) in
    let es = (parse (seen + 1) (drop n s)).entries in
    let k : seen + suc (length es) ≡ seen + 1 + length es = omega arith in
    rw (parse-whole seen s b n e) (record { number = rw k l.number; bytes = l.bytes })

left_by_lem : (f seen : ℕ) (s : List ℕ) → length s ≤ f → Left seen (parse seen s)
left_by_lem zero seen s p = left_cut seen s (short_cut seen s (omega arith))
left_by_lem (suc f) seen s p = left-on f seen s (left_by_lem f) p (head_of seen s) refl

bad-by : (stopped : Bool) (left seen : ℕ) → (stopped ≡ true → 0 < left) → (stopped || ltb 0 left || eqb seen 0) ≡ not (eqb left 0 && ltb 0 seen)
bad-by true left seen h = rw (ne_eqb left 0 (λ z. omega (arith, h refl)))
bad-by false left seen h =
    cases (eqb left 0)
    (λ e. cases (eqb seen 0)
    (λ f. let l = eqb-true left 0 e in let s = eqb-true seen 0 f in rw (l, s))
    (λ f. let l = eqb-true left 0 e in rw (f, l, lt-ltb 0 seen (omega (arith, eqb-false seen 0 f)))))
    (λ e. rw (e, lt-ltb 0 left (omega (arith, eqb-false left 0 e))))

pub stops : (s : List ℕ) → Stops s
unfolding is_bad ends_bad
stops s =
    let l = left_by_lem (length s) 0 s (omega arith) in
    let k : 0 + length (parse 0 s).entries ≡ length (parse 0 s).entries = omega arith in
    record {
      left = rw k at l.number;
      bad = bad-by (parse 0 s).stopped (length (parse 0 s).rest) (length (parse 0 s).entries) l.bytes;
    }
