-- The loop over the entries at the start of some bytes that writes their notices. Assumes nothing.
use Prim.Native.Nat.{ℕ, ◌+◌, ◌-◌, ◌*◌, ◌≤◌, ◌<◌}
use mathlib.Core.Path.{◌≡◌, refl, sym, ap, ◌∙◌, subst}
use mathlib.Core.Bool.{Bool, true, false, cond, ◌&&◌, true≢false}
use mathlib.Core.List.{List, [], ◌∷◌, ◌++◌, append_assoc, append-nil}
use native.Mathlib.Omega.{arith}
use native.Mathlib.Nat.{add-zero, zero-add}
use lib.Dec.{ltb}
use lib.ListN.{length, take, drop, length-append}
use borrow.Rule.Slice.PartMut.{put_mid}
use borrow.Author.Tests.{ltb-false}
use Rattle.fields.specs.Put.{put, part}
use Rattle.fields.proofs.PutLaws.{put-lent, put-nil}
use Rattle.ledger.specs.Books.{Book, book}
use Rattle.ledger.specs.Sound.{sound_ledger}
use Rattle.words.specs.Layout.{ledger_of}
use Rattle.group.specs.parts.Turns.{if_written}
use Rattle.group.proofs.OutputLaws.{Out, out-start, out-more}
use Rattle.calls.specs.Machine.{outcomes}
use Rattle.journal.specs.declared.Head.{Head}
use Rattle.journal.specs.declared.Head.TheVariants.{Cut, Bad, Whole}
use Rattle.journal.specs.Entries.{head_of}
use Rattle.journal.specs.Journal.{Entry, after_entry, after_entries, call_of}
use Rattle.journal.specs.EntryCalls.{entry_written, notices_of, written_by, length_of}
use Rattle.journal.proofs.MadeLaws.{made-written}
use Rattle.journal.proofs.ShortLaws.{made-short, made-length}
use Rattle.entries.specs.declared.entry.Made.{Made}
use Rattle.entries.specs.declared.entry.Ended.{Ended}
use Rattle.entries.specs.declared.entry.Ended.TheVariants.{Full}
use Rattle.entries.specs.parts.Stepping.{StepOn, SteppedIn}
use Rattle.entries.specs.parts.Running.{entry_at, had_no_room, ran_to, FirstMade, NoneLeft, RanIn}
use Rattle.entries.proofs.StoodLaws.{Stood, stood-whole, stood-left}
use Rattle.entries.proofs.FirstMadeLaws.{first-none, left-full, left-none, next_fits, first_more}
use Rattle.std.specs.Prelude.{Result, Ok, Err}
use Rattle.rules.specs.declared.Cause.{Cause}
use Rattle.calls.specs.declared.Returned.{Returned}

-- ---- entries one after another
pub notices-append : (k : Book) (es fs : List Entry) → notices_of k (es ++ fs) ≡ notices_of k es ++ notices_of (after_entries k es) fs
unfolding notices_of after_entries
notices-append k [] fs = refl
notices-append k (e ∷ es) fs =
    let w = written_by (outcomes k (call_of e.body e.bytes)) in
    let j = after_entry e.body e.bytes k in
    ap (λ (x : List ℕ). w ++ x) (notices-append j es fs) ∙ sym (append_assoc w (notices_of j es) (notices_of (after_entries j es) fs))

-- ---- one step, its output lent from an index on
module _ (writes : Bool) (n : ℕ) (out₀ : List ℕ) (room : writes ≡ true → n + 64200 ≤ length out₀) (to : ℕ) (te : to ≡ cond writes n 0) where
  abbrev lent : List ℕ
  lent = take (length out₀ - to) (drop to out₀)

  to-true : writes ≡ true → to ≡ n
  to-true e = te ∙ rw e

  to-false : writes ≡ false → to ≡ 0
  to-false e = te ∙ rw e

  to-within : to ≤ length out₀
  to-within = go writes refl
    where
      go : (b : Bool) → writes ≡ b → to ≤ length out₀
      go true e = omega (arith, room e, to-true e)
      go false e = omega (arith, to-false e)

  put-said : (now w : List ℕ) → length w ≤ 64200 → now ≡ put lent 0 (if_written writes w) → put_mid to (length out₀ - to) out₀ now ≡ put out₀ n (if_written writes w)
  unfolding part
  put-said now w short e = go writes refl
    where
      go : (b : Bool) → writes ≡ b → put_mid to (length out₀ - to) out₀ now ≡ put out₀ n (if_written writes w)
      go true z =
          let r = room z in
          let t = to-true z in
          let e' : now ≡ put (part out₀ to (length out₀ - to)) 0 w = e ∙ rw z in
          put-lent out₀ to (length out₀ - to) 0 w now (omega arith) (omega arith) e' ∙ rw (z, add-zero to, t)
      go false z =
          let t = to-within in
          let e' : now ≡ put (part out₀ to (length out₀ - to)) 0 [] = e ∙ rw z in
          put-lent out₀ to (length out₀ - to) 0 [] now (omega arith) (omega arith) e' ∙ sym (put-nil out₀ (to + 0)) ∙ put-nil out₀ n ∙ rw z

  put_same : (now : List ℕ) → now ≡ lent → put_mid to (length out₀ - to) out₀ now ≡ out₀
  unfolding part
  put_same now e =
      let t = to-within in
      put-lent out₀ to (length out₀ - to) 0 [] now (omega arith) (omega arith) (e ∙ put-nil (part out₀ to (length out₀ - to)) 0) ∙ sym (put-nil out₀ (to + 0))

  -- what a step on the parts comes to
  pub next-in : (seen : ℕ) (src s ws₀ ws now : List ℕ) (r : Result Made Ended) → s ≡ src → SteppedIn writes 0 seen s ws₀ lent ws now r
      → SteppedIn writes n seen src ws₀ out₀ ws (put_mid to (length out₀ - to) out₀ now) r
  next-in seen src s ws₀ ws now r e x = go (head_of seen src) (rw e at x)
    where
      go : (h : Head) → StepOn h writes 0 src ws₀ lent ws now r → StepOn h writes n src ws₀ out₀ ws (put_mid to (length out₀ - to) out₀ now) r
      go Cut w = (w.0, put_same now w.1, w.2)
      go Bad w = (w.0, put_same now w.1, w.2)
      go (Whole b m) w =
          let y = w.2 in
          let bytes = part src 3 (m - 3) in
          let short : length (entry_written 64200 (ledger_of ws₀) b bytes) ≤ 64200 = omega (arith, made-length 64200 (ledger_of ws₀) b bytes, made-short (ledger_of ws₀) b bytes) in
          (w.0, w.1, record { sound = y.sound; ledger = y.ledger; answer = y.answer; bytes = put-said now (entry_written 64200 (ledger_of ws₀) b bytes) short y.bytes })

-- ---- what holds before each entry
pub record Running (src ws₀ : List ℕ) (seen₀ : ℕ) (writes : Bool) (out₀ ws out : List ℕ) (at seen n : ℕ) : Type 0 where
  pub done : List Entry
  pub made : FirstMade seen₀ src ws₀ ws at seen done
  pub wrote : Out writes 0 out₀ out (notices_of (book (ledger_of ws₀)) done) n
  pub small : n ≤ length done * 64200

pub running-start : (src ws : List ℕ) (seen : ℕ) (writes : Bool) (out : List ℕ) → sound_ledger (ledger_of ws) ≡ true
    → Running src ws seen writes out ws out 0 seen 0
unfolding notices_of
running-start src ws seen writes out h =
    record { done = []; made = first-none seen src ws h; wrote = out-start writes 0 out (λ z. omega arith); small = omega arith }

module _ (src ws₀ : List ℕ) (seen₀ : ℕ) (writes : Bool) (out₀ ws out : List ℕ) (at seen n : ℕ)
    (w : Running src ws₀ seen₀ writes out₀ ws out at seen n) where
  -- what may be asked of the output: it is full only where notices are written
  running-len : writes ≡ true → n ≤ length out
  running-len z = omega (arith, w.wrote.within z, w.wrote.kept)

  full-room : (b : Bool) → writes ≡ b → (writes && ltb (length out - n) 64200) ≡ false → writes ≡ true → n + 64200 ≤ length out
  full-room true e f z = let x = rw e at f in omega (arith, ltb-false (length out - n) 64200 x, running-len z)
  full-room false e f z = absurd (true≢false (sym z ∙ e))

  pub running-room : (writes && ltb (length out - n) 64200) ≡ false → writes ≡ true → n + 64200 ≤ length out
  running-room f z = full-room writes refl f z

  -- what a run leaves that ends here
  ends : (end : Ended) → (writes && ltb (length out - n) 64200) ≡ had_no_room end → NoneLeft src (ran_to at seen n end)
      → RanIn seen₀ writes src ws₀ out₀ ws out (ran_to at seen n end)
  ends end f e =
      record {
        done = w.done;
        made = w.made;
        kept = w.wrote.kept;
        bytes = w.wrote.bytes;
        written = w.wrote.size ∙ zero-add _;
        within = w.wrote.within;
        full = sym (ap (λ (k : ℕ). writes && ltb (k - n) 64200) (sym w.wrote.kept) ∙ f);
        rest = e;
      }

  -- the output has no room for another entry's notices
  pub ran-full : (writes && ltb (length out - n) 64200) ≡ true → RanIn seen₀ writes src ws₀ out₀ ws out (ran_to at seen n Full)
  ran-full f = ends Full f (left-full src at seen n)

  module _ (ws' out' : List ℕ) (r : Result Made Ended) (s : SteppedIn writes n seen (drop at src) ws out ws' out' r) where
    -- no whole entry stands there
    pub ran-left : (end : Ended) → (writes && ltb (length out - n) 64200) ≡ false → r ≡ Err end → RanIn seen₀ writes src ws₀ out₀ ws' out' (ran_to at seen n end)
    ran-left end f e =
        let x = stood-left writes n seen (drop at src) ws out ws' out' r s end e in
        rw (x.1, x.2) (ends end (f ∙ sym x.3) (left-none src at seen n end x.0))

    module _ (made : Made) (e : r ≡ Ok made) where
      abbrev m : ℕ
      m = made.size

      abbrev a : Result Returned Cause
      a = made.answer

      abbrev was : Stood writes n seen (drop at src) ws out ws' out' r s m a
      was = stood-whole writes n seen (drop at src) ws out ws' out' r s made e

      abbrev bytes : List ℕ
      bytes = part (drop at src) 3 (m - 3)

      abbrev one : Entry
      one = entry_at (drop at src) was.0 m

      wrote-long : length (entry_written 64200 (ledger_of ws) was.0 bytes) ≡ length_of a
      wrote-long = made-length 64200 (ledger_of ws) was.0 bytes ∙ ap length_of (sym was.2.answer)

      short : length_of a ≤ 64200
      short = omega (arith, ap length_of was.2.answer, made-short (ledger_of ws) was.0 bytes)

      pub ran-fits : (3 ≤ m) × (at + m ≤ length src) × (seen < 1000000000) × (n + length_of a ≤ 1000000000 * 64200)
      ran-fits =
          let x = next_fits seen₀ src ws₀ ws at seen w.done w.made was.0 m was.1 in
          (x.0, x.1, x.2, omega (arith, x.2, w.small, w.made.count, short))

      abbrev k : Book
      k = book (ledger_of ws)

      notice-on : entry_written 64200 (ledger_of ws) was.0 bytes ≡ notices_of k (one ∷ [])
      unfolding notices_of
      notice-on = made-written (ledger_of ws) w.made.sound was.0 bytes ∙ sym (append-nil _)

      all-notices : notices_of (book (ledger_of ws₀)) w.done ++ entry_written 64200 (ledger_of ws) was.0 bytes ≡ notices_of (book (ledger_of ws₀)) (w.done ++ (one ∷ []))
      all-notices =
          ap (λ (x : List ℕ). notices_of (book (ledger_of ws₀)) w.done ++ x) (notice-on ∙ ap (λ (x : Book). notices_of x (one ∷ [])) w.made.books)
          ∙ sym (notices-append (book (ledger_of ws₀)) w.done (one ∷ []))

      pub ran_on : (writes && ltb (length out - n) 64200) ≡ false → Running src ws₀ seen₀ writes out₀ ws' out' (at + m) (seen + 1) (n + length_of a)
      ran_on f =
          record {
            done = w.done ++ (one ∷ []);
            made = first_more seen₀ src ws₀ ws at seen w.done w.made was.0 m was.1 ws' was.2.sound was.2.ledger;
            wrote =
                subst (λ (ys : List ℕ). Out writes 0 out₀ out' ys (n + length_of a)) all-notices
                (out-more writes 0 out₀ out (notices_of (book (ledger_of ws₀)) w.done) n w.wrote (entry_written 64200 (ledger_of ws) was.0 bytes) out' (n + length_of a)
                (λ z. omega (arith, running-room f z, wrote-long, short)) was.2.bytes (ap (λ (i : ℕ). n + i) (sym wrote-long)));
            small = omega (arith, w.small, short, length-append w.done (one ∷ []));
          }
