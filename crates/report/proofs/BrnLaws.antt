-- The notices of a whole journal: whether they have room, what is answered, and the last ones put behind. Assumes nothing.
use Prim.Native.Nat.{ℕ, ◌+◌, ◌-◌, ◌≤◌, ◌<◌}
use mathlib.Core.Path.{◌≡◌, refl, sym, ap, ap₂, ◌∙◌, subst}
use mathlib.Core.Bool.{Bool, true, false, cond}
use mathlib.Core.List.{List, ◌++◌}
use native.Mathlib.Omega.{arith}
use native.Mathlib.Nat.{zero-add}
use lib.Dec.{ltb, leb}
use lib.ListN.{length, take, drop, length-append, length-drop}
use lib.Seq.{take_all}
use borrow.Author.Tests.{lt-ltb, le-ltb, ltb-true, ltb-false, leb-true}
use Rattle.fields.specs.Put.{put, part}
use Rattle.fields.proofs.PutLaws.{put-nil, put-put, part-put}
use Rattle.ledger.specs.Books.{Book, book}
use Rattle.words.specs.Layout as layout
use Rattle.journal.specs.Journal.{Parsed, parse, first_book, ends_bad, is_bad}
use Rattle.journal.specs.EntryCalls.{notices_of, brn_of}
use Rattle.entries.specs.declared.run.Ran.{Ran}
use Rattle.entries.specs.parts.Running.{met_bad, had_no_room, RanIn}
use Rattle.entries.proofs.RanLaws.{ran-split, ran-within, all-notices, all-stopped, all_rest, all-count, journal-notices, journal-written, journal-bad}
use Rattle.report.specs.declared.Reported.{Reported}
use Rattle.report.specs.NoticesOf.{notices_report, notices_written, ReportsNotices}
use Rattle.report.specs.parts.Fits.{refusal_of}
use Rattle.room.specs.Room.{most_in}
use Rattle.room.proofs.RoomLaws.{brn-within}
use Rattle.std.specs.Prelude.{Option, Some, None, Ok, Err}
use Rattle.rules.specs.declared.Cause.TheVariants.{OutputTooSmall}

-- ---- whether they have room
module _ (s : List ℕ) (room : ℕ) where
  pub fits-any : leb (most_in s) room ≡ true → None ≡ refusal_of room s
  unfolding refusal_of
  fits-any h = rw (le-ltb room (length (brn_of s)) (omega (arith, brn-within s, leb-true (most_in s) room h)))

  -- by the length measured
  module _ (n : ℕ) (all : n ≡ length (brn_of s)) where
    pub fits-measured : n ≤ room → None ≡ refusal_of room s
    unfolding refusal_of
    fits-measured h = rw (le-ltb room (length (brn_of s)) (omega (arith, all)))

    pub short-measured : (bad : Bool) → bad ≡ is_bad s → room < n → Some (record { report = Err OutputTooSmall; stopped = bad }) ≡ refusal_of room s
    unfolding refusal_of
    short-measured bad b h = rw (lt-ltb room (length (brn_of s)) (omega (arith, all)), b)

  fits_by : (t : Bool) (r : Reported) → None ≡ cond t (Some r) None → t ≡ false
  fits_by true r e = let z : ◌≡◌ {A = ℕ} 0 1 = cc in absurd (omega arith)
  fits_by false r e = refl

  short-by : (t : Bool) (g r : Reported) → Some r ≡ cond t (Some g) None → (t ≡ true) × (g ≡ r)
  short-by true g r e = (refl, cc)
  short-by false g r e = let z : ◌≡◌ {A = ℕ} 0 1 = cc in absurd (omega arith)

  pub fits-within : (f : Option Reported) → f ≡ refusal_of room s → f ≡ None → length (brn_of s) ≤ room
  unfolding refusal_of
  fits-within f e h = ltb-false room (length (brn_of s)) (fits_by (ltb room (length (brn_of s))) _ (sym h ∙ e))

-- ---- the answer
pub too_small : (s out : List ℕ) (f : Option Reported) (r : Reported) → f ≡ refusal_of (length out) s → f ≡ Some r → ReportsNotices s out out r
unfolding refusal_of notices_report notices_written
too_small s out f r e h =
    let x = short-by s (length out) (ltb (length out) (length (brn_of s))) _ r (sym h ∙ e) in
    subst (ReportsNotices s out out) x.1 (record { answer = rw x.0; stopped = refl; bytes = rw x.0 (put-nil out 0) })

given : (s out₀ out : List ℕ) (n : ℕ) (bad : Bool) → n ≡ length (brn_of s) → bad ≡ is_bad s → length (brn_of s) ≤ length out₀ → out ≡ put out₀ 0 (brn_of s)
    → ReportsNotices s out₀ out (record { report = Ok n; stopped = bad })
unfolding notices_report notices_written
given s out₀ out n bad all ends h o =
    let e : ltb (length out₀) (length (brn_of s)) ≡ false = le-ltb (length out₀) (length (brn_of s)) h in
    record { answer = rw (e, all); stopped = ends; bytes = rw e o }

-- ---- what a run q into a buffer comes to, over the bytes that a run r left: its notices have room behind those of r, and put there they are all
pub record LastRun (s out₀ out last : List ℕ) (r q : Ran) : Type 0 where
  pub size : q.written ≤ length last
  pub sum : r.written + q.written ≤ length out₀
  pub room : r.written + length (take q.written last) ≤ length out
  pub used : q.used ≤ length s - r.used
  pub given : (now : List ℕ) (bad : Bool) → now ≡ put out r.written (take q.written last)
      → bad ≡ ends_bad (met_bad q.end) (length s - r.used - q.used) q.seen
      → ReportsNotices s out₀ now (record { report = Ok (r.written + q.written); stopped = bad })

-- ---- one run into the output
module _ (s ws₀ out₀ ws out : List ℕ) (r : Ran) (w : RanIn 0 true s ws₀ out₀ ws out r) (z : book (layout.ledger_of ws₀) ≡ first_book)
    (fits : length (brn_of s) ≤ length out₀) where
  -- a run that was not held up wrote them all
  pub all-given : had_no_room r.end ≡ false → (bad : Bool) → bad ≡ ends_bad (met_bad r.end) (length s - r.used) r.seen
      → ReportsNotices s out₀ out (record { report = Ok r.written; stopped = bad })
  all-given e bad b =
      given s out₀ out r.written bad (journal-written true s ws₀ out₀ ws out r w z e) (b ∙ journal-bad true s ws₀ out₀ ws out r w z e) fits
      (w.bytes ∙ ap (put out₀ 0) (journal-notices true s ws₀ out₀ ws out r w z e))

  -- one that was: the last notices
  module _ (full : had_no_room r.end ≡ true) where
    abbrev k : Book
    k = book (layout.ledger_of ws)

    abbrev tail : List ℕ
    tail = drop r.used s

    abbrev rest : List ℕ
    rest = notices_of k (parse r.seen tail).entries

    abbrev front : List ℕ
    front = notices_of (book (layout.ledger_of ws₀)) w.done

    all_of : brn_of s ≡ front ++ rest
    unfolding brn_of
    all_of = ap (λ (j : Book). notices_of j (parse 0 s).entries) (sym z) ∙ ran-split 0 true s ws₀ out₀ ws out r w

    -- fewer are left than one entry may write
    rest-short : length rest < 64200
    rest-short =
        let f : ltb (length out₀ - r.written) 64200 ≡ true = sym w.full ∙ full in
        omega (arith, ltb-true (length out₀ - r.written) 64200 f, w.written, ap length all_of, length-append front rest)

    -- a run into a buffer over the bytes that are left, as the code lends them
    module _ (last₀ : List ℕ) (long : length last₀ ≡ 128400) (vs last : List ℕ) (q : Ran)
        (lent : RanIn r.seen true (take (length s - r.used) tail) ws last₀ vs last q) where
      abbrev x : RanIn r.seen true tail ws last₀ vs last q
      x =
          subst (λ (t : List ℕ). RanIn r.seen true t ws last₀ vs last q)
          (take_all (length s - r.used) tail (omega (arith, length-drop r.used s))) lent

      not_full : had_no_room q.end ≡ false
      not_full =
          x.full
          ∙ le-ltb (length last₀ - q.written) 64200
          (omega (arith, long, ran-within r.seen true tail ws last₀ vs last q x, rest-short))

      rest-is : notices_of k x.done ≡ rest
      rest-is = all-notices r.seen true tail ws last₀ vs last q x not_full

      size_is : q.written ≡ length rest
      size_is = x.written ∙ ap length rest-is

      last-is : take q.written last ≡ rest
      unfolding part
      last-is = ap (take q.written) (x.bytes ∙ ap (put last₀ 0) rest-is) ∙ part-put last₀ 0 rest q.written (omega arith) (sym size_is)

      all-written : r.written + q.written ≡ length (brn_of s)
      all-written = omega (arith, w.written, size_is, ap length all_of, length-append front rest)

      all-put : put out r.written (take q.written last) ≡ put out₀ 0 (brn_of s)
      all-put =
          ap₂ (λ (o : List ℕ) (n : ℕ). put o n (take q.written last)) w.bytes (w.written ∙ sym (zero-add (length front)))
          ∙ ap (λ (ys : List ℕ). put (put out₀ 0 front) (0 + length front) ys) last-is
          ∙ put-put out₀ 0 front rest (omega arith)
          ∙ ap (put out₀ 0) (sym all_of)

      -- the second run came to the journal's end
      ends : ends_bad (met_bad q.end) (length s - r.used - q.used) q.seen ≡ is_bad s
      unfolding is_bad
      ends =
          let p = parse r.seen tail in
          let a : met_bad q.end ≡ (parse 0 s).stopped =
          all-stopped r.seen true tail ws last₀ vs last q x not_full ∙ sym (ap (λ (y : Parsed). y.stopped) w.made.parsed)
          in
          let b : length s - r.used - q.used ≡ length (parse 0 s).rest =
          omega (
            arith,
            length-drop r.used s,
            length-drop q.used tail,
            ap length (all_rest r.seen true tail ws last₀ vs last q x not_full),
            ap (λ (y : Parsed). length y.rest) w.made.parsed,
          )
          in
          let c : q.seen ≡ length (parse 0 s).entries =
          omega (
            arith,
            all-count r.seen true tail ws last₀ vs last q x not_full,
            w.made.count,
            ap (λ (y : Parsed). length y.entries) w.made.parsed,
            length-append w.done p.entries,
          )
          in
          rw (a, b, c)

      pub last-run : LastRun s out₀ out last r q
      last-run =
          record {
            size = omega (arith, size_is, rest-short, x.kept, long);
            sum = omega (arith, all-written);
            room = omega (arith, ap length last-is, size_is, all-written, w.kept);
            used = omega (arith, x.made.used, length-drop r.used s);
            given = λ now bad o b. given s out₀ now (r.written + q.written) bad all-written (b ∙ ends) fits (o ∙ all-put);
          }
