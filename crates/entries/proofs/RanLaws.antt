-- What a run leaves, said of all the entries at the start of the bytes. Assumes nothing.
use Prim.Native.Nat.{ℕ, ◌+◌, ◌-◌, ◌≤◌}
use mathlib.Core.Path.{◌≡◌, sym, ap, ◌∙◌}
use mathlib.Core.Bool.{Bool, false}
use mathlib.Core.List.{List, [], ◌++◌, append-nil}
use native.Mathlib.Omega.{arith}
use lib.ListN.{length, drop, length-append, length-drop}
use Rattle.ledger.specs.Books.{Book, book}
use Rattle.words.specs.Layout as layout
use Rattle.journal.specs.Journal.{Entry, Parsed, parse, after_entries, first_book, ends_bad, journal_ledger, is_bad}
use Rattle.journal.specs.EntryCalls.{notices_of, brn_of}
use Rattle.entries.specs.declared.run.Ran.{Ran}
use Rattle.entries.specs.parts.Running.{behind, met_bad, had_no_room, RanIn}
use Rattle.entries.proofs.RunNotices.{notices-append}

module _ (seen : ℕ) (writes : Bool) (src ws₀ out₀ ws out : List ℕ) (r : Ran) (w : RanIn seen writes src ws₀ out₀ ws out r) where
  abbrev k : Book
  k = book (layout.ledger_of ws₀)

  -- the notices of all entries are those of the entries made, and then those of the entries left
  pub ran-split : notices_of k (parse seen src).entries ≡ notices_of k w.done ++ notices_of (book (layout.ledger_of ws)) (parse r.seen (drop r.used src)).entries
  ran-split =
      let rest = (parse r.seen (drop r.used src)).entries in
      ap (λ (p : Parsed). notices_of k p.entries) w.made.parsed
      ∙ notices-append k w.done rest
      ∙ ap (λ (j : Book). notices_of k w.done ++ notices_of j rest) (sym w.made.books)

  pub ran-within : r.written ≤ length (notices_of k (parse seen src).entries)
  ran-within =
      omega (
        arith,
        w.written,
        ap length ran-split,
        length-append (notices_of k w.done) (notices_of (book (layout.ledger_of ws)) (parse r.seen (drop r.used src)).entries),
      )

  -- a run that was not held up made all entries
  module _ (e : had_no_room r.end ≡ false) where
    all-parsed : parse seen src ≡ behind w.done (record { entries = []; stopped = met_bad r.end; rest = drop r.used src })
    all-parsed = w.made.parsed ∙ ap (behind w.done) (w.rest.left e)

    pub all_done : (parse seen src).entries ≡ w.done
    all_done = ap (λ (p : Parsed). p.entries) all-parsed ∙ append-nil w.done

    pub all-notices : notices_of k w.done ≡ notices_of k (parse seen src).entries
    all-notices = ap (notices_of k) (sym all_done)

    pub all-books : book (layout.ledger_of ws) ≡ after_entries k (parse seen src).entries
    all-books = w.made.books ∙ ap (after_entries k) (sym all_done)

    pub all-count : r.seen ≡ seen + length (parse seen src).entries
    all-count = w.made.count ∙ ap (λ (es : List Entry). seen + length es) (sym all_done)

    pub all-stopped : met_bad r.end ≡ (parse seen src).stopped
    all-stopped = sym (ap (λ (p : Parsed). p.stopped) all-parsed)

    pub all_rest : drop r.used src ≡ (parse seen src).rest
    all_rest = sym (ap (λ (p : Parsed). p.rest) all-parsed)

-- ---- a whole journal, from the ledger before the first entry
module _ (writes : Bool) (src ws₀ out₀ ws out : List ℕ) (r : Ran) (w : RanIn 0 writes src ws₀ out₀ ws out r) (z : book (layout.ledger_of ws₀) ≡ first_book)
    (e : had_no_room r.end ≡ false) where
  pub journal-books : book (layout.ledger_of ws) ≡ journal_ledger src
  unfolding journal_ledger
  journal-books = all-books 0 writes src ws₀ out₀ ws out r w e ∙ ap (λ (k : Book). after_entries k (parse 0 src).entries) z

  pub journal-bad : ends_bad (met_bad r.end) (length src - r.used) r.seen ≡ is_bad src
  unfolding is_bad
  journal-bad =
      let x : length src - r.used ≡ length (parse 0 src).rest = sym (length-drop r.used src) ∙ ap length (all_rest 0 writes src ws₀ out₀ ws out r w e) in
      let y : r.seen ≡ length (parse 0 src).entries = omega (arith, all-count 0 writes src ws₀ out₀ ws out r w e) in
      rw (x, y, all-stopped 0 writes src ws₀ out₀ ws out r w e)

  pub journal-notices : notices_of (book (layout.ledger_of ws₀)) w.done ≡ brn_of src
  unfolding brn_of
  journal-notices = all-notices 0 writes src ws₀ out₀ ws out r w e ∙ ap (λ (k : Book). notices_of k (parse 0 src).entries) z

  pub journal-written : r.written ≡ length (brn_of src)
  journal-written = w.written ∙ ap length journal-notices
