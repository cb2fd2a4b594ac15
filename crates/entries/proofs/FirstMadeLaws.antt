-- Entries after_entry one after another, whatever is written of them. Assumes nothing.
use Prim.Native.Nat.{ℕ, ◌+◌, ◌-◌, ◌≤◌, ◌<◌}
use mathlib.Core.Path.{◌≡◌, refl, sym, ap, ◌∙◌}
use mathlib.Core.Bool.{true, true≢false}
use mathlib.Core.List.{List, [], ◌∷◌, ◌++◌, append_assoc}
use native.Mathlib.Omega.{arith}
use native.Mathlib.Nat.{add-zero}
use lib.ListN.{length, drop, length-drop, length-append}
use lib.Seq.{drop-drop}
use Rattle.fields.specs.Put.{part}
use Rattle.ledger.specs.declared.Ledger.{Ledger}
use Rattle.ledger.specs.Books.{Book, book}
use Rattle.ledger.specs.Sound.{sound_ledger}
use Rattle.words.specs.Layout.{ledger_of}
use Rattle.journal.specs.declared.Body.{Body}
use Rattle.journal.specs.declared.Head.TheVariants.{Whole}
use Rattle.journal.specs.Entries.{head_of}
use Rattle.journal.specs.Journal.{Entry, parse, after_entry, after_entries}
use Rattle.journal.specs.EntryCalls.{entry_called, ledger_after_entries}
use Rattle.journal.proofs.HeadLaws.{whole-fits}
use Rattle.journal.proofs.JournalLaws.{parse-whole}
use Rattle.journal.proofs.BeginLaws.{whole-taken, makes-append}
use Rattle.journal.proofs.MadeLaws.{made-book}
use Rattle.entries.specs.declared.entry.Ended.{Ended}
use Rattle.entries.specs.declared.entry.Ended.TheVariants.{Full}
use Rattle.entries.specs.parts.Running.{behind, entry_at, met_bad, ran_to, FirstMade, NoneLeft}

pub made-append : (l : Ledger) (es fs : List Entry) → ledger_after_entries l (es ++ fs) ≡ ledger_after_entries (ledger_after_entries l es) fs
unfolding ledger_after_entries
made-append l [] fs = refl
made-append l (e ∷ es) fs = made-append (entry_called 64200 l e.body e.bytes).ledger es fs

pub first-none : (seen : ℕ) (src ws : List ℕ) → sound_ledger (ledger_of ws) ≡ true → FirstMade seen src ws ws 0 seen []
unfolding ledger_after_entries after_entries
first-none seen src ws h = record { sound = h; used = omega arith; parsed = refl; ledger = refl; books = refl; count = sym (add-zero seen) }

-- ---- the end of a run
module _ (src : List ℕ) (at seen n : ℕ) where
  pub left-full : NoneLeft src (ran_to at seen n Full)
  left-full = record { left = λ z. absurd (true≢false z) }

  pub left-none : (end : Ended) → parse seen (drop at src) ≡ record { entries = []; stopped = met_bad end; rest = drop at src }
      → NoneLeft src (ran_to at seen n end)
  left-none end e = record { left = λ z. e }

-- ---- one entry more: the one of m bytes that stands behind those that were after_entry
module _ (seen : ℕ) (src ws₀ ws : List ℕ) (at k : ℕ) (done : List Entry) (w : FirstMade seen src ws₀ ws at k done)
    (b : Body) (m : ℕ) (h : head_of k (drop at src) ≡ Whole b m) where
  abbrev one : Entry
  one = entry_at (drop at src) b m

  pub next_fits : (3 ≤ m) × (at + m ≤ length src) × (k < 1000000000)
  next_fits =
      let x = whole-fits k (drop at src) b m h in
      (x.0, omega (arith, x.1, length-drop at src, w.used), x.2)

  parsed-on : parse k (drop at src) ≡ behind (one ∷ []) (parse (k + 1) (drop (at + m) src))
  parsed-on = parse-whole k (drop at src) b m h ∙ rw (drop-drop m at src)

  module _ (ws' : List ℕ) (s : sound_ledger (ledger_of ws') ≡ true) (l : ledger_of ws' ≡ (entry_called 64200 (ledger_of ws) b (part (drop at src) 3 (m - 3))).ledger) where
    book-on : book (ledger_of ws') ≡ after_entry b (part (drop at src) 3 (m - 3)) (book (ledger_of ws))
    book-on = ap book l ∙ made-book (ledger_of ws) w.sound b (part (drop at src) 3 (m - 3)) (whole-taken k (drop at src) b m h)

    pub first_more : FirstMade seen src ws₀ ws' (at + m) (k + 1) (done ++ (one ∷ []))
    unfolding ledger_after_entries after_entries
    first_more =
        record {
          sound = s;
          used = next_fits.1;
          parsed =
              w.parsed
              ∙ ap (behind done) parsed-on
              ∙ ap (λ (es : List Entry). record { entries = es; stopped = (parse (k + 1) (drop (at + m) src)).stopped; rest = (parse (k + 1) (drop (at + m) src)).rest })
              (sym (append_assoc done (one ∷ []) (parse (k + 1) (drop (at + m) src)).entries));
          ledger =
              l
              ∙ ap (λ (j : Ledger). ledger_after_entries j (one ∷ [])) w.ledger
              ∙ sym (made-append (ledger_of ws₀) done (one ∷ []));
          books =
              book-on
              ∙ ap (λ (j : Book). after_entries j (one ∷ [])) w.books
              ∙ sym (makes-append (book (ledger_of ws₀)) done (one ∷ []));
          count = omega (arith, w.count, length-append done (one ∷ []));
        }
