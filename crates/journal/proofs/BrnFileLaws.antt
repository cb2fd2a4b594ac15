-- The notices of a journal, one entry after another: what each entry writes makes up the BRN file. Assumes nothing.
use Prim.Native.Nat.{ℕ, ◌+◌, ◌-◌}
use mathlib.Core.Path.{◌≡◌, sym, ap, ◌∙◌}
use mathlib.Core.Bool.{true}
use mathlib.Core.List.{List, [], ◌++◌}
use lib.ListN.{drop}
use Rattle.fields.specs.Put.{part}
use Rattle.ledger.specs.declared.Ledger.{Ledger}
use Rattle.ledger.specs.Books.{Book, book}
use Rattle.ledger.specs.Sound.{sound_ledger}
use Rattle.journal.specs.declared.Body.{Body}
use Rattle.journal.specs.declared.Head.TheVariants.{Cut, Bad, Whole}
use Rattle.journal.specs.Entries.{head_of}
use Rattle.journal.specs.Journal.{Parsed, parse, after_entry}
use Rattle.journal.specs.EntryCalls.{entry_called, entry_written, notices_of}
use Rattle.journal.proofs.JournalLaws.{parse-cut, parse-bad, parse-whole}
use Rattle.journal.proofs.BeginLaws.{whole-taken}
use Rattle.journal.proofs.MadeLaws.{made-book, made-sound, made-written}

module _ (l : Ledger) (h : sound_ledger l ≡ true) (seen : ℕ) (s : List ℕ) where
  -- the notices of the entries that stand before a reader
  abbrev ahead : List ℕ
  ahead = notices_of (book l) (parse seen s).entries

  pub notices-cut : head_of seen s ≡ Cut → ahead ≡ []
  unfolding notices_of
  notices-cut e = ap (λ (p : Parsed). notices_of (book l) p.entries) (parse-cut seen s e)

  pub notices-bad : head_of seen s ≡ Bad → ahead ≡ []
  unfolding notices_of
  notices-bad e = ap (λ (p : Parsed). notices_of (book l) p.entries) (parse-bad seen s e)

  -- a whole entry: what its call writes, and then the notices of the entries after it on the ledger that it leaves
  module _ (b : Body) (n : ℕ) (e : head_of seen s ≡ Whole b n) where
    abbrev bytes : List ℕ
    bytes = part s 3 (n - 3)

    pub notices-more : ahead ≡ entry_written 64200 l b bytes ++ notices_of (book (entry_called 64200 l b bytes).ledger) (parse (seen + 1) (drop n s)).entries
    unfolding notices_of
    notices-more =
        let rest = (parse (seen + 1) (drop n s)).entries in
        ap (λ (p : Parsed). notices_of (book l) p.entries) (parse-whole seen s b n e)
        ∙ ap (λ (w : List ℕ). w ++ notices_of (after_entry b bytes (book l)) rest) (sym (made-written l h b bytes))
        ∙ ap (λ (k : Book). entry_written 64200 l b bytes ++ notices_of k rest) (sym (made-book l h b bytes (whole-taken seen s b n e)))

    pub still-sound : sound_ledger (entry_called 64200 l b bytes).ledger ≡ true
    still-sound = made-sound l h 64200 b bytes (whole-taken seen s b n e)
