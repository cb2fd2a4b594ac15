-- The table of a journal and the claim for its calls. Assumes nothing.
use Prim.Native.Nat.{ℕ, ◌≤◌, ◌<◌}
use mathlib.Core.Path.{◌≡◌, refl, ap}
use mathlib.Core.Bool.{Bool, true, false, ◌||◌}
use mathlib.Core.List.{List, []}
use lib.Dec.{eqb, ltb}
use lib.ListN.{length}
use borrow.Author.Tests.{lt-ltb, le-ltb}
use Rattle.fields.specs.Put.{put}
use Rattle.fields.proofs.PutLaws.{put-nil}
use Rattle.ledger.specs.Books.{Book}
use Rattle.table.specs.Table.{table_of}
use Rattle.history.proofs.ClaimProof.{claim}
use Rattle.journal.specs.Journal.{Entry, parse, after_entries, first_book, ends_bad, journal_ledger, is_bad, calls_of}
use Rattle.journal.proofs.BeginLaws.{Begins, nothing, begins, journal-begins}
use Rattle.report.specs.Report.{posted_of, Claimed, empty, holds, report_of, reported, Reports}
use Rattle.std.specs.Prelude.{Ok, Err}
use Rattle.rules.specs.declared.Cause.TheVariants.{OutputTooSmall}

-- ---- the claim
bad-by : (a b c : Bool) → c ≡ true → (a || b || c) ≡ true
bad-by true b c e = refl
bad-by false true c e = refl
bad-by false false c e = e

none-bad : (s : List ℕ) → (parse 0 s).entries ≡ [] → is_bad s ≡ true
unfolding is_bad ends_bad
none-bad s e = bad-by (parse 0 s).stopped (ltb 0 (length (parse 0 s).rest)) _ (ap (λ (es : List Entry). eqb (length es) 0) e)

none-ledger : (s : List ℕ) → (parse 0 s).entries ≡ [] → journal_ledger s ≡ first_book
unfolding journal_ledger after_entries
none-ledger s e = ap (after_entries first_book) e

pub claimed : (s : List ℕ) → Claimed s
claimed s = go (journal-begins s)
  where
    go : Begins s → Claimed s
    go (nothing e) = empty e (none-ledger s e) (none-bad s e)
    go (begins start bytes es c e k) = holds start bytes es e c k (claim start c (calls_of es))

-- ---- the table
-- the table of the ledger that a journal leaves
pub table_is : (s : List ℕ) (k : Book) (bad : Bool) → k ≡ journal_ledger s → bad ≡ is_bad s → table_of k bad ≡ posted_of s
unfolding posted_of
table_is s k bad e f = rw (e, f)

module _ (s out₀ : List ℕ) (bad : Bool) (b : bad ≡ is_bad s) where
  pub refused : length out₀ < 10970 → Reports s out₀ out₀ (record { report = Err OutputTooSmall; stopped = bad })
  unfolding report_of reported
  refused h =
      let e = lt-ltb (length out₀) 10970 h in
      record { answer = rw e; stopped = b; bytes = rw e (put-nil out₀ 0); within = tt; claimed = claimed s }

  pub posted : (t out : List ℕ) (n : ℕ) → 10970 ≤ length out₀ → t ≡ posted_of s → n ≡ length t → out ≡ put out₀ 0 t → n ≤ 10970
      → Reports s out₀ out (record { report = Ok n; stopped = bad })
  unfolding report_of reported
  posted t out n h p q u w =
      let e = le-ltb (length out₀) 10970 h in
      record {
        answer = rw (e, q, p);
        stopped = b;
        bytes = rw (e, ← p) u;
        within = w;
        claimed = claimed s;
      }
