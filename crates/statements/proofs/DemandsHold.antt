-- The demands hold. Assumes nothing.
use Prim.Native.Nat.{ℕ, ◌≤◌}
use mathlib.Core.Path.{◌≡◌, refl, sym, ap, ◌∙◌}
use mathlib.Core.List.{List}
use native.Mathlib.Omega.{arith}
use lib.ListN.{length}
use lib.IntN.{ℤ}
use Rattle.fields.specs.Put.{put}
use Rattle.fields.proofs.PutLaws.{put-nil}
use Rattle.ledger.specs.declared.Ledger.{Ledger}
use Rattle.ledger.specs.Books.{Book}
use Rattle.ledger.proofs.SoundLaws.{book-facts}
use Rattle.notices.proofs.PositionLaws.{bil-at, cxl-at}
use Rattle.notices.proofs.AnswerPositions.{acf-at, rej-at}
use Rattle.group.specs.Groups.{lines_by, verdict_on, verdict_by}
use Rattle.group.proofs.FormCodes.{form-coded}
use Rattle.group.proofs.GroupLinesRead.{no-line-reads}
use Rattle.causes.specs.Causes.{Call}
use Rattle.calls.specs.declared.Called.{Called}
use Rattle.calls.specs.Machine.{cause, room_of, outcome, step, cause_in}
use Rattle.calls.proofs.CallLaws.{stopped}
use Rattle.calls.proofs.CountLaws.{groups-returned}
use Rattle.calls.proofs.FileCallLaws.{written-within}
use Rattle.table.proofs.TableLaws.{length-table}
use Rattle.journal.specs.Journal.{is_bad, first_book}
use Rattle.journal.proofs.StopLaws.{stops}
use Rattle.history.proofs.ClaimProof.{claim, claim-by-value}
use Rattle.history.proofs.CaseProofs.{cases-hold}
use Rattle.room.proofs.RoomLaws.{brn-within}
use Rattle.report.specs.Report.{posted_of, Claimed, empty, holds}
use Rattle.report.proofs.ReportLaws.{claimed}
use Rattle.boundary.specs.Boundary.{Gives, number_of, words_left, change_left, counts_left}
use Rattle.clearing_c.proofs.NumberLaws.{numbered}
use Rattle.clearing_c.proofs.InWordsProof.{sum-in-words}
use Rattle.statements.specs.Statements.{Refuses, Demand1, Demand2, Demand3, Demands}
use Rattle.statements.proofs.NoticeCalls.{notices-of-calls}
use Rattle.statements.proofs.NoticeIds.{ids-once}
use Rattle.statements.proofs.ExampleProof.{example-posted, example-written}
use Rattle.std.specs.Prelude.{Result, Ok, Err, ⊤}
use Rattle.rules.specs.declared.Cause.{Cause}
use Rattle.calls.specs.declared.Returned.{Returned}

-- ---- demand 1
refuses : (l : Ledger) (c : Call) (n : Cause) → cause_in l c ≡ Err n → Refuses l c n
refuses l c n e =
    let s = stopped l c n e in
    record {
      answer = sym s.answer;
      ledger = sym s.ledger;
      output = λ out. ap (put out 0) (sym s.bytes) ∙ sym (put-nil out 0);
    }

-- a lent buffer after an answer that is a number
kept : (a : Result Returned Cause) (l : Ledger) (ws : List ℕ) (x : ℤ) (ks : List ℕ) → 1 ≤ number_of a
    → (words_left ws l a ≡ ws) × (change_left x a ≡ x) × (counts_left ks a ≡ ks)
kept (Ok r) l ws x ks h = absurd (omega arith)
kept (Err n) l ws x ks h = (refl, refl, refl)

buffers : (c : Called) (ws : List ℕ) (x : ℤ) (ks ws₁ : List ℕ) (x₁ : ℤ) (ks₁ : List ℕ) (n : ℕ)
    → Gives c ws x ks ws₁ x₁ ks₁ n → 1 ≤ n → (ws₁ ≡ ws) × (x₁ ≡ x) × (ks₁ ≡ ks)
buffers c ws x ks ws₁ x₁ ks₁ n g h =
    let k = kept c.answer c.ledger ws x ks (rw g.number at h) in
    (g.words ∙ k.0, g.change ∙ k.1, g.counts ∙ k.2)

within : (l : Book) (c : Call) → length (step l c).written ≤ room_of c
unfolding step outcome
within l c = go (cause l c) refl
  where
    go : (v : Result ⊤ Cause) → cause l c ≡ v → length (outcome l c v).written ≤ room_of c
    go (Ok tt) e = written-within l c e
    go (Err n) e = omega arith

table-room : (s : List ℕ) → length (posted_of s) ≤ 10970
unfolding posted_of
table-room s = go (claimed s)
  where
    go : Claimed s → length (posted_of s) ≤ 10970
    go (empty e k b) = rw k (length-table first_book (is_bad s) (omega arith))
    go (holds start bytes es e c k q) = rw k (length-table _ (is_bad s) (book-facts _ q.kept).few)

demand-1 : Demand1
demand-1 =
    record {
      refuses = refuses;
      numbers = numbered;
      buffers = buffers;
      within = within;
      table_within = table-room;
      notices_within = brn-within;
      stops = stops;
    }

-- ---- demand 2
demand-2 : Demand2
unfolding verdict_by verdict_on lines_by
demand-2 =
    record {
      decided = λ v others g. refl;
      forms = form-coded;
      unread = no-line-reads;
      counted = groups-returned;
      bil_bytes = bil-at;
      cxl_bytes = cxl-at;
      acf_bytes = acf-at;
      rej_bytes = rej-at;
      notices = notices-of-calls;
    }

-- ---- demand 3
demand-3 : Demand3
demand-3 =
    record {
      sum = claim;
      by_value = claim-by-value;
      in_words = sum-in-words;
      journals = claimed;
      ids = ids-once;
      cases = cases-hold;
      example = example-posted;
      written = example-written;
    }

pub demands-hold : Demands
demands-hold = record { first = demand-1; second = demand-2; third = demand-3 }
