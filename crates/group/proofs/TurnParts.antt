-- The parts of a group's turn, joined. Assumes nothing.
use Prim.Native.Nat.{ℕ, ◌+◌}
use mathlib.Core.Path.{◌≡◌, sym, ap, ap₂, ◌∙◌}
use mathlib.Core.Bool.{Bool}
use mathlib.Core.List.{List}
use lib.ListN.{length}
use Rattle.fields.specs.Put.{put}
use Rattle.units.specs.declared.Date.{Date}
use Rattle.ledger.specs.declared.Bill.{Bill}
use Rattle.ledger.specs.declared.LedgerHeader.{LedgerHeader}
use Rattle.records.specs.Layout.{record_at, is_sup}
use Rattle.file.specs.File.{Group, asks_id}
use Rattle.file.specs.parts.Walk.{group_at}
use Rattle.file.proofs.FileLaws.{header_is}
use Rattle.group.specs.declared.Tally.{Tally}
use Rattle.group.specs.Groups.{verdict_on}
use Rattle.group.specs.parts.Turns.{sought_by, ids_by, bill_by, if_written, numbered, answer_at, tallied, TurnLeaves}
use Rattle.std.specs.Prelude.{Option, Result}
use Rattle.ledger.specs.declared.Terms.{Terms}
use Rattle.ledger.specs.declared.Posted.{Posted}
use Rattle.rules.specs.declared.ErrorCode.{ErrorCode}

-- the verdict that the code came to
pub verdict-now : (t : Bool) (today : Date) (f : Option ℕ) (b : Bill) (g : Group) (x : Option Terms) (v : Result Posted ErrorCode) → x ≡ sought_by f b → v ≡ verdict_on t today x g
    → v ≡ verdict_on t today (sought_by f b) g
verdict-now t today f b g x v e d = d ∙ ap (λ (y : Option Terms). verdict_on t today y g) e

module _ (out₀ out : List ℕ) (writes : Bool) (c : Tally) (s : List ℕ) (i n : ℕ) (t : Bool) (h : LedgerHeader) (f : Option ℕ) (b : Bill) where
  abbrev g : Group
  g = group_at s i n

  abbrev now : Result Posted ErrorCode
  now = verdict_on t h.today (sought_by f b) g

  pub turn-done : (sup : Bool) → sup ≡ is_sup (record_at s i) → (v : Result Posted ErrorCode) → v ≡ now → (m : Result Posted ℕ) → m ≡ numbered v
      → (size : ℕ) → size ≡ length (answer_at m h b g) → out ≡ put out₀ c.written (if_written writes (answer_at m h b g)) → (d : Tally) → d ≡ tallied c v b size → (ids : ℕ) → ids ≡ ids_by v sup
      → (k : Bill) → k ≡ bill_by v sup b
      → TurnLeaves now g h b c writes out₀ out
      (record {
        update =
            record {
              header = record { today = h.today; tracking = h.tracking + ids; confirmation = h.confirmation + 1; count = h.count };
              bill = k;
            };
        tally = d;
      })
  turn-done sup se v ve m me size ze oe d de ids ie k ke =
      let a : sup ≡ asks_id g = se ∙ ap is_sup (sym (header_is s i n)) in
      let x : ids ≡ ids_by now (asks_id g) = ie ∙ ap₂ ids_by ve a in
      record {
        header = rw x;
        bill = ke ∙ ap₂ (λ (w : Result Posted ErrorCode) (p : Bool). bill_by w p b) ve a;
        tally = de ∙ rw (ze, me, ve);
        bytes = oe ∙ ap (λ (w : Result Posted ℕ). put out₀ c.written (if_written writes (answer_at w h b g))) (me ∙ ap numbered ve);
      }
