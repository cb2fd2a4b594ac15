-- What it tells that no cause holds against a call. Assumes nothing.
use Prim.Native.Nat.{ℕ, ◌+◌, ◌≤◌, ◌<◌}
use mathlib.Core.Path.{◌≡◌, refl}
use mathlib.Core.Bool.{Bool, true, false, not, ◌&&◌}
use mathlib.Core.List.{List, [], ◌∷◌}
use lib.Dec.{eqb, ltb}
use lib.ListN.{length}
use borrow.Author.Tests.{leb-false, ltb-false, eqb-false, not-false}
use Rattle.fields.specs.Put.{same_list}
use Rattle.fields.specs.Digits.{fits}
use Rattle.fields.proofs.BoolLaws.{and_left, and_right, or-both}
use Rattle.units.specs.declared.Date.{Date}
use Rattle.units.specs.Calendar.{is_date}
use Rattle.ledger.specs.Limits.{last_sequence}
use Rattle.ledger.specs.Bills.{code_bytes, product_byte}
use Rattle.ledger.specs.declared.Identity.{Identity}
use Rattle.ledger.specs.declared.Terms.{Terms}
use Rattle.ledger.specs.declared.Bill as bill
use Rattle.group.specs.parts.Turns.{sought_by}
use Rattle.causes.specs.parts.Decisions.{SoundAt, CanRenew}
use Rattle.rules.specs.Lists.{all, count}
use Rattle.file.specs.File.{good_file, file_groups, asks_id}
use Rattle.rules.specs.Rules.{Rule, rule, first}
use Rattle.verdict.specs.Lines.{is_nothing, terms_of}
use Rattle.rules.proofs.RuleLaws.{clear-off}
use Rattle.causes.specs.declared.Request.{Request}
use Rattle.causes.specs.declared.AccountRemoval.{AccountRemoval}
use Rattle.causes.specs.Causes.{good_identity, five_of, request_tests, lacks, bill_causes, request_causes, file_causes, cancel_causes, close_causes, removal_causes}
use Rattle.std.specs.Prelude.{Option, Some, None, Ok}
use Rattle.rules.specs.declared.Cause.TheVariants.{ConsumptionUnchanged, SequenceUsedUp}
use Rattle.rules.specs.declared.Cause.{Cause}

-- the numbers that a call needs are left
pub enough : (tracking confirmation t c : ℕ) → lacks tracking confirmation t c ≡ false
    → (tracking + t ≤ 1000000000) × (confirmation + c ≤ 1000000000)
enough tracking confirmation t c e =
    let o = or-both (ltb 1000000000 (tracking + t)) (ltb 1000000000 (confirmation + c)) e in
    (ltb-false _ _ o.0, ltb-false _ _ o.1)

-- ---- a request
-- of a known bill's causes, those after 6: they are left where 5 and 6 do not hold
abbrev pub after-6 : Request → Terms → List (Rule Cause)
after-6 r t = rule (eqb r.consumption.0 t.latest.consumption.0) ConsumptionUnchanged ∷ rule (eqb t.sequence last_sequence) SequenceUsedUp ∷ []

pub known-past-6 : (r : Request) (held : ℕ) (b : Option Terms) (t : Terms) → b ≡ Some t → t.cancelled ≡ false
    → not (same_list (five_of r.code) (code_bytes t.code) && eqb r.product (product_byte t.product)) ≡ false
    → first (bill_causes r held b) ≡ first (after-6 r t)
unfolding bill_causes
known-past-6 r held b t e d f = rw (e, d, f)

pub record Asks (r : Request) (room : ℕ) (today : Date) (tracking confirmation held : ℕ) (b : Option Terms) : Type 0 where
  pub good : all (request_tests r) ≡ true
  pub wide : 642 ≤ room
  pub due : today.0 ≤ r.scheduled.0
  pub left : (tracking + 1 ≤ 1000000000) × (confirmation + 1 ≤ 1000000000)
  pub known : (t : Terms) → b ≡ Some t → (t.cancelled ≡ false) × (t.sequence ≡ 999 → ⊥)
  pub new : b ≡ None → held < 128

pub asks : (r : Request) (room : ℕ) (today : Date) (tracking confirmation held : ℕ) (b : Option Terms)
    → first (request_causes r room today tracking confirmation held b) ≡ Ok tt → Asks r room today tracking confirmation held b
unfolding request_causes bill_causes
asks r room today tracking confirmation held (Some t) e =
    let o = clear-off (request_causes r room today tracking confirmation held (Some t)) e in
    record {
      good = not-false _ o.0;
      wide = ltb-false _ _ o.1.0;
      due = ltb-false _ _ o.1.1.0;
      left = enough tracking confirmation 1 1 o.1.1.1.1.1.1.1.0;
      known =
          λ u s.
          let z : t ≡ u = cc in
          let p : (t.cancelled ≡ false) × (t.sequence ≡ 999 → ⊥) = (o.1.1.1.0, eqb-false _ _ o.1.1.1.1.1.1.0) in
          rw z at p;
      new = λ s. let z : ◌≡◌ {A = ℕ} 0 1 = cc in absurd (omega native.Mathlib.Omega.arith);
    }
asks r room today tracking confirmation held None e =
    let o = clear-off (request_causes r room today tracking confirmation held None) e in
    record {
      good = not-false _ o.0;
      wide = ltb-false _ _ o.1.0;
      due = ltb-false _ _ o.1.1.0;
      left = enough tracking confirmation 1 1 o.1.1.1.1.0;
      known = λ u s. let z : ◌≡◌ {A = ℕ} 0 1 = cc in absurd (omega native.Mathlib.Omega.arith);
      new = λ s. leb-false _ _ o.1.1.1.0;
    }

-- ---- a file
pub record Sends (s : List ℕ) (room tracking confirmation : ℕ) : Type 0 where
  pub good : good_file s ≡ true
  pub wide : length s ≤ room
  pub left : (tracking + count asks_id (file_groups s) ≤ 1000000000) × (confirmation + length (file_groups s) ≤ 1000000000)

pub sends : (s : List ℕ) (room tracking confirmation : ℕ) → first (file_causes s room tracking confirmation) ≡ Ok tt
    → Sends s room tracking confirmation
unfolding file_causes
sends s room tracking confirmation e =
    let o = clear-off (file_causes s room tracking confirmation) e in
    record {
      good = not-false _ o.0;
      wide = ltb-false _ _ o.1.0;
      left = enough tracking confirmation (count asks_id (file_groups s)) (length (file_groups s)) o.1.1.0;
    }

-- ---- a cancel
pub record Cancels (id : Identity) (room tracking confirmation : ℕ) (b : Option Terms) : Type 0 where
  pub good : good_identity id ≡ true
  pub wide : 642 ≤ room
  pub known : is_nothing b ≡ false
  pub alive : (terms_of b).cancelled ≡ false
  pub left : (tracking + 1 ≤ 1000000000) × (confirmation + 1 ≤ 1000000000)

pub cancels : (id : Identity) (room tracking confirmation : ℕ) (b : Option Terms) → first (cancel_causes id room tracking confirmation b) ≡ Ok tt
    → Cancels id room tracking confirmation b
unfolding cancel_causes
cancels id room tracking confirmation b e =
    let o = clear-off (cancel_causes id room tracking confirmation b) e in
    record {
      good = not-false _ o.0;
      wide = ltb-false _ _ o.1.0;
      known = o.1.1.0;
      alive = o.1.1.1.0;
      left = enough tracking confirmation 1 1 o.1.1.1.1.0;
    }

-- ---- a close
pub closes-on : (d today : Date) → first (close_causes d today) ≡ Ok tt → is_date d.0 ≡ true
unfolding close_causes
closes-on d today e = not-false _ (clear-off (close_causes d today) e).0

-- ---- a removal
pub record Removes (a : AccountRemoval) (held : Bool) : Type 0 where
  pub account : fits 12 a.account ≡ true
  pub date : is_date a.date.0 ≡ true
  pub some : held ≡ true

pub removes : (a : AccountRemoval) (held : Bool) → first (removal_causes a held) ≡ Ok tt → Removes a held
unfolding removal_causes
removes a held e =
    let o = clear-off (removal_causes a held) e in
    let good = not-false _ o.0 in
    record {
      account = and_left (fits 12 a.account) (is_date a.date.0) good;
      date = and_right (fits 12 a.account) (is_date a.date.0) good;
      some = not-false _ o.1.0;
    }

-- a known bill that no cause is against has room for a request more
pub renews : (r : Request) (room : ℕ) (today : Date) (tracking confirmation held : ℕ) (f : Option ℕ) (b : bill.Bill) → SoundAt f b
    → first (request_causes r room today tracking confirmation held (sought_by f b)) ≡ Ok tt → CanRenew f b
renews r room today tracking confirmation held None b h e = tt
renews r room today tracking confirmation held (Some p) b h e =
    let n = ((asks r room today tracking confirmation held (sought_by (Some p) b) e).known b.terms refl).1 in
    (h.0, omega (native.Mathlib.Omega.arith, h.1, n))
