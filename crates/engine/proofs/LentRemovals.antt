-- A removal on a lent ledger, and the removal dates that what is lent can hold. Assumes nothing.
use Prim.Native.Nat.{ℕ}
use mathlib.Core.Path.{◌≡◌, sym, ap, ◌∙◌}
use mathlib.Core.Bool.{Bool, true}
use mathlib.Core.List.{List}
use native.Mathlib.Omega.{arith}
use lib.ListN.{length, take}
use borrow.Author.Tests.{ne_eqb}
use Rattle.units.specs.declared.Date.{Date}
use Rattle.units.specs.Calendar.{is_date}
use Rattle.units.proofs.DateLaws.{date-some}
use Rattle.ledger.specs.declared.Bill.{Bill}
use Rattle.ledger.specs.declared.Ledger.{Ledger}
use Rattle.ledger.specs.declared.LedgerHeader.{LedgerHeader}
use Rattle.rules.specs.Lists.{has}
use Rattle.ledger.specs.Books.{live, of_account}
use Rattle.ledger.specs.parts.Places.{bill_at, header_of, removed_first}
use Rattle.ledger.specs.Sound.{sound_ledger}
use Rattle.ledger.proofs.SoundLaws.{ledger-count}
use Rattle.words.specs.Layout.{removal_said}
use Rattle.rules.specs.Rules.{first}
use Rattle.file.specs.File.{Group, asks_id}
use Rattle.group.specs.declared.Tally.{Tally}
use Rattle.group.specs.declared.TurnResult.{TurnResult}
use Rattle.group.specs.parts.Turns.{bill_by, TurnLeaves}
use Rattle.causes.specs.declared.AccountRemoval.{AccountRemoval}
use Rattle.causes.specs.declared.BillCall.{BillCall}
use Rattle.causes.specs.declared.BillCall.TheVariants as bill_call
use Rattle.ledger.specs.declared.Update.{Update}
use Rattle.causes.specs.Causes.{removal, removal_causes}
use Rattle.causes.specs.parts.Decisions.{causes_by, update_by, decided_by}
use Rattle.causes.proofs.CauseLaws.{removes}
use Rattle.calls.specs.declared.Called.{Called}
use Rattle.calls.specs.Machine.{called}
use Rattle.calls.specs.Days.{quiet_answer}
use Rattle.calls.proofs.CallLaws.{called-stop}
use Rattle.calls.proofs.RemovalCalls.{removal-cause, removal-done}
use Rattle.std.specs.Prelude.{Option, Some, None, Result, Ok, Err, ⊤}
use Rattle.ledger.specs.declared.Posted.{Posted}
use Rattle.rules.specs.declared.Cause.{Cause}
use Rattle.rules.specs.declared.ErrorCode.{ErrorCode}

-- ---- what is stored has a removal date that what is lent can hold
module _ (takes : Option Date → Bool) (none : takes None ≡ true) where
  -- a request or a cancel leaves that of the bill, or none
  said-by : (k : Result ⊤ Cause) (c : BillCall) (h : LedgerHeader) (f : Option ℕ) (b : Bill) → takes b.terms.removal ≡ true
      → (u : Update) → decided_by k c h f b ≡ Ok u → takes u.bill.terms.removal ≡ true
  said-by (Err n) c h f b e u d = let z : ◌≡◌ {A = ℕ} 0 1 = cc in absurd (omega arith)
  said-by (Ok x) c h f b e u d = let z : update_by c h f b ≡ u = cc in rw (sym z) (said c f)
    where
      said : (c : BillCall) (f : Option ℕ) → takes (update_by c h f b).bill.terms.removal ≡ true
      said (bill_call.Request r) None = none
      said (bill_call.Request r) (Some p) = e
      said (bill_call.Cancel id) f = e

  -- so does a group
  said-after : (v : Result Posted ErrorCode) (sup : Bool) (b : Bill) → takes b.terms.removal ≡ true → takes (bill_by v sup b).terms.removal ≡ true
  said-after (Ok amounts) sup b e = e
  said-after (Err n) sup b e = e

  -- where b was read at place p of the ledger
  module _ (l : Ledger) (p : ℕ) (read : takes (bill_at l p).terms.removal ≡ true) (b : Bill) (be : b ≡ bill_at l p) where
    said_here : takes b.terms.removal ≡ true
    said_here = ap (λ (x : Bill). takes x.terms.removal) be ∙ read

    pub said-decided : (room : ℕ) (c : BillCall) (h : LedgerHeader) (f : Option ℕ) (d : Result Update Cause) → d ≡ decided_by (first (causes_by c room h f b)) c h f b
        → (u : Update) → d ≡ Ok u → takes u.bill.terms.removal ≡ true
    said-decided room c h f d e u g = said-by (first (causes_by c room h f b)) c h f b said_here u (sym e ∙ g)

    pub said-turn : {v : Result Posted ErrorCode} {g : Group} {h : LedgerHeader} {c : Tally} {writes : Bool} {out₀ out : List ℕ} {r : TurnResult}
        → TurnLeaves v g h b c writes out₀ out r → takes r.update.bill.terms.removal ≡ true
    said-turn {v} {g} x = ap (λ (y : Bill). takes y.terms.removal) x.bill ∙ said-after v (asks_id g) b said_here

-- a date is not 0
said-date : (d : Date) → is_date d.0 ≡ true → removal_said (Some d) ≡ true
said-date d h = rw (ne_eqb d.0 0 (λ e. omega (arith, date-some d.0 h)))

-- ---- the call
module _ (l : Ledger) (long : length l.bills ≡ 128) (sure : sound_ledger l ≡ true) (a : AccountRemoval) (h : LedgerHeader) (he : h ≡ header_of l) (held : Bool)
    (ae : held ≡ has (of_account a.account) (take h.count l.bills)) (check : Result ⊤ Cause) (ke : check ≡ first (removal_causes a held)) where
  held-here : held ≡ has (of_account a.account) (live l)
  held-here = ae ∙ ap (λ (t : LedgerHeader). has (of_account a.account) (take t.count l.bills)) he

  pub removal-stops : (n : Cause) → check ≡ Err n → (l ≡ (called l (removal a)).ledger) × (Err n ≡ (called l (removal a)).answer)
  removal-stops n e =
      let x = called-stop l (removal a) n (removal-cause l a sure held held-here check (Err n) ke e) in
      (ap (λ (r : Called). r.ledger) x, ap (λ (r : Called). r.answer) x)

  pub date-said : check ≡ Ok tt → removal_said (Some a.date) ≡ true
  date-said e = said-date a.date (removes a held (sym ke ∙ e)).date

  pub removal-made : check ≡ Ok tt
      → (removed_first h.count a.account a.date l ≡ (called l (removal a)).ledger) × (quiet_answer 0 ≡ (called l (removal a)).answer)
  removal-made e =
      let x = removal-done l a (omega (arith, ledger-count l sure, long)) (removal-cause l a sure held held-here check (Ok tt) ke e) in (
        ap (λ (t : LedgerHeader). removed_first t.count a.account a.date l) he ∙ sym (ap (λ (r : Called). r.ledger) x),
        sym (ap (λ (r : Called). r.answer) x),
      )
