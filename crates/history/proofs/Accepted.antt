-- What it tells that a group is accepted. Assumes nothing.
use Prim.Native.Nat.{ℕ, ◌≤◌}
use mathlib.Core.Path.{◌≡◌, refl, subst}
use mathlib.Core.Bool.{Bool, true, false, not}
use mathlib.Core.List.{List}
use lib.Dec.{leb}
use borrow.Author.Tests.{leb-true, not-false}
use Rattle.fields.proofs.BoolLaws.{and_right}
use Rattle.units.specs.declared.Date.{Date}
use Rattle.ledger.specs.declared.Posted.{Posted}
use Rattle.ledger.specs.Bills.{is_prepay, is_open, charge_of}
use Rattle.ledger.specs.Books.{View}
use Rattle.records.specs.Layout.{is_rsp}
use Rattle.file.specs.File.{Group, detail_of, line1, line2}
use Rattle.records.specs.declared.Notification.{Notification}
use Rattle.records.specs.declared.Notification.TheVariants.{Response}
use Rattle.rules.specs.Rules.{first}
use Rattle.verdict.specs.Lines.{is_nothing, terms_of, line4, line5, line6, sent_charge, amounts_of}
use Rattle.group.specs.Groups.{notification_of, sought, lines_by, verdict_by}
use Rattle.group.proofs.AcceptedLaws.{list_for, accepted-clear}
use Rattle.rules.proofs.RuleLaws.{clear-off}
use Rattle.calls.proofs.SoundKept.{alive}
use Rattle.std.specs.Prelude.{Option, Ok}
use Rattle.ledger.specs.declared.Terms.{Terms}

-- there is such a bill
exists : (l1 l2 t : Bool) (k : Notification) (today : Date) (h d : List ℕ) (b : Option Terms) (prepay : Bool)
    → first (list_for l1 l2 t k today h d b prepay) ≡ Ok tt → is_nothing b ≡ false
unfolding line4
exists l1 l2 t k today h d b prepay e = (clear-off (list_for l1 l2 t k today h d b prepay) e).1.1.1.0

-- an RSP comes at or before the Scheduled Date
in-time : (l1 l2 t : Bool) (today : Date) (h d : List ℕ) (b : Option Terms) (prepay : Bool)
    → first (list_for l1 l2 t Response today h d b prepay) ≡ Ok tt → today.0 ≤ (terms_of b).latest.scheduled.0
unfolding line4 line5 line6
in-time l1 l2 t today h d b prepay e =
    let u = terms_of b in
    let o = not-false (is_open today u) (clear-off (list_for l1 l2 t Response today h d b prepay) e).1.1.1.1.1.0 in
    leb-true _ _ (and_right (not u.cancelled) (leb today.0 u.latest.scheduled.0) o)

charge-of : (prepay : Bool) (d : List ℕ) → (charge_of (amounts_of prepay d)).0 ≡ sent_charge d
unfolding amounts_of
charge-of true d = refl
charge-of false d = refl

module _ (t : Bool) (v : View) (g : Group) (amounts : Posted) (e : verdict_by t v g ≡ Ok amounts) where
  abbrev product : Bool
  product = is_prepay (terms_of (sought v g)).product

  clears : first (list_for (line1 g) (line2 g) t (notification_of g) v.today g.header (detail_of g) (sought v g) product) ≡ Ok tt
  unfolding lines_by
  clears = (accepted-clear t v g amounts e).0

  pub accepted-exists : is_nothing (sought v g) ≡ false
  accepted-exists = exists (line1 g) (line2 g) t (notification_of g) v.today g.header (detail_of g) (sought v g) product clears

  pub accepted-alive : (terms_of (sought v g)).cancelled ≡ false
  accepted-alive = alive (line1 g) (line2 g) t (notification_of g) v.today g.header (detail_of g) (sought v g) product clears

  pub accepted-in-time : is_rsp g.header ≡ true → v.today.0 ≤ (terms_of (sought v g)).latest.scheduled.0
  accepted-in-time r =
      let k : notification_of g ≡ Response = rw r in
      in-time (line1 g) (line2 g) t v.today g.header (detail_of g) (sought v g) product
      (subst (λ (m : Notification). first (list_for (line1 g) (line2 g) t m v.today g.header (detail_of g) (sought v g) product) ≡ Ok tt) k clears)

  pub accepted-charge : (charge_of amounts).0 ≡ sent_charge (detail_of g)
  accepted-charge =
      subst (λ (x : Posted). (charge_of x).0 ≡ sent_charge (detail_of g)) (accepted-clear t v g amounts e).1 (charge-of product (detail_of g))
