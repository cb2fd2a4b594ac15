-- An accepted group leaves its bill sound. Assumes nothing.
use Prim.Native.Nat.{ℕ, ◌+◌}
use mathlib.Core.Path.{◌≡◌, refl, sym, ap, subst}
use mathlib.Core.Bool.{Bool, true, false, not}
use mathlib.Core.List.{List}
use native.Mathlib.Omega.{arith}
use lib.Dec.{eqb, leb}
use borrow.Author.Tests.{not-false, not-true, lt-ltb}
use Rattle.fields.proofs.BoolLaws.{and_left}
use Rattle.fields.specs.Field.{field_of, value}
use Rattle.fields.proofs.HoldLaws.{small-value, length-part-le}
use Rattle.units.specs.declared.Date.{Date}
use Rattle.units.specs.Units.{fits_cents}
use Rattle.ledger.specs.declared.Bill.{Bill}
use Rattle.ledger.specs.declared.Posted.{Posted}
use Rattle.ledger.specs.declared.Terms.{Terms}
use Rattle.ledger.specs.Bills.{is_prepay, is_open, posting, cents}
use Rattle.ledger.specs.Books.{Book, view}
use Rattle.ledger.specs.Sound.{sound_terms, balanced, sound_amounts, sound_bill}
use Rattle.ledger.proofs.SoundLaws.{terms-facts, facts-terms, moved_facts, bill-terms}
use Rattle.records.specs.Layout.{applied_in, owed_in}
use Rattle.file.specs.File.{Group, detail_of, asks_id, line1, line2}
use Rattle.records.specs.declared.Notification.{Notification}
use Rattle.records.specs.declared.Notification.TheVariants.{Response, Supplement}
use Rattle.rules.specs.Rules.{first}
use Rattle.verdict.specs.Lines.{terms_of, line4, line5, line6, line7, line8, line9, line10, sent_charge, amounts_of}
use Rattle.group.specs.Groups.{notification_of, sought, lines_by, verdict_by}
use Rattle.group.proofs.AcceptedLaws.{list_for, accepted-clear, room}
use Rattle.rules.proofs.RuleLaws.{clear-off}
use Rattle.std.specs.Prelude.{Option, Some, Ok}

open-alive : (today : Date) (t : Terms) → not (is_open today t) ≡ false → t.cancelled ≡ false
open-alive today t e = not-true t.cancelled (and_left (not t.cancelled) (leb today.0 t.latest.scheduled.0) (not-false (is_open today t) e))

-- no group is accepted for a cancelled bill
pub alive : (l1 l2 t : Bool) (k : Notification) (today : Date) (h d : List ℕ) (b : Option Terms) (prepay : Bool)
    → first (list_for l1 l2 t k today h d b prepay) ≡ Ok tt → (terms_of b).cancelled ≡ false
unfolding line4 line5 line6
alive l1 l2 t Response today h d b prepay e =
    open-alive today (terms_of b) (clear-off (list_for l1 l2 t Response today h d b prepay) e).1.1.1.1.1.0
alive l1 l2 t Supplement today h d b prepay e = (clear-off (list_for l1 l2 t Supplement today h d b prepay) e).1.1.1.1.1.0

-- Prepay: applied plus owed is the charge
paid : (l1 l2 t : Bool) (k : Notification) (today : Date) (h d : List ℕ) (b : Option Terms)
    → first (list_for l1 l2 t k today h d b true) ≡ Ok tt
    → eqb (value (field_of (applied_in d)) + value (field_of (owed_in d))) (sent_charge d) ≡ true
unfolding line4 line5 line6 line7 line8 line9 line10
paid l1 l2 t Response today h d b e =
    not-false _ (clear-off (list_for l1 l2 t Response today h d b true) e).1.1.1.1.1.1.1.1.1.1.1.1.1.1.1.1.1.0
paid l1 l2 t Supplement today h d b e =
    not-false _ (clear-off (list_for l1 l2 t Supplement today h d b true) e).1.1.1.1.1.1.1.1.1.1.1.1.1.1.1.1.1.1.1.0

-- a field of 13 bytes is in its width
fits-13 : (d : List ℕ) (at : ℕ) → fits_cents (cents (value (field_of (Rattle.fields.specs.Put.part d at 13)))) ≡ true
fits-13 d at = lt-ltb _ _ (small-value (Rattle.fields.specs.Put.part d at 13) 13 (length-part-le d at 13))

amounts-sound : (t : Terms) (d : List ℕ) (prepay : Bool) → is_prepay t.product ≡ prepay → t.cancelled ≡ false
    → (prepay ≡ true → eqb (value (field_of (applied_in d)) + value (field_of (owed_in d))) (sent_charge d) ≡ true)
    → sound_amounts t (amounts_of prepay d) ≡ true
unfolding sound_amounts amounts_of balanced
amounts-sound t d true p a q = rw (a, p, fits-13 d 66, fits-13 d 233, fits-13 d 246, q refl)
amounts-sound t d false p a q = rw (a, p, fits-13 d 66)

-- a sequence that a SUP raises had room
terms-posted : (b : Bill) (amounts : Posted) (sup : Bool) → sound_terms b.terms ≡ true → (sup ≡ true → b.terms.sequence ≡ 999 → ⊥)
    → sound_terms (posting amounts sup b).terms ≡ true
terms-posted b amounts true h r =
    let f = terms-facts b.terms h in
    let less = r refl in
    facts-terms _
    (moved_facts b.terms b.terms (b.terms.sequence + 1) b.terms.requests b.terms.cancelled f f f.asked (omega (arith, f.requests)) (omega (arith, f.sequence, less)))
terms-posted b amounts false h r = h

-- an accepted group leaves the bill that it is about sound
module _ (t : Bool) (k : Book) (g : Group) (b : Bill) (amounts : Posted) (v : verdict_by t (view k) g ≡ Ok amounts)
    (y : sought (view k) g ≡ Some b.terms) where
  abbrev named : Option Terms
  named = sought (view k) g

  abbrev after : Terms
  after = (posting amounts (asks_id g) b).terms

  abbrev prepaid : Bool
  prepaid = is_prepay (terms_of named).product

  clear_at : first (list_for (line1 g) (line2 g) t (notification_of g) k.today g.header (detail_of g) named prepaid) ≡ Ok tt
  unfolding lines_by
  clear_at = (accepted-clear t (view k) g amounts v).0

  uncancelled : after.cancelled ≡ false
  uncancelled = rw y at (alive (line1 g) (line2 g) t (notification_of g) k.today g.header (detail_of g) named prepaid clear_at)

  settled-sum : prepaid ≡ true → eqb (value (field_of (applied_in (detail_of g))) + value (field_of (owed_in (detail_of g)))) (sent_charge (detail_of g)) ≡ true
  settled-sum e =
      paid (line1 g) (line2 g) t (notification_of g) k.today g.header (detail_of g) named
      (subst (λ (x : Bool). first (list_for (line1 g) (line2 g) t (notification_of g) k.today g.header (detail_of g) named x) ≡ Ok tt) e clear_at)

  product_is : is_prepay after.product ≡ prepaid
  product_is = sym (ap (λ (x : Option Terms). is_prepay (terms_of x).product) y)

  amounts-kept : sound_amounts after amounts ≡ true
  amounts-kept =
      subst (λ (x : Posted). sound_amounts after x ≡ true) (accepted-clear t (view k) g amounts v).1
      (amounts-sound after (detail_of g) prepaid product_is uncancelled settled-sum)

  pub sound-posted : sound_bill b ≡ true → sound_bill (posting amounts (asks_id g) b) ≡ true
  unfolding sound_bill
  sound-posted h =
      let a = terms-posted b amounts (asks_id g) (bill-terms b h) (room t k g b amounts v y) in
      rw (a, amounts-kept)
