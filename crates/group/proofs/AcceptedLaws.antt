-- What it tells of a group and its bill that the verdict is accepted. Assumes nothing.
use Prim.Native.Nat.{ℕ, ◌+◌, ◌≤◌, ◌^◌}
use mathlib.Core.Path.{◌≡◌, refl, ap, subst}
use mathlib.Core.Bool.{Bool, true, false, not, ◌&&◌}
use mathlib.Core.List.{List, ◌∷◌, ◌++◌}
use native.Mathlib.Omega.{arith}
use lib.Dec.{leb, eqb}
use borrow.Author.Tests.{leb-true, le-leb, eqb-false, lt-ltb, ltb-true}
use Rattle.fields.specs.Text.{text}
use Rattle.fields.specs.Put.{same_list}
use Rattle.fields.proofs.BoolLaws.{and_left, and_right, or-both, cases}
use Rattle.fields.proofs.SameLaws.{same_true}
use Rattle.fields.proofs.HoldLaws.{small-value, length-part-le}
use Rattle.units.specs.Units.{fits_cents}
use Rattle.units.specs.Calendar.{is_date}
use Rattle.units.specs.declared.Date.{Date}
use Rattle.ledger.specs.declared.Bill.{Bill}
use Rattle.ledger.specs.declared.Posted.{Posted}
use Rattle.ledger.specs.Bills.{is_prepay, charge_of, posting}
use Rattle.ledger.specs.Books.{Book, View, view, bill_charge, small_charge}
use Rattle.records.specs.Layout.{notice_in, sequence_in, detail_charge_in, is_rsp, is_sup}
use Rattle.file.specs.File.{Group, detail_of, asks_id, line1, line2}
use Rattle.records.specs.declared.Notification.{Notification}
use Rattle.records.specs.declared.Notification.TheVariants.{Supplement}
use Rattle.rules.proofs.RuleLaws.{clear-off}
use Rattle.rules.specs.Rules.{Rule, rule, first}
use Rattle.verdict.specs.Lines.{terms_of, line4, line5, line6, line7, lines8to10, sent_consumption, sent_charge, amounts_of, settle}
use Rattle.verdict.specs.parts.Dated.{dated_terms, Dated}
use Rattle.group.specs.Groups.{sought, notification_of, lines_by, lines_on, verdict_on, verdict_by}
use Rattle.group.specs.parts.Turns.{sought_by, in_widths, InWidthsAt, CanPost, came_by, went_by}
use Rattle.std.specs.Prelude.{Option, Some, None, Result, Ok, Err, ⊤}
use Rattle.ledger.specs.declared.Terms.{Terms}
use Rattle.rules.specs.declared.ErrorCode.{ErrorCode}
use Rattle.rules.specs.declared.ErrorCode.TheVariants.{Br14, Br16, Br17, Br19}

-- ---- no verdict accepts where there is no bill
pub nothing-rejects : (t : Bool) (today : Date) (g : Group) → (n : ErrorCode) × (verdict_on t today None g ≡ Err n)
unfolding verdict_on line4
nothing-rejects t today g =
    cases (line1 g) (λ a. (Br17, rw a))
    (λ a. cases (line2 g) (λ b. (Br19, rw (a, b))) (λ b. cases t (λ d. (Br14, rw (a, b, d))) (λ d. (Br16, rw (a, b, d)))))

-- ---- what is accepted can be posted, and its charges are small
module _ (t : Bool) (today : Date) (f : Option ℕ) (b : Bill) (g : Group) where
  abbrev now : Result Posted ErrorCode
  now = verdict_on t today (sought_by f b) g

  calm-posts : (v : Result Posted ErrorCode) → b.terms.sequence ≤ 999 → CanPost v b
  calm-posts (Ok amounts) h = h
  calm-posts (Err n) h = tt

  pub can-post : InWidthsAt f b → CanPost now b
  unfolding in_widths
  can-post h = go f refl
    where
      go : (k : Option ℕ) → f ≡ k → CanPost now b
      go (Some p) e = calm-posts now (leb-true _ _ (and_left (leb b.terms.sequence 999) (small_charge b && dated_terms b.terms) (rw e at h)))
      go None e = let q = nothing-rejects t today g in rw (e, q.1) tt

-- ---- a bill stays in_widths
settle-clear : (c : Result ⊤ ErrorCode) (x y : Posted) → settle c x ≡ Ok y → (c ≡ Ok tt) × (x ≡ y)
settle-clear (Ok tt) x y e = (refl, cc)
settle-clear (Err n) x y e = let z : ◌≡◌ {A = ℕ} 0 1 = cc in absurd (omega arith)

-- a code that is SUP is not RSP
sup-not-rsp : (h : List ℕ) → is_sup h ≡ true → is_rsp h ≡ false
unfolding same_list
sup-not-rsp h e = ap (λ (x : List ℕ). same_list x (text "RSP")) (same_true (notice_in h) (text "SUP") e)

charge-small : (prepay : Bool) (d : List ℕ) → fits_cents (charge_of (amounts_of prepay d)) ≡ true
unfolding amounts_of
charge-small true d = lt-ltb _ _ (small-value (detail_charge_in d) 13 (length-part-le d 66 13))
charge-small false d = lt-ltb _ _ (small-value (detail_charge_in d) 13 (length-part-le d 66 13))

-- the lines of a group, with the product's mark written out
abbrev pub list_for : Bool → Bool → Bool → Notification → Date → List ℕ → List ℕ → Option Terms → Bool → List (Rule ErrorCode)
list_for l1 l2 t k today h d b prepay =
    rule l1 Br17
    ∷ rule l2 Br19
    ∷ rule t Br14
    ∷ line4 b
    ++ (line5 h (terms_of b) ++ (line6 k today h d (terms_of b) ++ (line7 d (terms_of b) ++ lines8to10 prepay h d (sent_consumption d) (sent_charge d))))

sup-room : (l1 l2 t : Bool) (today : Date) (h d : List ℕ) (b : Option Terms) (prepay : Bool) → first (list_for l1 l2 t Supplement today h d b prepay) ≡ Ok tt
    → eqb (terms_of b).sequence 999 ≡ false
unfolding line4 line5 line6
sup-room l1 l2 t today h d b prepay e =
    let o = clear-off (list_for l1 l2 t Supplement today h d b prepay) e in
    (or-both (not (same_list (sequence_in d) (text "000"))) (eqb (terms_of b).sequence 999) o.1.1.1.1.1.1.1.1.1.0).1

-- no line holds of an accepted group, and its amounts are the detail's
pub accepted-clear : (t : Bool) (v : View) (g : Group) (amounts : Posted) → verdict_by t v g ≡ Ok amounts
    → (first (lines_by t v g) ≡ Ok tt) × (amounts_of (is_prepay (terms_of (sought v g)).product) (detail_of g) ≡ amounts)
unfolding verdict_by verdict_on lines_by
accepted-clear t v g amounts e = settle-clear (first (lines_by t v g)) _ amounts e

-- a posting leaves the dates
dated-posted : (amounts : Posted) (sup : Bool) (b : Bill) → dated_terms (posting amounts sup b).terms ≡ dated_terms b.terms
unfolding dated_terms
dated-posted amounts sup b = refl

module _ (t : Bool) (k : Book) (g : Group) (b : Bill) (amounts : Posted) (v : verdict_by t (view k) g ≡ Ok amounts)
    (y : sought (view k) g ≡ Some b.terms) where
  clears : (first (lines_by t (view k) g) ≡ Ok tt) × (amounts_of (is_prepay (terms_of (sought (view k) g)).product) (detail_of g) ≡ amounts)
  clears = accepted-clear t (view k) g amounts v

  -- a SUP is accepted only while the sequence has room
  pub room : asks_id g ≡ true → b.terms.sequence ≡ 999 → ⊥
  unfolding lines_by
  room e =
      let r : notification_of g ≡ Supplement = rw (sup-not-rsp g.header e) in
      let c = subst (λ (m : Notification). first (list_for (line1 g) (line2 g) t m k.today g.header (detail_of g) (sought (view k) g) (is_prepay (terms_of (sought (view k) g)).product)) ≡ Ok tt) r clears.0 in
      let x = sup-room (line1 g) (line2 g) t k.today g.header (detail_of g) (sought (view k) g) _ c in
      eqb-false b.terms.sequence 999 (rw y at x)

  pub calm-posted : in_widths b ≡ true → in_widths (posting amounts (asks_id g) b) ≡ true
  unfolding in_widths
  calm-posted h =
      let a = leb-true _ 999 (and_left (leb b.terms.sequence 999) (small_charge b && dated_terms b.terms) h) in
      let d = and_right (small_charge b) (dated_terms b.terms) (and_right (leb b.terms.sequence 999) (small_charge b && dated_terms b.terms) h) in
      let m : fits_cents (charge_of amounts) ≡ true =
      subst (λ (x : Posted). fits_cents (charge_of x) ≡ true) clears.1 (charge-small (is_prepay (terms_of (sought (view k) g)).product) (detail_of g)) in
      rw (m, dated-posted amounts (asks_id g) b, d) (cases (asks_id g)
      (λ e. rw e (ap (λ (x : Bool). x && true) (le-leb (b.terms.sequence + 1) 999 (omega (arith, room e)))))
      (λ e. rw e (ap (λ (x : Bool). x && true) (le-leb b.terms.sequence 999 a))))

-- ---- the dates that line 6 reads
pub dated-by : (today : Date) (f : Option ℕ) (b : Bill) → is_date today.0 ≡ true → InWidthsAt f b → Dated today (sought_by f b)
unfolding in_widths
dated-by today None b h k = tt
dated-by today (Some p) b h k =
    (h, and_right (small_charge b) (dated_terms b.terms) (and_right (leb b.terms.sequence 999) (small_charge b && dated_terms b.terms) k))

-- ---- the charges that come and go
small_of : (c : Bill) → in_widths c ≡ true → bill_charge c ≤ 10 ^ 13
unfolding in_widths
small_of c e = omega (arith, ltb-true (bill_charge c) (10 ^ 13) (and_left (small_charge c) (dated_terms c.terms) (and_right (leb c.terms.sequence 999) (small_charge c && dated_terms c.terms) e)))

pub came-small : (t : Bool) (today : Date) (b : Option Terms) (g : Group) → came_by (verdict_on t today b g) ≤ 10 ^ 13
unfolding verdict_on
came-small t today b g = go (first (lines_on t today b g))
  where
    go : (c : Result ⊤ ErrorCode) → came_by (settle c (amounts_of (is_prepay (terms_of b).product) (detail_of g))) ≤ 10 ^ 13
    go (Ok tt) =
        let m : fits_cents (charge_of (amounts_of (is_prepay (terms_of b).product) (detail_of g))) ≡ true = charge-small (is_prepay (terms_of b).product) (detail_of g) in
        omega (arith, ltb-true (charge_of (amounts_of (is_prepay (terms_of b).product) (detail_of g))).0 (10 ^ 13) m)
    go (Err n) = omega arith

pub went-small : (t : Bool) (today : Date) (f : Option ℕ) (b : Bill) (g : Group) → InWidthsAt f b → went_by (verdict_on t today (sought_by f b) g) b ≤ 10 ^ 13
went-small t today None b g h = let q = nothing-rejects t today g in rw q.1 (omega arith)
went-small t today (Some p) b g h = go (verdict_on t today (sought_by (Some p) b) g)
  where
    go : (v : Result Posted ErrorCode) → went_by v b ≤ 10 ^ 13
    go (Ok amounts) = small_of b h
    go (Err n) = omega arith
