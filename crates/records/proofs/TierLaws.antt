-- Laws of the four tiers. Assumes nothing.
use Prim.Native.Nat.{ℕ, ◌+◌, ◌^◌, ◌≤◌, ◌<◌}
use mathlib.Core.Path.{◌≡◌}
use mathlib.Core.List.{List}
use native.Mathlib.Omega.{arith}
use lib.ListN.{length}
use Rattle.fields.specs.Put.{part}
use Rattle.fields.specs.Field.{field_of}
use Rattle.fields.proofs.DigitLaws.{pow-le}
use Rattle.fields.proofs.HoldLaws.{field_below}
use Rattle.records.specs.Tiers.{four_fields, tier_consumptions, tier_charges}
use Rattle.records.specs.declared.Tiers.{Tiers}
use Rattle.std.specs.Prelude.{Option, Some, None}

-- four fields that are read as numbers hold these
record Hold (f g h k : Option ℕ) (t : Tiers) : Type 0 where
  first : f ≡ Some t.0
  second : g ≡ Some t.1
  third : h ≡ Some t.2
  fourth : k ≡ Some t.3

never : {P : Type 0} {t : Tiers} → None ≡ Some t → P
never p = let z : ◌≡◌ {A = ℕ} 0 1 = cc in absurd (omega arith)

four-hold : (f g h k : Option ℕ) {t : Tiers} → four_fields f g h k ≡ Some t → Hold f g h k t
four-hold (Some a) (Some b) (Some c) (Some e) p = record { first = cc; second = cc; third = cc; fourth = cc }
four-hold (Some a) (Some b) (Some c) None p = never p
four-hold (Some a) (Some b) None k p = never p
four-hold (Some a) None h k p = never p
four-hold None g h k p = never p

-- the numbers of the fields of w bytes of the four tiers, the first at index at, can be added
tiers-fit : (d : List ℕ) (at w : ℕ) {t : Tiers} → at + 90 + w ≤ length d → w ≤ 13
    → four_fields (field_of (part d at w)) (field_of (part d (at + 30) w)) (field_of (part d (at + 60) w)) (field_of (part d (at + 90) w)) ≡ Some t
    → t.0 + (t.1 + (t.2 + t.3)) < 2 ^ 64
tiers-fit d at w {t} h k p =
    let m : 10 ^ w ≤ 10 ^ 13 = pow-le w 13 k in
    let q = four-hold (field_of (part d at w)) (field_of (part d (at + 30) w)) (field_of (part d (at + 60) w)) (field_of (part d (at + 90) w)) {t = t} p in
    omega (
      arith,
      field_below d at w t.0 (omega arith) q.first,
      field_below d (at + 30) w t.1 (omega arith) q.second,
      field_below d (at + 60) w t.2 (omega arith) q.third,
      field_below d (at + 90) w t.3 (omega arith) q.fourth,
    )

pub consumptions-fit : (d : List ℕ) {t : Tiers} → 207 ≤ length d → tier_consumptions d ≡ Some t → t.0 + (t.1 + (t.2 + t.3)) < 2 ^ 64
unfolding tier_consumptions
consumptions-fit d h p = tiers-fit d 94 10 (omega arith) (omega arith) p

pub charges-fit : (d : List ℕ) {t : Tiers} → 207 ≤ length d → tier_charges d ≡ Some t → t.0 + (t.1 + (t.2 + t.3)) < 2 ^ 64
unfolding tier_charges
charges-fit d h p = tiers-fit d 104 13 (omega arith) (omega arith) p
