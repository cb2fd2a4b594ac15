-- The four tiers of a detail, read together. Assumes nothing.
use Rattle.std.specs.Prelude.{ℕ, List, Option, Some, None}
use Rattle.fields.specs.Field.{field_of}
use Rattle.records.specs.declared.Tiers.{Tiers}
use Rattle.records.specs.Layout.{tier_consumption_in, tier_charge_in}

-- four fields: their numbers, where each holds digits only
abbrev pub four_fields : Option ℕ → Option ℕ → Option ℕ → Option ℕ → Option Tiers
four_fields (Some a) (Some b) (Some c) (Some e) = Some (record { 0 = a; 1 = b; 2 = c; 3 = e })
four_fields (Some a) (Some b) (Some c) None = None
four_fields (Some a) (Some b) None k = None
four_fields (Some a) None h k = None
four_fields None g h k = None

-- a field of the four tiers, "from 88, 118, 148 and 178"
abbrev pub four_tiers : (ℕ → List ℕ) → Option Tiers
four_tiers tier = four_fields (field_of (tier 88)) (field_of (tier 118)) (field_of (tier 148)) (field_of (tier 178))

unfoldable pub tier_consumptions : List ℕ → Option Tiers
tier_consumptions d = four_tiers (tier_consumption_in d)

unfoldable pub tier_charges : List ℕ → Option Tiers
tier_charges d = four_tiers (tier_charge_in d)
