-- The lengths of the notices and of their parts. Assumes nothing.
use mathlib.Core.Path.{◌≡◌, refl}
use mathlib.Core.List.{List}
use Prim.Native.Nat.{ℕ, ◌+◌, ◌-◌}
use lib.ListN.{length, length-append}
use Rattle.fields.specs.Text.{text}
use Rattle.fields.proofs.DigitLaws.{length_digits}
use Rattle.fields.proofs.PutLaws.{length-filled}
use Rattle.notices.specs.declared.Alike.{Alike}
use Rattle.notices.specs.declared.bil.Bil.{Bil}
use Rattle.notices.specs.declared.cxl.Cxl.{Cxl}
use Rattle.notices.specs.Notices.{spaces_from, alike_fields, header, detail_to_key, bil_to_tiers, bil_to_owed, bil_alike, bil_header, bil_detail, bil, cxl_alike, cxl_header, cxl_detail, cxl}

pub length-spaces-from : (a : ℕ) → length (spaces_from a) ≡ 321 - a + 1
unfolding spaces_from
length-spaces-from a = simp (length-append, length-filled)

-- ---- our own records
module _ (l : Alike) (notice : List ℕ) (three : length notice ≡ 3) where
  pub length-alike : (type : List ℕ) → length type ≡ 2 → length (alike_fields l type notice) ≡ 41
  unfolding alike_fields
  length-alike type two = simp (length-append, length_digits, two, three)

  pub length-header : (confirmation scheduled : ℕ) → length (header l notice confirmation scheduled) ≡ 321
  unfolding header
  length-header confirmation scheduled = simp (length-append, length_digits, length-alike, length-spaces-from)

  pub length-detail-to-key : (key : ℕ) → length (detail_to_key l notice key) ≡ 45
  unfolding detail_to_key
  length-detail-to-key key = simp (length-append, length_digits, length-alike)

pub length-bil-to-tiers : (b : Bil) → length (bil_to_tiers b) ≡ 207
unfolding bil_to_tiers
length-bil-to-tiers b = simp (length-append, length-detail-to-key (bil_alike b) (text "BIL") refl, length_digits, length-filled)

pub length-bil-to-owed : (b : Bil) → length (bil_to_owed b) ≡ 259
unfolding bil_to_owed
length-bil-to-owed b = simp (length-append, length-bil-to-tiers, length_digits, length-filled)

pub length-bil-header : (b : Bil) → length (bil_header b) ≡ 321
unfolding bil_header
length-bil-header b = length-header (bil_alike b) _ refl _ _

pub length-bil-detail : (b : Bil) → length (bil_detail b) ≡ 321
unfolding bil_detail
length-bil-detail b = simp (length-append, length-bil-to-owed, length-spaces-from)

pub length-bil : (b : Bil) → length (bil b) ≡ 642
unfolding bil
length-bil b = simp (length-append, length-bil-header, length-bil-detail)

pub length-cxl-header : (x : Cxl) → length (cxl_header x) ≡ 321
unfolding cxl_header
length-cxl-header x = length-header (cxl_alike x) _ refl _ _

pub length-cxl-detail : (x : Cxl) → length (cxl_detail x) ≡ 321
unfolding cxl_detail
length-cxl-detail x = simp (length-append, length-detail-to-key (cxl_alike x) (text "CXL") refl, length-spaces-from)

pub length-cxl : (x : Cxl) → length (cxl x) ≡ 642
unfolding cxl
length-cxl x = simp (length-append, length-cxl-header, length-cxl-detail)
