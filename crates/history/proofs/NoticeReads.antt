-- The fields of the notices that say what a record is, read back. Assumes nothing.
use Prim.Native.Nat.{ℕ, ◌≤◌, ◌<◌, ◌^◌}
use mathlib.Core.Path.{◌≡◌, refl, ◌∙◌}
use mathlib.Core.Bool.{Bool, true, false, and-false}
use mathlib.Core.List.{List}
use native.Mathlib.Omega.{arith}
use lib.ListN.{length}
use Rattle.fields.specs.Text.{text}
use Rattle.fields.specs.Digits.{digits}
use Rattle.fields.specs.Put.{part, same_list}
use Rattle.fields.proofs.DigitLaws.{digits_same}
use Rattle.fields.proofs.SameLaws.{same_refl, same_false}
use Rattle.notices.specs.declared.bil.Bil.{Bil}
use Rattle.notices.specs.declared.cxl.Cxl.{Cxl}
use Rattle.records.specs.Layout.{tracking_in, type_in, notice_in, scheduled_in}
use Rattle.notices.specs.Notices.{alike_fields, header, detail_to_key, bil_header, bil_to_tiers, bil_to_owed, bil_detail, cxl_header, cxl_detail}
use Rattle.notices.proofs.PositionLaws.{bil-header-at, cxl-header-at}
use Rattle.notices.proofs.AnswerPositions.{acf-at, rej-header-at, rej-detail-at}
use Rattle.notices.specs.declared.acf.Acf.{Acf}
use Rattle.notices.specs.declared.rej.Rej.{Rej}
use Rattle.notices.specs.Answers.{acf_tracking, acf_scheduled, acf, rej_header, rej_detail}
use Rattle.file.specs.File.{is_header}
use Rattle.history.specs.Written.{is_acf, assigns}

-- ---- BIL and CXL: a header assigns a Tracking ID, a detail none, and neither is an ACF
pub bil-header-reads : (b : Bil) → (assigns (bil_header b) ≡ true) × (is_acf (bil_header b) ≡ false)
unfolding assigns is_header part same_list digits bil_header header alike_fields
bil-header-reads b = (refl, refl)

pub bil-detail-reads : (b : Bil) → (assigns (bil_detail b) ≡ false) × (is_acf (bil_detail b) ≡ false)
unfolding assigns is_header part same_list digits bil_detail bil_to_owed bil_to_tiers detail_to_key alike_fields
bil-detail-reads b = (refl, refl)

pub cxl-header-reads : (x : Cxl) → (assigns (cxl_header x) ≡ true) × (is_acf (cxl_header x) ≡ false)
unfolding assigns is_header part same_list digits cxl_header header alike_fields
cxl-header-reads x = (refl, refl)

pub cxl-detail-reads : (x : Cxl) → (assigns (cxl_detail x) ≡ false) × (is_acf (cxl_detail x) ≡ false)
unfolding assigns is_header part same_list digits cxl_detail detail_to_key alike_fields
cxl-detail-reads x = (refl, refl)

pub bil-tracking : (b : Bil) → tracking_in (bil_header b) ≡ digits 9 b.bill.terms.latest.tracking
bil-tracking b = (bil-header-at b).alike.tracking

pub cxl-tracking : (x : Cxl) → tracking_in (cxl_header x) ≡ digits 9 x.tracking
cxl-tracking x = (cxl-header-at x).alike.tracking

-- ---- ACF
module _ (h : List ℕ) (a : Acf) (whole : 321 ≤ length h) where
  pub acf-tracking : tracking_in (acf h a) ≡ acf_tracking h a
  acf-tracking = (acf-at h a whole).alike.tracking

  acf-type : type_in (acf h a) ≡ type_in h
  acf-type = (acf-at h a whole).alike.type

  acf-notice : notice_in (acf h a) ≡ text "ACF"
  acf-notice = (acf-at h a whole).alike.notice

  acf-scheduled : scheduled_in (acf h a) ≡ digits 8 (acf_scheduled h a)
  acf-scheduled = (acf-at h a whole).scheduled

  pub acf-is-acf : is_acf (acf h a) ≡ true
  acf-is-acf = rw acf-notice (same_refl (text "ACF"))

  -- whether it assigns a Tracking ID is said by its Scheduled Date
  acf-assigns : is_header h ≡ true → assigns (acf h a) ≡ same_list (digits 8 (acf_scheduled h a)) (text "00000000")
  unfolding assigns is_header same_list
  acf-assigns k = rw (acf-type, k, acf-notice, acf-scheduled) refl

  -- that of a SUP does
  pub acf-sup-assigns : is_header h ≡ true → acf_scheduled h a ≡ 0 → assigns (acf h a) ≡ true
  unfolding digits
  acf-sup-assigns k z = acf-assigns k ∙ rw z (same_refl (text "00000000"))

  -- that of an RSP, which has a Scheduled Date, does not
  pub acf-rsp-not : is_header h ≡ true → 0 < acf_scheduled h a → acf_scheduled h a < 10 ^ 8 → assigns (acf h a) ≡ false
  unfolding digits
  acf-rsp-not k p q =
      acf-assigns k
      ∙ same_false (digits 8 (acf_scheduled h a)) (text "00000000")
      (λ e. let z : acf_scheduled h a ≡ 0 = digits_same 8 (acf_scheduled h a) 0 q (omega arith) e in omega arith)

-- ---- REJ
module _ (r : List ℕ) (x : Rej) (whole : 321 ≤ length r) where
  pub rej-header-notice : notice_in (rej_header r x) ≡ text "REJ"
  rej-header-notice = (rej-header-at r x whole).alike.notice

  pub rej-detail-notice : (sup : Bool) → notice_in (rej_detail sup r x) ≡ text "REJ"
  rej-detail-notice sup = (rej-detail-at r x whole sup).alike.notice

-- a record of a REJ is no ACF and assigns no Tracking ID
pub rej-not-acf : (r : List ℕ) → notice_in r ≡ text "REJ" → is_acf r ≡ false
unfolding same_list
rej-not-acf r e = rw e

pub rej-not-assigns : (r : List ℕ) → notice_in r ≡ text "REJ" → assigns r ≡ false
unfolding assigns same_list
rej-not-assigns r e = rw e (and-false (is_header r))
