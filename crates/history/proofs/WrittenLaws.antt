-- The Tracking IDs and the ACFs that the written bytes hold. Assumes nothing.
use Prim.Native.Nat.{ℕ, ◌+◌, ◌≤◌, ◌<◌, ◌^◌}
use mathlib.Core.Path.{◌≡◌, refl, sym, ◌∙◌, ap}
use mathlib.Core.Bool.{Bool, true, false, cond}
use mathlib.Core.List.{List, [], ◌∷◌, map, ◌++◌, append_assoc, append-nil}
use native.Mathlib.Omega.{arith}
use lib.ListN.{length}
use Rattle.fields.proofs.BoolLaws.{cases}
use Rattle.fields.specs.Text.{text}
use Rattle.fields.specs.Digits.{number}
use Rattle.fields.proofs.DigitLaws.{number_digits}
use Rattle.units.specs.Calendar.{is_date}
use Rattle.units.proofs.DateLaws.{date-fits, date-some}
use Rattle.ledger.specs.Books.{View}
use Rattle.notices.specs.declared.bil.Bil.{Bil}
use Rattle.notices.specs.declared.cxl.Cxl.{Cxl}
use Rattle.records.specs.Layout.{tracking_in, notice_in, is_sup}
use Rattle.notices.specs.Notices.{bil_header, bil_detail, bil, cxl_header, cxl_detail, cxl}
use Rattle.notices.proofs.NoticeLengths.{length-bil-header, length-bil-detail, length-cxl-header, length-cxl-detail}
use Rattle.notices.specs.declared.acf.Acf.{Acf}
use Rattle.notices.specs.declared.rej.Rej.{Rej}
use Rattle.notices.specs.Answers.{acf, rej_header, rej_detail, rej_details, rej}
use Rattle.notices.proofs.AnswerLaws.{length-acf, length-rej-header, length-rej-detail}
use Rattle.file.specs.File.{records, Group, asks_id}
use Rattle.verdict.specs.Lines.{terms_of}
use Rattle.group.specs.Groups.{sought, answer, is_accepted}
use Rattle.history.specs.Claim.{All}
use Rattle.history.specs.Written.{keep, is_acf, assigns, assigned_in, acfs_in}
use Rattle.history.proofs.WrittenRecordLaws.{records-cons, records-none, Whole, Formed}
use Rattle.history.proofs.NoticeReads.{bil-header-reads, bil-detail-reads, cxl-header-reads, cxl-detail-reads, bil-tracking, cxl-tracking, acf-tracking, acf-is-acf, acf-sup-assigns, acf-rsp-not, rej-header-notice, rej-detail-notice, rej-not-acf, rej-not-assigns}
use Rattle.std.specs.Prelude.{Result, Ok, Err}
use Rattle.ledger.specs.declared.Posted.{Posted}
use Rattle.rules.specs.declared.ErrorCode.{ErrorCode}

-- ---- those of the records that pass a test
module _ (p : List ℕ → Bool) where
  kept : List ℕ → List (List ℕ)
  kept s = keep p (records s)

  kept-none : kept [] ≡ []
  unfolding kept
  kept-none = ap (keep p) records-none

  kept_in : (r ys : List ℕ) → length r ≡ 321 → p r ≡ true → kept (r ++ ys) ≡ r ∷ kept ys
  unfolding kept
  kept_in r ys h e = ap (keep p) (records-cons r ys h) ∙ rw e

  kept_out : (r ys : List ℕ) → length r ≡ 321 → p r ≡ false → kept (r ++ ys) ≡ kept ys
  unfolding kept
  kept_out r ys h e = ap (keep p) (records-cons r ys h) ∙ rw e

  -- a last record that fails
  kept-last : (r : List ℕ) → length r ≡ 321 → p r ≡ false → kept r ≡ []
  kept-last r h e = ap kept (sym (append-nil r)) ∙ kept_out r [] h e ∙ kept-none

  -- none of the records of a REJ passes a test that fails on the code REJ
  module _ (fails : (r : List ℕ) → notice_in r ≡ text "REJ" → p r ≡ false) where
    kept-details : (sup : Bool) (ds : List (List ℕ)) (x : Rej) (ys : List ℕ) → All Whole ds → kept (rej_details sup ds x ++ ys) ≡ kept ys
    unfolding rej_details
    kept-details sup [] x ys a = refl
    kept-details sup (d ∷ ds) x ys a =
        let h : 321 ≤ length d = omega (arith, a.0) in
        ap kept (append_assoc (rej_detail sup d x) (rej_details sup ds x) ys)
        ∙ kept_out (rej_detail sup d x) (rej_details sup ds x ++ ys) (length-rej-detail d h sup x) (fails _ (rej-detail-notice d x h sup))
        ∙ kept-details sup ds x ys a.1

    kept-rej : (g : Group) (x : Rej) (ys : List ℕ) → Formed g → kept (rej g.header g.details x ++ ys) ≡ kept ys
    unfolding rej
    kept-rej g x ys f =
        let h : 321 ≤ length g.header = omega (arith, f.header) in
        ap kept (append_assoc (rej_header g.header x) (rej_details (is_sup g.header) g.details x) ys)
        ∙ kept_out (rej_header g.header x) _ (length-rej-header g.header h x) (fails _ (rej-header-notice g.header x h))
        ∙ kept-details (is_sup g.header) g.details x ys f.details

-- the number of a record
abbrev id_in : List ℕ → ℕ
id_in r = number (tracking_in r)

-- ---- BIL and CXL
pub bil-assigns : (b : Bil) → b.bill.terms.latest.tracking < 10 ^ 9 → assigned_in (bil b) ≡ b.bill.terms.latest.tracking ∷ []
unfolding assigned_in kept bil
bil-assigns b t =
    ap (map id_in) (kept_in assigns (bil_header b) (bil_detail b) (length-bil-header b) (bil-header-reads b).0)
    ∙ rw (kept-last assigns (bil_detail b) (length-bil-detail b) (bil-detail-reads b).0, bil-tracking b, number_digits 9 _ t)

pub cxl-assigns : (x : Cxl) → x.tracking < 10 ^ 9 → assigned_in (cxl x) ≡ x.tracking ∷ []
unfolding assigned_in kept cxl
cxl-assigns x t =
    ap (map id_in) (kept_in assigns (cxl_header x) (cxl_detail x) (length-cxl-header x) (cxl-header-reads x).0)
    ∙ rw (kept-last assigns (cxl_detail x) (length-cxl-detail x) (cxl-detail-reads x).0, cxl-tracking x, number_digits 9 _ t)

pub bil-no-acf : (b : Bil) → acfs_in (bil b) ≡ []
unfolding acfs_in kept bil
bil-no-acf b =
    kept_out is_acf (bil_header b) (bil_detail b) (length-bil-header b) (bil-header-reads b).1
    ∙ kept-last is_acf (bil_detail b) (length-bil-detail b) (bil-detail-reads b).1

pub cxl-no-acf : (x : Cxl) → acfs_in (cxl x) ≡ []
unfolding acfs_in kept cxl
cxl-no-acf x =
    kept_out is_acf (cxl_header x) (cxl_detail x) (length-cxl-header x) (cxl-header-reads x).1
    ∙ kept-last is_acf (cxl_detail x) (length-cxl-detail x) (cxl-detail-reads x).1

pub none-assigned : assigned_in [] ≡ []
unfolding assigned_in kept
none-assigned = ap (map id_in) (kept-none assigns)

pub none-acf : acfs_in [] ≡ []
unfolding acfs_in kept
none-acf = kept-none is_acf

-- ---- the answer to a group, and more bytes
-- the ACF, if it is accepted
abbrev pub acf_for : View → Group → Result Posted ErrorCode → List (List ℕ)
acf_for v g (Ok amounts) = answer v g (Ok amounts) ∷ []
acf_for v g (Err n) = []

pub answer-acfs : (v : View) (g : Group) (c : Result Posted ErrorCode) (ys : List ℕ) → Formed g → acfs_in (answer v g c ++ ys) ≡ acf_for v g c ++ acfs_in ys
unfolding acfs_in kept answer
answer-acfs v g (Ok amounts) ys f =
    let h : 321 ≤ length g.header = omega (arith, f.header) in
    kept_in is_acf _ ys (length-acf g.header h _) (acf-is-acf g.header _ h)
answer-acfs v g (Err n) ys f = kept-rej is_acf rej-not-acf g _ ys f

-- the Tracking ID, if it is an accepted SUP
abbrev pub given_to : ℕ → Group → Result Posted ErrorCode → List ℕ
given_to id g (Ok amounts) = cond (asks_id g) (id ∷ []) []
given_to id g (Err n) = []

-- an ACF and more bytes, by its Notification Code
module _ (g : Group) (a : Acf) (ys : List ℕ) (f : Formed g) where
  whole : 321 ≤ length g.header
  whole = omega (arith, f.header)

  sup-assigns : asks_id g ≡ true → a.tracking < 10 ^ 9 → assigned_in (acf g.header a ++ ys) ≡ a.tracking ∷ assigned_in ys
  unfolding assigned_in kept
  sup-assigns e t =
      ap (map id_in) (kept_in assigns (acf g.header a) ys (length-acf g.header whole a) (acf-sup-assigns g.header a whole f.record_type (rw e)))
      ∙ rw (acf-tracking g.header a whole, e, number_digits 9 a.tracking t)

  rsp-assigns : asks_id g ≡ false → is_date a.terms.latest.scheduled.0 ≡ true → assigned_in (acf g.header a ++ ys) ≡ assigned_in ys
  unfolding assigned_in kept
  rsp-assigns e d =
      ap (map id_in)
      (kept_out assigns (acf g.header a) ys (length-acf g.header whole a)
      (acf-rsp-not g.header a whole f.record_type (rw e (date-some _ d)) (rw e (date-fits _ d))))

pub answer-assigns : (v : View) (g : Group) (c : Result Posted ErrorCode) (ys : List ℕ) → Formed g
    → (is_accepted c ≡ true → is_date (terms_of (sought v g)).latest.scheduled.0 ≡ true) → v.tracking + cond (asks_id g) 1 0 ≤ 1000000000
    → assigned_in (answer v g c ++ ys) ≡ given_to v.tracking g c ++ assigned_in ys
unfolding assigned_in kept answer
answer-assigns v g (Ok amounts) ys f d t =
    cases (asks_id g)
    (λ e. let q : v.tracking + 1 ≤ 1000000000 = rw e at t in sup-assigns g _ ys f e (omega arith) ∙ rw e)
    (λ e. rsp-assigns g _ ys f e (d refl) ∙ rw e)
answer-assigns v g (Err n) ys f d t = ap (map id_in) (kept-rej assigns rej-not-assigns g _ ys f)
