-- What is read off the bytes that a call wrote: "Tracking IDs are assigned in the headers of BIL, CXL and a SUP's ACF." Assumes nothing.
use Rattle.std.specs.Prelude.{ℕ, Bool, cond, ◌&&◌, ◌||◌, List, [], ◌∷◌, map}
use Rattle.fields.specs.Text.{text}
use Rattle.fields.specs.Digits.{number}
use Rattle.fields.specs.Put.{same_list}
use Rattle.records.specs.Layout.{tracking_in, notice_in, scheduled_in}
use Rattle.file.specs.File.{records, is_header}

-- those that pass a test
abbrev pub keep : {A : Type 0} → (A → Bool) → List A → List A
keep p [] = []
keep p (x ∷ xs) = cond (p x) (x ∷ keep p xs) (keep p xs)

-- a record of a notice
abbrev pub is_bil : List ℕ → Bool
is_bil r = same_list (notice_in r) (text "BIL")

abbrev pub is_cxl : List ℕ → Bool
is_cxl r = same_list (notice_in r) (text "CXL")

abbrev pub is_acf : List ℕ → Bool
is_acf r = same_list (notice_in r) (text "ACF")

-- an ACF with Scheduled Date 00000000 is a SUP's
abbrev pub is_sup_acf : List ℕ → Bool
is_sup_acf r = is_acf r && same_list (scheduled_in r) (text "00000000")

-- a record that assigns a Tracking ID
unfoldable pub assigns : List ℕ → Bool
assigns r = is_header r && (is_bil r || is_cxl r || is_sup_acf r)

-- the Tracking IDs that these bytes assign
unfoldable pub assigned_in : List ℕ → List ℕ
assigned_in s = map (λ (r : List ℕ). number (tracking_in r)) (keep assigns (records s))

-- the ACFs among these bytes
unfoldable pub acfs_in : List ℕ → List (List ℕ)
acfs_in s = keep is_acf (records s)
