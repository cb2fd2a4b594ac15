-- Laws of the check, of groups by record number, and of lines 1 and 2. Assumes nothing.
use mathlib.Core.Path.{◌≡◌, refl, ap, ap₂, ◌∙◌}
use mathlib.Core.Bool.{Bool, true, false, cond, not, ◌&&◌, and-true}
use mathlib.Core.List.{List, [], ◌∷◌, ◌++◌}
use Prim.Native.Nat.{ℕ, zero, suc, ◌+◌, ◌-◌, ◌*◌, ◌/◌, ◌≤◌, ◌<◌}
use native.Mathlib.Omega.{arith}
use native.Mathlib.Numerals.{add-one}
use native.Mathlib.Nat.{not-suc-le-zero, sub-zero}
use lib.ListN.{length, get_or, take, drop, length-append}
use lib.Dec.{leb}
use Rattle.std.proofs.lemmas.List.{drop-take}
use lib.Seq.{length-take-le, take-take, take-suc, take_at, drop-append-add}
use Rattle.fields.specs.Put.{part}
use borrow.Author.Tests.{eq-eqb, ne_eqb}
use Rattle.rules.specs.Lists.{every, count}
use Rattle.rules.proofs.ListLaws.{every_append}
use Rattle.records.specs.Layout.{record_at, records_from, is_rsp, is_sup}
use Rattle.records.proofs.LayoutLaws.{records-step, records-end, length-records}
use Rattle.file.specs.File.{records, printable, is_header, good_record, headed, Group, leading, groups, asks_id, detail_of, unfit, line1, line2, form_of}
use Rattle.file.specs.parts.Walk.{records_after, group_at, pair_form}
use Rattle.records.specs.declared.Notification.TheVariants.{Response, Supplement}
use Rattle.rules.specs.declared.ErrorCode.TheVariants.{Br17, Br19}
use Rattle.std.specs.Prelude.{Ok, Err}

-- ---- the check
-- one byte more
pub printable-more : (r : List ℕ) (i : ℕ) (good : Bool) → i < length r → good ≡ every printable (take i r)
    → (good && (leb 32 (get_or r i 0) && leb (get_or r i 0) 126)) ≡ every printable (take (i + 1) r)
unfolding printable
printable-more r i good h e =
    rw (add-one i, take-suc r i 0 h, every_append printable (take i r) (get_or r i 0 ∷ []), ← e, and-true)

-- a record r in front of what is left, t
module _ (r t : List ℕ) (h : length r ≡ 321) where
  records-past : (i k : ℕ) → records_from (r ++ t) (i + 1) k ≡ records_from t i k
  unfolding records_from part
  records-past i zero = refl
  records-past i (suc k) =
      let e : (i + 1) * 321 ≡ length r + i * 321 = omega arith in
      ap₂ (λ (x : List ℕ) (xs : List (List ℕ)). x ∷ xs) (ap (λ (n : ℕ). take 321 (drop n (r ++ t))) e ∙ ap (take 321) (drop-append-add r t (i * 321)))
      (records-past (i + 1) k)

  records-first : records (r ++ t) ≡ r ∷ records t
  unfolding records records_from part
  records-first =
      let e : length (r ++ t) / 321 ≡ suc (length t / 321) = omega (arith, length-append r t) in
      ap (records_from (r ++ t) 0) e ∙ ap₂ (λ (x : List ℕ) (xs : List (List ℕ)). x ∷ xs) (take_at r t 321 h) (records-past 0 (length t / 321))

  pub good-first : good_record r ≡ true → every good_record (records (r ++ t)) ≡ every good_record (records t)
  good-first e = ap (every good_record) records-first ∙ rw e

  pub stop-first : good_record r ≡ false → every good_record (records (r ++ t)) ≡ false
  stop-first e = ap (every good_record) records-first ∙ rw e

pub good-none : (s : List ℕ) → length s < 321 → every good_record (records s) ≡ true
unfolding records
good-none s h =
    let e : length s / 321 ≡ 0 = omega arith in
    ap (λ (k : ℕ). every good_record (records_from s 0 k)) e ∙ ap (every good_record) (records-end s 0 0 (omega arith))

-- the records from record i of n on
module _ (s : List ℕ) (i n : ℕ) (h : i < n) where
  pub good-step : good_record (record_at s i) ≡ true
      → every good_record (records_from s i (n - i)) ≡ every good_record (records_from s (i + 1) (n - (i + 1)))
  good-step e = ap (every good_record) (records-step s i n h) ∙ rw e

  pub good-stop : good_record (record_at s i) ≡ false → every good_record (records_from s i (n - i)) ≡ false
  good-stop e = ap (every good_record) (records-step s i n h) ∙ rw e

pub good-end : (s : List ℕ) (i n : ℕ) → n ≤ i → every good_record (records_from s i (n - i)) ≡ true
good-end s i n h = ap (every good_record) (records-end s i n h)

-- all records, as a walk from record 0 on has them
pub from_start : (s : List ℕ) (n : ℕ) → records_from s 0 (n - 0) ≡ records_from s 0 n
from_start s n = ap (λ (k : ℕ). records_from s 0 k) (sub-zero n)

pub headed-first : (s : List ℕ) (n : ℕ) → 0 < n → headed (records_from s 0 n) ≡ is_header (record_at s 0)
unfolding headed records_from
headed-first s zero h = absurd (not-suc-le-zero h)
headed-first s (suc n) h = refl

pub headed-none : (s : List ℕ) (n : ℕ) → n ≡ 0 → headed (records_from s 0 n) ≡ true
unfolding headed records_from
headed-none s n e = ap (λ (k : ℕ). headed (records_from s 0 k)) e

-- ---- groups
module _ (s : List ℕ) (i n : ℕ) (h : i < n) where
  pub groups-header : is_header (record_at s i) ≡ true
      → groups (records_from s i (n - i)) ≡ group_at s i n ∷ groups (records_from s (i + 1) (n - (i + 1)))
  unfolding groups group_at
  groups-header e = ap groups (records-step s i n h) ∙ rw e

  pub groups-detail : is_header (record_at s i) ≡ false → groups (records_from s i (n - i)) ≡ groups (records_from s (i + 1) (n - (i + 1)))
  unfolding groups
  groups-detail e = ap groups (records-step s i n h) ∙ rw e

  pub leading-header : is_header (record_at s i) ≡ true → leading (records_from s i (n - i)) ≡ 0
  unfolding leading
  leading-header e = ap leading (records-step s i n h) ∙ rw e

  pub leading-detail : is_header (record_at s i) ≡ false → leading (records_from s i (n - i)) ≡ 1 + leading (records_from s (i + 1) (n - (i + 1)))
  unfolding leading
  leading-detail e = ap leading (records-step s i n h) ∙ rw e (omega arith)

  -- how the counts go on
  pub length-header : is_header (record_at s i) ≡ true → length (groups (records_from s i (n - i))) ≡ 1 + length (groups (records_from s (i + 1) (n - (i + 1))))
  length-header e = ap (λ (gs : List Group). length gs) (groups-header e) ∙ omega arith

  pub length-detail : is_header (record_at s i) ≡ false → length (groups (records_from s i (n - i))) ≡ length (groups (records_from s (i + 1) (n - (i + 1))))
  length-detail e = ap (λ (gs : List Group). length gs) (groups-detail e)

  pub count-detail : (p : Group → Bool) → is_header (record_at s i) ≡ false
      → count p (groups (records_from s i (n - i))) ≡ count p (groups (records_from s (i + 1) (n - (i + 1))))
  count-detail p e = ap (count p) (groups-detail e)

pub groups-end : (s : List ℕ) (i n : ℕ) → n ≤ i → groups (records_from s i (n - i)) ≡ []
unfolding groups
groups-end s i n h = ap groups (records-end s i n h)

pub leading_end : (s : List ℕ) (i n : ℕ) → n ≤ i → leading (records_from s i (n - i)) ≡ 0
unfolding leading
leading_end s i n h = ap leading (records-end s i n h)

-- whether a group asks for a Tracking ID
pub asks : (s : List ℕ) (i n : ℕ) (b : Bool) → is_sup (record_at s i) ≡ b → asks_id (group_at s i n) ≡ b
unfolding group_at
asks s i n b e = e

-- how the counts go on past a record r in front of what is left, t
module _ (r t : List ℕ) (h : length r ≡ 321) where
  abbrev rest : List Group
  rest = groups (records t)

  abbrev here : List Group
  here = groups (records (r ++ t))

  pub length-header-first : is_header r ≡ true → length here ≡ 1 + length rest
  unfolding groups
  length-header-first e = ap (λ (rs : List (List ℕ)). length (groups rs)) (records-first r t h) ∙ rw e (omega arith)

  pub length-detail-first : is_header r ≡ false → length here ≡ length rest
  unfolding groups
  length-detail-first e = ap (λ (rs : List (List ℕ)). length (groups rs)) (records-first r t h) ∙ rw e

  pub count-header : (b : Bool) → is_header r ≡ true → is_sup r ≡ b → count asks_id here ≡ cond b 1 0 + count asks_id rest
  unfolding groups
  count-header true e f = ap (λ (rs : List (List ℕ)). count asks_id (groups rs)) (records-first r t h) ∙ rw (e, f) (omega arith)
  count-header false e f = ap (λ (rs : List (List ℕ)). count asks_id (groups rs)) (records-first r t h) ∙ rw (e, f) (omega arith)

  pub count-detail-first : (p : Group → Bool) → is_header r ≡ false → count p here ≡ count p rest
  unfolding groups
  count-detail-first p e = ap (λ (rs : List (List ℕ)). count p (groups rs)) (records-first r t h) ∙ rw e

-- nothing is left
pub none-left : (t : List ℕ) → length t < 321 → groups (records t) ≡ []
unfolding records groups
none-left t h =
    let e : length t / 321 ≡ 0 = omega arith in
    ap (λ (k : ℕ). groups (records_from t 0 k)) e ∙ ap groups (records-end t 0 0 (omega arith))

-- the first n records
module _ (s : List ℕ) (m : ℕ) where
  same-records : (i k : ℕ) → (i + k) * 321 ≤ m → records_from (take m s) i k ≡ records_from s i k
  unfolding records_from part
  same-records i zero l = refl
  same-records i (suc k) l =
      let e : m ≡ i * 321 + (m - i * 321) = omega arith in
      let f = ap (λ (j : ℕ). drop (i * 321) (take j s)) e ∙ drop-take (i * 321) (m - i * 321) s in
      ap₂ (λ (x : List ℕ) (xs : List (List ℕ)). x ∷ xs) (ap (take 321) f ∙ take-take 321 (m - i * 321) (drop (i * 321) s) (omega arith))
      (same-records (i + 1) k (omega arith))

pub first-records : (s : List ℕ) (n : ℕ) → n * 321 ≤ length s → records (take (n * 321) s) ≡ records_from s 0 n
unfolding records
first-records s n h =
    let e : length (take (n * 321) s) / 321 ≡ n = omega (arith, length-take-le (n * 321) s h) in
    ap (records_from (take (n * 321) s) 0) e ∙ same-records s (n * 321) 0 n (omega arith)

-- ---- details
leading_le : (rs : List (List ℕ)) → leading rs ≤ length rs
unfolding leading
leading_le [] = omega arith
leading_le (r ∷ rs) = go (is_header r) (leading_le rs)
  where
    go : (b : Bool) → leading rs ≤ length rs → cond b 0 (suc (leading rs)) ≤ length (r ∷ rs)
    go true h = omega arith
    go false h = omega arith

module _ (s : List ℕ) (i n : ℕ) where
  pub leading-within : leading (records_after s i n) ≤ n - (i + 1)
  leading-within = omega (arith, leading_le (records_after s i n), length-records s (i + 1) (n - (i + 1)))

  pub length-details : length (group_at s i n).details ≡ leading (records_after s i n)
  unfolding group_at
  length-details = length-take-le (leading (records_after s i n)) (records_after s i n) (leading_le (records_after s i n))

  -- the detail of a group that has one
  pub only-detail : leading (records_after s i n) ≡ 1 → detail_of (group_at s i n) ≡ record_at s (i + 1)
  unfolding group_at
  only-detail e =
      let h : i + 1 < n = omega (arith, leading-within) in
      ap (λ (k : ℕ). get_or (take k (records_after s i n)) 0 []) e ∙ ap (λ (rs : List (List ℕ)). get_or (take 1 rs) 0 []) (records-step s (i + 1) n h)

  pub header_is : (group_at s i n).header ≡ record_at s i
  unfolding group_at
  header_is = refl

  -- lines 1 and 2 of a group
  pub line1-many : (leading (records_after s i n) ≡ 1 → ⊥) → line1 (group_at s i n) ≡ true
  unfolding line1
  line1-many h = rw (length-details, ne_eqb (leading (records_after s i n)) 1 h)

  pub line1-one : leading (records_after s i n) ≡ 1 → line1 (group_at s i n) ≡ unfit (record_at s i) (record_at s (i + 1))
  unfolding line1
  line1-one e = rw (length-details, eq-eqb (leading (records_after s i n)) 1 e, only-detail e, header_is)

  pub form-many : (leading (records_after s i n) ≡ 1 → ⊥) → (Err Br17) ≡ form_of (group_at s i n)
  unfolding form_of
  form-many h = rw (line1-many h)

  pub form-one : leading (records_after s i n) ≡ 1 → pair_form (record_at s i) (record_at s (i + 1)) ≡ form_of (group_at s i n)
  unfolding form_of pair_form line2
  form-one e = rw (line1-one e, header_is) (go (unfit (record_at s i) (record_at s (i + 1))) (is_rsp (record_at s i)) (is_sup (record_at s i)))
    where
      go : (u r p : Bool) → cond u (Err Br17) (cond r (Ok Response) (cond p (Ok Supplement) (Err Br19))) ≡ cond u (Err Br17) (cond (not r && not p) (Err Br19) (cond r (Ok Response) (Ok Supplement)))
      go true r p = refl
      go false true p = refl
      go false false true = refl
      go false false false = refl
