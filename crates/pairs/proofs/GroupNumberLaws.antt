-- A group's number says what line 3 asks: groups that pass lines 1 and 2 are alike where their numbers are equal. Assumes nothing.
use Prim.Native.Nat.{ℕ, ◌+◌, ◌*◌, ◌≤◌, ◌<◌, ◌^◌}
use mathlib.Core.Path.{◌≡◌, refl, sym, ap, ◌∙◌, subst}
use mathlib.Core.Bool.{Bool, true, false, cond, not, ◌&&◌, false≢true}
use mathlib.Core.List.{List}
use native.Mathlib.Omega.{arith}
use lib.ListN.{length}
use lib.Dec.{eqb}
use borrow.Author.Tests.{eqb-true, eqb-false, eq-eqb, ne_eqb}
use Rattle.fields.specs.Text.{text}
use Rattle.fields.specs.Digits.{numeric, number}
use Rattle.fields.specs.Put.{same_list}
use Rattle.fields.proofs.DigitLaws.{number_lt}
use Rattle.fields.proofs.SameLaws.{same_true}
use Rattle.fields.proofs.PutLaws.{length_part}
use Rattle.fields.proofs.HoldLaws.{value-number, same_number}
use Rattle.records.specs.Layout.{record_at, account_in, key_in, notice_in, is_rsp, is_sup}
use Rattle.records.proofs.LayoutLaws.{long-record}
use Rattle.file.specs.File.{is_header, Group, detail_of, line1, line2, form_of, passes, alike}
use Rattle.file.specs.parts.Walk.{group_at}
use Rattle.file.proofs.FileLaws.{header_is, only-detail}
use Rattle.file.proofs.FormLaws.{one-detail, one-within, one-fit, fit-numeric}
use Rattle.pairs.specs.parts.GroupNumbers.{code_number, named_by, group_number, number_at}
use Rattle.records.specs.declared.Notification.TheVariants.{Response, Supplement}
use Rattle.std.specs.Prelude.{Ok}

-- ---- three numbers as one
abbrev whole : ℕ → ℕ → ℕ → ℕ
whole c a k = c * 10000000000000000 + (a * 10000 + k)

join : (c a k d b m : ℕ) → a < 1000000000000 → b < 1000000000000 → k < 10000 → m < 10000
    → (eqb c d && eqb a b && eqb k m) ≡ eqb (whole d b m) (whole c a k)
join c a k d b m ha hb hk hm = go (eqb (whole d b m) (whole c a k)) refl
  where
    apart : (p q r : Bool) → eqb c d ≡ p → eqb a b ≡ q → eqb k m ≡ r → (whole d b m ≡ whole c a k → ⊥) → (p && q && r) ≡ false
    apart false q r x y z n = refl
    apart true false r x y z n = refl
    apart true true false x y z n = refl
    apart true true true x y z n = absurd (n (omega (arith, eqb-true c d x, eqb-true a b y, eqb-true k m z)))

    go : (t : Bool) → eqb (whole d b m) (whole c a k) ≡ t → (eqb c d && eqb a b && eqb k m) ≡ t
    go true e =
        let z = eqb-true (whole d b m) (whole c a k) e in
        let u : c ≡ d = omega (arith, z) in
        let v : a ≡ b = omega (arith, z) in
        let w : k ≡ m = omega (arith, z) in
        rw (eq-eqb c d u, eq-eqb a b v, eq-eqb k m w)
    go false e = apart (eqb c d) (eqb a b) (eqb k m) refl refl refl (eqb-false (whole d b m) (whole c a k) e)

-- ---- a group that passes lines 1 and 2
abbrev code_of : Bool → ℕ
code_of r = cond r 1 2

abbrev letters : Bool → List ℕ
letters r = cond r (text "RSP") (text "SUP")

pub record Fits (g : Group) : Type 0 where
  pub account : numeric (account_in g.header) ≡ true
  pub account-long : length (account_in g.header) ≡ 12
  pub key : numeric (key_in (detail_of g)) ≡ true
  pub key-long : length (key_in (detail_of g)) ≡ 4
  pub code : code_number (form_of g) ≡ code_of (is_rsp g.header)
  pub bytes : notice_in g.header ≡ letters (is_rsp g.header)

not-both : (u v : Bool) → (not u && not v) ≡ true → (u ≡ false) × (v ≡ false)
not-both false false e = (refl, refl)
not-both false true e = absurd (false≢true e)
not-both true v e = absurd (false≢true e)

module _ (g : Group) (h : passes g ≡ true) where
  pub lines : (line1 g ≡ false) × (line2 g ≡ false)
  unfolding passes
  lines = not-both (line1 g) (line2 g) h

  code_is : code_number (form_of g) ≡ code_of (is_rsp g.header)
  unfolding form_of
  code_is = rw (lines.0, lines.1) (go (is_rsp g.header))
    where
      go : (r : Bool) → code_number (cond r (Ok Response) (Ok Supplement)) ≡ code_of r
      go true = refl
      go false = refl

  bytes-are : notice_in g.header ≡ letters (is_rsp g.header)
  unfolding line2
  bytes-are = go (is_rsp g.header) refl (is_sup g.header) refl lines.1
    where
      go : (r : Bool) → is_rsp g.header ≡ r → (t : Bool) → is_sup g.header ≡ t → (not (is_rsp g.header) && not (is_sup g.header)) ≡ false
          → notice_in g.header ≡ letters r
      go true e t f k = same_true _ _ e
      go false e true f k = same_true _ _ f
      go false e false f k = absurd (false≢true (sym k ∙ rw (e, f)))

module _ (s : List ℕ) (i n : ℕ) (b : n * 321 ≤ length s) (h : passes (group_at s i n) ≡ true) where
  l1 : line1 (group_at s i n) ≡ false
  l1 = (lines (group_at s i n) h).0

  pub fits : Fits (group_at s i n)
  fits =
      let w = one-within s i n l1 in
      let q = fit-numeric (record_at s i) (record_at s (i + 1)) (one-fit s i n l1) in
      let u = long-record s i (omega arith) in
      let v = long-record s (i + 1) (omega arith) in
      let d = only-detail s i n (one-detail s i n l1) in
      record {
        account = rw (header_is s i n) q.0;
        account-long = rw (header_is s i n) (length_part (record_at s i) 7 12 (omega (arith, u)));
        key = rw d q.1;
        key-long = rw d (length_part (record_at s (i + 1)) 41 4 (omega (arith, v)));
        code = code_is (group_at s i n) h;
        bytes = bytes-are (group_at s i n) h;
      }

-- the account and the Bill Key of a group
abbrev account_of : Group → ℕ
account_of g = number (account_in g.header)

abbrev key_of : Group → ℕ
key_of g = number (key_in (detail_of g))

number_fits : (g : Group) → Fits g → group_number g ≡ whole (code_of (is_rsp g.header)) (account_of g) (key_of g)
unfolding group_number named_by
number_fits g f = rw (f.code, value-number (account_in g.header) f.account, value-number (key_in (detail_of g)) f.key) (go (is_rsp g.header))
  where
    go : (r : Bool) → cond (eqb (code_of r) 0) 0 (whole (code_of r) (account_of g) (key_of g)) ≡ whole (code_of r) (account_of g) (key_of g)
    go true = refl
    go false = refl

letters-same : (r t : Bool) → same_list (letters r) (letters t) ≡ eqb (code_of r) (code_of t)
unfolding same_list
letters-same true true = refl
letters-same true false = refl
letters-same false true = refl
letters-same false false = refl

account-lt : (g : Group) → Fits g → account_of g < 1000000000000
account-lt g f = subst (λ (k : ℕ). account_of g < 10 ^ k) f.account-long (number_lt (account_in g.header) f.account)

key-lt : (g : Group) → Fits g → key_of g < 10000
key-lt g f = subst (λ (k : ℕ). key_of g < 10 ^ k) f.key-long (number_lt (key_in (detail_of g)) f.key)

alike_both : (g o : Group) → Fits g → Fits o → passes o ≡ true → alike g o ≡ eqb (group_number o) (group_number g)
unfolding alike
alike_both g o f k p =
    rw (
      p,
      f.bytes,
      k.bytes,
      letters-same (is_rsp g.header) (is_rsp o.header),
      same_number (account_in g.header) (account_in o.header) f.account k.account (f.account-long ∙ sym k.account-long),
      same_number (key_in (detail_of g)) (key_in (detail_of o)) f.key k.key (f.key-long ∙ sym k.key-long),
      number_fits g f,
      number_fits o k,
    )
    (join (code_of (is_rsp g.header)) (account_of g) (key_of g) (code_of (is_rsp o.header)) (account_of o) (key_of o)
    (account-lt g f) (account-lt o k) (key-lt g f) (key-lt o k))

-- ---- a group that does not pass
pub number-none : (g : Group) → passes g ≡ false → group_number g ≡ 0
unfolding passes group_number form_of
number-none g h = go (line1 g) refl (line2 g) refl h
  where
    go : (u : Bool) → line1 g ≡ u → (v : Bool) → line2 g ≡ v → (not (line1 g) && not (line2 g)) ≡ false
        → cond (eqb (code_number (form_of g)) 0) 0 (named_by g.header (detail_of g) (code_number (form_of g))) ≡ 0
    go true e v f k = rw e
    go false e true f k = rw (e, f)
    go false e false f k = absurd (false≢true (sym k ∙ rw (e, f)))

alike-none : (g o : Group) → passes o ≡ false → alike g o ≡ false
unfolding alike
alike-none g o e = rw e

pub number-some : (g : Group) → Fits g → group_number g ≡ 0 → ⊥
number-some g f e = go (is_rsp g.header) (sym (number_fits g f) ∙ e)
  where
    go : (r : Bool) → whole (code_of r) (account_of g) (key_of g) ≡ 0 → ⊥
    go true z = omega (arith, z)
    go false z = omega (arith, z)

-- ---- by record number
module _ (s : List ℕ) (n : ℕ) (b : n * 321 ≤ length s) where
  -- a record with a number is the header of a group that passes lines 1 and 2
  pub number-passes : (i : ℕ) → (number_at s n i ≡ 0 → ⊥) → (is_header (record_at s i) ≡ true) × (passes (group_at s i n) ≡ true)
  unfolding number_at
  number-passes i h = go (is_header (record_at s i)) refl (passes (group_at s i n)) refl
    where
      go : (t : Bool) → is_header (record_at s i) ≡ t → (u : Bool) → passes (group_at s i n) ≡ u
          → (is_header (record_at s i) ≡ true) × (passes (group_at s i n) ≡ true)
      go true e true f = (e, f)
      go true e false f = absurd (h (rw e (number-none (group_at s i n) f)))
      go false e u f = absurd (h (rw e))

  number-header : (i : ℕ) → is_header (record_at s i) ≡ true → number_at s n i ≡ group_number (group_at s i n)
  unfolding number_at
  number-header i e = rw e

  -- the number of a header that passes is not 0
  pub number-not-zero : (i : ℕ) → is_header (record_at s i) ≡ true → passes (group_at s i n) ≡ true → number_at s n i ≡ 0 → ⊥
  number-not-zero i e p z = number-some (group_at s i n) (fits s i n b p) (sym (number-header i e) ∙ z)

  -- a header is alike to that of record i where the numbers are equal
  pub alike-number : (i j : ℕ) → (number_at s n i ≡ 0 → ⊥) → is_header (record_at s j) ≡ true
      → alike (group_at s i n) (group_at s j n) ≡ eqb (number_at s n j) (number_at s n i)
  alike-number i j h e =
      let q = number-passes i h in
      rw (number-header j e, number-header i q.0) (go q.1 (passes (group_at s j n)) refl)
    where
      go : passes (group_at s i n) ≡ true → (t : Bool) → passes (group_at s j n) ≡ t
          → alike (group_at s i n) (group_at s j n) ≡ eqb (group_number (group_at s j n)) (group_number (group_at s i n))
      go p true f = alike_both (group_at s i n) (group_at s j n) (fits s i n b p) (fits s j n b f) f
      go p false f =
          alike-none (group_at s i n) (group_at s j n) f
          ∙ sym (ap (λ (x : ℕ). eqb x (group_number (group_at s i n))) (number-none (group_at s j n) f)
          ∙ ne_eqb 0 (group_number (group_at s i n)) (λ z. number-some (group_at s i n) (fits s i n b p) (sym z)))

pub code-line1 : (g : Group) → (code_number (form_of g) ≡ 0 → ⊥) → line1 g ≡ false
unfolding form_of
code-line1 g h = go (line1 g) refl
  where
    go : (u : Bool) → line1 g ≡ u → line1 g ≡ false
    go false e = e
    go true e = absurd (h (rw e))
