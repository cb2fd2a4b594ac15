-- What the form of a group says of lines 1 and 2, and what a group that passes line 1 has. Assumes nothing.
use mathlib.Core.Path.{◌≡◌, refl, sym, ◌∙◌}
use mathlib.Core.Bool.{Bool, true, false, cond, not, ◌||◌, false≢true}
use mathlib.Core.List.{List}
use Prim.Native.Nat.{ℕ, ◌+◌, ◌<◌}
use native.Mathlib.Omega.{arith}
use lib.Dec.{eqb}
use borrow.Author.Tests.{eqb-true, eqb-false}
use Rattle.fields.specs.Text.{text}
use Rattle.fields.specs.Digits.{numeric}
use Rattle.fields.specs.Put.{positions, same_list}
use Rattle.records.specs.Layout.{record_at, company_in, account_in, record_count_in, key_in, is_rsp}
use Rattle.file.specs.File.{Group, leading, unfit, line1, line2, form_of}
use Rattle.file.specs.parts.Walk.{records_after, group_at}
use Rattle.file.proofs.FileLaws.{line1-many, line1-one, leading-within}
use Rattle.records.specs.declared.Notification.{Notification}
use Rattle.records.specs.declared.Notification.TheVariants.{Response, Supplement}
use Rattle.rules.specs.declared.ErrorCode.{ErrorCode}
use Rattle.rules.specs.declared.ErrorCode.TheVariants.{Br17, Br19}
use Rattle.std.specs.Prelude.{Result, Ok, Err}

-- what the form says of lines 1 and 2
pub record Says (f : Result Notification ErrorCode) (u v r : Bool) : Type 0 where
  pub broken : f ≡ (Err Br17) → u ≡ true
  pub unknown : f ≡ (Err Br19) → (u ≡ false) × (v ≡ true)
  pub response : f ≡ (Ok Response) → (u ≡ false) × (v ≡ false) × (r ≡ true)
  pub supplement : f ≡ (Ok Supplement) → (u ≡ false) × (v ≡ false) × (r ≡ false)

never : {A : Type 0} → ◌≡◌ {A = ℕ} 0 1 → A
never e = absurd (omega arith)

pub says : (g : Group) → Says (form_of g) (line1 g) (line2 g) (is_rsp g.header)
unfolding form_of
says g = go (line1 g) (line2 g) (is_rsp g.header)
  where
    go : (u v r : Bool) → Says (cond u (Err Br17) (cond v (Err Br19) (cond r (Ok Response) (Ok Supplement)))) u v r
    go true v r = record { broken = λ e. refl; unknown = λ e. never (cc); response = λ e. never (cc); supplement = λ e. never (cc) }
    go false true r = record { broken = λ e. never (cc); unknown = λ e. (refl, refl); response = λ e. never (cc); supplement = λ e. never (cc) }
    go false false true = record { broken = λ e. never (cc); unknown = λ e. never (cc); response = λ e. (refl, refl, refl); supplement = λ e. never (cc) }
    go false false false = record { broken = λ e. never (cc); unknown = λ e. never (cc); response = λ e. never (cc); supplement = λ e. (refl, refl, refl) }

-- a group that passes line 1 has one detail
module _ (s : List ℕ) (i n : ℕ) (h : line1 (group_at s i n) ≡ false) where
  pub one-detail : leading (records_after s i n) ≡ 1
  one-detail = go (eqb (leading (records_after s i n)) 1) refl
    where
      go : (b : Bool) → eqb (leading (records_after s i n)) 1 ≡ b → leading (records_after s i n) ≡ 1
      go true e = eqb-true (leading (records_after s i n)) 1 e
      go false e = absurd (false≢true (sym h ∙ line1-many s i n (eqb-false (leading (records_after s i n)) 1 e)))

  pub one-within : i + 1 < n
  one-within = omega (arith, one-detail, leading-within s i n)

  pub one-fit : unfit (record_at s i) (record_at s (i + 1)) ≡ false
  one-fit = sym (line1-one s i n one-detail) ∙ h

-- what passes line 1 has a numeric account and Bill Key
pub fit-numeric : (h d : List ℕ) → unfit h d ≡ false → (numeric (account_in h) ≡ true) × (numeric (key_in d) ≡ true)
unfolding unfit
fit-numeric h d e =
    go (not (same_list (record_count_in h) (text "01"))) (not (same_list (company_in h) (text "34")))
    (not (same_list (positions h 1 28) (positions d 1 28))) (not (same_list (positions h 31 33) (positions d 31 33)))
    (numeric (account_in h)) (numeric (key_in d)) e
  where
    go : (a b c f x y : Bool) → (a || b || c || f || not x || not y) ≡ false → (x ≡ true) × (y ≡ true)
    go false false false false true true q = (refl, refl)
    go false false false false true false q = absurd (false≢true (sym q))
    go false false false false false y q = absurd (false≢true (sym q))
    go false false false true x y q = absurd (false≢true (sym q))
    go false false true f x y q = absurd (false≢true (sym q))
    go false true c f x y q = absurd (false≢true (sym q))
    go true b c f x y q = absurd (false≢true (sym q))
