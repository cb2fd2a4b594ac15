-- The lengths of the answers and of their parts. Assumes nothing.
use mathlib.Core.Path.{◌≡◌, refl}
use mathlib.Core.Bool.{Bool, true, false, cond, ◌&&◌}
use mathlib.Core.List.{List}
use Prim.Native.Nat.{ℕ, ◌+◌, ◌≤◌}
use native.Mathlib.Omega.{arith}
use lib.ListN.{length, length-append}
use Rattle.fields.specs.Put.{part}
use Rattle.fields.proofs.DigitLaws.{length_digits}
use Rattle.fields.proofs.PutLaws.{length-filled, length_part}
use Rattle.ledger.specs.Bills.{is_prepay}
use Rattle.records.specs.Layout.{from_in, is_sup}
use Rattle.notices.proofs.NoticeLengths.{length-spaces-from}
use Rattle.notices.specs.declared.acf.Acf.{Acf}
use Rattle.notices.specs.declared.rej.Rej.{Rej}
use Rattle.notices.specs.Answers.{acf_tracking, acf_balance, acf_alike, acf, rej_alike, rej_header, is_blank, from_back, rej_detail}

length-cond : (b : Bool) (xs ys : List ℕ) (n : ℕ) → length xs ≡ n → length ys ≡ n → length (cond b xs ys) ≡ n
length-cond true xs ys n h k = h
length-cond false xs ys n h k = k

module _ (r : List ℕ) (whole : 321 ≤ length r) where
  pub length-within : (i n : ℕ) → i + n ≤ 321 → length (part r i n) ≡ n
  length-within i n h = length_part r i n (omega arith)

  pub length-tracking : (a : Acf) → length (acf_tracking r a) ≡ 9
  length-tracking a = length-cond (is_sup r) _ _ 9 (length_digits 9 _) (length-within 19 9 (omega arith))

  pub length-balance : (a : Acf) → length (acf_balance r a) ≡ 13
  length-balance a = length-cond (is_prepay a.terms.product) _ _ 13 (length-within 60 13 (omega arith)) (length-filled 13 32)

  pub length-acf-alike : (a : Acf) → length (acf_alike r a) ≡ 41
  unfolding acf_alike
  length-acf-alike a =
      simp (length-append, length-within 0 19 (omega arith), length-tracking a, length-within 28 2 (omega arith), length_digits)

  pub length-acf : (a : Acf) → length (acf r a) ≡ 321
  unfolding acf
  length-acf a = simp (length-append, length-acf-alike a, length_digits, length-balance a, length-spaces-from)

  pub length-rej-alike : (x : Rej) → length (rej_alike r x) ≡ 41
  unfolding rej_alike
  length-rej-alike x = simp (length-append, length-within 0 30 (omega arith), length_digits)

  pub length-rej-header : (x : Rej) → length (rej_header r x) ≡ 321
  unfolding rej_header
  length-rej-header x = simp (length-append, length-rej-alike x, length_digits, length-within 50 271 (omega arith))

  pub length_from : (sup : Bool) → length (from_back sup (from_in r)) ≡ 8
  unfolding from_back
  length_from sup = length-cond (sup && is_blank (from_in r)) _ _ 8 refl (length-within 79 8 (omega arith))

  pub length-rej-detail : (sup : Bool) (x : Rej) → length (rej_detail sup r x) ≡ 321
  unfolding rej_detail
  length-rej-detail sup x =
      simp (
        length-append,
        length-rej-alike x,
        length-within 41 38 (omega arith),
        length_from sup,
        length-within 87 172 (omega arith),
        length_digits,
        length-spaces-from,
      )
