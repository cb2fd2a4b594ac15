-- The parts of a group's line, from where they stand in the file and in the answers. Assumes nothing.
use Prim.Native.Nat.{ℕ, zero, suc, ◌+◌, ◌*◌, ◌≤◌}
use mathlib.Core.Path.{◌≡◌, refl, sym, ap, ◌∙◌}
use mathlib.Core.Bool.{Bool, true, false, cond}
use mathlib.Core.List.{List, [], ◌∷◌, ◌++◌}
use native.Mathlib.Omega.{arith}
use lib.Dec.{eqb}
use lib.ListN.{length, take, drop, length-append}
use lib.Seq.{drop-drop}
use borrow.Author.Tests.{eq-eqb, ne_eqb}
use Rattle.fields.specs.Text.{text}
use Rattle.fields.specs.Put.{part, put, filled, holds}
use Rattle.fields.proofs.PutLaws.{first, next, length_part, length-filled, part-part}
use Rattle.fields.proofs.HoldLaws.{length-part-le}
use Rattle.records.specs.Layout.{record_at, records_from}
use Rattle.records.proofs.LayoutLaws.{length-records}
use Rattle.file.specs.File.{Group, leading}
use Rattle.file.specs.parts.Walk.{records_after, group_at}
use Rattle.file.proofs.FileLaws.{length-details}
use Rattle.group.proofs.AnswerSizes.{details-are}
use Rattle.table.specs.Table.{cell, ended}
use Rattle.table.proofs.TableLaws.{length-cell}
use Rattle.history.specs.Written.{is_acf}
use Rattle.trace_lines.specs.Lines.{first_key}
use Rattle.trace_lines.specs.parts.ReadAnswers.{group_from, read_verdict, answer_long, read_line}

-- a part of what is left of a list
part-drop : (xs : List ℕ) (a i n : ℕ) → part (drop a xs) i n ≡ part xs (a + i) n
unfolding part
part-drop xs a i n = ap (take n) (drop-drop i a xs)

-- ---- the Bill Key
pub key-none : (s : List ℕ) (j k : ℕ) → k ≡ 0 → cell (first_key (records_from s j k)) ≡ text "    ,"
unfolding cell filled records_from
key-none s j k e = ap (λ (m : ℕ). cell (first_key (records_from s j m))) e

key-some : (s : List ℕ) (j k : ℕ) → (k ≡ 0 → ⊥) → first_key (records_from s j k) ≡ part s (j * 321 + 41) 4
unfolding records_from
key-some s j zero n = absurd (n refl)
key-some s j (suc k) n = part-part s (j * 321) 321 41 4 (omega arith)

-- the Bill Key was put with a comma
pub key-put : (xs out s : List ℕ) (at j k : ℕ) → (k ≡ 0 → ⊥) → out ≡ put xs at (cell (part s (j * 321 + 41) 4))
    → out ≡ put xs at (cell (first_key (records_from s j k)))
key-put xs out s at j k n o = o ∙ ap (λ (z : List ℕ). put xs at (cell z)) (sym (key-some s j k n))

length-key : (s : List ℕ) (j k : ℕ) → (j + k) * 321 ≤ length s → length (first_key (records_from s j k)) ≡ 4
unfolding records_from
length-key s j zero h = length-filled 4 32
length-key s j (suc k) h =
    ap length (key-some s j (suc k) (λ e. omega arith)) ∙ length_part s (j * 321 + 41) 4 (omega arith)

-- ---- the verdict, and how long the answer is
module _ (b : List ℕ) (k : ℕ) where
  acf-at : is_acf b ≡ holds b 30 (text "ACF")
  acf-at = refl

  pub verdict-acf : holds b 30 (text "ACF") ≡ true → read_verdict b k ≡ text "ACF"
  unfolding read_verdict
  verdict-acf e = rw (acf-at ∙ e)

  pub verdict-none : holds b 30 (text "ACF") ≡ false → k ≡ 0 → read_verdict b k ≡ text "BR17"
  unfolding read_verdict
  verdict-none e z = rw (acf-at ∙ e, eq-eqb k 0 z)

  pub verdict-code : holds b 30 (text "ACF") ≡ false → (k ≡ 0 → ⊥) → read_verdict b k ≡ part b 580 4
  unfolding read_verdict
  verdict-code e z = rw (acf-at ∙ e, ne_eqb k 0 z) (part-part b 321 321 259 4 (omega arith))

  pub long-acf : holds b 30 (text "ACF") ≡ true → answer_long b k ≡ 321
  unfolding answer_long
  long-acf e = rw (acf-at ∙ e)

  pub long-rej : holds b 30 (text "ACF") ≡ false → answer_long b k ≡ (k + 1) * 321
  unfolding answer_long
  long-rej e = rw (acf-at ∙ e)

  -- a verdict was put with byte 10, in n bytes
  pub verdict-put : (xs out : List ℕ) (at n : ℕ) (v : List ℕ) → read_verdict b k ≡ v → length (ended v) ≡ n → out ≡ put xs at (ended v)
      → (out ≡ put xs at (ended (read_verdict b k))) × (at + n ≡ at + length (ended (read_verdict b k)))
  verdict-put xs out at n v e l o =
      (o ∙ ap (λ (z : List ℕ). put xs at (ended z)) (sym e), ap (λ (m : ℕ). at + m) (sym (ap (λ (z : List ℕ). length (ended z)) e ∙ l)))

-- a part of a list, a comma or byte 10 records_after it
pub field_put : (xs o₁ o₂ src : List ℕ) (at from n : ℕ) → at ≤ length xs → from + n ≤ length src → o₁ ≡ put xs at (part src from n)
    → o₂ ≡ put o₁ (at + n) (text ",") → o₂ ≡ put xs at (cell (part src from n))
unfolding cell
field_put xs o₁ o₂ src at from n h l p q = (next (first xs at (part src from n) h p (length_part src from n l)) (text ",") q refl).same

pub code_put : (xs o₁ o₂ src : List ℕ) (at from n : ℕ) → at ≤ length xs → from + n ≤ length src → o₁ ≡ put xs at (part src from n)
    → o₂ ≡ put o₁ (at + n) (10 ∷ []) → o₂ ≡ put xs at (ended (part src from n))
unfolding ended
code_put xs o₁ o₂ src at from n h l p q = (next (first xs at (part src from n) h p (length_part src from n l)) (10 ∷ []) q refl).same

pub length-code : (src : List ℕ) (from n : ℕ) → from + n ≤ length src → length (ended (part src from n)) ≡ n + 1
unfolding ended
length-code src from n l = length-append (part src from n) (10 ∷ []) ∙ ap (λ (m : ℕ). m + 1) (length_part src from n l)

-- ---- the line
module _ (s sent : List ℕ) (i k from : ℕ) (h : (i + 1 + k) * 321 ≤ length s) (l : from + (k + 1) * 321 ≤ length sent) where
  abbrev a : List ℕ
  a = drop from sent

  long : (src : List ℕ) (b n : ℕ) → b + n ≤ length src → length (cell (part src b n)) ≡ n + 1
  long src b n m = length-cell (part src b n) ∙ ap (λ (z : ℕ). z + 1) (length_part src b n m)

  fields : read_line a (group_from s i k)
      ≡ text "group,"
      ++ cell (part sent (from + 41) 9)
      ++ cell (part s (i * 321 + 7) 12)
      ++ cell (first_key (records_from s (i + 1) k))
      ++ cell (part s (i * 321 + 30) 3)
      ++ ended (read_verdict a k)
  unfolding read_line cell
  fields =
      rw (
        part-drop sent from 41 9,
        part-part s (i * 321) 321 7 12 (omega arith),
        part-part s (i * 321) 321 30 3 (omega arith),
        length-records s (i + 1) k,
      )

  pub group-put : (xs o₁ o₂ o₃ o₄ o₅ o₆ : List ℕ) (at e : ℕ) → at ≤ length xs → o₁ ≡ put xs at (text "group,")
      → o₂ ≡ put o₁ (at + 6) (cell (part sent (from + 41) 9)) → o₃ ≡ put o₂ (at + 16) (cell (part s (i * 321 + 7) 12))
      → o₄ ≡ put o₃ (at + 29) (cell (first_key (records_from s (i + 1) k))) → o₅ ≡ put o₄ (at + 34) (cell (part s (i * 321 + 30) 3))
      → o₆ ≡ put o₅ (at + 38) (ended (read_verdict a k)) → e ≡ at + 38 + length (ended (read_verdict a k))
      → (o₆ ≡ put xs at (read_line a (group_from s i k))) × (e ≡ at + length (read_line a (group_from s i k)))
  group-put xs o₁ o₂ o₃ o₄ o₅ o₆ at e b p₁ p₂ p₃ p₄ p₅ p₆ q =
      let w1 = first xs at (text "group,") b p₁ refl in
      let w2 = next w1 (cell (part sent (from + 41) 9)) p₂ (long sent (from + 41) 9 (omega arith)) in
      let w3 = next w2 (cell (part s (i * 321 + 7) 12)) p₃ (long s (i * 321 + 7) 12 (omega arith)) in
      let w4 = next w3 (cell (first_key (records_from s (i + 1) k))) p₄ (length-cell _ ∙ ap (λ (z : ℕ). z + 1) (length-key s (i + 1) k (omega arith))) in
      let w5 = next w4 (cell (part s (i * 321 + 30) 3)) p₅ (long s (i * 321 + 30) 3 (omega arith)) in
      let w6 = next w5 (ended (read_verdict a k)) p₆ refl in
      (w6.same ∙ ap (put xs at) (sym fields), rw fields (omega (arith, w6.long)))

-- ---- how long a line and an answer may be
short-key : (ds : List (List ℕ)) → length (first_key ds) ≤ 4
short-key [] = omega (arith, length-filled 4 32)
short-key (d ∷ ds) = length-part-le d 41 4

short-verdict : (b : List ℕ) (k : ℕ) → length (read_verdict b k) ≤ 4
unfolding read_verdict
short-verdict b k = go (is_acf b) (eqb k 0)
  where
    go : (u v : Bool) → length (cond u (text "ACF") (cond v (text "BR17") (part (record_at b 1) 259 4))) ≤ 4
    go true v = omega arith
    go false true = omega arith
    go false false = length-part-le (record_at b 1) 259 4

pub short-line : (b : List ℕ) (g : Group) → length (read_line b g) ≤ 43
unfolding read_line ended
short-line b g =
    simp (length-append, length-cell) (
    omega (
      arith,
      length-part-le b 41 9,
      length-part-le g.header 7 12,
      length-part-le g.header 30 3,
      short-key g.details,
      short-verdict b (length g.details),
    )
    )

pub answer-short : (b : List ℕ) (k : ℕ) → answer_long b k ≤ (k + 1) * 321
unfolding answer_long
answer-short b k = go (is_acf b)
  where
    go : (u : Bool) → cond u 321 ((k + 1) * 321) ≤ (k + 1) * 321
    go true = omega arith
    go false = omega arith

-- ---- the group of record i of n, by the number of its details
group-is : (s : List ℕ) (i n k : ℕ) → k ≡ leading (records_after s i n) → group_from s i k ≡ group_at s i n
unfolding group_at
group-is s i n k e = ap (λ (ds : List (List ℕ)). record { header = record_at s i; details = ds }) (sym (details-are s i n k e))

pub turn_is : (s sent : List ℕ) (i n : ℕ) (xs out : List ℕ) (end from k end' from' : ℕ) → k ≡ leading (records_after s i n)
    → out ≡ put xs end (read_line (drop from sent) (group_from s i k)) → end' ≡ end + length (read_line (drop from sent) (group_from s i k))
    → from' ≡ from + answer_long (drop from sent) k
    → (out ≡ put xs end (read_line (drop from sent) (group_at s i n)))
    × (end' ≡ end + length (read_line (drop from sent) (group_at s i n)))
    × (from' ≡ from + answer_long (drop from sent) (length (group_at s i n).details))
turn_is s sent i n xs out end from k end' from' e o p q =
    let g : group_from s i k ≡ group_at s i n = group-is s i n k e in (
      o ∙ ap (λ (z : Group). put xs end (read_line (drop from sent) z)) g,
      p ∙ ap (λ (z : Group). end + length (read_line (drop from sent) z)) g,
      q ∙ ap (λ (m : ℕ). from + answer_long (drop from sent) m) (e ∙ sym (length-details s i n)),
    )
