-- The lengths of the table's parts, and one line more. Assumes nothing.
use Prim.Native.Nat.{ℕ, ◌+◌, ◌*◌, ◌≤◌, ◌<◌}
use mathlib.Core.Path.{◌≡◌, refl, sym, ap, ◌∙◌}
use mathlib.Core.Bool.{Bool, true, false}
use mathlib.Core.List.{List, [], ◌∷◌, ◌++◌, append_assoc, append-nil}
use native.Mathlib.Omega.{arith}
use native.Mathlib.Numerals.{add-one}
use borrow.Author.Tests.{lt-ltb, le-ltb}
use lib.ListN.{length, get_or, take, drop, length-append, take-append-drop}
use lib.Seq.{take-suc, length-take-le, get_or-take}
use Rattle.fields.specs.Digits.{digits, number}
use Rattle.fields.specs.Put.{put}
use Rattle.fields.proofs.DigitLaws.{length_digits, number_digits}
use Rattle.fields.proofs.PutLaws.{length-put, put-nil, first, next}
use Rattle.units.specs.declared.Date.{Date}
use Rattle.ledger.specs.declared.Posted.{Posted}
use Rattle.ledger.specs.declared.Terms.{Terms}
use Rattle.ledger.specs.declared.Bill.{Bill}
use Rattle.ledger.specs.declared.Ledger.{Ledger}
use Rattle.ledger.specs.declared.LedgerHeader.{LedgerHeader}
use Rattle.rules.specs.Lists.{every}
use Rattle.ledger.specs.Bills.{blank_bill}
use Rattle.ledger.specs.Books.{Book, book, live, small_charge, total_of}
use Rattle.ledger.specs.parts.Places.{header_of}
use Rattle.ledger.specs.Sound.{sound_ledger}
use Rattle.ledger.proofs.BookLaws.{total-small, length-live}
use Rattle.table.specs.Table.{cell, ended, heading, terms_cells, amount_cells, state_cell, line_of, lines_of, total_line, stop_line, table_of, heading_size, line_size, total_size, stop_size, table_room, printed_by, printed}
use Rattle.std.specs.Prelude.{Result, Ok, Err}
use Rattle.rules.specs.declared.Cause.{Cause}
use Rattle.rules.specs.declared.Cause.TheVariants.{OutputTooSmall, BadArgument}

-- ---- lengths
pub length-cell : (xs : List ℕ) → length (cell xs) ≡ length xs + 1
unfolding cell
length-cell xs = length-append xs _

pub length-number : (w n : ℕ) → length (cell (digits w n)) ≡ w + 1
length-number w n = simp (length-cell, length_digits)

pub length-terms : (t : Terms) → length (terms_cells t) ≡ 30
unfolding terms_cells
length-terms t = simp (length-append, length-cell, length_digits)

pub length-amounts : (p : Posted) → length (amount_cells p) ≡ 42
unfolding amount_cells
length-amounts p = simp (length-append, length-cell, length_digits)

pub length-state : (today : Date) (t : Terms) → length (state_cell today t) ≡ 2
unfolding state_cell ended
length-state today t = refl

pub length-line : (today : Date) (b : Bill) → length (line_of today b) ≡ line_size
unfolding line_of
length-line today b = simp (length-append, length-terms, length-number, length-amounts, length-state)

pub length-lines : (today : Date) (bs : List Bill) → length (lines_of today bs) ≡ line_size * length bs
length-lines today [] = refl
length-lines today (b ∷ bs) =
    length-append (line_of today b) (lines_of today bs) ∙ (omega (arith, length-line today b, length-lines today bs))

pub length-total : (total : ℕ) → length (total_line total) ≡ total_size
unfolding total_line ended
length-total total = simp (length-append, length_digits)

pub length-stop : (stopped : Bool) → length (stop_line stopped) ≤ stop_size
unfolding stop_line ended
length-stop true = omega arith
length-stop false = omega arith

-- ---- the lines of a ledger
lines-append : (today : Date) (xs ys : List Bill) → lines_of today (xs ++ ys) ≡ lines_of today xs ++ lines_of today ys
lines-append today [] ys = refl
lines-append today (x ∷ xs) ys =
    ap (λ (l : List ℕ). line_of today x ++ l) (lines-append today xs ys) ∙ sym (append_assoc (line_of today x) (lines_of today xs) (lines_of today ys))

lines_more : (today : Date) (bs : List Bill) (i : ℕ) → i < length bs
    → lines_of today (take (i + 1) bs) ≡ lines_of today (take i bs) ++ line_of today (get_or bs i blank_bill)
lines_more today bs i h =
    ap (λ (k : ℕ). lines_of today (take k bs)) (add-one i)
    ∙ ap (lines_of today) (take-suc bs i blank_bill h)
    ∙ lines-append today (take i bs) (get_or bs i blank_bill ∷ [])
    ∙ ap (λ (l : List ℕ). lines_of today (take i bs) ++ l) (append-nil (line_of today (get_or bs i blank_bill)))

-- the output with the lines of the first i bills: it keeps its length, and one line more
module _ (xs : List ℕ) (at : ℕ) (today : Date) (bs : List Bill) (i : ℕ) where
  pub lines-kept : at + line_size * length bs ≤ length xs → length (put xs at (lines_of today (take i bs))) ≡ length xs
  lines-kept h = length-put xs at (lines_of today (take i bs)) (omega (arith, length-lines today (take i bs), length-append (take i bs) (drop i bs), ap (λ (l : List Bill). length l) (take-append-drop i bs), h))

  pub line-more : at ≤ length xs → i < length bs
      → put xs at (lines_of today (take (i + 1) bs)) ≡ put (put xs at (lines_of today (take i bs))) (at + line_size * i) (line_of today (get_or bs i blank_bill))
  line-more h l =
      let k : length (lines_of today (take i bs)) ≡ line_size * i = length-lines today (take i bs) ∙ ap (λ (j : ℕ). line_size * j) (length-take-le i bs (omega arith)) in
      let w = first xs at (lines_of today (take i bs)) h refl k in
      ap (put xs at) (lines_more today bs i l) ∙ sym (next w (line_of today (get_or bs i blank_bill)) refl (length-line today _)).same

-- the line of the bill at place i, after those of the bills before it
pub line-in : (out₀ : List ℕ) (at : ℕ) (today : Date) (bs : List Bill) (n i : ℕ) (o : List ℕ) (b : Bill) (o' : List ℕ) → i < n → n ≤ length bs
    → at ≤ length out₀ → o ≡ put out₀ at (lines_of today (take i (take n bs))) → b ≡ get_or bs i blank_bill
    → o' ≡ put o (at + line_size * i) (line_of today b) → o' ≡ put out₀ at (lines_of today (take (i + 1) (take n bs)))
line-in out₀ at today bs n i o b o' h k a f g q =
    let m : length (take n bs) ≡ n = length-take-le n bs k in
    let d : b ≡ get_or (take n bs) i blank_bill = g ∙ sym (get_or-take n bs i blank_bill h) in
    q
    ∙ ap (λ (x : List ℕ). put x (at + line_size * i) (line_of today b)) f
    ∙ ap (λ (x : Bill). put (put out₀ at (lines_of today (take i (take n bs)))) (at + line_size * i) (line_of today x)) d
    ∙ sym (line-more out₀ at today (take n bs) i a (omega (arith, m)))

-- ---- the whole
-- a table has at most 10,970 bytes
pub length-table : (l : Book) (stopped : Bool) → length l.bills ≤ 128 → length (table_of l stopped) ≤ table_room
unfolding table_of heading ended
length-table l stopped h =
    simp (length-append, length-total) (omega (arith, length-lines l.today l.bills, length-stop stopped))

-- a table written in four parts, each where the one before ended
pub record TableIn (l : Ledger) (stopped : Bool) (out₀ out : List ℕ) (r : ℕ) : Type 0 where
  pub long : r ≡ length (table_of (book l) stopped)
  pub bytes : out ≡ put out₀ 0 (table_of (book l) stopped)
  pub small : r ≤ table_room

module _ (l : Ledger) (stopped : Bool) (few : l.count ≤ 128) (places : length l.bills ≡ 128) (out₀ : List ℕ) where
  pub table-in : (o₁ o₂ o₃ o₄ : List ℕ) (end total r : ℕ) → o₁ ≡ put out₀ 0 heading → end ≡ heading_size + line_size * l.count
      → o₂ ≡ put o₁ heading_size (lines_of l.today (live l)) → total ≡ total_of (live l) → o₃ ≡ put o₂ end (total_line total)
      → r ≡ end + total_size + length (stop_line stopped) → o₄ ≡ put o₃ (end + total_size) (stop_line stopped) → TableIn l stopped out₀ o₄ r
  unfolding table_of heading ended
  table-in o₁ o₂ o₃ o₄ end total r p₁ e p₂ t p₃ q p₄ =
      let k : length (live l) ≡ l.count = length-live l (omega arith) in
      let m : length (lines_of l.today (live l)) ≡ line_size * l.count = length-lines l.today (live l) ∙ ap (λ (j : ℕ). line_size * j) k in
      let e₁ : end ≡ 0 + (heading_size + line_size * l.count) = omega arith in
      let e₂ : end + total_size ≡ 0 + (heading_size + line_size * l.count + total_size) = omega arith in
      let w₁ = first out₀ 0 heading (omega arith) p₁ refl in
      let w₂ = next w₁ (lines_of l.today (live l)) p₂ m in
      let w₃ = next w₂ (total_line (total_of (live l))) (rw (e₁, t) at p₃) (length-total (total_of (live l))) in
      let w₄ = next w₃ (stop_line stopped) (rw e₂ at p₄) refl in
      let n : r ≡ length (table_of (book l) stopped) = omega (arith, w₄.long) in
      record { long = n; bytes = w₄.same; small = omega (arith, n, length-table (book l) stopped (omega (arith, k))) }

  -- the same with the parts of the header that was read
  pub table-by : (h : LedgerHeader) → h ≡ header_of l → (o₁ o₂ o₃ o₄ : List ℕ) (end total r : ℕ) → o₁ ≡ put out₀ 0 heading
      → end ≡ heading_size + line_size * h.count → o₂ ≡ put o₁ heading_size (lines_of h.today (take h.count l.bills))
      → total ≡ total_of (take h.count l.bills) → o₃ ≡ put o₂ end (total_line total) → r ≡ end + total_size + length (stop_line stopped)
      → o₄ ≡ put o₃ (end + total_size) (stop_line stopped) → TableIn l stopped out₀ o₄ r
  table-by h f o₁ o₂ o₃ o₄ end total r p₁ e p₂ t p₃ q p₄ =
      table-in o₁ o₂ o₃ o₄ end total r p₁ (e ∙ ap (λ (x : LedgerHeader). heading_size + line_size * x.count) f)
      (p₂ ∙ ap (λ (x : LedgerHeader). put o₁ heading_size (lines_of x.today (take x.count l.bills))) f)
      (t ∙ ap (λ (x : LedgerHeader). total_of (take x.count l.bills)) f) p₃ q p₄

-- 16 digits hold the total of 128 bills: the number that is printed is the total
pub total-read : (bs : List Bill) → length bs ≤ 128 → every small_charge bs ≡ true → number (digits 16 (total_of bs)) ≡ total_of bs
total-read bs h s = number_digits 16 (total_of bs) (omega (arith, total-small bs s))

-- ---- the table asked for: the answer, and what the output holds
abbrev pub Prints : Ledger → Bool → List ℕ → List ℕ → Result ℕ Cause → Type 0
Prints l stopped out₀ out r = (r ≡ printed_by l stopped (length out₀)) × (out ≡ put out₀ 0 (printed l stopped (length out₀)))

module _ (l : Ledger) (stopped : Bool) (out : List ℕ) where
  pub prints-unsound : sound_ledger l ≡ false → Prints l stopped out out (Err BadArgument)
  unfolding printed_by printed
  prints-unsound s = (rw s, rw s (put-nil out 0))

  module _ (s : sound_ledger l ≡ true) where
    pub prints-none : length out < table_room → Prints l stopped out out (Err OutputTooSmall)
    unfolding printed_by printed
    prints-none h = (rw (s, lt-ltb (length out) table_room h), rw (s, lt-ltb (length out) table_room h) (put-nil out 0))

    pub prints : (o : List ℕ) (n : ℕ) → table_room ≤ length out → n ≡ length (table_of (book l) stopped)
        → o ≡ put out 0 (table_of (book l) stopped) → Prints l stopped out o (Ok n)
    unfolding printed_by printed
    prints o n h e f = (rw (s, le-ltb (length out) table_room h) (ap Ok e), rw (s, le-ltb (length out) table_room h) f)
