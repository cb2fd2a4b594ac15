-- The parts of a ledger in words: what a read gives, and what a store leaves. Assumes nothing.
use Prim.Native.Nat.{ℕ, zero, suc, ◌+◌, ◌*◌, ◌≤◌, ◌<◌}
use mathlib.Core.Path.{◌≡◌, refl, sym, ap, ap₂, ◌∙◌}
use mathlib.Core.Bool.{Bool, true}
use mathlib.Core.List.{List, [], ◌∷◌, ◌++◌}
use native.Mathlib.Omega.{arith}
use native.Mathlib.Nat.{not-suc-le-zero, le_of_suc-le-suc}
use mir.Val.{Val}
use denote.Laws.{Is}
use lib.ListN.{length, drop, get_or, set, length-set, length-drop}
use lib.Seq.{drop_at}
use borrow.Author.Tests.{eq-eqb}
use Rattle.fields.specs.Put.{put}
use Rattle.fields.proofs.BoolLaws.{and_left, and_right}
use Rattle.ledger.specs.declared.Bill.{Bill}
use Rattle.ledger.specs.declared.Ledger.{Ledger}
use Rattle.ledger.specs.declared.LedgerHeader.{LedgerHeader}
use Rattle.rules.specs.Lists.{every}
use Rattle.ledger.specs.Bills.{blank_bill}
use Rattle.ledger.specs.parts.Places.{bill_at, header_of, replaced, with_header}
use Rattle.ledger.specs.contracts.Bill.{the_row}
use Rattle.words.specs.Layout.{place_size, ledger_size, bill_words, bills_words, head_words, ledger_words, holds_code, holds_bill, holds_bills, holds_ledger, code_in, terms_in, bill_in, bills_in, ledger_in, ledger_of, byte_code, removal_said, bill_said}
use Rattle.units.specs.Calendar.{date_of}
use Rattle.words.proofs.WordLaws.{four_bytes, removal-read, length-bill, words_long, words-bills, of_words, words-ledger, holds-words, ledger-words}
use Rattle.words.proofs.WordPlaceLaws.{place_at, next_place}

-- ---- lists
get_d_drop : (ws : List ℕ) (n i : ℕ) → get_or (drop n ws) i 0 ≡ get_or ws (n + i) 0
get_d_drop ws zero i = let e : 0 + i ≡ i = omega arith in rw e
get_d_drop [] (suc n) i = refl
get_d_drop (w ∷ ws) (suc n) i = let e : suc n + i ≡ suc (n + i) = omega arith in rw e (get_d_drop ws n i)

every_set : (q : Bill → Bool) (bs : List Bill) (p : ℕ) (b : Bill) → every q bs ≡ true → q b ≡ true → every q (set bs p b) ≡ true
every_set q [] p b a e = refl
every_set q (x ∷ bs) zero b a e = rw e (and_right (q x) (every q bs) a)
every_set q (x ∷ bs) (suc p) b a e = rw (and_left (q x) (every q bs) a) (every_set q bs p b (and_right (q x) (every q bs) a) e)

-- a put past the start leaves the start
put-past : (xs ws : List ℕ) (n : ℕ) (ys : List ℕ) → put (xs ++ ws) (length xs + n) ys ≡ xs ++ put ws n ys
unfolding put
put-past [] ws n ys = let e : 0 + n ≡ n = omega arith in rw e refl
put-past (x ∷ xs) ws n ys =
    let e : length (x ∷ xs) + n ≡ suc (length xs + n) = omega arith in
    let f : suc (length xs + n) + length ys ≡ suc (length xs + n + length ys) = omega arith in
    rw (e, f) (ap (λ (l : List ℕ). x ∷ l) (put-past xs ws n ys))

put-start : (xs ws ys : List ℕ) → length ys ≡ length xs → put (xs ++ ws) 0 ys ≡ ys ++ ws
unfolding put
put-start xs ws ys e = ap (λ (l : List ℕ). ys ++ l) (drop_at xs ws (0 + length ys) (omega arith))

put-bills : (bs : List Bill) (p : ℕ) (b : Bill) → p < length bs → put (bills_words bs) (place_size * p) (bill_words b) ≡ bills_words (set bs p b)
unfolding bills_words
put-bills [] p b h = absurd (omega arith)
put-bills (x ∷ bs) zero b h = put-start (bill_words x) (bills_words bs) (bill_words b) (length-bill b ∙ sym (length-bill x))
put-bills (x ∷ bs) (suc p) b h =
    let e : place_size * suc p ≡ length (bill_words x) + place_size * p = omega (arith, length-bill x) in
    rw e (put-past (bill_words x) (bills_words bs) (place_size * p) (bill_words b) ∙ ap (λ (l : List ℕ). bill_words x ++ l) (put-bills bs p b (omega arith)))

-- a place's words put are those of the ledger with the bill replaced
pub put-place : (l : Ledger) (p : ℕ) (b : Bill) → p < length l.bills → put (ledger_words l) (4 + place_size * p) (bill_words b) ≡ ledger_words (replaced l p b)
unfolding ledger_words head_words
put-place l p b h =
    put-past (head_words l) (bills_words l.bills) (place_size * p) (bill_words b) ∙ ap (λ (ws : List ℕ). head_words l ++ ws) (put-bills l.bills p b h)

-- ---- what the words' places hold
length-in : (n : ℕ) (ws : List ℕ) → length (bills_in n ws) ≡ n
unfolding bills_in
length-in zero ws = refl
length-in (suc n) ws = ap suc (length-in n (drop place_size ws))

in-at : (n : ℕ) (ws : List ℕ) (i : ℕ) (d : Bill) → i < n → get_or (bills_in n ws) i d ≡ bill_in (drop (place_size * i) ws)
unfolding bills_in
in-at zero ws i d h = absurd (not-suc-le-zero h)
in-at (suc n) ws zero d h = refl
in-at (suc n) ws (suc i) d h = in-at n (drop place_size ws) i d (le_of_suc-le-suc h) ∙ ap bill_in (next_place ws i)

said_in : (ws : List ℕ) → holds_bill ws ≡ true → bill_said (bill_in ws) ≡ true
unfolding holds_bill bill_in terms_in code_in
said_in ws h = rw (and_left (holds_code (get_or ws 2 0) (get_or ws 3 0) (get_or ws 4 0) (get_or ws 5 0)) _ h) (removal-read (get_or ws 19 0))

all_said : (n : ℕ) (ws : List ℕ) → holds_bills n ws ≡ true → every bill_said (bills_in n ws) ≡ true
unfolding holds_bills bills_in
all_said zero ws h = refl
all_said (suc n) ws h =
    rw (said_in ws (and_left (holds_bill ws) (holds_bills n (drop place_size ws)) h))
    (all_said n (drop place_size ws) (and_right (holds_bill ws) (holds_bills n (drop place_size ws)) h))

-- what a function is told of a bill says that its code is bytes
pub told-code : (b : Bill) (vs : List Val) → Is the_row b vs → byte_code b ≡ true
told-code b vs s =
    let code = s.1.1.0.1.1.1.0.1.1 in
    four_bytes _ _ _ _ code.0.1 code.1.0.1 code.1.1.0.1 code.1.1.1.0.1

-- ---- words that are those of a ledger
module _ (ws : List ℕ) (h : holds_ledger ws ≡ true) where
  pub places_of : length (ledger_of ws).bills ≡ 128
  unfolding ledger_in
  places_of = ap (λ (l : Ledger). length l.bills) (of_words ws h) ∙ length-in 128 (drop 4 ws)

  said_of : every bill_said (ledger_of ws).bills ≡ true
  unfolding ledger_in
  said_of = ap (λ (l : Ledger). every bill_said l.bills) (of_words ws h) ∙ all_said 128 (drop 4 ws) (words-bills ws h)

  -- the header
  pub header_of_lem : header_of (ledger_of ws) ≡ record { today = date_of (get_or ws 0 0); tracking = get_or ws 1 0; confirmation = get_or ws 2 0; count = get_or ws 3 0 }
  unfolding ledger_in
  header_of_lem = ap header_of (of_words ws h)

  -- the bill at a place
  pub bill-of : (p : ℕ) → p < 128 → bill_in (drop (4 + place_size * p) ws) ≡ bill_at (ledger_of ws) p
  unfolding ledger_in
  bill-of p k =
      sym (ap (λ (l : Ledger). bill_at l p) (of_words ws h) ∙ in-at 128 (drop 4 ws) p blank_bill k ∙ ap bill_in (place_at ws p))

  -- its removal date is said by its word
  pub removal-said : (p : ℕ) → p < 128 → removal_said (bill_at (ledger_of ws) p).terms.removal ≡ true
  unfolding bill_in terms_in
  removal-said p k =
      ap (λ (b : Bill). removal_said b.terms.removal) (sym (bill-of p k)) ∙ removal-read (get_or (drop (4 + place_size * p) ws) 19 0)

  -- the words of another struct of 128 places whose bills are said by words
  holds_as : (us : List ℕ) (l : Ledger) → length l.bills ≡ 128 → every bill_said l.bills ≡ true → us ≡ ledger_words l
      → (holds_ledger us ≡ true) × (ledger_of us ≡ l)
  holds_as us l k b e = (ap holds_ledger e ∙ holds-words l k b, ap ledger_of e ∙ ledger-words l k b)

  pub bill-put : (p : ℕ) (b : Bill) (us : List ℕ) → p < 128 → bill_said b ≡ true → us ≡ put ws (4 + place_size * p) (bill_words b)
      → (holds_ledger us ≡ true) × (ledger_of us ≡ replaced (ledger_of ws) p b)
  bill-put p b us k c e =
      let l : Ledger = ledger_of ws in
      holds_as us (replaced l p b) (length-set l.bills p b ∙ places_of) (every_set bill_said l.bills p b said_of c)
      (e ∙ ap (λ (xs : List ℕ). put xs (4 + place_size * p) (bill_words b)) (sym (words-ledger ws h)) ∙ put-place l p b (omega (arith, places_of)))

  -- the identity at a place
  pub identity-of : (p : ℕ) → p < 128
      → record { account = get_or ws (4 + place_size * p) 0; key = get_or ws (4 + place_size * p + 1) 0 } ≡ (bill_at (ledger_of ws) p).terms.identity
  unfolding bill_in terms_in
  identity-of p k =
      ap₂ (λ (x y : ℕ). record { account = x; key = y })
      (ap (λ (i : ℕ). get_or ws i 0) (omega arith) ∙ sym (get_d_drop ws (4 + place_size * p) 0))
      (sym (get_d_drop ws (4 + place_size * p) 1))
      ∙ ap (λ (b : Bill). b.terms.identity) (bill-of p k)

-- the four words of the header, stored one by one
four-stored : (ws : List ℕ) (a b c d : ℕ) → 4 ≤ length ws → set (set (set (set ws 0 a) 1 b) 2 c) 3 d ≡ a ∷ b ∷ c ∷ d ∷ drop 4 ws
four-stored [] a b c d h = absurd (omega arith)
four-stored (w ∷ []) a b c d h = absurd (omega arith)
four-stored (w ∷ x ∷ []) a b c d h = absurd (omega arith)
four-stored (w ∷ x ∷ y ∷ []) a b c d h = absurd (omega arith)
four-stored (w ∷ x ∷ y ∷ z ∷ ws) a b c d h = refl

module _ (ws : List ℕ) (h : holds_ledger ws ≡ true) (t : LedgerHeader) where
  abbrev headed : List ℕ
  headed = t.today.0 ∷ t.tracking ∷ t.confirmation ∷ t.count ∷ drop 4 ws

  headed-holds : holds_ledger headed ≡ true
  unfolding holds_ledger
  headed-holds =
      let e : length headed ≡ ledger_size = omega (arith, length-drop 4 ws, words_long ws h) in
      rw (eq-eqb (length headed) ledger_size e) (words-bills ws h)

  headed-is : ledger_of headed ≡ with_header (ledger_of ws) t
  unfolding ledger_in
  headed-is = of_words headed headed-holds ∙ ap (λ (l : Ledger). with_header l t) (sym (of_words ws h))

  pub header-put : (us : List ℕ) → us ≡ set (set (set (set ws 0 t.today.0) 1 t.tracking) 2 t.confirmation) 3 t.count
      → (holds_ledger us ≡ true) × (ledger_of us ≡ with_header (ledger_of ws) t)
  header-put us e =
      let f : us ≡ headed = e ∙ four-stored ws t.today.0 t.tracking t.confirmation t.count (omega (arith, words_long ws h)) in
      (ap holds_ledger f ∙ headed-holds, ap ledger_of f ∙ headed-is)
