-- Words to ledger and back, and ledger to words and back. Assumes nothing.
use Prim.Native.Nat.{ℕ, zero, suc, ◌+◌, ◌*◌, ◌≤◌, ◌<◌}
use mathlib.Core.Path.{◌≡◌, refl, sym, ap, ap₂, ◌∙◌}
use mathlib.Core.Bool.{Bool, true, false, ◌&&◌, ◌||◌, false≢true, true≢false}
use mathlib.Core.List.{List, [], ◌∷◌, ◌++◌}
use native.Mathlib.Omega.{arith}
use lib.Dec.{leb, ltb, eqb}
use lib.ListN.{length, take, drop, get_or, length-append, length-drop, take-append-drop}
use lib.Seq.{drop-cons, drop_at}
use borrow.Author.Tests.{eqb-true, leb-true, ltb-true, eqb-false, eq-eqb, not-true, lt-ltb}
use Rattle.fields.proofs.BoolLaws.{and_left, and_right, cases}
use Rattle.ledger.specs.declared.Product.{Product}
use Rattle.ledger.specs.declared.Product.TheVariants as product
use Rattle.ledger.specs.declared.Posted.{Posted}
use Rattle.ledger.specs.declared.Posted.TheVariants as posted
use Rattle.ledger.specs.declared.Bill.{Bill}
use Rattle.ledger.specs.declared.Ledger.{Ledger}
use Rattle.rules.specs.Lists.{every}
use Rattle.ledger.specs.Bills.{product_byte, product_of}
use Rattle.ledger.specs.Sound.{sound_ledger}
use Rattle.words.specs.Layout.{place_size, ledger_size, mark_word, posted_words, removal_word, last_words, terms_words, bill_words, bills_words, head_words, ledger_words, holds_posted, holds_code, holds_bill, holds_bills, holds_ledger, posted_in, removal_in, code_in, terms_in, bill_in, bills_in, ledger_in, no_ledger, ledger_of, byte_code, removal_said, bill_said}
use Rattle.std.specs.Prelude.{Option, Some, None}
use Rattle.units.specs.declared.Date.{Date}

-- ---- one place
-- n elements from index i on, one by one
abbrev reads : ℕ → ℕ → List ℕ → List ℕ
reads zero i ws = []
reads (suc n) i ws = get_or ws i 0 ∷ reads n (suc i) ws

reads-part : (n i : ℕ) (ws : List ℕ) → i + n ≤ length ws → reads n i ws ≡ take n (drop i ws)
reads-part zero i ws h = refl
reads-part (suc n) i ws h =
    ap (λ (xs : List ℕ). get_or ws i 0 ∷ xs) (reads-part n (suc i) ws (omega arith))
    ∙ ap (take (suc n)) (sym (drop-cons ws i 0 (omega arith)))

product-word : (w : ℕ) → (eqb w 66 || eqb w 80) ≡ true → product_byte (product_of w) ≡ w
product-word w h =
    cases (eqb w 80) (λ e. rw e (sym (eqb-true w 80 e)))
    (λ e. cases (eqb w 66) (λ f. rw e (sym (eqb-true w 66 f))) (λ f. absurd (false≢true (rw (f, e) at h))))

mark-word : (w : ℕ) → leb w 1 ≡ true → mark_word (eqb w 1) ≡ w
mark-word w h =
    let k : w ≤ 1 = leb-true w 1 h in
    cases (eqb w 1) (λ e. rw e (sym (eqb-true w 1 e))) (λ e. rw e (omega (arith, eqb-false w 1 e)))

or_cases : {C : Type 0} (a b : Bool) → (a || b) ≡ true → (a ≡ true → C) → (b ≡ true → C) → C
or_cases true b h f g = f refl
or_cases false b h f g = g h

posted-words : (k c a o : ℕ) → holds_posted k c a o ≡ true → posted_words (posted_in k c a o) ≡ k ∷ c ∷ a ∷ o ∷ []
posted-words k c a o h =
    or_cases (eqb k 0 && (eqb c 0 && (eqb a 0 && eqb o 0))) ((eqb k 1 && (eqb a 0 && eqb o 0)) || eqb k 2) h
    (λ e.
    let f = and_right (eqb k 0) (eqb c 0 && (eqb a 0 && eqb o 0)) e in
    let g = and_right (eqb c 0) (eqb a 0 && eqb o 0) f in
    rw (
      eqb-true k 0 (and_left (eqb k 0) (eqb c 0 && (eqb a 0 && eqb o 0)) e),
      eqb-true c 0 (and_left (eqb c 0) (eqb a 0 && eqb o 0) f),
      eqb-true a 0 (and_left (eqb a 0) (eqb o 0) g),
      eqb-true o 0 (and_right (eqb a 0) (eqb o 0) g),
    ))
    (λ e.
    or_cases (eqb k 1 && (eqb a 0 && eqb o 0)) (eqb k 2) e
    (λ f.
    let g = and_right (eqb k 1) (eqb a 0 && eqb o 0) f in
    rw (
      eqb-true k 1 (and_left (eqb k 1) (eqb a 0 && eqb o 0) f),
      eqb-true a 0 (and_left (eqb a 0) (eqb o 0) g),
      eqb-true o 0 (and_right (eqb a 0) (eqb o 0) g),
    ))
    (λ f. rw (eqb-true k 2 f)))

removal-word : (w : ℕ) → removal_word (removal_in w) ≡ w
removal-word w = cases (eqb w 0) (λ e. rw e (sym (eqb-true w 0 e))) (λ e. rw e)

-- what the words of a place say, test by test
record Place (ws : List ℕ) : Type 0 where
  code : holds_code (get_or ws 2 0) (get_or ws 3 0) (get_or ws 4 0) (get_or ws 5 0) ≡ true
  product : (eqb (get_or ws 6 0) 66 || eqb (get_or ws 6 0) 80) ≡ true
  cancelled : leb (get_or ws 9 0) 1 ≡ true
  posted : holds_posted (get_or ws 15 0) (get_or ws 16 0) (get_or ws 17 0) (get_or ws 18 0) ≡ true

place : (ws : List ℕ) → holds_bill ws ≡ true → Place ws
unfolding holds_bill
place ws h =
    let a = holds_code (get_or ws 2 0) (get_or ws 3 0) (get_or ws 4 0) (get_or ws 5 0) in
    let b = eqb (get_or ws 6 0) 66 || eqb (get_or ws 6 0) 80 in
    let c = leb (get_or ws 9 0) 1 in
    let d = holds_posted (get_or ws 15 0) (get_or ws 16 0) (get_or ws 17 0) (get_or ws 18 0) in
    let r = and_right a (b && (c && d)) h in
    let q = and_right b (c && d) r in
    record { code = and_left a (b && (c && d)) h; product = and_left b (c && d) r; cancelled = and_left c d q; posted = and_right c d q }

-- a place's code words are bytes
pub code-bytes : (ws : List ℕ) → holds_bill ws ≡ true → (get_or ws 2 0 < 256) × (get_or ws 3 0 < 256) × (get_or ws 4 0 < 256) × (get_or ws 5 0 < 256)
code-bytes ws h =
    let a = ltb (get_or ws 2 0) 256 in
    let b = ltb (get_or ws 3 0) 256 in
    let c = ltb (get_or ws 4 0) 256 in
    let d = ltb (get_or ws 5 0) 256 in
    let p : (a && (b && (c && d))) ≡ true = (place ws h).code in
    let q = and_right a (b && (c && d)) p in
    let r = and_right b (c && d) q in
    (ltb-true _ _ (and_left a (b && (c && d)) p), ltb-true _ _ (and_left b (c && d) q), ltb-true _ _ (and_left c d r), ltb-true _ _ (and_right c d r))

-- and so is its product's word
pub product-byte : (ws : List ℕ) → holds_bill ws ≡ true → get_or ws 6 0 < 256
product-byte ws h =
    let w = get_or ws 6 0 in
    or_cases (eqb w 66) (eqb w 80) (place ws h).product (λ e. omega (arith, eqb-true w 66 e)) (λ e. omega (arith, eqb-true w 80 e))

pub four_bytes : (a b c d : ℕ) → a < 256 → b < 256 → c < 256 → d < 256 → holds_code a b c d ≡ true
four_bytes a b c d h i j k = rw (lt-ltb a 256 h, lt-ltb b 256 i, lt-ltb c 256 j, lt-ltb d 256 k)

-- the bill of a place's words has those words
bill-words : (ws : List ℕ) → holds_bill ws ≡ true → place_size ≤ length ws → bill_words (bill_in ws) ≡ take place_size ws
unfolding bill_words bill_in terms_in terms_words code_in
bill-words ws h k =
    let p : Place ws = place ws h in
    rw (
      product-word (get_or ws 6 0) p.product,
      mark-word (get_or ws 9 0) p.cancelled,
      posted-words (get_or ws 15 0) (get_or ws 16 0) (get_or ws 17 0) (get_or ws 18 0) p.posted,
      removal-word (get_or ws 19 0),
    )
    (reads-part place_size 0 ws (omega arith))

length-posted : (p : Posted) → length (posted_words p) ≡ 4
length-posted posted.None = refl
length-posted (posted.BillReady charge) = refl
length-posted (posted.Prepay charge applied owed) = refl

pub length_last : (p : Posted) (r : Option Date) → length (last_words p r) ≡ 5
length_last p r = simp length-append (omega (arith, length-posted p))

pub length-bill : (b : Bill) → length (bill_words b) ≡ place_size
unfolding bill_words terms_words
length-bill b = rw (length_last b.posted b.terms.removal)

-- a product, a mark, the posted amounts and a removal date are read back from their words, which are those of a place
product-back : (p : Product) → (product_of (product_byte p) ≡ p) × ((eqb (product_byte p) 66 || eqb (product_byte p) 80) ≡ true)
product-back product.BillReady = (refl, refl)
product-back product.Prepay = (refl, refl)

mark-back : (m : Bool) → (eqb (mark_word m) 1 ≡ m) × (leb (mark_word m) 1 ≡ true)
mark-back true = (refl, refl)
mark-back false = (refl, refl)

removal-back : (r : Option Date) → removal_said r ≡ true → removal_in (removal_word r) ≡ r
removal-back None h = refl
removal-back (Some d) h = rw (not-true (eqb d.0 0) h)

-- a removal date that was read from a word is said by it
pub removal-read : (w : ℕ) → removal_said (removal_in w) ≡ true
removal-read w = cases (eqb w 0) (λ e. rw e) (λ e. rw (e, e))

-- the amounts and the removal date at the end of a place
last-posted : (p : Posted) (r : Option Date) (ws : List ℕ) →
    let w = last_words p r ++ ws in
    (posted_in (get_or w 0 0) (get_or w 1 0) (get_or w 2 0) (get_or w 3 0) ≡ p)
    × (holds_posted (get_or w 0 0) (get_or w 1 0) (get_or w 2 0) (get_or w 3 0) ≡ true)
    × (get_or w 4 0 ≡ removal_word r)
last-posted posted.None r ws = (refl, refl, refl)
last-posted (posted.BillReady charge) r ws = (refl, refl, refl)
last-posted (posted.Prepay charge applied owed) r ws = (refl, refl, refl)

-- the bill of a bill's words is the bill, if they say its removal date
bill-in : (b : Bill) (ws : List ℕ) → removal_said b.terms.removal ≡ true → bill_in (bill_words b ++ ws) ≡ b
unfolding bill_words bill_in terms_in terms_words code_in
bill-in b ws h =
    let last = last-posted b.posted b.terms.removal ws in
    rw ((product-back b.terms.product).0, (mark-back b.terms.cancelled).0, last.0, last.2, removal-back b.terms.removal h)

-- and the words are those of a place, if its code is bytes
bill-holds : (b : Bill) (ws : List ℕ) → byte_code b ≡ true → holds_bill (bill_words b ++ ws) ≡ true
unfolding bill_words holds_bill terms_words
bill-holds b ws h =
    rw (h, (product-back b.terms.product).1, (mark-back b.terms.cancelled).1, (last-posted b.posted b.terms.removal ws).1)

-- ---- the places, one after the other
pub length-bills : (bs : List Bill) → length (bills_words bs) ≡ place_size * length bs
unfolding bills_words
length-bills [] = refl
length-bills (b ∷ bs) = simp length-append (omega (arith, length-bill b, length-bills bs))

drop-bill : (b : Bill) (ws : List ℕ) → drop place_size (bill_words b ++ ws) ≡ ws
drop-bill b ws = drop_at (bill_words b) ws place_size (length-bill b)

bills-in : (bs : List Bill) → every bill_said bs ≡ true → bills_in (length bs) (bills_words bs) ≡ bs
unfolding bills_in bills_words
bills-in [] h = refl
bills-in (b ∷ bs) h =
    let said = and_right (byte_code b) (removal_said b.terms.removal) (and_left (bill_said b) (every bill_said bs) h) in
    ap₂ (λ (x : Bill) (xs : List Bill). x ∷ xs) (bill-in b (bills_words bs) said)
    (ap (bills_in (length bs)) (drop-bill b (bills_words bs)) ∙ bills-in bs (and_right (bill_said b) (every bill_said bs) h))

bills-hold : (bs : List Bill) → every bill_said bs ≡ true → holds_bills (length bs) (bills_words bs) ≡ true
unfolding holds_bills bills_words
bills-hold [] h = refl
bills-hold (b ∷ bs) h =
    let code = and_left (byte_code b) (removal_said b.terms.removal) (and_left (bill_said b) (every bill_said bs) h) in
    rw (bill-holds b (bills_words bs) code)
    (ap (holds_bills (length bs)) (drop-bill b (bills_words bs)) ∙ bills-hold bs (and_right (bill_said b) (every bill_said bs) h))

bills-words : (n : ℕ) (ws : List ℕ) → holds_bills n ws ≡ true → length ws ≡ place_size * n → bills_words (bills_in n ws) ≡ ws
unfolding holds_bills bills_in bills_words
bills-words zero [] h k = refl
bills-words zero (w ∷ ws) h k = absurd (omega arith)
bills-words (suc n) ws h k =
    ap₂ (λ (x xs : List ℕ). x ++ xs)
    (bill-words ws (and_left (holds_bill ws) (holds_bills n (drop place_size ws)) h) (omega arith))
    (bills-words n (drop place_size ws) (and_right (holds_bill ws) (holds_bills n (drop place_size ws)) h) (rw length-drop (omega arith)))
    ∙ take-append-drop place_size ws

-- ---- the ledger
pub length-words : (l : Ledger) → length l.bills ≡ 128 → length (ledger_words l) ≡ ledger_size
unfolding ledger_words head_words
length-words l h = omega (arith, length-bills l.bills)

-- words that are those of a ledger
module _ (ws : List ℕ) (h : holds_ledger ws ≡ true) where
  pub words_long : length ws ≡ ledger_size
  unfolding holds_ledger
  words_long = eqb-true (length ws) ledger_size (and_left (eqb (length ws) ledger_size) (holds_bills 128 (drop 4 ws)) h)

  pub words-bills : holds_bills 128 (drop 4 ws) ≡ true
  unfolding holds_ledger
  words-bills = and_right (eqb (length ws) ledger_size) (holds_bills 128 (drop 4 ws)) h

  pub of_words : ledger_of ws ≡ ledger_in ws
  unfolding ledger_of
  of_words = rw h

-- words to ledger and back
ledger-in-words : (ws : List ℕ) → length ws ≡ ledger_size → holds_bills 128 (drop 4 ws) ≡ true → ledger_words (ledger_in ws) ≡ ws
unfolding ledger_words head_words ledger_in
ledger-in-words ws h k =
    ap₂ (λ (x xs : List ℕ). x ++ xs) (reads-part 4 0 ws (omega arith))
    (bills-words 128 (drop 4 ws) k (rw length-drop (omega arith)))
    ∙ take-append-drop 4 ws

pub words-ledger : (ws : List ℕ) → holds_ledger ws ≡ true → ledger_words (ledger_of ws) ≡ ws
words-ledger ws h = ap ledger_words (of_words ws h) ∙ ledger-in-words ws (words_long ws h) (words-bills ws h)

-- ledger to words and back
module _ (l : Ledger) (k : length l.bills ≡ 128) where
  places-hold : every bill_said l.bills ≡ true → holds_bills 128 (drop 4 (ledger_words l)) ≡ true
  unfolding ledger_words head_words
  places-hold h = ap (λ (n : ℕ). holds_bills n (bills_words l.bills)) (sym k) ∙ bills-hold l.bills h

  pub holds-words : every bill_said l.bills ≡ true → holds_ledger (ledger_words l) ≡ true
  unfolding holds_ledger
  holds-words h = rw (eq-eqb (length (ledger_words l)) ledger_size (length-words l k)) (places-hold h)

  ledger-in : every bill_said l.bills ≡ true → ledger_in (ledger_words l) ≡ l
  unfolding ledger_in ledger_words head_words
  ledger-in h = rw (ap (λ (n : ℕ). bills_in n (bills_words l.bills)) (sym k) ∙ bills-in l.bills h)

  pub ledger-words : every bill_said l.bills ≡ true → ledger_of (ledger_words l) ≡ l
  ledger-words h = of_words (ledger_words l) (holds-words h) ∙ ledger-in h

-- words of no ledger give one that is not sound
no-sound : sound_ledger no_ledger ≡ false
unfolding no_ledger sound_ledger
no-sound = refl

pub no-ledger : (ws : List ℕ) → holds_ledger ws ≡ false → sound_ledger (ledger_of ws) ≡ false
unfolding ledger_of
no-ledger ws h = rw h no-sound

-- so a sound ledger's words are those of a ledger
pub sound-holds : (ws : List ℕ) → sound_ledger (ledger_of ws) ≡ true → holds_ledger ws ≡ true
sound-holds ws h = cases (holds_ledger ws) (λ e. e) (λ e. absurd (true≢false (sym h ∙ no-ledger ws e)))
