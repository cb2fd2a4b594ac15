-- Laws of the loops over the places: one place more, read or written. Assumes nothing.
use Prim.Native.Nat.{ℕ, zero, suc, ◌+◌, ◌-◌, ◌*◌, ◌≤◌, ◌<◌}
use mathlib.Core.Path.{◌≡◌, refl, sym, ap, ap₂, ◌∙◌}
use mathlib.Core.Bool.{Bool, true, ◌&&◌}
use mathlib.Core.List.{List, [], ◌∷◌, ◌++◌, append_assoc, append-nil}
use native.Mathlib.Omega.{arith}
use native.Mathlib.Numerals.{add-one}
use native.Mathlib.Nat.{not-suc-le-zero, le_of_suc-le-suc}
use lib.ListN.{length, take, drop, get_or, set, length-drop, drop_of_length-le}
use lib.Seq.{drop-drop, take_all, length-take-le, take-suc, take_at, drop-append-add}
use Rattle.std.specs.List.{list_all, range_with_len}
use Rattle.fields.specs.Put.{put}
use Rattle.fields.proofs.PutLaws.{first, next}
use Rattle.fields.proofs.BoolLaws.{and_left, and_right}
use Rattle.ledger.specs.declared.Bill.{Bill}
use Rattle.ledger.specs.declared.Ledger.{Ledger}
use Rattle.words.specs.Layout.{place_size, terms_words, latest_words, last_words, bill_words, bills_words, head_words, ledger_words, holds_bill, holds_bills}
use Rattle.words.proofs.WordLaws.{length_last, length-bill, length-bills}

-- what a part that reaches to the end holds
pub rest : (ws : List ℕ) (at : ℕ) → take (length ws - at) (drop at ws) ≡ drop at ws
rest ws at = take_all (length ws - at) (drop at ws) (omega (arith, length-drop at ws))

-- place i of the words from the fifth on
pub place_at : (ws : List ℕ) (i : ℕ) → drop (place_size * i) (drop 4 ws) ≡ drop (4 + place_size * i) ws
place_at ws i = drop-drop (place_size * i) 4 ws

pub next_place : (ws : List ℕ) (i : ℕ) → drop (place_size * i) (drop place_size ws) ≡ drop (place_size * suc i) ws
next_place ws i =
    let e : place_size + place_size * i ≡ place_size * suc i = omega arith in
    drop-drop (place_size * i) place_size ws ∙ ap (λ (k : ℕ). drop k ws) e

-- ---- read
-- the tests of k places by number are those of the places one after the other
holds-from : (ws : List ℕ) (a k : ℕ) → list_all (λ i. holds_bill (drop (4 + place_size * i) ws)) (range_with_len a k) ≡ holds_bills k (drop (4 + place_size * a) ws)
unfolding holds_bills
holds-from ws a zero = refl
holds-from ws a (suc k) =
    let e : 4 + place_size * a + place_size ≡ 4 + place_size * (a + 1) = omega arith in
    ap (λ (b : Bool). holds_bill (drop (4 + place_size * a) ws) && b)
    (holds-from ws (a + 1) k
    ∙ sym (ap (holds_bills k) (drop-drop place_size (4 + place_size * a) ws ∙ ap (λ (n : ℕ). drop n ws) e)))

pub holds-first : (ws : List ℕ) (n : ℕ) → list_all (λ i. holds_bill (drop (4 + place_size * i) ws)) (range_with_len 0 n) ≡ holds_bills n (drop 4 ws)
holds-first ws n = holds-from ws 0 n

-- where all places pass, each does
holds-each : (n : ℕ) (ws : List ℕ) (i : ℕ) → holds_bills n ws ≡ true → i < n → holds_bill (drop (place_size * i) ws) ≡ true
unfolding holds_bills
holds-each zero ws i h k = absurd (not-suc-le-zero k)
holds-each (suc n) ws zero h k = and_left (holds_bill ws) (holds_bills n (drop place_size ws)) h
holds-each (suc n) ws (suc i) h k =
    ap holds_bill (sym (next_place ws i))
    ∙ holds-each n (drop place_size ws) i (and_right (holds_bill ws) (holds_bills n (drop place_size ws)) h) (le_of_suc-le-suc k)

pub holds_at : (ws : List ℕ) (i : ℕ) → holds_bills 128 (drop 4 ws) ≡ true → i < 128 → holds_bill (drop (4 + place_size * i) ws) ≡ true
holds_at ws i h k = ap holds_bill (sym (place_at ws i)) ∙ holds-each 128 (drop 4 ws) i h k

-- ---- written
words_append : (bs cs : List Bill) → bills_words (bs ++ cs) ≡ bills_words bs ++ bills_words cs
unfolding bills_words
words_append [] cs = refl
words_append (b ∷ bs) cs = ap (λ (ws : List ℕ). bill_words b ++ ws) (words_append bs cs) ∙ sym (append_assoc (bill_words b) (bills_words bs) (bills_words cs))

words-one : (b : Bill) → bills_words (b ∷ []) ≡ bill_words b
unfolding bills_words
words-one b = append-nil (bill_words b)

-- the words of one place more
words_more : (bs : List Bill) (i : ℕ) (d : Bill) → i < length bs → bills_words (take (i + 1) bs) ≡ bills_words (take i bs) ++ bill_words (get_or bs i d)
words_more bs i d h =
    ap bills_words (ap (λ (n : ℕ). take n bs) (add-one i) ∙ take-suc bs i d h)
    ∙ words_append (take i bs) (get_or bs i d ∷ [])
    ∙ ap (λ (ws : List ℕ). bills_words (take i bs) ++ ws) (words-one (get_or bs i d))

-- a put where the written part ends
put-after : (p ys ws : List ℕ) (n m : ℕ) → length p ≡ n → length ys ≡ m → put (p ++ drop n ws) n ys ≡ (p ++ ys) ++ drop (n + m) ws
unfolding put
put-after p ys ws n m e f =
    ap₂ (λ (x y : List ℕ). x ++ (ys ++ y)) (take_at p (drop n ws) n e)
    (ap (λ (k : ℕ). drop (k + length ys) (p ++ drop n ws)) (sym e)
    ∙ drop-append-add p (drop n ws) (length ys)
    ∙ drop-drop (length ys) n ws
    ∙ ap (λ (k : ℕ). drop (n + k) ws) f)
    ∙ sym (append_assoc p ys (drop (n + m) ws))

-- the four words and the first i places
unfoldable pub done : Ledger → ℕ → List ℕ
done l i = head_words l ++ bills_words (take i l.bills)

-- they are written, and what stood after them still stands there
abbrev pub written : Ledger → ℕ → List ℕ → List ℕ
written l i ws = done l i ++ drop (4 + place_size * i) ws

length-done : (l : Ledger) (i : ℕ) → i ≤ length l.bills → length (done l i) ≡ 4 + place_size * i
unfolding done head_words
length-done l i h = omega (arith, length-bills (take i l.bills), length-take-le i l.bills h)

done_more : (l : Ledger) (i : ℕ) (d : Bill) → i < length l.bills → done l (i + 1) ≡ done l i ++ bill_words (get_or l.bills i d)
unfolding done
done_more l i d h =
    ap (λ (ws : List ℕ). head_words l ++ ws) (words_more l.bills i d h)
    ∙ sym (append_assoc (head_words l) (bills_words (take i l.bills)) (bill_words (get_or l.bills i d)))

module _ (l : Ledger) (ws : List ℕ) where
  pub written-more : (i : ℕ) (d : Bill) (us vs : List ℕ) → i < length l.bills → us ≡ written l i ws
      → vs ≡ put us (4 + place_size * i) (bill_words (get_or l.bills i d)) → vs ≡ written l (i + 1) ws
  written-more i d us vs h e f =
      let b : Bill = get_or l.bills i d in
      let k : 4 + place_size * i + place_size ≡ 4 + place_size * (i + 1) = omega arith in
      f
      ∙ ap (λ (xs : List ℕ). put xs (4 + place_size * i) (bill_words b)) e
      ∙ put-after (done l i) (bill_words b) ws (4 + place_size * i) place_size (length-done l i (omega arith)) (length-bill b)
      ∙ ap₂ (λ (x : List ℕ) (n : ℕ). x ++ drop n ws) (sym (done_more l i d h)) k

  pub written_all : (i : ℕ) → length l.bills ≤ i → length ws ≤ 4 + place_size * i → written l i ws ≡ ledger_words l
  unfolding ledger_words done
  written_all i h k =
      ap₂ (λ (x : List Bill) (y : List ℕ). (head_words l ++ bills_words x) ++ y) (take_all i l.bills h) (drop_of_length-le ws k)
      ∙ append-nil (head_words l ++ bills_words l.bills)

-- a place written in three parts
pub put-parts : (b : Bill) (at : ℕ) (ws us vs xs : List ℕ) → at ≤ length ws → us ≡ put ws at (terms_words b.terms)
    → vs ≡ put us (at + 10) (latest_words b.terms.latest) → xs ≡ put vs (at + 15) (last_words b.posted b.terms.removal) → xs ≡ put ws at (bill_words b)
unfolding bill_words terms_words
put-parts b at ws us vs xs h e f g =
    (next (next (first ws at (terms_words b.terms) h e refl) (latest_words b.terms.latest) f refl) (last_words b.posted b.terms.removal) g
    (length_last b.posted b.terms.removal)).same

-- the four words, stored one by one
four-stored : (ws us : List ℕ) (a b c d : ℕ) → 4 ≤ length ws → us ≡ set (set (set (set ws 0 a) 1 b) 2 c) 3 d → us ≡ a ∷ b ∷ c ∷ d ∷ drop 4 us
four-stored [] us a b c d h e = absurd (omega arith)
four-stored (w ∷ []) us a b c d h e = absurd (omega arith)
four-stored (w ∷ x ∷ []) us a b c d h e = absurd (omega arith)
four-stored (w ∷ x ∷ y ∷ []) us a b c d h e = absurd (omega arith)
four-stored (w ∷ x ∷ y ∷ z ∷ ws) us a b c d h e = rw e

pub written_none : (l : Ledger) (ws us : List ℕ) → 4 ≤ length ws
    → us ≡ set (set (set (set ws 0 l.today.0) 1 l.next_tracking) 2 l.next_confirmation) 3 l.count → us ≡ written l 0 us
unfolding done head_words bills_words
written_none l ws us h e = four-stored ws us l.today.0 l.next_tracking l.next_confirmation l.count h e
