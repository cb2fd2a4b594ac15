-- What soundness says, fact by fact, and the laws of the walk that checks it. Assumes nothing.
use Prim.Native.Nat.{ℕ, ◌+◌, ◌≤◌, ◌<◌, ◌^◌}
use mathlib.Core.Path.{◌≡◌, refl, ap}
use mathlib.Core.Bool.{Bool, true, false, not, ◌&&◌, and-false, and-true}
use mathlib.Core.List.{List, [], ◌∷◌}
use lib.Dec.{leb, eqb}
use lib.ListN.{length}
use native.Mathlib.Decide.{dec_le}
use native.Mathlib.Omega.{arith}
use borrow.Author.Rules.{rules}
use borrow.Author.Tests.{lt-ltb, le-leb, lt-leb, leb-true, ltb-true}
use Rattle.fields.proofs.BoolLaws.{and_left, and_right}
use Rattle.units.specs.declared.Cents.{Cents}
use Rattle.units.specs.Units.{fits_cents}
use Rattle.units.specs.Calendar.{is_date}
use Rattle.ledger.specs.declared.Identity.{Identity}
use Rattle.ledger.specs.declared.Posted.{Posted}
use Rattle.ledger.specs.declared.Posted.TheVariants as posted
use Rattle.ledger.specs.declared.Terms.{Terms}
use Rattle.ledger.specs.declared.Bill.{Bill}
use Rattle.ledger.specs.declared.Ledger.{Ledger}
use Rattle.rules.specs.Lists.{every}
use Rattle.ledger.specs.Bills.{is_rate_code, code_bytes, charge_of, is_prepay, moved}
use Rattle.ledger.specs.Books.{Book, book, live, small_charge}
use Rattle.ledger.specs.Sound.{is_next, sound_removal, terms_tests, sound_terms, balanced, sound_amounts, sound_bill, holds_id, distinct, book_tests, sound, sound_ledger}
use Rattle.ledger.proofs.BookLaws.{length-live}
use Rattle.rules.proofs.ListLaws.{all-on, on-all, every_map}

-- ---- the facts of a sound bill
pub record TermsFacts (t : Terms) : Type 0 where
  pub account : t.identity.account < 10 ^ 12
  pub key : t.identity.key < 10 ^ 4
  pub code : is_rate_code (code_bytes t.code) ≡ true
  pub asked : 1 ≤ t.requests
  pub requests : t.requests ≤ t.sequence
  pub sequence : t.sequence ≤ 999
  pub from_one : 1 ≤ t.latest.tracking
  pub tracking : t.latest.tracking ≤ 999999999
  pub consumption : t.latest.consumption.0 < 10 ^ 10
  pub billing : is_date t.latest.billing.0 ≡ true
  pub from : is_date t.latest.from.0 ≡ true
  pub scheduled : is_date t.latest.scheduled.0 ≡ true
  pub removal : sound_removal t.removal ≡ true

pub terms-facts : (t : Terms) → sound_terms t ≡ true → TermsFacts t
unfolding terms_tests
terms-facts t h =
    let o = all-on (terms_tests t) h in
    record {
      account = ltb-true _ _ o.0;
      key = ltb-true _ _ o.1.0;
      code = o.1.1.0;
      asked = leb-true _ _ o.1.1.1.0;
      requests = leb-true _ _ o.1.1.1.1.0;
      sequence = leb-true _ _ o.1.1.1.1.1.0;
      from_one = leb-true _ _ o.1.1.1.1.1.1.0;
      tracking = leb-true _ _ o.1.1.1.1.1.1.1.0;
      consumption = ltb-true _ _ o.1.1.1.1.1.1.1.1.0;
      billing = o.1.1.1.1.1.1.1.1.1.0;
      from = o.1.1.1.1.1.1.1.1.1.1.0;
      scheduled = o.1.1.1.1.1.1.1.1.1.1.1.0;
      removal = o.1.1.1.1.1.1.1.1.1.1.1.1.0;
    }

pub facts-terms : (t : Terms) → TermsFacts t → sound_terms t ≡ true
unfolding terms_tests
facts-terms t f =
    on-all (terms_tests t) (
      lt-ltb _ _ f.account,
      (
        lt-ltb _ _ f.key,
        (
          f.code,
          (
            le-leb _ _ f.asked,
            (
              le-leb _ _ f.requests,
              (
                le-leb _ _ f.sequence,
                (le-leb _ _ f.from_one, (le-leb _ _ f.tracking, (lt-ltb _ _ f.consumption, (f.billing, (f.from, (f.scheduled, (f.removal, tt))))))),
              ),
            ),
          ),
        ),
      ),
    )

-- terms that move, with the latest request of sound ones
pub moved_facts : (t u : Terms) (sequence requests : ℕ) (cancelled : Bool) → TermsFacts t → TermsFacts u → 1 ≤ requests → requests ≤ sequence → sequence ≤ 999
    → TermsFacts (moved sequence requests cancelled u.latest t.removal t)
moved_facts t u sequence requests cancelled f g a b c = search rules

-- applied plus owed is the charge, which is in its width
pub balanced-charge : (charge applied owed : Cents) → balanced charge applied owed ≡ true → fits_cents charge ≡ true
unfolding balanced
balanced-charge charge applied owed h =
    and_left (fits_cents charge) (fits_cents applied)
    (and_left (fits_cents charge && fits_cents applied) (fits_cents owed)
    (and_left (fits_cents charge && fits_cents applied && fits_cents owed) (eqb (applied.0 + owed.0) charge.0) h))

pub amounts-small : (t : Terms) (p : Posted) → sound_amounts t p ≡ true → fits_cents (charge_of p) ≡ true
unfolding sound_amounts
amounts-small t posted.None h = refl
amounts-small t (posted.BillReady charge) h = and_right (not t.cancelled && not (is_prepay t.product)) (fits_cents charge) h
amounts-small t (posted.Prepay charge applied owed) h =
    balanced-charge charge applied owed (and_right (not t.cancelled && is_prepay t.product) (balanced charge applied owed) h)

pub bill-terms : (b : Bill) → sound_bill b ≡ true → sound_terms b.terms ≡ true
unfolding sound_bill
bill-terms b h = and_left (sound_terms b.terms) (sound_amounts b.terms b.posted) h

pub bill-small : (b : Bill) → sound_bill b ≡ true → small_charge b ≡ true
unfolding sound_bill
bill-small b h = amounts-small b.terms b.posted (and_right (sound_terms b.terms) (sound_amounts b.terms b.posted) h)

-- ---- the facts of a sound book
pub record BookFacts (l : Book) : Type 0 where
  pub today : is_date l.today.0 ≡ true
  pub tracking : is_next l.tracking ≡ true
  pub confirmation : is_next l.confirmation ≡ true
  pub few : length l.bills ≤ 128
  pub bills : every sound_bill l.bills ≡ true
  pub once : distinct l.bills ≡ true

pub book-facts : (l : Book) → sound l ≡ true → BookFacts l
unfolding book_tests
book-facts l h =
    let o = all-on (book_tests l) h in
    record {
      today = o.0;
      tracking = o.1.0;
      confirmation = o.1.1.0;
      few = leb-true _ _ o.1.1.1.0;
      bills = o.1.1.1.1.0;
      once = o.1.1.1.1.1.0;
    }

pub facts-sound : (l : Book) → BookFacts l → sound l ≡ true
unfolding book_tests
facts-sound l f = on-all (book_tests l) (f.today, (f.tracking, (f.confirmation, (le-leb _ _ f.few, (f.bills, (f.once, tt))))))

-- a sound struct: its count is in range, and its bills may be summed
pub ledger-count : (l : Ledger) → sound_ledger l ≡ true → l.count ≤ 128
unfolding sound_ledger
ledger-count l h = leb-true _ _ (and_left (leb l.count 128) (sound (book l)) h)

pub ledger-book : (l : Ledger) → sound_ledger l ≡ true → sound (book l) ≡ true
unfolding sound_ledger
ledger-book l h = and_right (leb l.count 128) (sound (book l)) h

pub ledger-small : (l : Ledger) → sound_ledger l ≡ true → every small_charge (live l) ≡ true
ledger-small l h = every_map sound_bill small_charge bill-small (live l) (book-facts (book l) (ledger-book l h)).bills

-- ---- the walk over the bills: each is sound, and no later one has its identity
unfoldable pub walked : List Bill → Bool
walked bs = every sound_bill bs && distinct bs

-- these bills are walked, and of the later ones none has this identity
unfoldable pub past : List Bill → Identity → List Bill → Bool
past bs id later = every sound_bill bs && (not (holds_id id later) && distinct bs)

module _ (b : Bill) (bs : List Bill) where
  pub walked-bad : sound_bill b ≡ false → walked (b ∷ bs) ≡ false
  unfolding walked
  walked-bad e = rw e

  pub walked-good : sound_bill b ≡ true → walked (b ∷ bs) ≡ past bs b.terms.identity bs
  unfolding walked distinct past
  walked-good e = rw e

-- what the walk over the later bills says of the whole
module _ (bs : List Bill) (id : Identity) (later : List Bill) where
  pub past-hit : holds_id id later ≡ true → past bs id later ≡ false
  unfolding past
  past-hit e = rw e (and-false (every sound_bill bs))

  pub past_end : later ≡ [] → past bs id later ≡ walked bs
  unfolding past walked
  past_end e = rw e

pub past-miss : (bs : List Bill) (id : Identity) (xs ys : List Bill) → holds_id id xs ≡ holds_id id ys → past bs id xs ≡ past bs id ys
unfolding past
past-miss bs id xs ys e = rw e

-- the head of the struct, as the code tests it
abbrev pub head_test : Ledger → Bool
head_test l = is_date l.today.0 && is_next l.next_tracking && is_next l.next_confirmation && leb l.count 128

by-head : (a b c d w₁ w₂ : Bool) → (d && (a && (b && (c && (d && (w₁ && (w₂ && true))))))) ≡ (a && b && c && d && (w₁ && w₂))
by-head true true true true w₁ w₂ = ap (λ (x : Bool). w₁ && x) (and-true w₂)
by-head true true true false w₁ w₂ = refl
by-head true true false true w₁ w₂ = refl
by-head true true false false w₁ w₂ = refl
by-head true false c true w₁ w₂ = refl
by-head true false c false w₁ w₂ = refl
by-head false b c true w₁ w₂ = refl
by-head false b c false w₁ w₂ = refl

-- the check of a struct is that of its head and the walk over its bills
module _ (l : Ledger) (k : length l.bills ≡ 128) where
  few : l.count ≤ 128 → leb (length (live l)) 128 ≡ leb l.count 128
  few h = ap (λ (n : ℕ). leb n 128) (length-live l (omega arith))

  many : 128 < l.count → leb l.count 128 ≡ false
  many h = lt-leb _ _ h

  pub split : sound_ledger l ≡ (head_test l && walked (live l))
  unfolding sound_ledger book_tests walked
  split = elim (dec_le l.count 128) [
    | yes h ↦ rw (few h)
        (by-head (is_date l.today.0) (is_next l.next_tracking) (is_next l.next_confirmation) (leb l.count 128)
        (every sound_bill (live l)) (distinct (live l)))
    | no h ↦ simp (many (omega arith), and-false)
  ]
