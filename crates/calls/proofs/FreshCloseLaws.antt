-- Laws of fresh and of close of day. Assumes nothing.
use Prim.Native.Nat.{ℕ, ◌≤◌}
use mathlib.Core.Path.{◌≡◌, refl, sym}
use mathlib.Core.Bool.{Bool, true, cond}
use mathlib.Core.List.{List, [], ◌∷◌}
use Rattle.std.specs.List.{sum_by}
use Rattle.std.proofs.lemmas.List.Recursion.{is_sum_by}
use native.Mathlib.Omega.{arith}
use lib.Dec.{leb}
use lib.IntN.{pos, +ℤ_invr}
use lib.ListN.{length, take-append-drop}
use lib.Seq.{length-take-le}
use borrow.Author.Tests.{leb-true, le-leb, not-false}
use Rattle.fields.proofs.BoolLaws.{cases, and_left, and_right}
use Rattle.units.specs.declared.Date.{Date}
use Rattle.ledger.specs.declared.Bill.{Bill}
use Rattle.ledger.specs.declared.Ledger.{Ledger}
use Rattle.rules.specs.Lists.{count}
use Rattle.ledger.specs.Books.{book, live, total_of}
use Rattle.ledger.specs.Sound.{is_next, distinct, sound_ledger}
use Rattle.rules.proofs.ListLaws.{all-on}
use Rattle.ledger.proofs.SoundLaws.{facts-sound}
use Rattle.rules.specs.Rules.{first}
use Rattle.rules.proofs.RuleLaws.{clear-off}
use Rattle.calls.proofs.FileSound.{count-step}
use Rattle.causes.specs.declared.Start.{Start}
use Rattle.causes.specs.Causes.{close, is_number, start_tests, fresh_causes}
use Rattle.calls.specs.Machine.{fresh, next, next_written, next_verdicts, next_closed, outcome, cause_in, step_in, left_by, answer_by, called}
use Rattle.causes.specs.Requests.{closes}
use Rattle.calls.specs.Days.{fresh_ledger, quiet_answer}
use Rattle.std.specs.Prelude.{Ok}

-- ---- fresh
-- the struct that fresh leaves holds the book that it begins with
pub fresh-book : (s : Start) → book (fresh_ledger s) ≡ fresh s
fresh-book s = refl

number-next : (n : ℕ) → is_number n ≡ true → is_next n ≡ true
number-next n h =
    let a : 1 ≤ n = leb-true _ _ (and_left (leb 1 n) (leb n 999999999) h) in
    let b : n ≤ 999999999 = leb-true _ _ (and_right (leb 1 n) (leb n 999999999) h) in
    rw (le-leb 1 n a, le-leb n 1000000000 (omega arith))

-- "After fresh the ledger part of 2 never occurs": it begins sound
pub fresh-sound : (s : Start) → first (fresh_causes s) ≡ Ok tt → sound_ledger (fresh_ledger s) ≡ true
unfolding fresh_causes start_tests distinct sound_ledger
fresh-sound s e =
    let o = all-on (start_tests s) (not-false _ (clear-off (fresh_causes s) e).0) in
    facts-sound (book (fresh_ledger s))
    (record {
      today = o.0;
      tracking = number-next s.tracking o.1.0;
      confirmation = number-next s.confirmation o.1.1.0;
      few = omega arith;
      bills = refl;
      once = refl;
    })

-- ---- close of day
-- what a bill adds to the count, all of them, and how many at most
abbrev pub one : (Bill → Bool) → Bill → ℕ
one p b = cond (p b) 1 0

pub one-by-one : (p : Bill → Bool) (bs : List Bill) → sum_by (one p) bs ≡ count p bs
one-by-one p bs = sym (is_sum_by (count p) (one p) refl (λ b bs. count-step (p b) (count p bs)) bs)

pub count-few : (p : Bill → Bool) (bs : List Bill) → count p bs ≤ length bs
count-few p [] = omega arith
count-few p (b ∷ bs) = cases (p b) (λ e. rw e (omega (arith, count-few p bs))) (λ e. rw e (omega (arith, count-few p bs)))

-- the struct with another date
abbrev pub dated : Ledger → Date → Ledger
dated l d =
    record {
      today = d;
      next_tracking = l.next_tracking;
      next_confirmation = l.next_confirmation;
      count = l.count;
      bills = l.bills;
    }

-- a close that is carried out: no bill changes, and so no total
pub close-done : (l : Ledger) (d : Date) → l.count ≤ length l.bills → cause_in l (close d) ≡ Ok tt
    → called l (close d) ≡ record { ledger = dated l d; answer = quiet_answer (count (closes l.today d) (live l)) }
unfolding called left_by answer_by step_in outcome next next_written next_verdicts next_closed
close-done l d h e =
    rw (
      e,
      length-take-le l.count l.bills h,
      take-append-drop l.count l.bills,
      +ℤ_invr (pos (total_of (live l))),
    )
