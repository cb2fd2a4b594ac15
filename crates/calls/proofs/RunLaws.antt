-- The calls by value do what the machine does to the book that the struct holds. Assumes nothing.
use mathlib.Core.Path.{◌≡◌, refl, sym, ap, ◌∙◌}
use mathlib.Core.Bool.{true}
use mathlib.Core.List.{List, [], ◌∷◌, map}
use borrow.Author.Tests.{le-leb}
use Rattle.ledger.specs.declared.Ledger.{Ledger}
use Rattle.ledger.specs.Books.{Book, book, view, stored}
use Rattle.ledger.specs.Sound.{sound, sound_ledger}
use Rattle.ledger.proofs.SoundLaws.{book-facts, facts-sound, ledger-book}
use Rattle.rules.specs.Rules.{first}
use Rattle.group.proofs.GroupWalk.{book-stored}
use Rattle.causes.specs.Causes.{Call, causes}
use Rattle.calls.specs.Machine.{cause, next, Outcome, outcome, step, after, outcomes, cause_in, step_in, left_by, answer_by, called, ran, each_called, Runs}
use Rattle.calls.proofs.NextSound.{next-facts}
use Rattle.std.specs.Prelude.{Result, Ok, Err, ⊤}
use Rattle.rules.specs.declared.Cause.{Cause}

stored-sound : (l : Ledger) (k : Book) → sound k ≡ true → sound_ledger (stored l k) ≡ true
unfolding sound_ledger
stored-sound l k h = rw (book-stored l k, h, le-leb _ _ (book-facts k h).few)

result-is : (l : Book) (c : Call) (v : Result ⊤ Cause) → (outcome l c v).result ≡ v
unfolding outcome
result-is l c (Ok tt) = refl
result-is l c (Err n) = refl

-- ---- one call
module _ (l : Ledger) (c : Call) (h : sound_ledger l ≡ true) where
  pub cause-in : cause_in l c ≡ cause (book l) c
  unfolding cause_in cause
  cause-in = rw (h, ledger-book l h)

  pub step_in_lem : step_in l c ≡ step (book l) c
  unfolding step_in step
  step_in_lem = ap (outcome (book l) c) cause-in

  cause-first : cause_in l c ≡ first (causes (view (book l)) c)
  unfolding cause_in
  cause-first = rw h

  called-book : book (called l c).ledger ≡ (step (book l) c).ledger
  unfolding called step left_by outcome
  called-book = go (cause_in l c) refl ∙ ap (λ (v : Result ⊤ Cause). (outcome (book l) c v).ledger) cause-in
    where
      go : (v : Result ⊤ Cause) → cause_in l c ≡ v → book (left_by l c v) ≡ (outcome (book l) c v).ledger
      go (Ok tt) e = book-stored l (next (book l) c)
      go (Err n) e = refl

  called-sound : sound_ledger (called l c).ledger ≡ true
  unfolding called left_by
  called-sound = go (cause_in l c) refl
    where
      go : (v : Result ⊤ Cause) → cause_in l c ≡ v → sound_ledger (left_by l c v) ≡ true
      go (Ok tt) e =
          stored-sound l (next (book l) c)
          (facts-sound _ (next-facts (book l) c (book-facts (book l) (ledger-book l h)) (sym cause-first ∙ e)))
      go (Err n) e = h

  called-answer : (called l c).answer ≡ answer_by (step (book l) c) (step (book l) c).result
  unfolding called step
  called-answer =
      ap (λ (o : Outcome). answer_by o (cause_in l c)) step_in_lem
      ∙ ap (answer_by (step (book l) c)) (cause-in ∙ sym (result-is (book l) c (cause (book l) c)))

-- ---- a list of calls
ran-sound : (cs : List Call) (l : Ledger) → sound_ledger l ≡ true → sound_ledger (ran l cs) ≡ true
unfolding ran
ran-sound [] l h = h
ran-sound (c ∷ cs) l h = ran-sound cs (called l c).ledger (called-sound l c h)

ran-book : (cs : List Call) (l : Ledger) → sound_ledger l ≡ true → book (ran l cs) ≡ after (book l) cs
unfolding ran after
ran-book [] l h = refl
ran-book (c ∷ cs) l h = ran-book cs (called l c).ledger (called-sound l c h) ∙ ap (λ (k : Book). after k cs) (called-book l c h)

-- what is read off each call by value is what is read off the machine's outcome
each-is : {A : Type 0} (read : Ledger → Call → A) (said : Outcome → A)
    → ((l : Ledger) (c : Call) → sound_ledger l ≡ true → read l c ≡ said (step (book l) c))
    → (cs : List Call) (l : Ledger) → sound_ledger l ≡ true → each_called read l cs ≡ map said (outcomes (book l) cs)
unfolding each_called outcomes
each-is read said agrees [] l h = refl
each-is {A = A} read said agrees (c ∷ cs) l h =
    rw (agrees l c h)
    (ap (λ (r : List A). said (step (book l) c) ∷ r)
    (each-is read said agrees cs (called l c).ledger (called-sound l c h) ∙ ap (λ (k : Book). map said (outcomes k cs)) (called-book l c h)))

pub runs : (l : Ledger) → sound_ledger l ≡ true → (cs : List Call) → Runs l cs
runs l h cs =
    record {
      ledger = ran-book cs l h;
      answers = each-is (λ k c. (called k c).answer) (λ (o : Outcome). answer_by o o.result) called-answer cs l h;
      written = each-is (λ k c. (step_in k c).written) (λ (o : Outcome). o.written) (λ k c e. ap (λ (o : Outcome). o.written) (step_in_lem k c e)) cs l h;
      kept = ran-sound cs l h;
    }
