-- `room::most_of` meets its contract: an arm's tag is rewritten into the definition, which then computes.
use mathlib.Core.Logic.{⊎_elim, inl, inr}
use borrow.Author.Tests.{ne_eqb}
use Rattle.room.specs.Room.{most_of}
use Rattle.room.proofs.most_of.Goals as goal

pub returns-in-1 : goal.returns-in-1
unfolding most_of
returns-in-1 c = ⊎_elim (λ e. rw e) (λ e. rw e) c.in-1.is

pub returns-in-2 : goal.returns-in-2
unfolding most_of
returns-in-2 c = rw c.in-2.is

pub returns-in_default : goal.returns-in_default
unfolding most_of
returns-in_default c =
    let r = c.in_default.in_default-own.rest in
    rw (ne_eqb _ _ (λ e. r.0.1 (inl e)), ne_eqb _ _ r.1, ne_eqb _ _ (λ e. r.0.1 (inr e)))
