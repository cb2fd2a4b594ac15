-- `journal::good_length` meets its contract: an arm's tag is rewritten into the definition, which then computes.
use borrow.Author.Tests.{ne_eqb}
use Rattle.journal.specs.Entries.{good_length}
use Rattle.journal.proofs.good_length.Goals as goal

pub returns-in-0 : goal.returns-in-0
unfolding good_length
returns-in-0 c = rw c.in-0.is

pub returns-in-1 : goal.returns-in-1
unfolding good_length
returns-in-1 c = rw c.in-1.is

pub returns-in-2 : goal.returns-in-2
unfolding good_length
returns-in-2 c = rw c.in-2.is

pub returns-in-3 : goal.returns-in-3
unfolding good_length
returns-in-3 c = rw c.in-3.is

pub returns-in-4 : goal.returns-in-4
unfolding good_length
returns-in-4 c = rw c.in-4.is

pub returns-in-5 : goal.returns-in-5
unfolding good_length
returns-in-5 c = rw c.in-5.is

pub returns-in_default : goal.returns-in_default
unfolding good_length
returns-in_default c =
    let r = c.in_default.in_default-own.rest in
    rw (ne_eqb _ _ r.0.0.0.0.0.1, ne_eqb _ _ r.0.0.0.0.1, ne_eqb _ _ r.0.0.0.1, ne_eqb _ _ r.0.0.1, ne_eqb _ _ r.0.1, ne_eqb _ _ r.1)
