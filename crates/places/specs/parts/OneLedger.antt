-- A ledger lent as a slice of one `Ledger`. Assumes nothing.
use Rattle.std.specs.Prelude.{◌≡◌, Bool, true, cond, ◌&&◌, List, eqb, length, get_or, Option}
use mathlib.Core.Bool.{false≢true}
use borrow.Author.Tests.{eqb-true}
use Rattle.fields.proofs.BoolLaws.{and_right, cases}
use Rattle.units.specs.declared.Date.{Date}
use Rattle.ledger.specs.declared.Ledger.{Ledger}
use Rattle.ledger.specs.Sound.{sound_ledger}
use Rattle.ledger.specs.Limits.{ledger_places}
use Rattle.words.specs.Layout.{no_ledger}

-- one ledger, with all its places
abbrev pub holds_one : List Ledger → Bool
holds_one ls = eqb (length ls) 1 && eqb (length (get_or ls 0 no_ledger).bills) ledger_places

-- the ledger that they hold, or one that is not sound
abbrev pub one_ledger : List Ledger → Ledger
one_ledger ls = cond (holds_one ls) (get_or ls 0 no_ledger) no_ledger

-- a struct can hold every removal date
abbrev pub takes_any : Option Date → Bool
takes_any r = true

pub one-places : (ls : List Ledger) → holds_one ls ≡ true → length (one_ledger ls).bills ≡ ledger_places
one-places ls h = rw h (eqb-true (length (get_or ls 0 no_ledger).bills) ledger_places (and_right (eqb (length ls) 1) _ h))

-- so a sound ledger is one that they hold
pub one-sound-holds : (ls : List Ledger) → sound_ledger (one_ledger ls) ≡ true → holds_one ls ≡ true
unfolding sound_ledger no_ledger
one-sound-holds ls h = cases (holds_one ls) (λ e. e) (λ e. absurd (false≢true (rw e at h)))
