-- The walk over the bills that finds the open one due first: what it holds, bill after bill. Assumes nothing.
use Rattle.std.specs.Prelude.{ℕ, suc, Bool, false, not, cond, ◌&&◌, List, [], ◌∷◌, leb, Option, Some, None, Result, Ok}
use Rattle.units.specs.declared.Date.{Date}
use Rattle.ledger.specs.declared.Bill.{Bill}
use Rattle.lookups.specs.declared.Due.{Due}
use Rattle.lookups.specs.Lookups.{is_open_of, due, place_by}
use Rattle.rules.specs.declared.Cause.{Cause}

-- before the first bill
abbrev pub none_due : Option Due
none_due = None

-- one is held that is due by the date d
abbrev pub is_held_by : ℕ → Option Due → Bool
is_held_by d None = false
is_held_by d (Some h) = leb h.date.0 d

-- b is to be held: it is an open bill of the account, and none is held or the one held is due later
abbrev pub is_sooner : ℕ → Date → Bill → Option Due → Bool
is_sooner account today b h = is_open_of account today b && not (is_held_by (due b) h)

-- after the bill b at place p
abbrev pub due_with : ℕ → Date → ℕ → Bill → Option Due → Option Due
due_with account today p b h = cond (is_sooner account today b h) (Some (record { place = p; date = b.terms.latest.scheduled })) h

-- after the bills bs from place p on
abbrev pub due_after : ℕ → Date → ℕ → Option Due → List Bill → Option Due
due_after account today p h [] = h
due_after account today p h (b ∷ bs) = due_after account today (suc p) (due_with account today p b h) bs

-- what it found
abbrev pub found_due : Option Due → Option ℕ
found_due None = None
found_due (Some h) = Some h.place

-- the answer where 2 is not against it
abbrev pub place_due : Option Due → Result ℕ Cause
place_due h = place_by (Ok tt) (found_due h)
