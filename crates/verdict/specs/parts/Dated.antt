-- What line 6 asks of today and of the bill: a sound ledger has it. Assumes nothing.
use Rattle.std.specs.Prelude.{◌≡◌, Bool, true, ◌&&◌, Option, Some, None}
use Rattle.units.specs.declared.Date.{Date}
use Rattle.units.specs.Calendar.{is_date}
use Rattle.ledger.specs.declared.Terms.{Terms}
use Rattle.ledger.specs.Sound.{sound_removal}

-- the Billing Date is a date, and the removal date is one or empty
unfoldable pub dated_terms : Terms → Bool
dated_terms t = is_date t.latest.billing.0 && sound_removal t.removal

-- today and the dates of the bill, if there is one
abbrev pub Dated : Date → Option Terms → Type 0
Dated today (Some t) = (is_date today.0 ≡ true) × (dated_terms t ≡ true)
Dated today None = Unit {0}
