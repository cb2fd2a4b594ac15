-- Fresh on the struct: "takes today and the two next numbers; whatever the ledger held is gone, and a new history begins". Assumes nothing.
use Rattle.std.specs.Prelude.{ℕ, pos, Result, Ok, Err, ⊤}
use Rattle.ledger.specs.declared.Ledger.{Ledger}
use Rattle.ledger.specs.Books.{empty_ledger}
use Rattle.rules.specs.Rules.{first}
use Rattle.causes.specs.declared.Start.{Start}
use Rattle.calls.specs.declared.Called.{Called}
use Rattle.causes.specs.Causes.{fresh_causes}
use Rattle.rules.specs.declared.Cause.{Cause}
use Rattle.calls.specs.declared.Returned.{Returned}

-- the struct that a fresh which succeeds leaves
abbrev pub fresh_ledger : Start → Ledger
fresh_ledger s = empty_ledger s.today s.tracking s.confirmation

-- what fresh, close and removal return: the change is "0 for fresh, request and close", and nothing is written
abbrev pub quiet_answer : ℕ → Result Returned Cause
quiet_answer closed = Ok (record { change = pos 0; written = 0; accepted = 0; rejected = 0; closed = closed })

-- "Returned is the number alone; ledger and output stay as they were."
unfoldable pub fresh_by : Ledger → Start → Result ⊤ Cause → Called
fresh_by l s (Ok tt) = record { ledger = fresh_ledger s; answer = quiet_answer 0 }
fresh_by l s (Err n) = record { ledger = l; answer = Err n }

-- "Fresh: 2.", and "fresh reads none" of the ledger
unfoldable pub fresh_called : Ledger → Start → Called
fresh_called l s = fresh_by l s (first (fresh_causes s))
