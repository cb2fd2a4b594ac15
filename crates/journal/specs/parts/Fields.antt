-- What an account and a key hold, the identity where both hold digits only, and the body of what was read. Assumes nothing.
use Rattle.std.specs.Prelude.{ℕ, cond, ◌&&◌, List, Option, Some, None}
use Rattle.fields.specs.Digits.{number, numeric}
use Rattle.ledger.specs.declared.Identity.{Identity}
use Rattle.journal.specs.declared.Body.{Body}
use Rattle.journal.specs.declared.Body.TheVariants.{Unread}

unfoldable pub identity_field_of : List ℕ → List ℕ → Option Identity
identity_field_of account key =
    cond (numeric account && numeric key) (Some (record { account = number account; key = number key })) None

-- the body of what was read; one that is not read where a field that should be digits is not
abbrev pub body_or : {A : Type 0} → (A → Body) → Option A → Body
body_or of (Some x) = of x
body_or of None = Unread
