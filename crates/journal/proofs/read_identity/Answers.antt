-- `journal::read_identity` meets its contract: account and key hold the numbers that were read, or they are not numeric.
use Prim.Native.Nat.{ℕ}
use mathlib.Core.Path.{◌≡◌, sym, ◌∙◌}
use mathlib.Core.Bool.{and-false}
use mathlib.Core.List.{List}
use Rattle.fields.specs.Field.{field_of}
use Rattle.fields.proofs.HoldLaws.{field_is}
use Rattle.ledger.specs.declared.Identity.{Identity}
use Rattle.journal.specs.parts.Fields.{identity_field_of}
use Rattle.journal.proofs.BodyLaws.{field-refused}
use Rattle.journal.proofs.read_identity.Goals as goal
use Rattle.std.specs.Prelude.{Some}
use Rattle.std.proofs.Common.{rules}

-- the identity where both fields hold numbers
identity-of : (xs ys : List ℕ) (id : Identity) → field_of xs ≡ Some id.account → field_of ys ≡ Some id.key → Some id ≡ identity_field_of xs ys
unfolding identity_field_of
identity-of xs ys id account key =
    let a = field_is _ _ account in
    let b = field_is _ _ key in
    rw (a.0, ← a.1, b.0, ← b.1)

pub returns-in_err-account : goal.returns-in_err-account
unfolding identity_field_of
returns-in_err-account c = rw (field-refused _ c.read_field.ensures c.in_err-account.was) (search rules)

pub returns-in_err-key : goal.returns-in_err-key
unfolding identity_field_of
returns-in_err-key c = rw (field-refused _ c.read_field-2.ensures c.in_err-key.was, and-false) (search rules)

pub returns : goal.returns
returns c = identity-of _ _ _ (sym c.read_field.ensures ∙ c.in_ok-account.was) (sym c.read_field-2.ensures ∙ c.in_ok-key.was)
