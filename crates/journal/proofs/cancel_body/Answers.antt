-- `journal::cancel_body` meets its contract: account and key are digits or the body is not read.
use Prim.Native.Nat.{ℕ}
use mathlib.Core.Path.{◌≡◌, refl, sym}
use mathlib.Core.List.{List}
use Rattle.std.specs.Prelude.{Option, Some, None}
use Rattle.fields.specs.Put.{part}
use Rattle.ledger.specs.declared.Identity.{Identity}
use Rattle.journal.specs.declared.Body.TheVariants as body
use Rattle.journal.specs.parts.Fields.{identity_field_of, body_or}
use Rattle.journal.specs.Entries.{cancel_body}
use Rattle.journal.proofs.BodyLaws.{identity-is, identity-refused}
use Rattle.journal.proofs.cancel_body.Goals as goal

-- the body of the identity that was read, or of none
cancel-of : (s : List ℕ) (r : Option Identity) → r ≡ identity_field_of (part s 0 12) (part s 12 4) → body_or body.Cancel r ≡ cancel_body s
unfolding cancel_body
cancel-of s (Some id) e =
    let x = identity-is _ _ id (sym e) in
    rw (x.0, ← x.1)
cancel-of s None e = rw (identity-refused _ _ e refl)

pub returns : goal.returns
returns c = cancel-of _ _ c.read_identity.ensures
