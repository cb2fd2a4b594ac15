-- `journal::removal_body` meets its contract: each field is digits or the body is not read.
use Prim.Native.Nat.{ℕ}
use mathlib.Core.Path.{◌≡◌, sym, ◌∙◌}
use mathlib.Core.Bool.{and-false}
use mathlib.Core.List.{List}
use Rattle.fields.specs.Put.{part}
use Rattle.fields.specs.Field.{field_of}
use Rattle.fields.proofs.HoldLaws.{field_is}
use Rattle.causes.specs.declared.AccountRemoval.{AccountRemoval}
use Rattle.journal.specs.declared.Body.TheVariants.{Removal}
use Rattle.journal.specs.Entries.{removal_body}
use Rattle.journal.proofs.BodyLaws.{field-refused}
use Rattle.journal.proofs.removal_body.Goals as goal
use Rattle.std.specs.Prelude.{Some}
use Rattle.std.proofs.Common.{rules}

-- the body where its fields hold numbers
removal-of : (s : List ℕ) (a : AccountRemoval) → field_of (part s 0 12) ≡ Some a.account → field_of (part s 12 8) ≡ Some a.date.0
    → Removal a ≡ removal_body s
unfolding removal_body
removal-of s a account date =
    let x = field_is _ _ account in
    let y = field_is _ _ date in
    rw (x.0, ← x.1, y.0, ← y.1)

pub returns-in_err-account : goal.returns-in_err-account
unfolding removal_body
returns-in_err-account c = rw (field-refused _ c.read_field.ensures c.in_err-account.was) (search rules)

pub returns-in_err-date : goal.returns-in_err-date
unfolding removal_body
returns-in_err-date c = rw (field-refused _ c.read_field-2.ensures c.in_err-date.was, and-false) (search rules)

pub returns : goal.returns
returns c = removal-of _ _ (sym c.read_field.ensures ∙ c.in_ok-account.was) (sym c.read_field-2.ensures ∙ c.in_ok-date.was)
