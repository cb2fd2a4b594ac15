-- `journal::fresh_body` meets its contract: each field is digits or the body is not read.
use Prim.Native.Nat.{ℕ}
use mathlib.Core.Path.{◌≡◌, sym, ◌∙◌}
use mathlib.Core.Bool.{and-false}
use mathlib.Core.List.{List}
use Rattle.fields.specs.Put.{part}
use Rattle.fields.specs.Field.{field_of}
use Rattle.fields.proofs.HoldLaws.{field_is}
use Rattle.causes.specs.declared.Start.{Start}
use Rattle.journal.specs.declared.Body.TheVariants.{Fresh}
use Rattle.journal.specs.Entries.{fresh_body}
use Rattle.journal.proofs.BodyLaws.{field-refused}
use Rattle.journal.proofs.fresh_body.Goals as goal
use Rattle.std.specs.Prelude.{Some}
use Rattle.std.proofs.Common.{rules}

-- the body where its fields hold numbers
fresh-of : (s : List ℕ) (r : Start)
    → field_of (part s 0 8) ≡ Some r.today.0 → field_of (part s 8 9) ≡ Some r.tracking → field_of (part s 17 9) ≡ Some r.confirmation
    → Fresh r ≡ fresh_body s
unfolding fresh_body
fresh-of s r today tracking confirmation =
    let a = field_is _ _ today in
    let b = field_is _ _ tracking in
    let c = field_is _ _ confirmation in
    rw (a.0, ← a.1, b.0, ← b.1, c.0, ← c.1)

pub returns-in_err-today : goal.returns-in_err-today
unfolding fresh_body
returns-in_err-today c = rw (field-refused _ c.read_field.ensures c.in_err-today.was) (search rules)

pub returns-in_err-tracking : goal.returns-in_err-tracking
unfolding fresh_body
returns-in_err-tracking c = rw (field-refused _ c.read_field-2.ensures c.in_err-tracking.was, and-false) (search rules)

pub returns-in_err-confirmation : goal.returns-in_err-confirmation
unfolding fresh_body
returns-in_err-confirmation c = rw (field-refused _ c.read_field-3.ensures c.in_err-confirmation.was, and-false) (search rules)

pub returns : goal.returns
returns c = fresh-of _ _ (sym c.read_field.ensures ∙ c.in_ok-today.was) (sym c.read_field-2.ensures ∙ c.in_ok-tracking.was) (sym c.read_field-3.ensures ∙ c.in_ok-confirmation.was)
