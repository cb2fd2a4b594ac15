-- `journal::request_body` meets its contract: each field is digits or the body is not read.
use Prim.Native.Nat.{ℕ}
use mathlib.Core.Path.{◌≡◌, sym, ◌∙◌}
use mathlib.Core.Bool.{and-false}
use mathlib.Core.List.{List}
use lib.ListN.{get_or}
use Rattle.fields.specs.Put.{part}
use Rattle.fields.specs.Field.{field_of}
use Rattle.fields.proofs.HoldLaws.{field_is}
use Rattle.causes.specs.declared.Request.{Request}
use Rattle.causes.specs.Causes.{code_field}
use Rattle.journal.specs.declared.Body.TheVariants as body
use Rattle.journal.specs.parts.Fields.{identity_field_of}
use Rattle.journal.specs.Entries.{request_body}
use Rattle.journal.proofs.BodyLaws.{field-refused, identity-is, identity-refused, code_in, byte_at}
use Rattle.journal.proofs.request_body.Goals as goal
use Rattle.std.specs.Prelude.{Some}
use Rattle.std.proofs.Common.{rules}

-- the body where its fields hold numbers
request-of : (s : List ℕ) (r : Request)
    → r.code ≡ code_field s
    → identity_field_of (part s 5 12) (part s 17 4) ≡ Some r.identity
    → r.product ≡ get_or s 21 0
    → field_of (part s 22 8) ≡ Some r.billing.0
    → field_of (part s 30 8) ≡ Some r.from.0
    → field_of (part s 38 10) ≡ Some r.consumption.0
    → field_of (part s 48 8) ≡ Some r.scheduled.0
    → body.Request r ≡ request_body s
unfolding request_body
request-of s r code identity product billing from consumption scheduled =
    let a = identity-is _ _ _ identity in
    let b = field_is _ _ billing in
    let c = field_is _ _ from in
    let d = field_is _ _ consumption in
    let e = field_is _ _ scheduled in
    rw (code_in s, ← code, a.0, ← a.1, byte_at s 21, ← product, b.0, ← b.1, c.0, ← c.1, d.0, ← d.1, e.0, ← e.1)

pub returns-in_err-identity : goal.returns-in_err-identity
unfolding request_body
returns-in_err-identity c = rw (identity-refused _ _ c.read_identity.ensures c.in_err-identity.was) (search rules)

pub returns-in_err-billing : goal.returns-in_err-billing
unfolding request_body
returns-in_err-billing c = rw (field-refused _ c.read_field.ensures c.in_err-billing.was, and-false) (search rules)

pub returns-in_err-from : goal.returns-in_err-from
unfolding request_body
returns-in_err-from c = rw (field-refused _ c.read_field-2.ensures c.in_err-from.was, and-false) (search rules)

pub returns-in_err-consumption : goal.returns-in_err-consumption
unfolding request_body
returns-in_err-consumption c = rw (field-refused _ c.read_field-3.ensures c.in_err-consumption.was, and-false) (search rules)

pub returns-in_err-scheduled : goal.returns-in_err-scheduled
unfolding request_body
returns-in_err-scheduled c = rw (field-refused _ c.read_field-4.ensures c.in_err-scheduled.was, and-false) (search rules)

pub returns : goal.returns
returns c = request-of _ _ (cc) (sym c.read_identity.ensures ∙ c.in_ok-identity.was) (cc) (sym c.read_field.ensures ∙ c.in_ok-billing.was) (sym c.read_field-2.ensures ∙ c.in_ok-from.was) (sym c.read_field-3.ensures ∙ c.in_ok-consumption.was) (sym c.read_field-4.ensures ∙ c.in_ok-scheduled.was)
