-- `journal::whole_at` meets its contract: the tag's length is the one that its body asks for.
use native.Mathlib.Omega.{arith}
use borrow.Author.Tests.{ne_eqb}
use Rattle.std.proofs.Common.{◌≡◌, rules}
use Rattle.journal.specs.declared.Body.TheVariants as body
use Rattle.journal.specs.parts.Fields.{body_or}
use Rattle.journal.specs.Entries.{body_of}
use Rattle.journal.proofs.BodyLaws.{fresh-length, request-length, cancel-length, close-length, removal-length, lent_length, lent-part}
use Rattle.journal.proofs.whole_at.Goals as goal

pub fresh_body-requires : goal.fresh_body-requires
fresh_body-requires c =
    let a = c.args in
    omega (arith, fresh-length a.tag a.n c.in-0.is c.requires.0, lent_length a.s.now a.n c.requires.1)

pub request_body-requires : goal.request_body-requires
request_body-requires c =
    let a = c.args in
    omega (arith, request-length a.tag a.n c.in-1.is c.requires.0, lent_length a.s.now a.n c.requires.1)

pub cancel_body-requires : goal.cancel_body-requires
cancel_body-requires c =
    let a = c.args in
    omega (arith, cancel-length a.tag a.n c.in-3.is c.requires.0, lent_length a.s.now a.n c.requires.1)

pub close_body-requires : goal.close_body-requires
close_body-requires c =
    let a = c.args in
    omega (arith, close-length a.tag a.n c.in-4.is c.requires.0, lent_length a.s.now a.n c.requires.1)

pub removal_body-requires : goal.removal_body-requires
removal_body-requires c =
    let a = c.args in
    let r = c.in_default.in_default-own.rest in
    omega (arith, removal-length a.tag a.n r.0.0.0.0.1 r.0.0.0.1 r.0.0.1 r.0.1 r.1 c.requires.0, lent_length a.s.now a.n c.requires.1)

pub returns-in-0 : goal.returns-in-0
unfolding body_of
returns-in-0 c =
    let read : c.map_or.result ≡ body_or body.Fresh c.fresh_body.result = search rules in
    rw (c.in-0.is, c.fresh_head.ensures, read, c.fresh_body.ensures, lent-part)

pub returns-in-1 : goal.returns-in-1
unfolding body_of
returns-in-1 c =
    let read : c.map_or-in-1.result ≡ body_or body.Request c.request_body.result = search rules in
    rw (c.in-1.is, read, c.request_body.ensures, lent-part)

pub returns-in-2 : goal.returns-in-2
unfolding body_of
returns-in-2 c = rw c.in-2.is

pub returns-in-3 : goal.returns-in-3
unfolding body_of
returns-in-3 c =
    let read : c.map_or-in-3.result ≡ body_or body.Cancel c.cancel_body.result = search rules in
    rw (c.in-3.is, read, c.cancel_body.ensures, lent-part)

pub returns-in-4 : goal.returns-in-4
unfolding body_of
returns-in-4 c =
    let read : c.map_or-in-4.result ≡ body_or body.Close c.close_body.result = search rules in
    rw (c.in-4.is, read, c.close_body.ensures, lent-part)

pub returns-in_default : goal.returns-in_default
unfolding body_of
returns-in_default c =
    let r = c.in_default.in_default-own.rest in
    let read : c.map_or-in_default.result ≡ body_or body.Removal c.removal_body.result = search rules in
    rw (ne_eqb _ _ r.0.0.0.0.1, ne_eqb _ _ r.0.0.0.1, ne_eqb _ _ r.0.0.1, ne_eqb _ _ r.0.1, ne_eqb _ _ r.1, read, c.removal_body.ensures, lent-part)
