-- `group::verdict_at` meets its contract: each return is a line of the list.
use mathlib.Core.Path.{◌≡◌, sym, ◌∙◌}
use mathlib.Core.Bool.{false}
use native.Mathlib.Omega.{arith}
use Rattle.file.specs.File.{Group, form_of, detail_of, line1, line2}
use Rattle.records.specs.declared.Notification.{Notification}
use Rattle.file.specs.parts.Walk.{group_at}
use Rattle.file.proofs.FileLaws.{header_is, only-detail}
use Rattle.file.proofs.FormLaws.{says, one-detail, one-within}
use Rattle.verdict.specs.Lines.{verdict_of}
use Rattle.group.specs.Groups.{notification_of}
use Rattle.group.proofs.DecideLaws.{verdict-failed, verdict-line3, verdict-rest}
use Rattle.group.proofs.verdict_at.Goals as goal
use Rattle.std.specs.Prelude.{Ok}
use Rattle.std.proofs.Common.{rules}
use Rattle.records.specs.declared.Notification.TheVariants.{Response, Supplement}

-- past the form: the group passes lines 1 and 2, and the notification is its
passed : (g : Group) (v : Notification) → form_of g ≡ Ok v → (line1 g ≡ false) × (line2 g ≡ false) × (v ≡ notification_of g)
passed g Response e = let q = (says g).response e in (q.0, q.1, rw q.2)
passed g Supplement e = let q = (says g).supplement e in (q.0, q.1, rw q.2)

pub returns-in_err-notification : goal.returns-in_err-notification
returns-in_err-notification c =
    rw (sym (verdict-failed c.args.duplicate c.args.today c.args.b _ _ (sym c.form_at.ensures ∙ c.in_err-notification.was))) (search rules)

pub returns-then-duplicate : goal.returns-then-duplicate
returns-then-duplicate c =
    let q = passed _ _ (sym c.form_at.ensures ∙ c.in_ok-notification.was) in
    verdict-line3 _ _ _ _ q.0 q.1 c.if-duplicate.true

pub group_records-r-requires : goal.group_records-r-requires
group_records-r-requires c =
    let q = passed _ _ (sym c.form_at.ensures ∙ c.in_ok-notification.was) in
    omega (arith, one-within c.args.g.now.file.now c.args.g.now.header c.args.g.now.records q.0)

pub returns : goal.returns
returns c =
    let s = c.args.g.now.file.now in
    let i = c.args.g.now.header in
    let n = c.args.g.now.records in
    let g = group_at s i n in
    let q = passed _ _ (sym c.form_at.ensures ∙ c.in_ok-notification.was) in
    let e : verdict_of c.in_ok-notification.notification c.args.today c.group_records-r.result.header.now c.group_records-r.result.detail.now c.args.b
    ≡ verdict_of (notification_of g) c.args.today g.header (detail_of g) c.args.b =
    rw (c.group_records-r.ensures.0, c.group_records-r.ensures.1, q.2, header_is s i n, only-detail s i n (one-detail s i n q.0)) in
    c.verdict_of.ensures ∙ e ∙ verdict-rest c.args.duplicate c.args.today c.args.b g q.0 q.1 c.if-duplicate.false
