-- `journal::fresh_head` meets its contract: a body that is no fresh is bad, and so is a fresh with a cause against it.
use Prim.Native.Nat.{ℕ}
use mathlib.Core.Path.{◌≡◌, refl, sym, ◌∙◌}
use Rattle.causes.specs.declared.Start.{Start}
use Rattle.journal.specs.declared.Body.{Body}
use Rattle.journal.specs.declared.Body.TheVariants as body
use Rattle.journal.specs.declared.Head.TheVariants.{Bad}
use Rattle.journal.specs.Entries.{whole_of}
use Rattle.journal.proofs.fresh_head.Goals as goal

-- a body with another variant's number
no-fresh : (b : Body) (n : ℕ) → ((x : Start) → b ≡ body.Fresh x → ⊥) → Bad ≡ whole_of 0 b n
no-fresh (body.Fresh s) n h = absurd (h s refl)
no-fresh (body.Request r) n h = refl
no-fresh body.File n h = refl
no-fresh (body.Cancel id) n h = refl
no-fresh (body.Close d) n h = refl
no-fresh (body.Removal a) n h = refl
no-fresh body.Unread n h = refl

pub returns-in_default : goal.returns-in_default
returns-in_default c = no-fresh c.args.b c.args.end c.in_default.not-Fresh

pub returns-in-Err : goal.returns-in-Err
returns-in-Err c = rw (c.in-Fresh.is, sym c.fresh_check-check.ensures ∙ c.in-Err.is)

pub returns-in-Ok : goal.returns-in-Ok
returns-in-Ok c = rw (c.in-Fresh.is, sym c.fresh_check-check.ensures ∙ c.in-Ok.is)
