-- `entries::entry::step` meets its contract, by what stands there.
use mathlib.Core.Path.{sym, ◌∙◌}
use native.Mathlib.Omega.{arith}
use Rattle.journal.proofs.HeadLaws.{whole-fits}
use Rattle.journal.proofs.BeginLaws.{whole-taken}
use Rattle.entries.proofs.MadeParts.{step_cut, step-bad, step-made}
use Rattle.entries.proofs.entry.step.Goals as goal

pub slice_bounds-entry-count : goal.slice_bounds-entry-count
slice_bounds-entry-count c = omega (arith, whole-fits _ _ _ _ (sym c.head_at-h.ensures ∙ c.in-Whole.is))

pub slice_bounds-entry-start : goal.slice_bounds-entry-start
slice_bounds-entry-start c = omega (arith, whole-fits _ _ _ _ (sym c.head_at-h.ensures ∙ c.in-Whole.is))

pub slice_bounds-entry-end : goal.slice_bounds-entry-end
slice_bounds-entry-end c = omega (arith, whole-fits _ _ _ _ (sym c.head_at-h.ensures ∙ c.in-Whole.is))

pub entry-answer-requires : goal.entry-answer-requires
entry-answer-requires c = record { is_sound = (c.requires.is_sound, whole-taken _ _ _ _ (sym c.head_at-h.ensures ∙ c.in-Whole.is)); has_room = c.requires.has_room }

pub returns-in-Cut : goal.returns-in-Cut
returns-in-Cut c = step_cut c.args.writes c.args.seen c.args.src.now _ _ (sym c.head_at-h.ensures ∙ c.in-Cut.is)

pub returns-in-Bad : goal.returns-in-Bad
returns-in-Bad c = step-bad c.args.writes c.args.seen c.args.src.now _ _ (sym c.head_at-h.ensures ∙ c.in-Bad.is)

pub returns-in-Whole : goal.returns-in-Whole
returns-in-Whole c =
    step-made c.args.writes c.args.seen c.args.src.now _ _ _ _ (sym c.head_at-h.ensures ∙ c.in-Whole.is) _ _ _ c.entry-answer.ensures
