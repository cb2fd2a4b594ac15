-- `clearing_c::clearing_entry` meets its contract, by what stands at the start of the journal.
use mathlib.Core.Path.{sym, ◌∙◌}
use lib.ListN.{length}
use native.Mathlib.Omega.{arith}
use Rattle.journal.proofs.HeadLaws.{whole-fits}
use Rattle.boundary.proofs.GiveLaws.{entry-cut, entry-bad, entry_whole}
use Rattle.clearing_c.proofs.clearing_entry.Goals as goal

pub slice_bounds-call-count : goal.slice_bounds-call-count
slice_bounds-call-count c =
    omega (arith, whole-fits _ _ _ _ (sym c.head_at-h.ensures ∙ c.in-Whole.is))

pub slice_bounds-call-start : goal.slice_bounds-call-start
slice_bounds-call-start c =
    omega (arith, whole-fits _ _ _ _ (sym c.head_at-h.ensures ∙ c.in-Whole.is))

pub slice_bounds-call-end : goal.slice_bounds-call-end
slice_bounds-call-end c =
    omega (arith, whole-fits _ _ _ _ (sym c.head_at-h.ensures ∙ c.in-Whole.is))

pub returns-in-Cut : goal.returns-in-Cut
returns-in-Cut c = let e = entry-cut (length c.args.out.now) c.args.seen c.args.journal.now c.args.ledger.now _ _ c.args.out.now (sym c.head_at-h.ensures ∙ c.in-Cut.is) in rw c.from-no_entry.ensures record { gives = e.0; written = e.1.0; told = e.1.1 }

pub returns-in-Bad : goal.returns-in-Bad
returns-in-Bad c = let e = entry-bad (length c.args.out.now) c.args.seen c.args.journal.now c.args.ledger.now _ _ c.args.out.now (sym c.head_at-h.ensures ∙ c.in-Bad.is) in rw c.from-no_entry.ensures record { gives = e.0; written = e.1.0; told = e.1.1 }

pub returns-in-Whole : goal.returns-in-Whole
returns-in-Whole c = let e = entry_whole (length c.args.out.now) c.args.seen c.args.journal.now c.args.ledger.now _ _ c.args.out.now _ _ (sym c.head_at-h.ensures ∙ c.in-Whole.is) _ _ _ _ _ c.call.ensures.gives c.call.ensures.written in record { gives = e.0; written = e.1.0; told = e.1.1 }
