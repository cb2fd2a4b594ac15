-- `places::checks::all_distinct` meets its contract. The invariant: the slots of the identities before place i are met, and none of these stands
-- twice.
use Prim.Native.Nat.{◌<◌}
use mathlib.Core.Path.{◌≡◌, refl, sym, ap, ◌∙◌}
use mathlib.Core.Bool.{true, false}
use native.Mathlib.Omega.{arith}
use lib.ListN.{length, take, get_or, length-set}
use Rattle.fields.proofs.BoolLaws.{and_right}
use Rattle.ledger.specs.declared.Identity.{Identity}
use Rattle.ledger.specs.Sound.{holds_id, distinct}
use Rattle.places.specs.parts.Slots.{identity_slot}
use Rattle.places.proofs.DistinctLaws.{noted_more, none_before, distinct-good, distinct-bad}
use Rattle.places.proofs.checks.all_distinct.Goals as goal

pub loop-i-init : goal.loop-i-init
unfolding distinct
loop-i-init g c = (refl, (λ k h. absurd (omega arith)), refl)

pub returns-then-stands_if_met : goal.returns-then-stands_if_met
returns-then-stands_if_met g c =
    let l = c.loop-i in
    let bs = (g.T.Holder.held c.args.lent.now).bills in
    let e = sym c.stands_if_met.ensures ∙ c.if-stands_if_met.true in
    let f : holds_id c.identity_at-id.result (take l.i bs) ≡ true = and_right (get_or l.met c.slot-s.result false) _ e in
    sym
    (distinct-bad bs l.i (omega (arith, c.requires.1, g.met.T.Holder.places c.args.lent.now c.requires.0)) c.args.n c.loop-i-test.true
    (ap (λ (id : Identity). holds_id id (take l.i bs)) (sym c.identity_at-id.ensures) ∙ f))

pub loop-i-preserved : goal.loop-i-preserved
loop-i-preserved g c =
    let l = c.loop-i in
    let bs = (g.T.Holder.held c.args.lent.now).bills in
    let id = c.identity_at-id.result in
    let h = c.slot-s.result in
    let same = c.identity_at-id.ensures in
    let none = none_before bs l.met l.i h id c.slot-s.ensures.0 l.invariant.1 (sym c.stands_if_met.ensures ∙ c.if-stands_if_met.false) in
    let fits : h < length l.met = omega (arith, c.slot-s.ensures.1) in (
      length-set l.met h true ∙ l.invariant.0,
      noted_more bs l.met l.i h (c.slot-s.ensures.0 ∙ ap identity_slot same) fits l.invariant.1,
      distinct-good bs l.i (omega (arith, c.requires.1, g.met.T.Holder.places c.args.lent.now c.requires.0)) l.invariant.2
          (ap (λ (x : Identity). holds_id x (take l.i bs)) (sym same) ∙ none),
    )
