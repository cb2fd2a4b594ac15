-- `replay::read_all` meets its contract. The loop's invariant: the pieces that came are read as one.
use Rattle.std.proofs.Common.{◌≡◌, ◌∙◌, ℕ, List, false, Ok, Some, Option, sym, ap, subst, arith}
use Rattle.std.proofs.lemmas.Result.{IfOk-weaker}
use Rattle.fields.proofs.BoolLaws.{or-both}
use Rattle.input.specs.Filled.{Comes}
use Rattle.streams.specs.declared.pieces.End.{End}
use Rattle.replay.specs.declared.Wanted.{Wanted}
use Rattle.replay.specs.Reading.{Reads, ReadsFrom}
use Rattle.replay.specs.parts.Pieces.{FillsMore}
use Rattle.replay.proofs.ReadingLaws.{reading-start, waits_start, reading-kept, reading-more, input-ended, piece-ended, sent, sent-piece, read-failed, send-failed, written-by}
use Rattle.replay.proofs.read_all.Goals as goal

reads-of : {t : Wanted} {had left held holds : Option (List ℕ)} {ws buf : List ℕ} (e : End) → ReadsFrom t had left held holds ws buf e → Reads t ws buf e
reads-of e r = r.reads

pub loop-turn-init : goal.loop-turn-init
loop-turn-init g c =
    record {
      room = c.requires.1;
      reads = reading-start _ _ _ _ _ c.requires.0;
      waits = λ z. waits_start c.args.buf.now;
      small = omega arith;
    }

pub returns-in_default-clause-bytes : goal.returns-in_default-clause-bytes
returns-in_default-clause-bytes g c =
    let more = c.more-came in
    let inv = c.loop-turn.invariant in
    let kept = reading-kept _ _ _ _ _ _ _ _ _ _ _ inv.reads more.ensures.held.stay more.auto.buf in
    input-ended _ _ _ _ _ _ _ _ _ _ _ more.result _ c.end_of_input.ensures kept (more.auto.buf ∙ inv.room) more.ensures.bytes
    (λ z. let e : c.loop-turn.full ≡ false = rw z at more.ensures.held.holds in rw more.ensures.held.stay (inv.waits e))

pub returns-in_default-clause-reads : goal.returns-in_default-clause-reads
returns-in_default-clause-reads g c = IfOk-weaker _ _ _ reads-of (returns-in_default-clause-bytes g c)

pub returns-in_default-clause-written : goal.returns-in_default-clause-written
returns-in_default-clause-written g c =
    written-by _ _ _ _ _ _ _ c.end_of_input.result (returns-in_default-clause-bytes g c) (λ f z. read-failed _ _ _ _ _ _ _ _ _ _ c.loop-turn.invariant.reads)

pub returns-then-is_err-stopped-clause-bytes : goal.returns-then-is_err-stopped-clause-bytes
returns-then-is_err-stopped-clause-bytes g c =
    let more = c.more-came in
    let p = c.make-p in
    let kept = reading-kept _ _ _ _ _ _ _ _ _ _ _ c.loop-turn.invariant.reads more.ensures.held.stay more.auto.buf in
    let is : more.result ≡ Ok (Some c.in-Ok-Some.n) = c.in-Ok-Some.is ∙ ap Ok (rw c.in-Ok-Some.is at c.in-Ok-Some.field-0-is) in
    let holds = (subst (FillsMore _ _ _ _) is more.ensures.held).holds in
    rw c.send-sent.ensures.input
    (piece-ended _ _ _ _ _ _ _ _ p.result _ c.send-sent.result _ c.is_bad-stopped.ensures c.end_of_piece.ensures
    (λ w. reading-more _ _ _ _ _ _ _ _ _ _ kept _ holds.0 _ _ _ _ _ p.ensures _ _ (subst (Comes _ _ _ _) is more.ensures.bytes)
    (sent _ p.result _ c.send-sent.result _ _ c.printed.ensures c.send-sent.ensures.to_output w))
    p.ensures.waits (rw (← c.is_err.ensures.value) c.if-is_err-stopped.true))

pub returns-then-is_err-stopped-clause-reads : goal.returns-then-is_err-stopped-clause-reads
returns-then-is_err-stopped-clause-reads g c = IfOk-weaker _ _ _ reads-of (returns-then-is_err-stopped-clause-bytes g c)

pub returns-then-is_err-stopped-clause-written : goal.returns-then-is_err-stopped-clause-written
returns-then-is_err-stopped-clause-written g c =
    let more = c.more-came in
    let p = c.make-p in
    let kept = reading-kept _ _ _ _ _ _ _ _ _ _ _ c.loop-turn.invariant.reads more.ensures.held.stay more.auto.buf in
    let is : more.result ≡ Ok (Some c.in-Ok-Some.n) = c.in-Ok-Some.is ∙ ap Ok (rw c.in-Ok-Some.is at c.in-Ok-Some.field-0-is) in
    let holds = (subst (FillsMore _ _ _ _) is more.ensures.held).holds in
    written-by _ _ _ _ _ _ _ c.end_of_piece.result (returns-then-is_err-stopped-clause-bytes g c)
    (send-failed _ _ _ _ _ _ _ _ _ _ kept _ holds.0 _ _ _ _ p.result p.ensures _ _ (subst (Comes _ _ _ _) is more.ensures.bytes) c.send-sent.result _ _
    c.end_of_piece.ensures (sent-piece _ p.result _ c.send-sent.result _ _ c.printed.ensures c.send-sent.ensures.to_output))

pub returns-clause-written : goal.returns-clause-written
returns-clause-written g c = read-failed _ _ _ _ _ _ _ _ _ _ c.loop-turn.invariant.reads

pub loop-turn-preserved : goal.loop-turn-preserved
loop-turn-preserved g c =
    let more = c.more-came in
    let p = c.make-p in
    let inv = c.loop-turn.invariant in
    let kept = reading-kept _ _ _ _ _ _ _ _ _ _ _ inv.reads more.ensures.held.stay more.auto.buf in
    let is : more.result ≡ Ok (Some c.in-Ok-Some.n) = c.in-Ok-Some.is ∙ ap Ok (rw c.in-Ok-Some.is at c.in-Ok-Some.field-0-is) in
    let holds = (subst (FillsMore _ _ _ _) is more.ensures.held).holds in
    let s = or-both c.is_err.result c.is_bad-stopped.result c.if-is_err-stopped.false in
    record {
      room = p.auto.buf ∙ more.auto.buf ∙ inv.room;
      reads = rw c.send-sent.ensures.input (reading-more _ _ _ _ _ _ _ _ _ _ kept _ holds.0 _ _ _ _ _ p.ensures _ _ (subst (Comes _ _ _ _) is more.ensures.bytes)
          (sent _ p.result _ c.send-sent.result _ _ c.printed.ensures c.send-sent.ensures.to_output (sym c.is_err.ensures.value ∙ s.0)));
      waits = λ z. rw (sym c.is_bad-stopped.ensures ∙ s.1) at (p.ensures.waits (sym c.is_full-full.ensures ∙ z));
      small = omega (arith, inv.small, p.ensures.room, p.auto.out, c.requires.2);
    }
