-- `answers::rej::write` meets its contract: the header, then a detail for each record after it.
use Prim.Native.Nat.{◌+◌, ◌*◌}
use mathlib.Core.Path.{◌≡◌, refl, ◌∙◌}
use native.Mathlib.Omega.{arith}
use Rattle.fields.proofs.PutLaws.{first, next, put-nil}
use Rattle.records.specs.Layout.{record_at, is_sup}
use Rattle.notices.specs.Answers.{rej_header, rej}
use Rattle.notices.proofs.AnswerLaws.{length-rej-header}
use Rattle.records.proofs.LayoutLaws.{long-record}
use Rattle.notices.proofs.RecordLaws.{details-none, details-more, long-detail}
use Rattle.answers.proofs.rej.write.Goals as goal

pub loop-j-init : goal.loop-j-init
loop-j-init c =
    let a = c.args in
    record {
      kept = refl;
      wrote =
          rw (details-none _ a.x a.s.now (a.i + 1))
          (record { same = put-nil _ _; long = refl; fits = omega (arith, c.requires, c.put_header.auto.out) });
    }

pub loop-j-preserved : goal.loop-j-preserved
loop-j-preserved c =
    let a = c.args in
    let l = c.loop-j in
    let m = details-more c.is_sup-sup.result a.x a.s.now (a.i + 1) l.j in
    let q : l.j * 321 + 321 ≡ (l.j + 1) * 321 = omega arith in
    record {
      kept = c.put_detail_at.auto.out ∙ l.invariant.kept;
      wrote =
          rw (m, ← q)
          (next l.invariant.wrote _ c.put_detail_at.ensures
          (long-detail c.is_sup-sup.result a.x a.s.now (a.i + 1 + l.j) (omega (arith, c.requires, c.loop-j-test.true))));
    }

pub returns : goal.returns
unfolding rej
returns c =
    let a = c.args in
    let l = c.loop-j in
    let e : l.j ≡ a.k = omega arith in
    let z = c.record_at-h.ensures.0 in
    let h = first a.out.now a.at (rej_header (record_at a.s.now a.i) a.x) (omega (arith, c.requires)) (rw z at c.put_header.ensures)
    (length-rej-header (record_at a.s.now a.i) (omega (arith, long-record a.s.now a.i (omega (arith, c.requires)))) a.x) in
    let sup : c.is_sup-sup.result ≡ is_sup (record_at a.s.now a.i) = rw z at c.is_sup-sup.ensures in
    let w = next h _ (rw (e, sup) at l.invariant.wrote.same) (rw (e, sup) at l.invariant.wrote.long) in
    w.same
