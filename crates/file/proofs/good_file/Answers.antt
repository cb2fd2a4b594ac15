-- `file::good_file` meets its contract. The invariant: the records passed are good, and the check of those left is that of the whole.
use mathlib.Core.Path.{sym, ap, ◌∙◌}
use mathlib.Core.List.{List}
use Prim.Native.Nat.{ℕ, ◌/◌}
use native.Mathlib.Omega.{arith}
use borrow.Author.Tests.{eqb-true, eqb_apart, eq-eqb, ne_eqb, le-leb, lt-leb}
use lib.ListN.{length}
use Rattle.rules.specs.Lists.{every}
use Rattle.file.specs.File.{records, good_record, good_file}
use Rattle.file.proofs.FileLaws.{headed-first, headed-none, good-first, stop-first, good-none}
use Rattle.file.proofs.good_file.Goals as goal

pub returns-then-len-ne0 : goal.returns-then-len-ne0
unfolding good_file
returns-then-len-ne0 c = rw (ne_eqb _ _ c.if-len-ne0.true)

pub returns-then-len-gt-FILE_SIZE : goal.returns-then-len-gt-FILE_SIZE
unfolding good_file
returns-then-len-gt-FILE_SIZE c = rw (eq-eqb _ _ c.if-len-ne0.false, lt-leb _ _ c.if-len-gt-FILE_SIZE.true)

pub loop-r-preserved : goal.loop-r-preserved
loop-r-preserved c =
    let h = c.in-Some.ensures.steps in
    let v = c.loop-r.invariant in
    let t = sym c.good_record.ensures ∙ c.if-not-good_record.false in
    (omega arith, sym (ap (λ (s : List ℕ). every good_record (records s)) h.1.0 ∙ good-first c.in-Some.r.now c.next.new.self.rest.now (omega arith) t) ∙ v.1)

pub returns-then-not-good_record : goal.returns-then-not-good_record
unfolding good_file
returns-then-not-good_record c =
    let h = c.in-Some.ensures.steps in
    let v = c.loop-r.invariant in
    let t = sym c.good_record.ensures ∙ c.if-not-good_record.true in
    let e = sym v.1 ∙ ap (λ (s : List ℕ). every good_record (records s)) h.1.0 ∙ stop-first c.in-Some.r.now c.next.new.self.rest.now (omega arith) t in
    rw (eq-eqb _ _ c.if-len-ne0.false, le-leb _ _ c.if-len-gt-FILE_SIZE.false, e)

pub returns-then-is_empty : goal.returns-then-is_empty
unfolding good_file records
returns-then-is_empty c =
    let s = c.args.s.now in
    let h = c.in-None.ensures.steps in
    let z = eqb-true _ _ (sym c.is_empty.ensures ∙ c.if-is_empty.true) in
    let e = sym c.loop-r.invariant.1 ∙ good-none c.loop-r.r-iterator.rest.now (omega arith) in
    rw (c.if-is_empty.true, eq-eqb _ _ c.if-len-ne0.false, le-leb _ _ c.if-len-gt-FILE_SIZE.false, e, headed-none s (length s / 321) (omega arith))

pub returns-else-is_empty : goal.returns-else-is_empty
unfolding good_file records
returns-else-is_empty c =
    let s = c.args.s.now in
    let h = c.in-None.ensures.steps in
    let z = eqb_apart _ _ (sym c.is_empty.ensures ∙ c.if-is_empty.false) in
    let e = sym c.loop-r.invariant.1 ∙ good-none c.loop-r.r-iterator.rest.now (omega arith) in
    rw (eq-eqb _ _ c.if-len-ne0.false, le-leb _ _ c.if-len-gt-FILE_SIZE.false, e, headed-first s (length s / 321) (omega arith)) c.header_at.ensures
