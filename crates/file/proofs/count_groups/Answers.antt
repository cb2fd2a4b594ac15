-- `file::count_groups` meets its contract.
use Prim.Native.Nat.{ℕ, ◌+◌, ◌*◌, ◌≤◌}
use mathlib.Core.Path.{◌≡◌, sym, ap, subst, ◌∙◌}
use mathlib.Core.Bool.{Bool, true, false, cond}
use mathlib.Core.List.{List, ◌++◌}
use native.Mathlib.Omega.{arith}
use lib.ListN.{length, take, length-append}
use lib.Seq.{length-take-le}
use Rattle.std.specs.declared.slice.ChunksExact.{ChunksExact}
use Rattle.rules.specs.Lists.{count}
use Rattle.records.specs.Layout.{is_sup}
use Rattle.file.specs.File.{is_header, asks_id}
use Rattle.file.proofs.FileLaws.{length-header-first, length-detail-first, count-header, count-detail-first, first-records, none-left}
use Rattle.file.proofs.count_groups.Invariants.{Inv}
use Rattle.file.proofs.count_groups.Goals as goal

-- after a header, which asks for a Tracking ID or not, and after a detail
module _ {s : List ℕ} {n g k : ℕ} (r t : List ℕ) (h : length r ≡ 321) (v : Inv s n g k (r ++ t)) where
  past-header : (b : Bool) → is_header r ≡ true → is_sup r ≡ b → Inv s n (g + 1) (cond b (k + 1) k) t
  past-header true e f = omega (arith, length-append r t, length-header-first r t h e, count-header r t h true e f)
  past-header false e f = omega (arith, length-append r t, length-header-first r t h e, count-header r t h false e f)

  past-detail : is_header r ≡ false → Inv s n g k t
  past-detail e = omega (arith, length-append r t, length-detail-first r t h e, count-detail-first r t h asks_id e)

start : (s : List ℕ) (n : ℕ) → n * 321 ≤ length s → Inv s n 0 0 (take (n * 321) s)
start s n h =
    let e = first-records s n h in
    record { few = omega (arith, length-take-le (n * 321) s h); fewer = omega (arith, length-take-le (n * 321) s h); counted = rw e (omega arith); ids = rw e (omega arith) }

pub loop-r-init : goal.loop-r-init
loop-r-init c =
    let s = c.args.s.now in
    let n = c.args.n in
    let e = ap (λ (x : ChunksExact ℕ). x.rest.now) c.into_iter-r-iterator.ensures.into_iter_gives ∙ c.chunks_exact-r-items.ensures.rest in
    let f = ap (λ (x : ChunksExact ℕ). x.size) c.into_iter-r-iterator.ensures.into_iter_gives ∙ c.chunks_exact-r-items.ensures.size in
    (f, rw e (start s n c.requires))

pub loop-r-preserved-then-holds : goal.loop-r-preserved-then-holds
loop-r-preserved-then-holds c =
    let h = c.in-Some.ensures.steps in
    let v = subst (λ (x : List ℕ). Inv c.args.s.now c.args.n c.loop-r.g c.loop-r.k x) h.1.0 c.loop-r.invariant.1 in
    (omega arith, past-header c.in-Some.r.now c.next.new.self.rest.now (omega arith) v true (sym c.is_header.ensures ∙ c.if-is_header.true) (sym c.holds.ensures ∙ c.if-holds.true))

pub loop-r-preserved-else-holds : goal.loop-r-preserved-else-holds
loop-r-preserved-else-holds c =
    let h = c.in-Some.ensures.steps in
    let v = subst (λ (x : List ℕ). Inv c.args.s.now c.args.n c.loop-r.g c.loop-r.k x) h.1.0 c.loop-r.invariant.1 in
    (omega arith, past-header c.in-Some.r.now c.next.new.self.rest.now (omega arith) v false (sym c.is_header.ensures ∙ c.if-is_header.true) (sym c.holds.ensures ∙ c.if-holds.false))

pub loop-r-preserved : goal.loop-r-preserved
loop-r-preserved c =
    let h = c.in-Some.ensures.steps in
    let v = subst (λ (x : List ℕ). Inv c.args.s.now c.args.n c.loop-r.g c.loop-r.k x) h.1.0 c.loop-r.invariant.1 in
    (omega arith, past-detail c.in-Some.r.now c.next.new.self.rest.now (omega arith) v (sym c.is_header.ensures ∙ c.if-is_header.false))

pub returns : goal.returns
returns c =
    let h = c.in-None.ensures.steps in
    let e = none-left c.loop-r.r-iterator.rest.now (omega arith) in
    (omega (arith, ap length e), omega (arith, ap (count asks_id) e))
