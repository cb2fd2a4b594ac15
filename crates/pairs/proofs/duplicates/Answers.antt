-- `pairs::duplicates` meets its contract. The outer invariant: the marks before i are right. The inner one: no record before j matches.
use Prim.Native.Nat.{ℕ, ◌<◌}
use mathlib.Core.Path.{◌≡◌, refl, sym, ap, ap₂, ◌∙◌}
use mathlib.Core.Bool.{Bool, true, false, not, ◌&&◌}
use mathlib.Core.List.{List}
use native.Mathlib.Omega.{arith}
use lib.ListN.{length, take, get_or, set, length-set}
use lib.Seq.{get_or-take, length-take-le}
use lib.Dec.{eqb}
use Rattle.file.specs.parts.Walk.{mark_at}
use Rattle.pairs.specs.parts.GroupNumbers.{number_at, number_slot}
use Rattle.pairs.proofs.MarkLaws.{matches, mark-hit, mark-miss, mark-none, marked-stay, marked-set, unmarked}
use Rattle.pairs.proofs.SlotLaws.{meets, unmet, guard-on, guard-off}
use Rattle.pairs.proofs.duplicates.Goals as goal
use Rattle.pairs.proofs.duplicates.Goals.{then-own-met+else-others-test, then-own-met+then-others-test+then-other-own, else-own-met}

pub loop-i-init : goal.loop-i-init
loop-i-init c = (refl, unmarked 200 (mark_at c.args.s.now c.args.n))

pub loop-i-preserved : goal.loop-i-preserved
loop-i-preserved c =
    let s = c.args.s.now in
    let n = c.args.n in
    let b = c.requires.1 in
    let l = c.loop-i in
    let i = l.i in
    let numbers = c.group_numbers-numbers.result in
    let xs = take n numbers in
    let long : length xs ≡ n = length-take-le n numbers (omega (arith, c.requires.0, c.group_numbers-numbers.ensures.0)) in
    let here : i < n = omega arith in
    let first : (k : ℕ) → k < n → get_or xs k 0 ≡ get_or numbers k 0 = λ k h. get_or-take n numbers k 0 h in
    let at : (k : ℕ) → k < n → get_or xs k 0 ≡ number_at s n k = λ k h. first k h ∙ c.group_numbers-numbers.ensures.1 k h in
    let same : (k : ℕ) → k < n → matches s n i k ≡ meets xs i k =
    λ k h. ap₂ (λ (x y : ℕ). eqb x y && not (eqb k i)) (sym (at k h)) (sym (at i here)) in
    let shared = c.shared_slots-shared.result in
    let h = c.slot-h.ensures.0 in
    let twice : (j : ℕ) → j < n → (j ≡ i → ⊥) → get_or xs j 0 ≡ get_or xs i 0 → get_or shared (number_slot (get_or xs i 0)) false ≡ true =
    λ j l d e. ap (λ (x : ℕ). get_or shared (number_slot x) false) (first i here) ∙ c.shared_slots-shared.ensures.1 j i l here d (sym (first j l) ∙ e ∙ first i here) in
    elim c.if-own-met.branch [
      | then-own-met+else-others-test w ↦
          let z : number_at s n i ≡ 0 → ⊥ = λ e. guard-on (get_or xs i 0) (get_or shared c.slot-h.result false) w.if-own-met.true (at i here ∙ e) in
          let e = mark-miss s n b i here z (λ j h. same j h ∙ w.others.invariant.1 j (omega arith)) in
          let q = w.marks-is ∙ w.others.invariant.0 in
          rw q (l.invariant.0, marked-stay l.marks (mark_at s n) i e l.invariant.1)
      | then-own-met+then-others-test+then-other-own w ↦
          let z : number_at s n i ≡ 0 → ⊥ = λ e. guard-on (get_or xs i 0) (get_or shared c.slot-h.result false) w.if-own-met.true (at i here ∙ e) in
          let e = mark-hit s n b i here z w.others.j (omega arith) (same w.others.j (omega arith) ∙ w.if-other-own.true) in
          let q = w.marks-is ∙ ap (λ (m : List Bool). set m i true) w.others.invariant.0 in
          rw q (length-set l.marks i true ∙ l.invariant.0, marked-set l.marks (mark_at s n) i (omega arith) e l.invariant.1)
      | else-own-met w ↦
          let e =
          guard-off (get_or xs i 0) (get_or shared c.slot-h.result false) w.if-own-met.false
          (λ o. mark-none s n b i here (sym (at i here) ∙ o))
          (λ o m. mark-miss s n b i here (λ e. o (at i here ∙ e)) (λ j l. same j l ∙ unmet xs shared i n (ap (λ (a : ℕ). get_or shared a false) (sym h) ∙ m) twice j l)) in
          rw w.marks-is (l.invariant.0, marked-stay l.marks (mark_at s n) i e l.invariant.1)
    ]
