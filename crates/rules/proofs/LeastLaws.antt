-- Laws of the least number that passes a test, of specs/Least.antt. Assumes nothing.
use Prim.Native.Nat.{ℕ, zero, suc, ◌+◌, ◌-◌, ◌≤◌, ◌<◌}
use mathlib.Core.Path.{◌≡◌, refl, sym, ap, ◌∙◌}
use mathlib.Core.Bool.{Bool, true, false}
use native.Mathlib.Omega.{arith}
use native.Mathlib.Decide.{dec_le}
use Rattle.fields.proofs.BoolLaws.{cases}
use Rattle.rules.specs.Least.{least, least_up_to}
use Rattle.std.specs.Prelude.{Some, None}

module _ (p : ℕ → Bool) where
  least-hit : (k n : ℕ) → p k ≡ true → least p k (suc n) ≡ Some k
  unfolding least
  least-hit k n h = rw (h, least)

  least-miss : (k n : ℕ) → p k ≡ false → least p k (suc n) ≡ least p (suc k) n
  unfolding least
  least-miss k n h = rw (h, least)

  -- over m numbers that do not pass
  least_skip : (m k n : ℕ) → ((e : ℕ) → k ≤ e → e < k + m → p e ≡ false) → least p k (m + n) ≡ least p (k + m) n
  least_skip zero k n h = let e : k + 0 ≡ k = omega arith in let f : 0 + n ≡ n = omega arith in rw (e, f)
  least_skip (suc m) k n h =
      let e : k + suc m ≡ suc k + m = omega arith in
      let f : suc m + n ≡ suc (m + n) = omega arith in
      let g = least_skip m (suc k) n (λ j a b. h j (omega arith) (omega arith)) in
      rw f (least-miss k (m + n) (h k (omega arith) (omega arith)) ∙ g ∙ ap (λ (j : ℕ). least p j n) (sym e))

  least-found : (n k d : ℕ) → least p k n ≡ Some d → (p d ≡ true) × (k ≤ d) × (d < k + n)
  unfolding least
  least-found zero k d e = let z : ◌≡◌ {A = ℕ} 0 1 = cc in absurd (omega arith)
  least-found (suc n) k d e =
      cases (p k)
      (λ h. let f : k ≡ d = cc (least-hit k n h) in (ap p (sym f) ∙ h, omega arith, omega arith))
      (λ h.
      let f = least-found n (suc k) d (sym (least-miss k n h) ∙ e) in
      (f.0, omega arith, omega arith))

  -- what stands before the number found does not pass
  least-before : (n k d : ℕ) → least p k n ≡ Some d → (e : ℕ) → k ≤ e → e < d → p e ≡ false
  unfolding least
  least-before zero k d f e h l = let z : ◌≡◌ {A = ℕ} 0 1 = cc in absurd (omega arith)
  least-before (suc n) k d f e h l =
      cases (p k)
      (λ t. let g : k ≡ d = cc (least-hit k n t) in absurd (omega arith))
      (λ t.
      elim (dec_le e k) [
        | yes g ↦ (let i : e ≡ k = omega arith in rw i t)
        | no g ↦ least-before n (suc k) d (sym (least-miss k n t) ∙ f) e (omega arith) l
      ])

  least-nothing : (n k : ℕ) → least p k n ≡ None → (e : ℕ) → k ≤ e → e < k + n → p e ≡ false
  unfolding least
  least-nothing zero k f e h l = absurd (omega arith)
  least-nothing (suc n) k f e h l =
      cases (p k)
      (λ t. let z : ◌≡◌ {A = ℕ} 0 1 = cc (least-hit k n t) in absurd (omega arith))
      (λ t.
      elim (dec_le e k) [
        | yes g ↦ (let i : e ≡ k = omega arith in rw i t)
        | no g ↦ least-nothing n (suc k) (sym (least-miss k n t) ∙ f) e (omega arith) (omega arith)
      ])

  -- the first passes; there is none; those before b do not pass
  pub up-to-hit : (a b : ℕ) → a ≤ b → p a ≡ true → least_up_to p a b ≡ Some a
  unfolding least_up_to
  up-to-hit a b h t = let e : suc b - a ≡ suc (b - a) = omega arith in rw e (least-hit a (b - a) t)

  pub up-to-none : (a b : ℕ) → b < a → least_up_to p a b ≡ None
  unfolding least_up_to least
  up-to-none a b h = let e : suc b - a ≡ 0 = omega arith in rw e

  pub up-to-skip : (a b top : ℕ) → a ≤ b → b ≤ suc top → ((e : ℕ) → a ≤ e → e < b → p e ≡ false) → least_up_to p a top ≡ least_up_to p b top
  unfolding least_up_to
  up-to-skip a b top h k f =
      let s : suc top - a ≡ (b - a) + (suc top - b) = omega arith in
      let t : a + (b - a) ≡ b = omega arith in
      rw s (least_skip (b - a) a (suc top - b) (λ e i j. f e i (omega arith)) ∙ ap (λ (j : ℕ). least p j (suc top - b)) t)

  -- what is found passes, and stands between a and b; what stands before it does not pass
  pub up-to-found : (a b d : ℕ) → least_up_to p a b ≡ Some d → (p d ≡ true) × (a ≤ d) × (d ≤ b)
  unfolding least_up_to
  up-to-found a b d e = let f = least-found (suc b - a) a d e in (f.0, f.1, omega arith)

  pub up-to-before : (a b d : ℕ) → least_up_to p a b ≡ Some d → (e : ℕ) → a ≤ e → e < d → p e ≡ false
  unfolding least_up_to
  up-to-before a b d f = least-before (suc b - a) a d f

  -- where nothing is found none passes
  pub up-to-nothing : (a b : ℕ) → least_up_to p a b ≡ None → (e : ℕ) → a ≤ e → e ≤ b → p e ≡ false
  unfolding least_up_to
  up-to-nothing a b f e h l = least-nothing (suc b - a) a f e h (omega arith)

-- two tests that agree find the same
least-same : (p q : ℕ → Bool) (n k : ℕ) → ((e : ℕ) → k ≤ e → e < k + n → p e ≡ q e) → least p k n ≡ least q k n
unfolding least
least-same p q zero k h = refl
least-same p q (suc n) k h =
    let f = least-same p q n (suc k) (λ e a b. h e (omega arith) (omega arith)) in
    cases (q k)
    (λ t. least-hit p k n (h k (omega arith) (omega arith) ∙ t) ∙ sym (least-hit q k n t))
    (λ t. least-miss p k n (h k (omega arith) (omega arith) ∙ t) ∙ f ∙ sym (least-miss q k n t))

pub up-to-same : (p q : ℕ → Bool) (a b : ℕ) → ((e : ℕ) → a ≤ e → e ≤ b → p e ≡ q e) → least_up_to p a b ≡ least_up_to q a b
unfolding least_up_to
up-to-same p q a b h = least-same p q (suc b - a) a (λ e i j. h e i (omega arith))
