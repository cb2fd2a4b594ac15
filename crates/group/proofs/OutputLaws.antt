-- What stands in the output while notices are written one after another, or are only measured. Assumes nothing.
use Prim.Native.Nat.{ℕ, ◌+◌, ◌≤◌}
use mathlib.Core.Path.{◌≡◌, refl, sym, ap, ◌∙◌}
use mathlib.Core.Bool.{Bool, true, false, false≢true}
use mathlib.Core.List.{List, [], ◌++◌}
use native.Mathlib.Omega.{arith}
use native.Mathlib.Nat.{add-zero}
use lib.ListN.{length, length-append}
use Rattle.fields.specs.Put.{put}
use Rattle.fields.proofs.PutLaws.{length-put, put-nil, put-put}
use Rattle.group.specs.parts.Turns.{if_written}

-- out is out₀ with ys put at a, where notices are written, and n is where they end
pub record Out (writes : Bool) (a : ℕ) (out₀ out ys : List ℕ) (n : ℕ) : Type 0 where
  pub kept : length out ≡ length out₀
  pub bytes : out ≡ put out₀ a (if_written writes ys)
  pub size : n ≡ a + length ys
  pub within : writes ≡ true → n ≤ length out₀

pub out-start : (writes : Bool) (a : ℕ) (out : List ℕ) → (writes ≡ true → a ≤ length out) → Out writes a out out [] a
out-start true a out h = record { kept = refl; bytes = put-nil out a; size = sym (add-zero a); within = h }
out-start false a out h = record { kept = refl; bytes = put-nil out a; size = sym (add-zero a); within = h }

-- zs more
pub out-more : (writes : Bool) (a : ℕ) (out₀ out ys : List ℕ) (n : ℕ) → Out writes a out₀ out ys n → (zs out' : List ℕ) (m : ℕ)
    → (writes ≡ true → n + length zs ≤ length out) → out' ≡ put out n (if_written writes zs) → m ≡ n + length zs
    → Out writes a out₀ out' (ys ++ zs) m
out-more true a out₀ out ys n w zs out' m h e k =
    let fits = h refl in
    let room = w.within refl in
    record {
      kept = ap length e ∙ length-put out n zs fits ∙ w.kept;
      bytes =
          e
          ∙ ap (λ (x : List ℕ). put x n zs) w.bytes
          ∙ ap (λ (x : ℕ). put (put out₀ a ys) x zs) w.size
          ∙ put-put out₀ a ys zs (omega (arith, w.size));
      size = omega (arith, k, w.size, length-append ys zs);
      within = λ z. omega (arith, w.kept);
    }
out-more false a out₀ out ys n w zs out' m h e k =
    let same : out' ≡ out = e ∙ sym (put-nil out n) in
    record {
      kept = ap length same ∙ w.kept;
      bytes = same ∙ w.bytes;
      size = omega (arith, k, w.size, length-append ys zs);
      within = λ z. absurd (false≢true z);
    }

-- what was put behind ys, from n on
pub out-join : (writes : Bool) (a : ℕ) (out₀ out ys : List ℕ) (n : ℕ) → Out writes a out₀ out ys n → (zs out' : List ℕ) (m : ℕ) → Out writes n out out' zs m
    → Out writes a out₀ out' (ys ++ zs) m
out-join writes a out₀ out ys n w zs out' m x =
    out-more writes a out₀ out ys n w zs out' m (λ e. omega (arith, x.size, x.within e)) x.bytes x.size
