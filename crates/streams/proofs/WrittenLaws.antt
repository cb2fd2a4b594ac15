-- What writes do to the bytes that a writer holds, one after another. Assumes nothing.
use Rattle.std.proofs.Common.{ℕ, ◌-◌, ◌≡◌, List, [], ◌++◌, Option, None, Some, length, take, drop, refl, sym, ap, subst, ◌∙◌, arith, append_assoc, append-nil, length-append}
use Rattle.std.proofs.Math.Seq.{take-append_seam}
use Rattle.std.proofs.lemmas.List.{take-append-drop, take_rest, nil_from_length}
use Rattle.std.proofs.KnownBytes.{Appends-nil, Appends-trans, Appends-kept}
use Rattle.std.specs.Io.KnownBytes.{Appends, Keeps}
use Rattle.streams.specs.Written.{AppendsFirst}

-- a writer took the first of some bytes, and these are left
pub record Wrote (before after : Option (List ℕ)) (all left : List ℕ) : Type 0 where
  pub sent : List ℕ
  pub whole : all ≡ sent ++ left
  pub held : Appends before after sent

pub none_yet : (a : Option (List ℕ)) (xs : List ℕ) → Wrote a a xs xs
none_yet a xs = record { sent = []; whole = refl; held = Appends-nil a }

-- a write took no byte
pub took_none : (a b : Option (List ℕ)) (xs : List ℕ) (n : ℕ) → n ≡ 0 → Appends a b (take n xs) → Keeps a b
took_none None b xs n e m = tt
took_none (Some x) None xs n e m = absurd m
took_none (Some x) (Some y) xs n e m = m ∙ ap (λ k. x ++ take k xs) e ∙ append-nil x

module _ (a b : Option (List ℕ)) (all left : List ℕ) (w : Wrote a b all left) where
  -- a write took n bytes more
  pub more : (c : Option (List ℕ)) (n : ℕ) → Appends b c (take n left) → Wrote a c all (take (length left - n) (drop n left))
  more c n m =
      record {
        sent = w.sent ++ take n left;
        whole = w.whole
            ∙ ap (λ l. w.sent ++ l) (sym (take-append-drop n left))
            ∙ sym (append_assoc w.sent (take n left) (drop n left))
            ∙ ap (λ l. (w.sent ++ take n left) ++ l) (sym (take_rest left n));
        held = Appends-trans a b c w.sent (take n left) w.held m;
      }

  -- none is left
  pub all_written : length left ≡ 0 → Appends a b all
  all_written e = subst (Appends a b) (sym (w.whole ∙ ap (λ l. w.sent ++ l) (nil_from_length left e) ∙ append-nil w.sent)) w.held

  -- the next write failed, or took none
  pub first_written : (c : Option (List ℕ)) → Keeps b c → AppendsFirst all a c
  first_written c k = (
    length w.sent,
    omega (arith, ap length w.whole, length-append w.sent left),
    subst (Appends a c) (sym (ap (take (length w.sent)) w.whole ∙ take-append_seam w.sent left)) (Appends-kept a b c w.sent w.held k),
  )
