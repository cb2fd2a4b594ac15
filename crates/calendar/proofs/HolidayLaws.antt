-- Good holidays, as a loop asks for them: each over the one before it, and a date. Assumes nothing.
use Prim.Native.Nat.{ℕ, ◌≤◌}
use mathlib.Core.Path.{◌≡◌, refl, sym, ◌∙◌}
use mathlib.Core.Bool.{Bool, true, ◌&&◌, and-true, and-false}
use mathlib.Core.List.{List, [], ◌∷◌}
use native.Mathlib.Omega.{arith}
use lib.Dec.{ltb}
use lib.ListN.{length}
use borrow.Author.Tests.{ltb-true, lt-ltb, le-leb}
use Rattle.fields.proofs.BoolLaws.{cases}
use Rattle.rules.specs.Lists.{every}
use Rattle.rules.proofs.ListLaws.{every_map}
use Rattle.units.specs.Calendar.{is_date}
use Rattle.units.proofs.DateLaws.{date-some}
use Rattle.calendar.specs.BusinessDays.{rise, good_holidays}

-- each number is over the one before it, the first over b
abbrev chain : ℕ → List ℕ → Bool
chain b [] = true
chain b (h ∷ hs) = ltb b h && chain h hs

chain-rise : (b : ℕ) (hs : List ℕ) → chain b hs ≡ (every (ltb b) hs && rise hs)
unfolding rise
chain-rise b [] = refl
chain-rise b (h ∷ hs) =
    cases (ltb b h)
    (λ e.
    cases (every (ltb h) hs)
    (λ f.
    let g = every_map (ltb h) (ltb b) (λ x l. lt-ltb b x (omega (arith, ltb-true b h e, ltb-true h x l))) hs f in
    rw (chain-rise h hs, e, f, g))
    (λ f. rw (chain-rise h hs, e, f) (sym (and-false (every (ltb b) hs)))))
    (λ e. rw e)

-- the holidays hs that follow b are good
abbrev pub follow : ℕ → List ℕ → Bool
follow b hs = chain b hs && every is_date hs

pub follow-good : (hs : List ℕ) → length hs ≤ 64 → follow 0 hs ≡ good_holidays hs
follow-good hs h =
    rw (le-leb (length hs) 64 h, chain-rise 0 hs)
    (cases (every is_date hs)
    (λ e.
    let f = every_map is_date (ltb 0) (λ x d. lt-ltb 0 x (date-some x d)) hs e in
    rw (e, f) (sym (and-true (rise hs && true))))
    (λ e. rw e (and-false (every (ltb 0) hs && rise hs) ∙ sym (and-false (rise hs && true)))))
