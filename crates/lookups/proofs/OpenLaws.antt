-- The answer of the lookup of an open bill, case by case, from what the walk holds at its end. Assumes nothing.
use Prim.Native.Nat.{ℕ, ◌≤◌, ◌<◌}
use mathlib.Core.Path.{◌≡◌, sym, ap, ◌∙◌}
use mathlib.Core.Bool.{true, false}
use borrow.Author.Tests.{lt-ltb, le-ltb}
use Rattle.ledger.specs.declared.Ledger.{Ledger}
use Rattle.ledger.specs.Books.{live}
use Rattle.ledger.specs.Sound.{sound_ledger}
use Rattle.lookups.specs.Lookups.{open_causes, open_in}
use Rattle.lookups.specs.parts.Walk.{none_due, due_after, place_due}
use Rattle.lookups.proofs.EarliestLaws.{by-held, walk-found, walk-held}
use Rattle.std.specs.Prelude.{Err, is_some}
use Rattle.rules.specs.declared.Cause.TheVariants.{BadArgument}

module _ (l : Ledger) (account : ℕ) where
  pub open-unsound : sound_ledger l ≡ false → Err BadArgument ≡ open_in l account
  unfolding open_in open_causes
  open-unsound e = rw e

  module _ (s : sound_ledger l ≡ true) where
    pub open-wide : 1000000000000 ≤ account → Err BadArgument ≡ open_in l account
    unfolding open_in open_causes
    open-wide w = rw (s, le-ltb account 1000000000000 w)

    pub open-walked : account < 1000000000000 → place_due (due_after account l.today 0 none_due (live l)) ≡ open_in l account
    unfolding open_in open_causes
    open-walked w =
        by-held (due_after account l.today 0 none_due (live l))
        (λ e. rw (s, lt-ltb account 1000000000000 w, walk-held account l.today (live l) ∙ ap is_some e, e))
        (λ d e.
        rw (
          s,
          lt-ltb account 1000000000000 w,
          walk-held account l.today (live l) ∙ ap is_some e,
          sym (walk-found account l.today (live l)),
        ))
