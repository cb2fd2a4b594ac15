-- `replay::read_all` meets its contract. The loop's invariant: the pieces that came are read as one.
use Rattle.std.specs.Prelude.{ℕ, ◌*◌, ◌≤◌, ◌≡◌, Bool, false, List, Option, length, take}
use Rattle.replay.specs.declared.Wanted.{Wanted}
use Rattle.replay.specs.parts.Pieces.{Waits}
use Rattle.replay.proofs.ReadingLaws.{Reading}
use Rattle.replay.proofs.read_all.Given as goal

pub record Inv (had left held holds : Option (List ℕ)) (t : Wanted) (ws buf : List ℕ) (seen have total : ℕ) (full : Bool) (turns : ℕ) : Type 0 where
  pub room : length buf ≡ 262144
  pub reads : Reading t had left held holds ws buf seen have total
  pub waits : full ≡ false → Waits seen (take have buf) false
  pub small : total ≤ 262144 * turns

abbrev pub invariant-loop-turn : goal.invariant-loop-turn
invariant-loop-turn g l =
    Inv (g.R.Read.remaining l.initial.streams.input) (g.R.Read.remaining l.streams.input) (g.O.Write.contents l.initial.streams.output) (g.O.Write.contents l.streams.output) l.wanted l.ws l.buf l.seen l.left l.total l.full l._turn
