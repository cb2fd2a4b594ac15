-- A piece of standard input, and what its entries leave and write. Assumes nothing.
use Rattle.std.specs.Prelude.{ℕ, ◌+◌, ◌≤◌, ◌≡◌, Bool, true, false, List, [], None, Some, Ok, Err, length, take}
use Rattle.fields.specs.Put.{put}
use Rattle.ledger.specs.Books.{book}
use Rattle.ledger.specs.Sound.{sound_ledger}
use Rattle.words.specs.Layout as layout
use Rattle.journal.specs.Journal.{Entry, parse, after_entries}
use Rattle.journal.specs.EntryCalls.{ledger_after_entries}
use Rattle.entries.specs.declared.run.Ran.{Ran}
use Rattle.entries.specs.parts.Running.{behind, met_bad, had_no_room, FirstMade, NoneLeft}
use Rattle.input.specs.Filled.{Filled}
use Rattle.replay.specs.declared.Wanted.{Wanted}
use Rattle.replay.specs.declared.Piece.{Piece}
use Rattle.replay.specs.Reading.{written_of}

-- a buffer of so many bytes, of which some were held before, holds no fewer than before, and no more than it has; where entries are left to be
-- made the input does not end
abbrev pub HoldsMore : ℕ → Bool → ℕ → Filled → Type 0
HoldsMore have full room (Ok (Some n)) = (have ≤ n) × (n ≤ room)
HoldsMore have full room (Ok None) = full ≡ false
HoldsMore have full room (Err e) = Unit {0}

-- a read, or none where entries are left to be made: the bytes held before stay
pub record FillsMore (have : ℕ) (full : Bool) (before after : List ℕ) (r : Filled) : Type 0 where
  pub stay : take have after ≡ take have before
  pub holds : HoldsMore have full (length after) r

-- the first entries of src were made, after so many entries, and what is asked for of them stands at the start of the output; none is left unless the output
-- is full
pub record PieceRuns (seen : ℕ) (t : Wanted) (src ws₀ out₀ ws out : List ℕ) (r : Ran) : Type 0 where
  pub done : List Entry
  pub made : FirstMade seen src ws₀ ws r.used r.seen done
  pub kept : length out ≡ length out₀
  pub bytes : out ≡ put out₀ 0 (written_of t seen (book (layout.ledger_of ws₀)) done)
  pub written : r.written ≡ length (written_of t seen (book (layout.ledger_of ws₀)) done)
  pub within : r.written ≤ length out₀
  pub rest : NoneLeft src r

-- no entry stands whole at the start of some bytes
abbrev pub Waits : ℕ → List ℕ → Bool → Type 0
Waits seen s stopped = parse seen s ≡ record { entries = []; stopped = stopped; rest = s }

-- the first entries of the first n bytes were made, after so many entries; the bytes behind them stand at the start of the buffer and what is asked for of
-- them at the start of the output. No entry is left unless the output is full.
pub record PieceLeaves (seen : ℕ) (t : Wanted) (n : ℕ) (ws₀ buf₀ out₀ ws buf out : List ℕ) (p : Piece) : Type 0 where
  -- the entries that were made
  pub done : List Entry
  pub parsed : parse seen (take n buf₀) ≡ behind done (parse p.seen (take p.left buf))
  pub sound : sound_ledger (layout.ledger_of ws) ≡ true
  pub ledger : layout.ledger_of ws ≡ ledger_after_entries (layout.ledger_of ws₀) done
  pub books : book (layout.ledger_of ws) ≡ after_entries (book (layout.ledger_of ws₀)) done
  pub count : p.seen ≡ seen + length done
  pub within : p.left ≤ length buf
  pub bytes : out ≡ put out₀ 0 (written_of t seen (book (layout.ledger_of ws₀)) done)
  pub written : p.written ≡ length (written_of t seen (book (layout.ledger_of ws₀)) done)
  pub room : p.written ≤ length out
  pub waits : had_no_room p.end ≡ false → Waits p.seen (take p.left buf) (met_bad p.end)
