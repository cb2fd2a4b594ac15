-- One piece of a journal: a read, and what a run over the bytes leaves with the rest kept at the start. Assumes nothing.
use Prim.Native.Nat.{ℕ, ◌+◌, ◌-◌, ◌≤◌}
use mathlib.Core.Path.{◌≡◌, sym, ap, ap₂, ◌∙◌}
use mathlib.Core.Bool.{Bool, false}
use mathlib.Core.List.{List}
use native.Mathlib.Omega.{arith}
use lib.ListN.{length, take, drop}
use lib.Seq.{length-take-le, take-add, drop_at}
use Rattle.std.proofs.Common.{Option, None, Some, Ok, Err, subst}
use Rattle.std.proofs.KnownBytes.{Consumes-nil}
use Rattle.std.proofs.lemmas.List.{drop-take as drop-take-of}
use Rattle.std.specs.Io.KnownBytes.{Consumes}
use Rattle.fields.specs.Put.{part, put}
use Rattle.fields.proofs.PutLaws.{length_part, front-put}
use Rattle.entries.specs.declared.run.Ran.{Ran}
use Rattle.input.specs.Filled.{Filled, HoldsRead, Fills}
use Rattle.replay.specs.declared.Wanted.{Wanted}
use Rattle.replay.specs.parts.Pieces.{HoldsMore, FillsMore, PieceRuns, PieceLeaves}

-- ---- a read: no fewer bytes are held
holds_more : (have : ℕ) (full : Bool) (room : ℕ) (r : Filled) → full ≡ false → HoldsRead have room r → HoldsMore have full room r
holds_more have full room (Ok (Some n)) e h = (omega (arith, h.0), h.1)
holds_more have full room (Ok None) e h = e
holds_more have full room (Err x) e h = tt

pub fills-more : (have : ℕ) (full : Bool) (before after : List ℕ) (r : Filled) → full ≡ false → Fills have before after r
    → FillsMore have full before after r
fills-more have full before after r e f = record { stay = f.stay; holds = holds_more have full (length after) r e f.holds }

-- where nothing is read the bytes held stay, and the reader keeps its own
pub none_more : (have : ℕ) (xs : List ℕ) (a : Option (List ℕ)) → Consumes a a (drop have (take have xs))
none_more have xs a =
    let e : have ≡ have + 0 = omega arith in
    subst (Consumes a a) (sym (ap (λ (i : ℕ). drop have (take i xs)) e ∙ drop-take-of have 0 xs)) (Consumes-nil a)

-- ---- the bytes of the first n from m on, kept at the start
module _ (xs : List ℕ) (m n : ℕ) (h : m ≤ n) (fits : n ≤ length xs) where
  drop-take : drop m (take n xs) ≡ part xs m (n - m)
  unfolding part
  drop-take =
      let e : n ≡ m + (n - m) = omega arith in
      ap (λ (i : ℕ). drop m (take i xs)) e
      ∙ ap (drop m) (take-add m (n - m) xs)
      ∙ drop_at (take m xs) (take (n - m) (drop m xs)) m (length-take-le m xs (omega arith))

  kept-front : (buf : List ℕ) (k : ℕ) → k ≡ n - m → buf ≡ put xs 0 (part xs m (n - m)) → take k buf ≡ drop m (take n xs)
  kept-front buf k e q =
      ap₂ (λ (i : ℕ) (l : List ℕ). take i l) e q ∙ front-put xs (part xs m (n - m)) (n - m) (sym (length_part xs m (n - m) (omega arith))) ∙ sym drop-take

-- ---- the piece
module _ (seen : ℕ) (t : Wanted) (n : ℕ) (ws₀ buf₀ out₀ ws out : List ℕ) (r : Ran) (fits : n ≤ length buf₀)
    (x : PieceRuns seen t (take n buf₀) ws₀ out₀ ws out r) where
  pub used-within : r.used ≤ n
  used-within = omega (arith, x.made.used, length-take-le n buf₀ fits)

  pub made : (buf : List ℕ) (left : ℕ) → left ≡ n - r.used → buf ≡ put buf₀ 0 (part buf₀ r.used (n - r.used)) → length buf ≡ length buf₀
      → PieceLeaves seen t n ws₀ buf₀ out₀ ws buf out (record { seen = r.seen; left = left; written = r.written; end = r.end })
  made buf left e q k =
      let rest = kept-front buf₀ r.used n used-within fits buf left e q in
      record {
        done = x.done;
        parsed = rw rest x.made.parsed;
        sound = x.made.sound;
        ledger = x.made.ledger;
        books = x.made.books;
        count = x.made.count;
        within = omega arith;
        bytes = x.bytes;
        written = x.written;
        room = omega (arith, x.within, x.kept);
        waits = λ z. rw rest (x.rest.left z);
      }
