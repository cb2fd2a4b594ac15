-- The walk over a file's groups that writes their lines. Assumes nothing.
use Prim.Native.Nat.{ℕ, ◌+◌, ◌-◌, ◌*◌, ◌≤◌, ◌<◌}
use mathlib.Core.Path.{◌≡◌, refl, sym, ap, ◌∙◌}
use mathlib.Core.Bool.{true, false}
use mathlib.Core.List.{List, [], ◌++◌, append_assoc, append-nil}
use native.Mathlib.Omega.{arith}
use lib.ListN.{length, drop}
use lib.Seq.{drop-drop}
use Rattle.fields.specs.Put.{put}
use Rattle.fields.proofs.PutLaws.{first, next, put-nil}
use Rattle.records.specs.Layout.{record_at, records_from}
use Rattle.file.specs.File.{is_header, Group, leading, groups}
use Rattle.file.specs.parts.Walk.{group_at}
use Rattle.file.proofs.FileLaws.{groups-header, groups-detail, groups-end, leading-header, leading-detail, length-details, from_start}
use Rattle.trace_lines.specs.parts.ReadAnswers.{answer_long, read_line, read_lines}
use Rattle.trace_lines.proofs.GroupLineLaws.{short-line, answer-short}

-- the groups of a file of n records, and those from record i on
abbrev all : List ℕ → ℕ → List Group
all s n = groups (records_from s 0 n)

abbrev rest : List ℕ → ℕ → ℕ → List Group
rest s n i = groups (records_from s i (n - i))

-- the walk has come to record i: `done` stands from `at` to `end`, and the lines of the groups from record i on are read from `from` on
pub record Walk (s sent : List ℕ) (n : ℕ) (out₀ : List ℕ) (at : ℕ) (out : List ℕ) (end from i : ℕ) : Type 0 where
  pub within : i ≤ n
  pub long : length out ≡ length out₀
  pub room : from ≤ (i + leading (records_from s i (n - i))) * 321
  pub few : end ≤ at + 43 * i
  pub fits : at ≤ length out₀
  pub done : List ℕ
  pub upto : end ≡ at + length done
  pub same : out ≡ put out₀ at done
  pub bytes : done ++ read_lines (drop from sent) (rest s n i) ≡ read_lines sent (all s n)

pub walk_start : (s sent : List ℕ) (n : ℕ) (out : List ℕ) (at : ℕ) → at ≤ length out → Walk s sent n out at out at 0 0
walk_start s sent n out at h =
    record {
      within = omega arith;
      long = refl;
      room = omega arith;
      few = omega arith;
      fits = h;
      done = [];
      upto = omega arith;
      same = put-nil out at;
      bytes = ap (λ (gs : List Group). read_lines sent gs) (ap groups (from_start s n));
    }

module _ (s sent : List ℕ) (n : ℕ) (out₀ : List ℕ) (at : ℕ) (out : List ℕ) (end from i : ℕ) (w : Walk s sent n out₀ at out end from i) where
  -- a record that is a detail
  pub walk-detail : i < n → is_header (record_at s i) ≡ false → Walk s sent n out₀ at out end from (i + 1)
  walk-detail h e =
      record {
        within = omega arith;
        long = w.long;
        room = omega (arith, w.room, leading-detail s i n h e);
        few = omega (arith, w.few);
        fits = w.fits;
        done = w.done;
        upto = w.upto;
        same = w.same;
        bytes = rw (← groups-detail s i n h e) w.bytes;
      }

  -- a record that is a header
  pub walk-header : (out' : List ℕ) (end' from' : ℕ) → i < n → is_header (record_at s i) ≡ true → length out' ≡ length out
      → out' ≡ put out end (read_line (drop from sent) (group_at s i n)) → end' ≡ end + length (read_line (drop from sent) (group_at s i n))
      → from' ≡ from + answer_long (drop from sent) (length (group_at s i n).details)
      → Walk s sent n out₀ at out' end' from' (i + 1)
  unfolding read_lines
  walk-header out' end' from' h e z o p q =
      let g : Group = group_at s i n in
      let a : List ℕ = drop from sent in
      let k : ℕ = length g.details in
      let later : List Group = rest s n (i + 1) in
      let w1 = first out₀ at w.done w.fits w.same refl in
      let w2 = next w1 (read_line a g) (o ∙ ap (λ (m : ℕ). put out m (read_line a g)) w.upto) refl in
      record {
        within = omega arith;
        long = z ∙ w.long;
        room = omega (arith, w.room, leading-header s i n h e, length-details s i n, answer-short a k);
        few = omega (arith, w.few, short-line a g);
        fits = w.fits;
        done = w.done ++ read_line a g;
        upto = omega (arith, w.upto, w2.long);
        same = w2.same;
        bytes =
            append_assoc w.done (read_line a g) (read_lines (drop from' sent) later)
            ∙ ap (λ (b : List ℕ). w.done ++ (read_line a g ++ read_lines b later)) (ap (λ (m : ℕ). drop m sent) q ∙ sym (drop-drop (answer_long a k) from sent))
            ∙ ap (λ (gs : List Group). w.done ++ read_lines a gs) (sym (groups-header s i n h e))
            ∙ w.bytes;
      }

  -- the end of the walk
  pub walk_end : n ≤ i → (out ≡ put out₀ at (read_lines sent (all s n))) × (end ≡ at + length (read_lines sent (all s n))) × (end ≤ at + 43 * n)
  unfolding read_lines
  walk_end h =
      let y : w.done ≡ read_lines sent (all s n) =
      sym (append-nil w.done) ∙ ap (λ (gs : List Group). w.done ++ read_lines (drop from sent) gs) (sym (groups-end s i n h)) ∙ w.bytes in
      (w.same ∙ ap (put out₀ at) y, w.upto ∙ ap (λ (l : List ℕ). at + length l) y, omega (arith, w.few, w.within))
