-- What is written at the end is the line of the bytes that came. Assumes nothing.
use Prim.Native.Nat.{ℕ, ◌+◌}
use mathlib.Core.Path.{◌≡◌, refl, sym, ap, ◌∙◌}
use mathlib.Core.Bool.{Bool, true, false, ◌&&◌}
use mathlib.Core.List.{List, []}
use native.Mathlib.Omega.{arith}
use lib.ListN.{length, take}
use lib.Seq.{length-take-le}
use Rattle.fields.specs.Put.{put}
use Rattle.fields.proofs.PutLaws.{front-put, put-longer}
use Rattle.table.specs.Table.{stop_line}
use Rattle.journal.specs.Journal.{parse, first_book, ends_bad, is_bad}
use Rattle.replay.specs.declared.Wanted.{Wanted}
use Rattle.std.proofs.Common.{◌++◌, Option, None, Some, subst, is_ok, append-nil, length-append, Result, Ok, Err, IfOk, IfSome}
use Rattle.streams.specs.declared.output.Failed.{Failed}
use Rattle.streams.specs.declared.pieces.End.{End}
use Rattle.streams.specs.declared.pieces.Unfinished.{Unfinished}
use Rattle.replay.specs.Reading.{written_of, Reads, ReadsFrom}
use Rattle.replay.proofs.WholeLaws.{all-read}
use Rattle.replay.proofs.ReadingLaws.{first_more}
use Rattle.std.proofs.KnownBytes.{Appends-trans, Appends-kept}
use Rattle.std.proofs.lemmas.List.{take-append-le, nil_from_length}
use Rattle.std.specs.Io.KnownBytes.{Appends, Keeps}
use Rattle.streams.specs.declared.output.Output.{Output}
use Rattle.streams.specs.declared.output.Stream.TheVariants.{Stdout, Stderr}
use Rattle.replay.specs.declared.Wanted.TheVariants.{Nothing, Notices, Lines}
use Rattle.streams.specs.Written.{Writes, AppendsFirst}
use Rattle.replay.specs.Ending.{stop_by, StopLine, StopLineWritten, StopLineSize, EndsAll, last_to, WritesWanted}

-- whether the reading ended bad, and nothing failed
abbrev pub ends_by : Result End Unfinished → Bool
ends_by (Ok e) = ends_bad e.stopped e.left e.seen
ends_by (Err x) = false

stop-by : (e : Result End Unfinished) → stop_line (ends_by e) ≡ stop_by e
stop-by (Ok e) = refl
stop-by (Err x) = refl

pub stop-line : (e : Result End Unfinished) (bad : Bool) (n : ℕ) (before after : List ℕ) → bad ≡ ends_by e
    → n ≡ 0 + length (stop_line bad) → after ≡ put before 0 (stop_line bad)
    → StopLine e before after n
stop-line e bad n before after b s q =
    let line = ap stop_line b ∙ stop-by e in
    let bytes : after ≡ put before 0 (stop_by e) = q ∙ ap (put before 0) line in
    let size : n ≡ length (stop_by e) = omega (arith, s, ap length line) in
    record {
      bytes = bytes;
      size = size;
      within = omega (arith, size, ap length bytes, put-longer before (stop_by e));
    }

pub line-written : (t : Wanted) (ws buf out₀ out : List ℕ) (e : Result End Unfinished) (n : ℕ) → IfOk e (λ e. Reads t ws buf e) → StopLine e out₀ out n
    → StopLineWritten out n
line-written t ws buf out₀ out e n x w = by e refl x
  where
    line : take n out ≡ stop_by e
    line = ap (take n) w.bytes ∙ front-put out₀ (stop_by e) n w.size

    by : (r : Result End Unfinished) → e ≡ r → IfOk r (λ e. Reads t ws buf e) → StopLineWritten out n
    by (Ok k) q x = record { failed = false; bytes = x.bytes; line = line ∙ ap stop_by q ∙ ap stop_line x.bad; within = w.within }
    by (Err f) q x = record { failed = true; bytes = []; line = line ∙ ap stop_by q; within = w.within }

-- where the reader's bytes are known, it is the line of all of them
pub ends-all : (t : Wanted) (known left held holds : Option (List ℕ)) (ws buf out₀ out : List ℕ) (e : Result End Unfinished) (n : ℕ)
    → IfOk e (λ e. ReadsFrom t known left held holds ws buf e)
    → IfSome known (λ input. Writes e (written_of t 0 first_book (parse 0 input).entries) held holds) → StopLine e out₀ out n
    → IfSome known (λ input. EndsAll t input held holds out n)
ends-all t None left held holds ws buf out₀ out e n x s w = tt
ends-all t (Some input) left held holds ws buf out₀ out (Err f) n x s w =
    record { went = Err f.failed; written = s; line = ap (take n) w.bytes ∙ front-put out₀ (stop_line false) n w.size }
ends-all t (Some input) left held holds ws buf out₀ out (Ok k) n x s w =
    let same = all-read input x.reads.bytes left x.came (λ z. x.ended (x.reads.stopped ∙ z)) in
    record {
      went = Ok tt;
      written = s;
      line = ap (take n) w.bytes ∙ front-put out₀ (stop_by (Ok k)) n w.size ∙ ap stop_line (x.reads.bad ∙ sym same.1);
    }

-- ---- what stands on standard output at the end
-- the first of some bytes was written, and then nothing
first-kept : (a b c : Option (List ℕ)) (front line : List ℕ) → AppendsFirst front a b → Keeps b c → AppendsFirst (front ++ line) a c
first-kept a b c front line f k = (
  f.0,
  omega (arith, f.1, length-append front line),
  subst (Appends a c) (sym (take-append-le f.0 front line f.1)) (Appends-kept a b c (take f.0 front) f.2 k),
)

none-sent : (sent : Result (Unit {0}) Failed) (b c : Option (List ℕ)) → Writes sent [] b c → Keeps b c
none-sent sent None c w = tt
none-sent (Ok u) (Some x) None w = absurd w
none-sent (Ok u) (Some x) (Some y) w = w ∙ append-nil x
none-sent (Err e) (Some x) None w = absurd w.2
none-sent (Err e) (Some x) (Some y) w =
    let z : w.0 ≡ 0 = omega (arith, w.1) in
    w.2 ∙ ap (λ k. x ++ k) (nil_from_length (take w.0 []) (length-take-le {A = ℕ} w.0 [] w.1 ∙ z)) ∙ append-nil x

module _ (a b c : Option (List ℕ)) (front line out : List ℕ) (n : ℕ) where
  -- the line is sent behind what was written
  behind-written : (went sent : Result (Unit {0}) Failed) (bad : Bool) → line ≡ stop_line bad → take n out ≡ stop_line (is_ok went && bad)
      → Writes went front a b → Writes sent (take n out) b c → (w : Result (Unit {0}) Failed) × Writes w (front ++ line) a c
  unfolding stop_line
  behind-written (Ok u) (Ok v) bad l e w s = (Ok tt, Appends-trans a b c front line w (subst (Appends b c) (e ∙ sym l) s))
  behind-written (Ok u) (Err y) bad l e w s =
      (Err y, first_more a b c front line [] (front ++ line) w (subst (λ k. AppendsFirst k b c) (e ∙ sym l) s) (ap (λ k. front ++ k) (sym (append-nil line))))
  behind-written (Err x) sent bad l e w s = (Err x, first-kept a b c front line w (none-sent sent b c (subst (λ k. Writes sent k b c) e s)))

  -- or it goes elsewhere
  beside-written : (went : Result (Unit {0}) Failed) → line ≡ [] → Writes went front a b → Keeps b c
      → (w : Result (Unit {0}) Failed) × Writes w (front ++ line) a c
  beside-written (Ok u) l w k =
      (Ok tt, subst (Appends a c) (sym (ap (λ z. front ++ z) l ∙ append-nil front)) (Appends-kept a b c front w k))
  beside-written (Err x) l w k = (Err x, first-kept a b c front line w k)

pub writes-wanted : (t : Wanted) (known before mid after : Option (List ℕ)) (out : List ℕ) (o : Output) (sent : Result (Unit {0}) Failed)
    → o.stream ≡ last_to t → IfSome known (λ input. EndsAll t input before mid out o.length)
    → (o.stream ≡ Stdout → Writes sent (take o.length out) mid after) → (o.stream ≡ Stderr → Keeps mid after)
    → IfSome known (λ input. WritesWanted t input before after)
writes-wanted t None before mid after out o sent e x w k = tt
writes-wanted Nothing (Some input) before mid after out o sent e x w k =
    behind-written before mid after _ _ out o.length x.went sent (is_bad input) refl x.line x.written (w e)
writes-wanted Notices (Some input) before mid after out o sent e x w k = beside-written before mid after _ [] out o.length x.went refl x.written (k e)
writes-wanted Lines (Some input) before mid after out o sent e x w k =
    behind-written before mid after _ _ out o.length x.went sent (is_bad input) refl x.line x.written (w e)

pub line-size : {out : List ℕ} {n : ℕ} → StopLineWritten out n → StopLineSize n
line-size {out} {n} t = record { failed = t.failed; bytes = t.bytes; size = sym (length-take-le n out t.within) ∙ ap length t.line }
