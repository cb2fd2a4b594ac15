-- The loop over the entries at the start of some bytes that writes their lines. Assumes nothing.
use Prim.Native.Nat.{ℕ, suc, ◌+◌, ◌-◌, ◌≤◌, ◌<◌}
use mathlib.Core.Path.{◌≡◌, refl, sym, ap, ap₂, ◌∙◌, subst}
use mathlib.Core.Bool.{true, false}
use mathlib.Core.List.{List, [], ◌∷◌, ◌++◌, append_assoc, append-nil}
use native.Mathlib.Omega.{arith}
use native.Mathlib.Nat.{add-zero, zero-add}
use lib.ListN.{length, take, drop, length-drop}
use borrow.Author.Tests.{lt-ltb, le-ltb}
use Rattle.fields.specs.Put.{put, part}
use Rattle.fields.proofs.PutLaws.{first, next, put-nil}
use Rattle.ledger.specs.Books.{Book, book}
use Rattle.ledger.specs.Sound.{sound_ledger}
use Rattle.words.specs.Layout.{ledger_of}
use Rattle.words.proofs.WordPlaceLaws.{rest}
use Rattle.journal.specs.Journal.{Entry, parse, after_entry, after_entries}
use Rattle.journal.specs.EntryCalls.{entry_written}
use Rattle.journal.proofs.HeadLaws.{whole-small}
use Rattle.entries.specs.declared.entry.Made.{Made}
use Rattle.entries.specs.declared.entry.Ended.{Ended}
use Rattle.entries.specs.declared.entry.Ended.TheVariants.{Full}
use Rattle.entries.specs.parts.Stepping.{SteppedIn}
use Rattle.entries.specs.parts.Running.{entry_at, met_bad, had_no_room, ran_to}
use Rattle.entries.proofs.StoodLaws.{Stood, stood-whole, stood-left}
use Rattle.entries.proofs.FirstMadeLaws.{first-none, left-full, left-none, next_fits, first_more}
use Rattle.trace_lines.specs.Trace.{entry_lines, trace_lines}
use Rattle.trace_lines.proofs.TraceLaws.{put-begins}
use Rattle.tracing.specs.parts.Tracing.{LinesOf, Traces, TracesIn}
use Rattle.std.specs.Prelude.{Result, Ok, Err}
use Rattle.rules.specs.declared.Cause.{Cause}
use Rattle.calls.specs.declared.Returned.{Returned}

-- ---- entries one after another
pub lines-append : (number : ℕ) (k : Book) (es fs : List Entry)
    → trace_lines number k (es ++ fs) ≡ trace_lines number k es ++ trace_lines (number + length es) (after_entries k es) fs
unfolding trace_lines after_entries
lines-append number k [] fs = ap (λ (i : ℕ). trace_lines i k fs) (sym (add-zero number))
lines-append number k (e ∷ es) fs =
    let w = entry_lines k number e in
    let j = after_entry e.body e.bytes k in
    let i : number + 1 + length es ≡ number + suc (length es) = omega arith in
    ap (λ (x : List ℕ). w ++ x) (lines-append (number + 1) j es fs)
    ∙ sym (append_assoc w (trace_lines (number + 1) j es) (trace_lines (number + 1 + length es) (after_entries j es) fs))
    ∙ ap (λ (x : ℕ). (w ++ trace_lines (number + 1) j es) ++ trace_lines x (after_entries j es) fs) i

pub within-rest : (src : List ℕ) (at m : ℕ) → at + m ≤ length src → m ≤ length (take (length src - at) (drop at src))
within-rest src at m h = omega (arith, ap length (rest src at), length-drop at src)

pub traces-start : (seen : ℕ) (src ws out : List ℕ) → sound_ledger (ledger_of ws) ≡ true → Traces seen src ws out ws out 0 seen 0
unfolding trace_lines
traces-start seen src ws out h =
    record { done = []; made = first-none seen src ws h; kept = refl; bytes = put-nil out 0; written = refl; within = omega arith }

-- ---- one entry more
module _ (seen : ℕ) (src ws₀ out₀ ws out : List ℕ) (at k n : ℕ) (w : Traces seen src ws₀ out₀ ws out at k n) where
  pub traces-full : length out - n < 8652 → TracesIn seen src ws₀ out₀ ws out (ran_to at k n Full)
  traces-full f = record { traces = w; full = sym (lt-ltb (length out₀ - n) 8652 (omega (arith, w.kept))); rest = left-full src at k n }

  ended : (end : Ended) → had_no_room end ≡ false → 8652 ≤ length out - n → parse k (drop at src) ≡ record { entries = []; stopped = met_bad end; rest = drop at src }
      → TracesIn seen src ws₀ out₀ ws out (ran_to at k n end)
  ended end z f e = record { traces = w; full = z ∙ sym (le-ltb (length out₀ - n) 8652 (omega (arith, w.kept))); rest = left-none src at k n end e }

  module _ (sent ws' sent' : List ℕ) (r : Result Made Ended) (y : SteppedIn true 0 k (take (length src - at) (drop at src)) ws sent ws' sent' r) where
    turn : SteppedIn true 0 k (drop at src) ws sent ws' sent' r
    turn = subst (λ (s : List ℕ). SteppedIn true 0 k s ws sent ws' sent' r) (rest src at) y

    pub traces-left : (end : Ended) → r ≡ Err end → 8652 ≤ length out - n → TracesIn seen src ws₀ out₀ ws' out (ran_to at k n end)
    traces-left end q f = let x = stood-left true 0 k (drop at src) ws sent ws' sent' r turn end q in rw x.1 (ended end x.3 f x.0)

    module _ (made : Made) (q : r ≡ Ok made) where
      abbrev m : ℕ
      m = made.size

      abbrev a : Result Returned Cause
      a = made.answer

      abbrev was : Stood true 0 k (drop at src) ws sent ws' sent' r turn m a
      was = stood-whole true 0 k (drop at src) ws sent ws' sent' r turn made q

      abbrev one : Entry
      one = entry_at (drop at src) was.0 m

      abbrev so_far : List ℕ
      so_far = trace_lines (seen + 1) (book (ledger_of ws₀)) w.done

      abbrev lines : List ℕ
      lines = entry_lines (book (ledger_of ws)) (k + 1) one

      pub traces-fits : (3 ≤ m) × (at + m ≤ length src) × (m ≤ 64203) × (k < 1000000000)
      traces-fits =
          let x = next_fits seen src ws₀ ws at k w.done w.made was.0 m was.1 in
          (x.0, x.1, omega (arith, x.0, whole-small k (drop at src) was.0 m was.1), x.2)

      all_lines : so_far ++ lines ≡ trace_lines (seen + 1) (book (ledger_of ws₀)) (w.done ++ (one ∷ []))
      unfolding trace_lines
      all_lines =
          let i : k + 1 ≡ seen + 1 + length w.done = omega (arith, w.made.count) in
          ap (λ (x : List ℕ). so_far ++ x) (sym (append-nil lines))
          ∙ ap₂ (λ (j : Book) (x : ℕ). so_far ++ trace_lines x j (one ∷ [])) w.made.books i
          ∙ sym (lines-append (seen + 1) (book (ledger_of ws₀)) w.done (one ∷ []))

      module _ (out' : List ℕ) (end : ℕ) (p : LinesOf (k + 1) (take (length src - at) (drop at src)) m a sent' out n out' end) where
        -- the lines were put behind the others
        its-lines : (out' ≡ put out n lines) × (end ≡ n + length lines)
        its-lines =
            let s = entry_written 64200 (ledger_of ws) was.0 (part (drop at src) 3 (m - 3)) in
            (subst (λ (x : List ℕ). LinesOf (k + 1) x m a sent' out n out' end) (rest src at) p).lines k (ledger_of ws) was.0 (drop (0 + length s) sent) was.1 w.made.sound
            was.2.answer (was.2.bytes ∙ put-begins sent s)

        pub traces-on : 8652 ≤ length out - n → length out' ≡ length out → Traces seen src ws₀ out₀ ws' out' (at + m) (k + 1) end
        traces-on f kept =
            let x = its-lines in
            let g = next (first out₀ 0 so_far (omega arith) w.bytes refl) lines (x.0 ∙ ap (λ (i : ℕ). put out i lines) (w.written ∙ sym (zero-add (length so_far)))) refl in
            record {
              done = w.done ++ (one ∷ []);
              made = first_more seen src ws₀ ws at k w.done w.made was.0 m was.1 ws' was.2.sound was.2.ledger;
              kept = kept ∙ w.kept;
              bytes = g.same ∙ ap (put out₀ 0) all_lines;
              written = omega (arith, x.1, w.written, g.long, ap length all_lines);
              within = omega (arith, p.within, w.kept, w.within);
            }
