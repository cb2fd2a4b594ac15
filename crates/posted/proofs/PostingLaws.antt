-- The table at the end of the reading is that of the bytes that came. Assumes nothing.
use Prim.Native.Nat.{ℕ}
use mathlib.Core.Path.{◌≡◌, refl, sym, ap, ap₂, ◌∙◌}
use mathlib.Core.Bool.{Bool, true, false}
use mathlib.Core.List.{List, []}
use native.Mathlib.Omega.{arith}
use lib.ListN.{length, take}
use Rattle.fields.specs.Put.{put}
use Rattle.fields.proofs.PutLaws.{put-nil, front-put, put-longer}
use Rattle.ledger.specs.Books.{book}
use Rattle.words.specs.Layout.{ledger_of}
use Rattle.table.specs.Table.{table_of}
use Rattle.journal.specs.Journal.{parse, after_entries, first_book, journal_ledger, ends_bad, is_bad}
use Rattle.report.specs.Report.{posted_of}
use Rattle.report.proofs.ReportLaws.{claimed}
use Rattle.streams.specs.declared.pieces.End.{End}
use Rattle.streams.specs.declared.pieces.Unfinished.{Unfinished}
use Rattle.streams.specs.declared.output.Output.{Output}
use Rattle.replay.specs.declared.Wanted.TheVariants.{Nothing}
use Rattle.replay.specs.Reading.{Reads, ReadsFrom}
use Rattle.replay.proofs.WholeLaws.{all-read}
use Rattle.std.proofs.Common.{IfSome, IfOk, Option, Some, None, Result, Ok, Err}
use Rattle.streams.specs.Ends.{printed}
use Rattle.posted.specs.Posting.{table_by, TableWritten, Posts, PostsAll}

-- ---- what is written
module _ (e : Result End Unfinished) (ws before : List ℕ) where
  by-table : (t after : List ℕ) (n : ℕ) (o : Output) → t ≡ table_by e ws → n ≡ length t → after ≡ put before 0 t → o ≡ printed n
      → TableWritten e ws before after o
  by-table t after n o p s q w =
      record {
        stream = ap (λ (k : Output). k.stream) w;
        bytes = q ∙ ap (put before 0) p;
        size = ap (λ (k : Output). k.length) w ∙ s ∙ ap length p;
        within = omega (arith, ap (λ (k : Output). k.length) w, s, ap length q, put-longer before t);
      }

  pub tables-none : (f : Unfinished) (o : Output) → e ≡ Err f → o ≡ printed 0 → TableWritten e ws before before o
  tables-none f o q w = by-table [] before 0 o (sym (ap (λ (r : Result End Unfinished). table_by r ws) q)) refl (put-nil before 0) w

  pub tables : (k : End) (bad : Bool) (after : List ℕ) (n : ℕ) (o : Output) → e ≡ Ok k → bad ≡ ends_bad k.stopped k.left k.seen
      → n ≡ length (table_of (book (ledger_of ws)) bad) → after ≡ put before 0 (table_of (book (ledger_of ws)) bad) → o ≡ printed n
      → TableWritten e ws before after o
  tables k bad after n o r b s q w =
      let t : Bool → List ℕ = λ k. table_of (book (ledger_of ws)) k in
      by-table (t bad) after n o (ap t b ∙ sym (ap (λ (r : Result End Unfinished). table_by r ws) r)) s q w

-- ---- whose table it is
posted-is : (ws buf : List ℕ) (e : End) (r : Reads Nothing ws buf e)
    → table_of (book (ledger_of ws)) (ends_bad e.stopped e.left e.seen) ≡ posted_of r.bytes
unfolding posted_of
posted-is ws buf e r = ap₂ table_of r.books r.bad

-- where the reader's bytes are known, it is the table of all of them
posted-all : (input bytes : List ℕ) → ((parse 0 input).entries ≡ (parse 0 bytes).entries) × (is_bad input ≡ is_bad bytes) → posted_of bytes ≡ posted_of input
unfolding posted_of journal_ledger
posted-all input bytes e = sym (ap₂ table_of (ap (after_entries first_book) e.0) e.1)

module _ (ws buf out₀ out : List ℕ) (o : Output) where
  table-stands : (e : Result End Unfinished) → TableWritten e ws out₀ out o → take o.length out ≡ table_by e ws
  table-stands e w = ap (take o.length) w.bytes ∙ front-put out₀ (table_by e ws) o.length w.size

  pub posts : (e : Result End Unfinished) → IfOk e (λ k. Reads Nothing ws buf k) → TableWritten e ws out₀ out o → Posts out o
  posts (Err f) x w =
      record {
        failed = true;
        bytes = [];
        stream = w.stream;
        table = table-stands (Err f) w;
        size = w.size;
        within = w.within;
        claimed = claimed [];
      }
  posts (Ok k) x w =
      record {
        failed = false;
        bytes = x.bytes;
        stream = w.stream;
        table = table-stands (Ok k) w ∙ posted-is ws buf k x;
        size = w.size ∙ ap length (posted-is ws buf k x);
        within = w.within;
        claimed = claimed x.bytes;
      }

  pub posts-all : (known left held holds : Option (List ℕ)) (e : Result End Unfinished) → IfOk e (λ k. ReadsFrom Nothing known left held holds ws buf k)
      → TableWritten e ws out₀ out o → IfSome known (λ input. PostsAll input out o)
  posts-all None left held holds e x w = tt
  posts-all (Some input) left held holds (Err f) x w = record { failed = true; table = table-stands (Err f) w; claimed = claimed input }
  posts-all (Some input) left held holds (Ok k) x w =
      let same = all-read input x.reads.bytes left x.came (λ z. x.ended (x.reads.stopped ∙ z)) in
      record {
        failed = false;
        table = table-stands (Ok k) w ∙ posted-is ws buf k x.reads ∙ posted-all input x.reads.bytes same;
        claimed = claimed input;
      }
