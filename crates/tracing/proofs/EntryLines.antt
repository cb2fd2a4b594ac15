-- One entry: the lines that were written of it, by what its step answered. Assumes nothing.
use Prim.Native.Nat.{ℕ, ◌+◌, ◌-◌, ◌/◌, ◌≤◌}
use mathlib.Core.Path.{◌≡◌, refl, sym, ap, ap₂, ◌∙◌, subst}
use mathlib.Core.Bool.{Bool, true, false, ◌&&◌, true≢false, false≢true}
use mathlib.Core.List.{List, [], ◌++◌, append-nil}
use native.Mathlib.Omega.{arith}
use lib.Dec.{eqb}
use lib.ListN.{length}
use borrow.Author.Tests.{eqb-true}
use Rattle.fields.specs.Put.{put, part}
use Rattle.fields.proofs.BoolLaws.{and_both}
use Rattle.fields.proofs.PutLaws.{first, next}
use Rattle.ledger.specs.declared.Ledger.{Ledger}
use Rattle.ledger.specs.Books.{Book, book}
use Rattle.ledger.specs.Sound.{sound_ledger}
use Rattle.records.specs.Layout.{records_from}
use Rattle.file.specs.File.{Group, records, groups, file_groups}
use Rattle.group.specs.Groups.{answers, verdicts}
use Rattle.causes.specs.Causes.{file}
use Rattle.calls.specs.Machine.{Outcome}
use Rattle.calls.proofs.RunLaws.{step_in_lem}
use Rattle.journal.specs.declared.Body.{Body}
use Rattle.journal.specs.declared.Body.TheVariants as body
use Rattle.journal.specs.declared.Head.TheVariants.{Whole}
use Rattle.journal.specs.Entries.{body_of, head_of}
use Rattle.journal.specs.EntryCalls.{entry_called, entry_written}
use Rattle.journal.proofs.HeadLaws.{tag_in, whole-holds, whole-bytes}
use Rattle.journal.proofs.BeginLaws.{whole-taken}
use Rattle.entries.specs.parts.Running.{entry_at}
use Rattle.trace_lines.specs.Lines.{tag_of, call_line, numbered, group_lines}
use Rattle.trace_lines.specs.parts.ReadAnswers.{Lined}
use Rattle.trace_lines.specs.Trace.{answer_to, entry_answer, lines_under, entry_lines}
use Rattle.trace_lines.proofs.TraceLaws.{answer-in, Carried, file-done, file-refused, tag_is}
use Rattle.tracing.specs.parts.Tracing.{is_done, LinesOf}
use Rattle.std.specs.Prelude.{Result, Ok, Err}
use Rattle.rules.specs.declared.Cause.{Cause}
use Rattle.calls.specs.declared.Returned.{Returned}

-- ---- the lines under an entry's line
module _ (k : Book) (bytes : List ℕ) where
  carried : (a : Result Returned Cause) → answer_to k (file bytes 64200) ≡ a → is_done a ≡ true → Carried k bytes
  carried (Ok r) q d = file-done k bytes r q
  carried (Err m) q d = absurd (false≢true d)

  refused : (a : Result Returned Cause) → answer_to k (file bytes 64200) ≡ a → is_done a ≡ false → lines_under k body.File bytes ≡ []
  refused (Ok r) q d = absurd (true≢false d)
  refused (Err m) q d = file-refused k bytes m q

  -- an entry that is no file, or a refused file
  no_lines : (b : Body) (tag : ℕ) (a : Result Returned Cause) → tag_of b bytes ≡ tag → a ≡ entry_answer k b bytes → (eqb tag 2 && is_done a) ≡ false
      → lines_under k b bytes ≡ []
  unfolding lines_under entry_answer
  no_lines (body.Fresh s) tag a t q f = refl
  no_lines (body.Request r) tag a t q f = refl
  no_lines body.File tag a t q f = refused a (sym q) (ap (λ (i : ℕ). eqb i 2 && is_done a) t ∙ f)
  no_lines (body.Cancel id) tag a t q f = refl
  no_lines (body.Close d) tag a t q f = refl
  no_lines (body.Removal r) tag a t q f = refl
  no_lines body.Unread tag a t q f = refl

module _ (number : ℕ) (src : List ℕ) (n : ℕ) (a : Result Returned Cause) (seen : ℕ) (l : Ledger) (h : sound_ledger l ≡ true) where
  abbrev bytes : List ℕ
  bytes = part src 3 (n - 3)

  abbrev first-line : List ℕ
  first-line = call_line number (tag_in src) (numbered a)

  module _ (b : Body) (e : head_of seen src ≡ Whole b n) (q : a ≡ (entry_called 64200 l b bytes).answer) where
    answered : a ≡ entry_answer (book l) b bytes
    answered = q ∙ answer-in l h b bytes (whole-taken seen src b n e)

    line-is : call_line number (tag_of b bytes) (numbered (entry_answer (book l) b bytes)) ≡ first-line
    line-is = ap₂ (λ (tag : ℕ) (x : Result Returned Cause). call_line number tag (numbered x)) (tag_is seen src b n e) (sym answered)

    pub only-line : (eqb (tag_in src) 2 && is_done a) ≡ false → first-line ≡ entry_lines (book l) number (entry_at src b n)
    unfolding entry_lines
    only-line f =
        sym
        (ap₂ (λ (x y : List ℕ). x ++ y) line-is (no_lines (book l) bytes b (tag_in src) a (tag_is seen src b n e) answered f)
        ∙ append-nil first-line)

    pub is-file : eqb (tag_in src) 2 ≡ true → b ≡ body.File
    unfolding body_of
    is-file t = whole-holds seen src b n e ∙ ap (λ (tag : ℕ). body_of tag bytes) (eqb-true (tag_in src) 2 t)

  -- a file that was carried out
  module _ (e : head_of seen src ≡ Whole body.File n) (q : a ≡ (entry_called 64200 l body.File bytes).answer) (d : is_done a ≡ true) where
    abbrev gs : List Group
    gs = groups (records_from bytes 0 ((n - 3) / 321))

    abbrev lines_of_groups : List ℕ
    lines_of_groups = group_lines (book l).confirmation gs (verdicts [] (book l) gs)

    groups-are : file_groups bytes ≡ gs
    unfolding file_groups records
    groups-are = ap (λ (i : ℕ). groups (records_from bytes 0 (i / 321))) (whole-bytes seen src body.File n e)

    out_of : Carried (book l) bytes
    unfolding entry_answer
    out_of = carried (book l) bytes a (sym (answered body.File e q)) d

    begins : entry_written 64200 l body.File bytes ≡ answers [] (book l) gs
    begins =
        ap (λ (o : Outcome). o.written) (step_in_lem l (file bytes 64200) h)
        ∙ out_of.written
        ∙ ap (answers [] (book l)) groups-are

    all_lines : first-line ++ lines_of_groups ≡ entry_lines (book l) number (entry_at src body.File n)
    unfolding entry_lines
    all_lines =
        sym
        (ap₂ (λ (x y : List ℕ). x ++ y) (line-is body.File e q)
        (out_of.lines ∙ ap (λ (x : List Group). group_lines (book l).confirmation x (verdicts [] (book l) x)) groups-are))

    pub file-lines : (sent rest out₀ out₁ out : List ℕ) (at end r : ℕ) → at ≤ length out₀
        → sent ≡ entry_written 64200 l body.File bytes ++ rest
        → out₁ ≡ put out₀ at first-line → end ≡ at + length first-line → Lined gs sent out₁ end out r
        → (out ≡ put out₀ at (entry_lines (book l) number (entry_at src body.File n)))
        × (r ≡ at + length (entry_lines (book l) number (entry_at src body.File n)))
    file-lines sent rest out₀ out₁ out at end r fits s o i g =
        let x = g (book l) rest (s ∙ ap (λ (w : List ℕ). w ++ rest) begins) in
        let w = next (first out₀ at first-line fits o refl) lines_of_groups (x.0 ∙ ap (λ (j : ℕ). put out₁ j lines_of_groups) i) refl in
        (w.same ∙ ap (put out₀ at) all_lines, omega (arith, x.1, i, w.long, ap length all_lines))

-- ---- what was written of an entry
module _ (number : ℕ) (src : List ℕ) (n : ℕ) (a : Result Returned Cause) (sent out₀ : List ℕ) (at : ℕ) (fits : at ≤ length out₀) where
  abbrev line : List ℕ
  line = call_line number (tag_in src) (numbered a)

  pub lines-only : (out : List ℕ) (end : ℕ) (d : Bool) → d ≡ is_done a → (eqb (tag_in src) 2 && d) ≡ false
      → out ≡ put out₀ at line → end ≡ at + length line → end ≤ at + 52 → LinesOf number src n a sent out₀ at out end
  lines-only out end d z f o i s =
      record {
        lines =
            λ seen l b rest e h q w.
            let x = only-line number src n a seen l h b e q (ap (λ (y : Bool). eqb (tag_in src) 2 && y) (sym z) ∙ f) in
            (o ∙ ap (put out₀ at) x, i ∙ ap (λ (y : List ℕ). at + length y) x);
        within = omega arith;
      }

  pub lines-groups : (out₁ out : List ℕ) (end r : ℕ) (d : Bool) → d ≡ is_done a → (eqb (tag_in src) 2 && d) ≡ true
      → out₁ ≡ put out₀ at line → end ≡ at + length line → r ≤ at + 8652
      → Lined (groups (records_from (part src 3 (n - 3)) 0 ((n - 3) / 321))) sent out₁ end out r → LinesOf number src n a sent out₀ at out r
  lines-groups out₁ out end r d z f o i s g =
      let t = and_both (eqb (tag_in src) 2) d f in
      record {
        lines =
            λ seen l b rest e h q w.
            subst
            (λ (x : Body). head_of seen src ≡ Whole x n → a ≡ (entry_called 64200 l x (part src 3 (n - 3))).answer → sent ≡ entry_written 64200 l x (part src 3 (n - 3)) ++ rest
            → (out ≡ put out₀ at (entry_lines (book l) number (entry_at src x n))) × (r ≡ at + length (entry_lines (book l) number (entry_at src x n))))
            (sym (is-file number src n a seen l h b e q t.0))
            (λ e' q' w'. file-lines number src n a seen l h e' q' (sym z ∙ t.1) sent rest out₀ out₁ out at end r fits w' o i g)
            e q w;
        within = s;
      }
