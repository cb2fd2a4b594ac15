-- The trace of a journal, one entry after another: what a program that reads the journal cites. Assumes nothing.
use Prim.Native.Nat.{ℕ, ◌+◌, ◌-◌}
use mathlib.Core.Path.{◌≡◌, refl, sym, ap, ◌∙◌}
use mathlib.Core.Bool.{Bool, true, false, cond, ◌&&◌}
use mathlib.Core.List.{List, [], ◌∷◌, ◌++◌}
use native.Mathlib.Omega.{arith}
use lib.Dec.{eqb, leb}
use lib.ListN.{length, drop}
use borrow.Author.Tests.{eqb-true}
use Rattle.fields.specs.Put.{part, put}
use Rattle.units.specs.declared.Date.{Date}
use Rattle.ledger.specs.declared.Identity.{Identity}
use Rattle.ledger.specs.declared.Ledger.{Ledger}
use Rattle.ledger.specs.Books.{Book, book}
use Rattle.ledger.specs.Sound.{sound_ledger}
use Rattle.file.specs.File.{Group, file_groups}
use Rattle.group.specs.Groups.{answers, verdicts}
use Rattle.causes.specs.declared.Request.{Request}
use Rattle.causes.specs.declared.AccountRemoval.{AccountRemoval}
use Rattle.calls.specs.declared.Returned.{Returned}
use Rattle.causes.specs.declared.Start.{Start}
use Rattle.causes.specs.Causes.{Call, request, file, cancel, close, removal}
use Rattle.calls.specs.Machine.{cause, next_written, next_verdicts, outcome, step, outcomes, answer_by, called, each_called}
use Rattle.calls.specs.Days.{fresh_by, fresh_called}
use Rattle.calls.proofs.RunLaws.{runs}
use Rattle.journal.specs.declared.Body.{Body}
use Rattle.journal.specs.declared.Body.TheVariants as body
use Rattle.journal.specs.declared.Head.TheVariants.{Cut, Bad, Whole}
use Rattle.journal.specs.Entries.{digits_in, fresh_body, request_body, cancel_body, close_body, removal_body, body_of, good_length, fresh_taken, head_of}
use Rattle.journal.specs.Journal.{Parsed, Entry, parse, after_entry}
use Rattle.journal.specs.EntryCalls.{entry_called}
use Rattle.journal.proofs.HeadLaws.{tag_in, length_in, whole_is, whole-holds, whole-bytes}
use Rattle.journal.proofs.JournalLaws.{parse-cut, parse-bad, parse-whole}
use Rattle.journal.proofs.BeginLaws.{whole-taken}
use Rattle.journal.proofs.MadeLaws.{Taken, made-book}
use Rattle.trace_lines.specs.Lines.{tag_of, call_line, numbered, group_lines}
use Rattle.trace_lines.specs.Trace.{answer_to, entry_answer, lines_under, entry_lines, trace_lines}
use Rattle.std.specs.Prelude.{Result, Ok, Err, ⊤}
use Rattle.rules.specs.declared.Cause.{Cause}

-- ---- what an entry's call answers by value is what the trace says of it
module _ (l : Ledger) (h : sound_ledger l ≡ true) where
  call-answer : (c : Call) → (called l c).answer ≡ answer_to (book l) c
  unfolding each_called outcomes
  call-answer c = let e = (runs l h (c ∷ [])).answers in cc

  pub answer-in : (b : Body) (bytes : List ℕ) → Taken b → (entry_called 64200 l b bytes).answer ≡ entry_answer (book l) b bytes
  unfolding entry_answer fresh_called fresh_by
  answer-in (body.Fresh s) bytes t = rw t
  answer-in (body.Request r) bytes t = call-answer (request r 64200)
  answer-in body.File bytes t = call-answer (file bytes 64200)
  answer-in (body.Cancel id) bytes t = call-answer (cancel id 64200)
  answer-in (body.Close d) bytes t = call-answer (close d)
  answer-in (body.Removal a) bytes t = call-answer (removal a)
  answer-in body.Unread bytes t = refl

-- ---- the lines under a file
no_lines : (confirmation : ℕ) (gs : List Group) → group_lines confirmation gs [] ≡ []
unfolding group_lines
no_lines confirmation [] = refl
no_lines confirmation (g ∷ gs) = refl

-- a file that was carried out: its bytes and its lines are those of its groups
pub record Carried (k : Book) (s : List ℕ) : Type 0 where
  pub written : (step k (file s 64200)).written ≡ answers [] k (file_groups s)
  pub lines : lines_under k body.File s ≡ group_lines k.confirmation (file_groups s) (verdicts [] k (file_groups s))

module _ (k : Book) (s : List ℕ) where
  pub file-done : (r : Returned) → answer_to k (file s 64200) ≡ Ok r → Carried k s
  unfolding step outcome answer_by next_written next_verdicts lines_under
  file-done r e = go (cause k (file s 64200)) refl e
    where
      go : (v : Result ⊤ Cause) → cause k (file s 64200) ≡ v → answer_by (outcome k (file s 64200) v) (outcome k (file s 64200) v).result ≡ Ok r → Carried k s
      go (Ok tt) c q = record { written = rw c; lines = rw c }
      go (Err n) c q = let z : ◌≡◌ {A = ℕ} 0 1 = cc in absurd (omega arith)

  pub file-refused : (n : Cause) → answer_to k (file s 64200) ≡ Err n → lines_under k body.File s ≡ []
  unfolding step outcome answer_by lines_under
  file-refused n e = go (cause k (file s 64200)) refl e
    where
      go : (v : Result ⊤ Cause) → cause k (file s 64200) ≡ v → answer_by (outcome k (file s 64200) v) (outcome k (file s 64200) v).result ≡ Err n
          → group_lines k.confirmation (file_groups s) (outcome k (file s 64200) (cause k (file s 64200))).verdicts ≡ []
      go (Ok tt) c q = let z : ◌≡◌ {A = ℕ} 0 1 = cc in absurd (omega arith)
      go (Err m) c q = rw c (no_lines k.confirmation (file_groups s))

-- ---- the tag of a whole entry: a body is read as its tag says, or not read, and then the length says which
module _ (bytes : List ℕ) where
  fresh-tag : (x : Bool) (start : Start) → fresh_taken (cond x (body.Fresh start) body.Unread) ≡ true
      → tag_of (cond x (body.Fresh start) body.Unread) bytes ≡ 0
  fresh-tag true start t = refl
  fresh-tag false start t = let z : ◌≡◌ {A = ℕ} 0 1 = cc in absurd (omega arith)

  request-tag : (x : Bool) (r : Request) → length bytes ≡ 56 → tag_of (cond x (body.Request r) body.Unread) bytes ≡ 1
  request-tag true r e = refl
  request-tag false r e = rw e

  cancel-tag : (x : Bool) (id : Identity) → length bytes ≡ 16 → tag_of (cond x (body.Cancel id) body.Unread) bytes ≡ 3
  cancel-tag true id e = refl
  cancel-tag false id e = rw e

  close-tag : (x : Bool) (d : Date) → length bytes ≡ 8 → tag_of (cond x (body.Close d) body.Unread) bytes ≡ 4
  close-tag true d e = refl
  close-tag false d e = rw e

  removal-tag : (x : Bool) (a : AccountRemoval) → length bytes ≡ 20 → tag_of (cond x (body.Removal a) body.Unread) bytes ≡ 5
  removal-tag true a e = refl
  removal-tag false a e = rw e

  -- by the tag and the length that goes with it
  tag-by : (tag : ℕ) → good_length tag (length bytes) ≡ true → (eqb tag 0 ≡ true → fresh_taken (body_of tag bytes) ≡ true) → tag_of (body_of tag bytes) bytes ≡ tag
  unfolding good_length body_of fresh_body request_body cancel_body close_body removal_body
  tag-by tag g t =
      go (eqb tag 0) (eqb tag 1) (eqb tag 2) (eqb tag 3) (eqb tag 4) (eqb tag 5) (eqb-true tag 0) (eqb-true tag 1) (eqb-true tag 2) (eqb-true tag 3) (eqb-true tag 4)
      (eqb-true tag 5) g t
    where
      go : (a b c d e f : Bool) → (a ≡ true → tag ≡ 0) → (b ≡ true → tag ≡ 1) → (c ≡ true → tag ≡ 2) → (d ≡ true → tag ≡ 3) → (e ≡ true → tag ≡ 4)
          → (f ≡ true → tag ≡ 5)
          → cond a (eqb (length bytes) 26)
          (cond b (eqb (length bytes) 56)
          (cond c (leb (length bytes) 64200)
          (cond d (eqb (length bytes) 16) (cond e (eqb (length bytes) 8) (cond f (eqb (length bytes) 20) false)))))
          ≡ true
          → (a ≡ true → fresh_taken (cond a (fresh_body bytes) (cond b (request_body bytes) (cond c body.File (cond d (cancel_body bytes) (cond e (close_body bytes) (removal_body bytes)))))) ≡ true)
          → tag_of (cond a (fresh_body bytes) (cond b (request_body bytes) (cond c body.File (cond d (cancel_body bytes) (cond e (close_body bytes) (removal_body bytes)))))) bytes ≡ tag
      go true b c d e f p q r u v w g t = fresh-tag (digits_in bytes 1 8 && digits_in bytes 9 17 && digits_in bytes 18 26) _ (t refl) ∙ sym (p refl)
      go false true c d e f p q r u v w g t = request-tag (digits_in bytes 6 17 && digits_in bytes 18 21 && digits_in bytes 23 30 && digits_in bytes 31 38 && digits_in bytes 39 48 && digits_in bytes 49 56) _ (eqb-true (length bytes) 56 g) ∙ sym (q refl)
      go false false true d e f p q r u v w g t = sym (r refl)
      go false false false true e f p q r u v w g t = cancel-tag (digits_in bytes 1 12 && digits_in bytes 13 16) _ (eqb-true (length bytes) 16 g) ∙ sym (u refl)
      go false false false false true f p q r u v w g t = close-tag (digits_in bytes 1 8) _ (eqb-true (length bytes) 8 g) ∙ sym (v refl)
      go false false false false false true p q r u v w g t = removal-tag (digits_in bytes 1 12 && digits_in bytes 13 20) _ (eqb-true (length bytes) 20 g) ∙ sym (w refl)
      go false false false false false false p q r u v w g t = let z : ◌≡◌ {A = ℕ} 0 1 = cc in absurd (omega arith)

pub tag_is : (seen : ℕ) (s : List ℕ) (b : Body) (n : ℕ) → head_of seen s ≡ Whole b n → tag_of b (part s 3 (n - 3)) ≡ tag_in s
tag_is seen s b n e =
    let w = whole_is seen s b n e in
    let bytes : List ℕ = part s 3 (n - 3) in
    let l : length_in s ≡ length bytes = omega (arith, w.bytes, whole-bytes seen s b n e) in
    let k : b ≡ body_of (tag_in s) bytes = whole-holds seen s b n e in
    ap (λ (x : Body). tag_of x bytes) k
    ∙ tag-by bytes (tag_in s) (ap (good_length (tag_in s)) (sym l) ∙ w.good) (λ z. ap fresh_taken (sym k) ∙ w.taken z)

-- ---- the trace of the entries that stand before a reader, on the ledger l
module _ (l : Ledger) (h : sound_ledger l ≡ true) (seen number : ℕ) (s : List ℕ) where
  abbrev ahead : List ℕ
  ahead = trace_lines number (book l) (parse seen s).entries

  pub trace-cut : head_of seen s ≡ Cut → ahead ≡ []
  unfolding trace_lines
  trace-cut e = ap (λ (p : Parsed). trace_lines number (book l) p.entries) (parse-cut seen s e)

  pub trace-bad : head_of seen s ≡ Bad → ahead ≡ []
  unfolding trace_lines
  trace-bad e = ap (λ (p : Parsed). trace_lines number (book l) p.entries) (parse-bad seen s e)

  -- a whole entry: its line, the lines of its groups, and then the trace of the entries after it on the ledger that it leaves
  module _ (b : Body) (n : ℕ) (e : head_of seen s ≡ Whole b n) where
    abbrev bytes : List ℕ
    bytes = part s 3 (n - 3)

    pub trace-more : ahead
        ≡ call_line number (tag_in s) (numbered (entry_called 64200 l b bytes).answer)
        ++ lines_under (book l) b bytes
        ++ trace_lines (number + 1) (book (entry_called 64200 l b bytes).ledger) (parse (seen + 1) (drop n s)).entries
    unfolding trace_lines entry_lines
    trace-more =
        let rest : List Entry = (parse (seen + 1) (drop n s)).entries in
        let t : Taken b = whole-taken seen s b n e in
        let under : List ℕ = lines_under (book l) b bytes in
        ap (λ (p : Parsed). trace_lines number (book l) p.entries) (parse-whole seen s b n e)
        ∙ ap (λ (m : ℕ). call_line number m (numbered (entry_answer (book l) b bytes)) ++ under ++ trace_lines (number + 1) (after_entry b bytes (book l)) rest) (tag_is seen s b n e)
        ∙ ap (λ (a : Result Returned Cause). call_line number (tag_in s) (numbered a) ++ under ++ trace_lines (number + 1) (after_entry b bytes (book l)) rest) (sym (answer-in l h b bytes t))
        ∙ ap (λ (k : Book). call_line number (tag_in s) (numbered (entry_called 64200 l b bytes).answer) ++ under ++ trace_lines (number + 1) k rest) (sym (made-book l h b bytes t))

-- what was put at the start of a list begins it: the answers that a file's call wrote at the start of its output
pub put-begins : (xs ys : List ℕ) → put xs 0 ys ≡ ys ++ drop (0 + length ys) xs
unfolding put
put-begins xs ys = refl
