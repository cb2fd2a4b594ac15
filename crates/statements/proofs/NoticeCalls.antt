-- The notices of a journal are the bytes that its calls wrote, in order. Assumes nothing.
use Prim.Native.Nat.{ℕ}
use mathlib.Core.Path.{◌≡◌, refl, sym, ap, ◌∙◌}
use mathlib.Core.List.{List, [], ◌∷◌, ◌++◌, append_assoc, append-nil}
use native.Mathlib.Omega.{arith}
use lib.ListN.{drop}
use Rattle.ledger.specs.Books.{Book}
use Rattle.causes.specs.Causes.{Call}
use Rattle.calls.specs.Machine.{step, fresh, after, outcomes}
use Rattle.journal.specs.declared.Body.TheVariants as body
use Rattle.journal.specs.declared.Head.{Head}
use Rattle.journal.specs.declared.Head.TheVariants.{Cut, Bad, Whole}
use Rattle.journal.specs.Entries.{head_of}
use Rattle.journal.specs.Journal.{Entry, Parsed, parse, call_of, calls_of, after_entry, after_entries, first_book}
use Rattle.journal.specs.EntryCalls.{written_by, notices_of, brn_of}
use Rattle.journal.proofs.JournalLaws.{parse-cut, parse-bad, parse-whole}
use Rattle.journal.proofs.BeginLaws.{NoneFresh, parse-none, makes-after}
use Rattle.statements.specs.Statements.{NoticesOfCalls}

-- calls in two lists
written-append : (k : Book) (cs ds : List Call)
    → written_by (outcomes k (cs ++ ds)) ≡ written_by (outcomes k cs) ++ written_by (outcomes (after k cs) ds)
unfolding outcomes after
written-append k [] ds = refl
written-append k (c ∷ cs) ds =
    ap (λ (w : List ℕ). (step k c).written ++ w) (written-append (step k c).ledger cs ds) ∙ sym (append_assoc (step k c).written _ _)

-- entries that are no fresh make their calls
notices-after : (k : Book) (es : List Entry) → NoneFresh es → notices_of k es ≡ written_by (outcomes k (calls_of es))
unfolding notices_of outcomes after_entries
notices-after k [] h = refl
notices-after k (e ∷ es) h =
    let cs = call_of e.body e.bytes in
    let m : after_entry e.body e.bytes k ≡ after k cs =
    makes-after k (e ∷ []) (h.0, tt) ∙ ap (after k) (append-nil cs) in
    ap (λ (j : Book). written_by (outcomes k cs) ++ notices_of j es) m
    ∙ ap (λ (w : List ℕ). written_by (outcomes k cs) ++ w) (notices-after (after k cs) es h.1)
    ∙ sym (written-append k cs (calls_of es))

-- the entries after the first are no fresh
rest-none : (s : List ℕ) (e : Entry) (es : List Entry) → (parse 0 s).entries ≡ e ∷ es → NoneFresh es
rest-none s e es q = go (head_of 0 s) refl
  where
    go : (h : Head) → head_of 0 s ≡ h → NoneFresh es
    go Cut f = let z : ◌≡◌ {A = ℕ} 0 1 = cc (ap (λ (p : Parsed). p.entries) (parse-cut 0 s f)) in absurd (omega arith)
    go Bad f = let z : ◌≡◌ {A = ℕ} 0 1 = cc (ap (λ (p : Parsed). p.entries) (parse-bad 0 s f)) in absurd (omega arith)
    go (Whole b n) f =
        let r : (parse 1 (drop n s)).entries ≡ es = cc (ap (λ (p : Parsed). p.entries) (parse-whole 0 s b n f)) in
        rw r at (parse-none 1 (drop n s) (omega arith))

pub notices-of-calls : (s : List ℕ) → NoticesOfCalls s
unfolding brn_of notices_of outcomes
notices-of-calls s start bytes es q =
    ap (notices_of first_book) q ∙ notices-after (fresh start) es (rest-none s (record { body = body.Fresh start; bytes = bytes }) es q)
