-- The notices of a journal assign no Tracking ID twice: they are records, so what they assign is what its calls' bytes assign. Assumes nothing.
use Prim.Native.Nat.{ℕ, zero, suc, ◌+◌, ◌*◌}
use mathlib.Core.Path.{◌≡◌, refl, sym, ap, ◌∙◌, subst}
use mathlib.Core.Bool.{Bool}
use mathlib.Core.List.{List, [], ◌∷◌, ◌++◌, map, map-append, append_assoc}
use native.Mathlib.Omega.{arith}
use lib.ListN.{length, take, drop, length-append, length-take, length-drop, take-append-drop}
use Rattle.fields.proofs.BoolLaws.{cases}
use Rattle.fields.specs.Digits.{number}
use Rattle.ledger.specs.Books.{Book, View, view}
use Rattle.records.specs.Layout.{tracking_in, is_sup}
use Rattle.notices.proofs.NoticeLengths.{length-bil, length-cxl}
use Rattle.notices.specs.declared.acf.Acf.{Acf}
use Rattle.notices.specs.declared.rej.Rej.{Rej}
use Rattle.notices.specs.Answers.{rej_header, rej_detail, rej_details, rej}
use Rattle.notices.proofs.AnswerLaws.{length-acf, length-rej-header, length-rej-detail}
use Rattle.file.specs.File.{Group, records, file_groups}
use Rattle.verdict.specs.Lines.{terms_of}
use Rattle.group.specs.Groups.{sought, settled, answer, verdict_here, answers}
use Rattle.causes.specs.Causes.{Call, request, calendar, file, cancel, close, removal}
use Rattle.calls.specs.Machine.{cause, next_written, outcome, step, outcomes}
use Rattle.history.specs.Written.{keep, assigns, assigned_in}
use Rattle.history.specs.Claim.{All, assigned, NoneTwice}
use Rattle.history.proofs.WrittenRecordLaws.{Whole, Formed, formed-file, records-cons, records-none}
use Rattle.history.proofs.WrittenLaws.{none-assigned}
use Rattle.journal.specs.Journal.{Entry, first_book}
use Rattle.journal.specs.EntryCalls.{written_by, notices_of, brn_of}
use Rattle.report.specs.Report.{Claimed, empty, holds}
use Rattle.report.proofs.ReportLaws.{claimed}
use Rattle.statements.proofs.NoticeCalls.{notices-of-calls}
use Rattle.std.specs.Prelude.{Result, Ok, Err, ⊤}
use Rattle.ledger.specs.declared.Posted.{Posted}
use Rattle.rules.specs.declared.Cause.{Cause}
use Rattle.rules.specs.declared.ErrorCode.{ErrorCode}
use Rattle.rules.specs.Numbers.{code_number}

-- ---- bytes that are so many records
abbrev Records : List ℕ → Type 0
Records xs = (n : ℕ) × (length xs ≡ n * 321)

more-records : (xs ys : List ℕ) → Records xs → Records ys → Records (xs ++ ys)
more-records xs ys p q = (p.0 + q.0, omega (arith, length-append xs ys, p.1, q.1))

records-append : (n : ℕ) (xs ys : List ℕ) → length xs ≡ n * 321 → records (xs ++ ys) ≡ records xs ++ records ys
records-append zero [] ys h = rw records-none
records-append zero (x ∷ xs) ys h = absurd (omega arith)
records-append (suc n) xs ys h =
    let r = take 321 xs in
    let t = drop 321 xs in
    let w : length r ≡ 321 = length-take 321 xs ∙ omega arith in
    let e : r ++ t ≡ xs = take-append-drop 321 xs in
    subst (λ (z : List ℕ). records (z ++ ys) ≡ records z ++ records ys) e
    (ap records (append_assoc r t ys)
    ∙ records-cons r (t ++ ys) w
    ∙ ap (λ (z : List (List ℕ)). r ∷ z) (records-append n t ys (omega (arith, length-drop 321 xs)))
    ∙ ap (λ (z : List (List ℕ)). z ++ records ys) (sym (records-cons r t w)))

keep_append : (p : List ℕ → Bool) (xs ys : List (List ℕ)) → keep p (xs ++ ys) ≡ keep p xs ++ keep p ys
keep_append p [] ys = refl
keep_append p (x ∷ xs) ys = cases (p x) (λ e. rw (e, keep_append p xs ys)) (λ e. rw (e, keep_append p xs ys))

ids-append : (xs ys : List ℕ) → Records xs → assigned_in (xs ++ ys) ≡ assigned_in xs ++ assigned_in ys
unfolding assigned_in
ids-append xs ys h =
    let id : List ℕ → ℕ = λ (r : List ℕ). number (tracking_in r) in
    ap (λ (rs : List (List ℕ)). map id (keep assigns rs)) (records-append h.0 xs ys h.1)
    ∙ ap (map id) (keep_append assigns (records xs) (records ys))
    ∙ map-append id (keep assigns (records xs)) (keep assigns (records ys))

-- ---- what a call writes is records
details-records : (sup : Bool) (ds : List (List ℕ)) (x : Rej) → All Whole ds → Records (rej_details sup ds x)
unfolding rej_details
details-records sup [] x a = (0, refl)
details-records sup (d ∷ ds) x a =
    more-records (rej_detail sup d x) (rej_details sup ds x) (1, length-rej-detail d (omega (arith, a.0)) sup x) (details-records sup ds x a.1)

rej-records : (h : List ℕ) (ds : List (List ℕ)) (x : Rej) → length h ≡ 321 → All Whole ds → Records (rej h ds x)
unfolding rej
rej-records h ds x e a =
    more-records (rej_header h x) (rej_details (is_sup h) ds x) (1, length-rej-header h (omega arith) x) (details-records (is_sup h) ds x a)

answer-records : (v : View) (g : Group) (c : Result Posted ErrorCode) → Formed g → Records (answer v g c)
unfolding answer
answer-records v g (Ok amounts) f =
    let a : Acf = record { terms = terms_of (sought v g); tracking = v.tracking; today = v.today; confirmation = v.confirmation } in
    (1, length-acf g.header (omega (arith, f.header)) a)
answer-records v g (Err n) f =
    rej-records g.header g.details (record { code = code_number n; today = v.today; confirmation = v.confirmation }) f.header f.details

answers-records : (before gs : List Group) (l : Book) → All Formed gs → Records (answers before l gs)
unfolding answers
answers-records before [] l a = (0, refl)
answers-records before (g ∷ gs) l a =
    more-records (answer (view l) g (verdict_here before l g gs)) _ (answer-records (view l) g _ a.0)
    (answers-records (before ++ (g ∷ [])) gs (settled l g (verdict_here before l g gs)) a.1)

next-records : (l : Book) (c : Call) → Records (next_written l c)
unfolding next_written
next-records l (request r room) = (2, length-bil _)
next-records l (calendar q hs room) = (2, length-bil _)
next-records l (file s room) = answers-records [] (file_groups s) l (formed-file s)
next-records l (cancel id room) = (2, length-cxl _)
next-records l (close d) = (0, refl)
next-records l (removal a) = (0, refl)

step-records : (l : Book) (c : Call) → Records (step l c).written
unfolding step outcome
step-records l c = go (cause l c)
  where
    go : (v : Result ⊤ Cause) → Records (outcome l c v).written
    go (Ok tt) = next-records l c
    go (Err n) = (0, refl)

-- ---- a list of calls, and a journal
written-ids : (cs : List Call) (l : Book) → assigned_in (written_by (outcomes l cs)) ≡ assigned (outcomes l cs)
unfolding outcomes assigned assigned_in
written-ids [] l = rw records-none
written-ids (c ∷ cs) l =
    ids-append (step l c).written (written_by (outcomes (step l c).ledger cs)) (step-records l c)
    ∙ ap (λ (ns : List ℕ). assigned_in (step l c).written ++ ns) (written-ids cs (step l c).ledger)

none-twice : NoneTwice []
none-twice i j h k e = absurd (omega arith)

pub ids-once : (s : List ℕ) → NoneTwice (assigned_in (brn_of s))
unfolding brn_of notices_of
ids-once s = go (claimed s)
  where
    go : Claimed s → NoneTwice (assigned_in (brn_of s))
    go (empty e k b) = subst NoneTwice (sym (ap (λ (es : List Entry). assigned_in (notices_of first_book es)) e ∙ none-assigned)) none-twice
    go (holds start bytes es e c k q) =
        subst NoneTwice (sym (ap assigned_in (notices-of-calls s start bytes es e) ∙ written-ids _ _)) q.once
