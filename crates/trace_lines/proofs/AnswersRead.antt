-- What is read off the answers to groups is their lines. Assumes nothing.
use Prim.Native.Nat.{ℕ, zero, suc, ◌+◌, ◌*◌, ◌/◌, ◌≤◌}
use mathlib.Core.Path.{◌≡◌, refl, ap, ◌∙◌, subst}
use mathlib.Core.Bool.{Bool, true, false}
use mathlib.Core.List.{List, [], ◌∷◌, ◌++◌, append_assoc}
use native.Mathlib.Omega.{arith}
use native.Mathlib.Nat.{zero-add}
use lib.ListN.{length, drop, length-append}
use lib.Seq.{drop_at}
use borrow.Author.Tests.{ne_eqb}
use Rattle.fields.specs.Text.{text}
use Rattle.fields.specs.Digits.{digits}
use Rattle.fields.specs.Put.{part, put}
use Rattle.fields.proofs.PutLaws.{length_part, part-part, part_left, part_right, part-whole}
use Rattle.ledger.specs.declared.Posted.{Posted}
use Rattle.ledger.specs.Books.{Book, View, view}
use Rattle.records.specs.Layout.{record_at, records_from, confirmation_in, error_code_in, is_sup}
use Rattle.notices.specs.declared.acf.Acf.{Acf}
use Rattle.notices.specs.declared.rej.Rej.{Rej}
use Rattle.notices.specs.Answers.{acf, rej_header, rej_detail, rej_details, rej}
use Rattle.notices.proofs.AnswerLaws.{length-acf, length-rej-header, length-rej-detail}
use Rattle.notices.proofs.AnswerPositions.{acf-at, rej-header-at, rej-detail-at}
use Rattle.file.specs.File.{records, Group, groups, file_groups, line1}
use Rattle.group.specs.Groups.{verdict_on, verdict_by, verdict_here, settled, answer, answers, verdicts}
use Rattle.history.specs.Claim.{All}
use Rattle.history.specs.Written.{is_acf}
use Rattle.history.proofs.WrittenRecordLaws.{Whole, Formed, formed-file}
use Rattle.history.proofs.NoticeReads.{acf-is-acf, rej-header-notice, rej-not-acf}
use Rattle.trace_lines.specs.Lines.{group_line, group_lines}
use Rattle.trace_lines.specs.parts.ReadAnswers.{read_verdict, answer_long, read_line, read_lines, Lined}
use Rattle.std.specs.Prelude.{Result, Ok, Err}
use Rattle.rules.specs.declared.ErrorCode.{ErrorCode}
use Rattle.rules.specs.declared.ErrorCode.TheVariants.{Br17}
use Rattle.rules.specs.Numbers.{code_number}

-- ---- an ACF, and more bytes
module _ (h : List ℕ) (x : Acf) (ys : List ℕ) (whole : length h ≡ 321) where
  enough : 321 ≤ length h
  enough = omega arith

  acf-left : (i n : ℕ) → i + n ≤ 321 → part (acf h x ++ ys) i n ≡ part (acf h x) i n
  acf-left i n l = part_left (acf h x) ys i n (omega (arith, length-acf h enough x))

  acf-confirmation : confirmation_in (acf h x ++ ys) ≡ digits 9 x.confirmation
  acf-confirmation = acf-left 41 9 (omega arith) ∙ (acf-at h x enough).confirmation

  acf-told : is_acf (acf h x ++ ys) ≡ true
  acf-told = rw (acf-left 30 3 (omega arith)) (acf-is-acf h x enough)

-- ---- a REJ, and more bytes
module _ (h : List ℕ) (ds : List (List ℕ)) (x : Rej) (ys : List ℕ) (whole : length h ≡ 321) where
  enough' : 321 ≤ length h
  enough' = omega arith

  -- the header, and what follows it
  tail : List ℕ
  tail = rej_details (is_sup h) ds x ++ ys

  rej-split : rej h ds x ++ ys ≡ rej_header h x ++ tail
  unfolding rej tail
  rej-split = append_assoc (rej_header h x) (rej_details (is_sup h) ds x) ys

  rej-left : (i n : ℕ) → i + n ≤ 321 → part (rej h ds x ++ ys) i n ≡ part (rej_header h x) i n
  rej-left i n l = ap (λ (b : List ℕ). part b i n) rej-split ∙ part_left (rej_header h x) tail i n (omega (arith, length-rej-header h enough' x))

  rej-confirmation : confirmation_in (rej h ds x ++ ys) ≡ digits 9 x.confirmation
  rej-confirmation = rej-left 41 9 (omega arith) ∙ (rej-header-at h x enough').confirmation

  rej-told : is_acf (rej h ds x ++ ys) ≡ false
  rej-told = rej-not-acf (rej h ds x ++ ys) (rej-left 30 3 (omega arith) ∙ rej-header-notice h x enough')

-- the length of a REJ
long-details : (sup : Bool) (ds : List (List ℕ)) (x : Rej) → All Whole ds → length (rej_details sup ds x) ≡ length ds * 321
unfolding rej_details
long-details sup [] x a = refl
long-details sup (d ∷ ds) x a =
    length-append (rej_detail sup d x) (rej_details sup ds x)
    ∙ omega (arith, length-rej-detail d (omega (arith, a.0)) sup x, long-details sup ds x a.1)

long-rej : (h : List ℕ) (ds : List (List ℕ)) (x : Rej) → length h ≡ 321 → All Whole ds → length (rej h ds x) ≡ (length ds + 1) * 321
unfolding rej
long-rej h ds x w a =
    length-append (rej_header h x) (rej_details (is_sup h) ds x)
    ∙ omega (arith, length-rej-header h (omega arith) x, long-details (is_sup h) ds x a)

-- ---- a group's verdict as it is read
rej-verdict : (h : List ℕ) (ds : List (List ℕ)) (x : Rej) (ys : List ℕ) → length h ≡ 321 → All Whole ds → (ds ≡ [] → x.code ≡ 17)
    → read_verdict (rej h ds x ++ ys) (length ds) ≡ text "BR" ++ digits 2 x.code
unfolding read_verdict rej_details tail digits
rej-verdict h [] x ys w a f = rw (rej-told h [] x ys w, f refl)
rej-verdict h (d ∷ ds) x ys w a f =
    let sup : Bool = is_sup h in
    let b : List ℕ = rej h (d ∷ ds) x ++ ys in
    let more : List ℕ = rej_details sup ds x ++ ys in
    let n : length (rej_detail sup d x) ≡ 321 = length-rej-detail d (omega (arith, a.0)) sup x in
    let e : record_at b 1 ≡ rej_detail sup d x =
    ap (λ (z : List ℕ). part z 321 321) (rej-split h (d ∷ ds) x ys w)
    ∙ part_right (rej_header h x) ((rej_detail sup d x ++ rej_details sup ds x) ++ ys) 321 0 321 (length-rej-header h (omega arith) x)
    ∙ ap (λ (z : List ℕ). part z 0 321) (append_assoc (rej_detail sup d x) (rej_details sup ds x) ys)
    ∙ part_left (rej_detail sup d x) more 0 321 (omega arith)
    ∙ part-whole (rej_detail sup d x) 321 n in
    rw (rej-told h (d ∷ ds) x ys w, ne_eqb (length (d ∷ ds)) 0 (λ z. omega arith))
    (ap (λ (r : List ℕ). error_code_in r) e ∙ (rej-detail-at d x (omega (arith, a.0)) sup).error_code)

-- ---- a group's line as it is read, and what follows its answer
module _ (g : Group) (ys : List ℕ) (f : Formed g) where
  acf-line : (x : Acf) (amounts : Posted) → read_line (acf g.header x ++ ys) g ≡ group_line x.confirmation g (Ok amounts)
  unfolding read_line group_line read_verdict
  acf-line x amounts = rw (acf-confirmation g.header x ys f.header, acf-told g.header x ys f.header)

  rej-line : (c : ErrorCode) (x : Rej) → x.code ≡ code_number c → (g.details ≡ [] → c ≡ Br17) → read_line (rej g.header g.details x ++ ys) g ≡ group_line x.confirmation g (Err c)
  unfolding read_line group_line
  rej-line c x e z =
      rw (
        rej-confirmation g.header g.details x ys f.header,
        rej-verdict g.header g.details x ys f.header f.details (λ (n : g.details ≡ []). e ∙ ap code_number (z n)),
        e,
      )

  acf-dropped : (x : Acf) → drop (answer_long (acf g.header x ++ ys) (length g.details)) (acf g.header x ++ ys) ≡ ys
  unfolding answer_long
  acf-dropped x =
      rw (acf-told g.header x ys f.header) (drop_at (acf g.header x) ys 321 (length-acf g.header (omega (arith, f.header)) x))

  rej-dropped : (x : Rej) → drop (answer_long (rej g.header g.details x ++ ys) (length g.details)) (rej g.header g.details x ++ ys) ≡ ys
  unfolding answer_long
  rej-dropped x =
      rw (rej-told g.header g.details x ys f.header)
      (drop_at (rej g.header g.details x) ys _ (long-rej g.header g.details x f.header f.details))

  line_read : (v : View) (c : Result Posted ErrorCode) → (g.details ≡ [] → c ≡ Err Br17) → read_line (answer v g c ++ ys) g ≡ group_line v.confirmation g c
  unfolding answer
  line_read v (Ok amounts) z = acf-line _ amounts
  line_read v (Err n) z = rej-line n _ refl (λ e. let q : Err n ≡ Err Br17 = z e in cc)

  answer-dropped : (v : View) (c : Result Posted ErrorCode) → drop (answer_long (answer v g c ++ ys) (length g.details)) (answer v g c ++ ys) ≡ ys
  unfolding answer
  answer-dropped v (Ok amounts) = acf-dropped _
  answer-dropped v (Err n) = rej-dropped _

-- "1. BR17: not exactly one detail": a group without detail
none-rejected : (before : List Group) (k : Book) (g : Group) (gs : List Group) → g.details ≡ [] → verdict_here before k g gs ≡ Err Br17
unfolding verdict_by verdict_on line1
none-rejected before k g gs e = rw e

-- "Every group takes a Confirmation Number."
settled-confirmation : (k : Book) (g : Group) (v : Result Posted ErrorCode) → (settled k g v).confirmation ≡ k.confirmation + 1
unfolding settled
settled-confirmation k g (Ok amounts) = refl
settled-confirmation k g (Err n) = refl

-- ---- the lines of groups whose answers stand one after the other
lines-read : (before : List Group) (k : Book) (gs : List Group) (ys : List ℕ) → All Formed gs
    → read_lines (answers before k gs ++ ys) gs ≡ group_lines k.confirmation gs (verdicts before k gs)
unfolding read_lines group_lines verdicts answers
lines-read before k [] ys a = refl
lines-read before k (g ∷ gs) ys a =
    let v : Result Posted ErrorCode = verdict_here before k g gs in
    let ahead : List Group = before ++ (g ∷ []) in
    let k' : Book = settled k g v in
    let zs : List ℕ = answers ahead k' gs ++ ys in
    let r : List ℕ → List ℕ = λ b. read_line b g ++ read_lines (drop (answer_long b (length g.details)) b) gs in
    ap r (append_assoc (answer (view k) g v) (answers ahead k' gs) ys)
    ∙ ap (λ (l : List ℕ). l ++ read_lines (drop (answer_long (answer (view k) g v ++ zs) (length g.details)) (answer (view k) g v ++ zs)) gs)
    (line_read g zs a.0 (view k) v (none-rejected before k g gs))
    ∙ ap (λ (b : List ℕ). group_line k.confirmation g v ++ read_lines b gs) (answer-dropped g zs a.0 (view k) v)
    ∙ ap (λ (l : List ℕ). group_line k.confirmation g v ++ l) (lines-read ahead k' gs ys a.1)
    ∙ ap (λ (m : ℕ). group_line k.confirmation g v ++ group_lines m gs (verdicts ahead k' gs)) (settled-confirmation k g v)

-- the groups of n records
records-part : (s : List ℕ) (m i k : ℕ) → (i + k) * 321 ≤ m → records_from (part s 0 m) i k ≡ records_from s i k
unfolding records_from
records-part s m i zero h = refl
records-part s m i (suc k) h =
    rw (records-part s m (i + 1) k (omega arith))
    (ap (λ (r : List ℕ). r ∷ records_from s (i + 1) k)
    (part-part s 0 m (i * 321) 321 (omega arith) ∙ ap (λ (j : ℕ). part s j 321) (zero-add (i * 321))))

formed : (s : List ℕ) (n : ℕ) → n * 321 ≤ length s → All Formed (groups (records_from s 0 n))
unfolding file_groups records
formed s n h =
    let t : List ℕ = part s 0 (n * 321) in
    let l : length t / 321 ≡ n = omega (arith, length_part s 0 (n * 321) (omega arith)) in
    let e : records_from t 0 (length t / 321) ≡ records_from s 0 n =
    ap (λ (k : ℕ). records_from t 0 k) l ∙ records-part s (n * 321) 0 n (omega arith) in
    subst (λ (rs : List (List ℕ)). All Formed (groups rs)) e (formed-file t)

-- a file of n records, read off what begins with the answers to its groups on a ledger
pub lined : (s sent out₀ : List ℕ) (n at : ℕ) (out : List ℕ) (r : ℕ) → n * 321 ≤ length s
    → out ≡ put out₀ at (read_lines sent (groups (records_from s 0 n))) → r ≡ at + length (read_lines sent (groups (records_from s 0 n)))
    → Lined (groups (records_from s 0 n)) sent out₀ at out r
lined s sent out₀ n at out r h o p k ys e =
    let gs : List Group = groups (records_from s 0 n) in
    let q : read_lines sent gs ≡ group_lines k.confirmation gs (verdicts [] k gs) =
    ap (λ (b : List ℕ). read_lines b gs) e ∙ lines-read [] k gs ys (formed s n h) in
    (o ∙ ap (put out₀ at) q, p ∙ ap (λ (l : List ℕ). at + length l) q)
