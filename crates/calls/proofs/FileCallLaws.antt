-- Laws of the file call. Assumes nothing.
use Prim.Native.Nat.{ℕ, zero, suc, ◌+◌, ◌*◌, ◌/◌, ◌≤◌}
use mathlib.Core.Path.{◌≡◌, refl, sym, ap, ◌∙◌}
use mathlib.Core.Bool.{Bool, true, false, cond}
use mathlib.Core.List.{List, [], ◌∷◌, ◌++◌}
use native.Mathlib.Omega.{arith}
use lib.IntN.{pos, ◌-ℤ◌}
use lib.ListN.{length, take, length-append, length-take}
use Rattle.ledger.specs.declared.Ledger.{Ledger}
use Rattle.ledger.specs.Books.{Book, View, view, book, live, total_of}
use Rattle.ledger.specs.declared.Bill.{Bill}
use Rattle.ledger.proofs.BookLaws.{difference}
use Rattle.ledger.specs.Sound.{sound, sound_ledger}
use Rattle.notices.specs.declared.bil.Bil.{Bil}
use Rattle.notices.specs.declared.cxl.Cxl.{Cxl}
use Rattle.notices.specs.Notices.{bil, cxl}
use Rattle.records.specs.Layout.{records_from, is_sup}
use Rattle.records.proofs.LayoutLaws.{length-records, long-record}
use Rattle.notices.proofs.NoticeLengths.{length-bil, length-cxl}
use Rattle.notices.specs.declared.acf.Acf.{Acf}
use Rattle.notices.specs.declared.rej.Rej.{Rej}
use Rattle.notices.specs.Answers.{acf, rej_header, rej_detail, rej_details, rej}
use Rattle.notices.proofs.AnswerLaws.{length-acf, length-rej-header, length-rej-detail}
use Rattle.file.specs.File.{records, is_header, Group, leading, groups, file_groups}
use Rattle.rules.specs.Rules.{first}
use Rattle.group.specs.declared.Tally.{Tally}
use Rattle.group.specs.Groups.{verdict_here, settled, answer, taken, answers}
use Rattle.group.specs.parts.Turns.{FileTaken}
use Rattle.group.proofs.GroupWalk.{book-stored}
use Rattle.causes.proofs.FileFreshLaws.{good-short}
use Rattle.calls.proofs.CallLaws.{Carried, Stopped, carried, stopped}
use Rattle.calls.proofs.CalendarCalls.{clear-dated}
use Rattle.causes.specs.Causes.{Call, request, calendar, file, cancel, close, removal, file_causes, causes, worked_out}
use Rattle.causes.proofs.CauseLaws.{asks, sends, cancels}
use Rattle.calls.specs.Machine.{cause, room_of, cause_in, outcome, answer_by, next, next_written, next_verdicts, next_closed}
use Rattle.calls.specs.parts.Answers.{cleared}
use Rattle.std.specs.Prelude.{Result, Ok, Err, ⊤}
use Rattle.ledger.specs.declared.Posted.{Posted}
use Rattle.rules.specs.declared.Cause.{Cause}
use Rattle.rules.specs.declared.ErrorCode.{ErrorCode}
use Rattle.rules.specs.declared.Cause.TheVariants.{BadArgument}

-- ---- the call
pub cause-file : (l : Ledger) (s : List ℕ) (room : ℕ) (v : Result ⊤ Cause) → sound_ledger l ≡ true
    → v ≡ first (file_causes s room l.next_tracking l.next_confirmation) → cause_in l (file s room) ≡ v
unfolding cause_in causes
cause-file l s room v h e = rw h (sym e)

module _ (l : Ledger) (sure : sound_ledger l ≡ true) (s : List ℕ) (room : ℕ) (k : Result ⊤ Cause)
    (ke : k ≡ first (file_causes s room l.next_tracking l.next_confirmation)) where
  pub file-stops : (n : Cause) → k ≡ Err n → Stopped l (file s room) n
  file-stops n e = stopped l (file s room) n (cause-file l s room k sure ke ∙ e)

  pub file-short : k ≡ Ok tt → (length s ≤ 64200) × (length s ≤ room)
  file-short e =
      let x = sends s room l.next_tracking l.next_confirmation (sym ke ∙ e) in (good-short s x.good, x.wide)

  -- what a file that was taken leaves, returns and writes
  pub file-done : k ≡ Ok tt → (writes : Bool) (out₀ : List ℕ) (led : Ledger) (out : List ℕ) (c : Tally)
      → FileTaken l (groups (records_from s 0 (length s / 321))) writes out₀ led out c
      → Carried l (file s room) led (cleared c) (answers [] (book l) (groups (records_from s 0 (length s / 321))))
  unfolding answer_by outcome next next_written next_verdicts next_closed file_groups records
  file-done e writes out₀ led out c t =
      let now : Book = taken [] (book l) (groups (records_from s 0 (length s / 321))) in
      let x : live led ≡ now.bills = ap (λ (y : Ledger). live y) t.ledger ∙ ap (λ (y : Book). y.bills) (book-stored l now) in
      let d : pos c.came -ℤ pos c.went ≡ pos (total_of now.bills) -ℤ pos (total_of (live l)) =
      sym (difference (total_of now.bills) (total_of (live l)) c.came c.went (ap (λ (bs : List Bill). total_of bs + c.went) (sym x) ∙ t.sums)) in
      carried l (file s room) (cause-file l s room k sure ke ∙ e) _ _ _ t.ledger (rw (d, t.written, t.accepted, t.rejected)) refl

-- ---- the answers to a file are at most as long as the file
abbrev Long : List (List ℕ) → Type 0
Long [] = Unit {0}
Long (r ∷ rs) = (321 ≤ length r) × Long rs

long-records : (s : List ℕ) (i k : ℕ) → (i + k) * 321 ≤ length s → Long (records_from s i k)
unfolding records_from
long-records s i zero h = tt
long-records s i (suc k) h = (omega (arith, long-record s i (omega arith)), long-records s (i + 1) k (omega arith))

long-take : (n : ℕ) (rs : List (List ℕ)) → Long rs → Long (take n rs)
long-take zero rs h = tt
long-take (suc n) [] h = tt
long-take (suc n) (r ∷ rs) h = (h.0, long-take n rs h.1)

length-details : (sup : Bool) (ds : List (List ℕ)) (x : Rej) → Long ds → length (rej_details sup ds x) ≡ length ds * 321
unfolding rej_details
length-details sup [] x h = refl
length-details sup (d ∷ ds) x h =
    length-append (rej_detail sup d x) (rej_details sup ds x)
    ∙ omega (arith, length-rej-detail d h.0 sup x, length-details sup ds x h.1)

acf-within : (h : List ℕ) (a : Acf) (k : ℕ) → 321 ≤ length h → length (acf h a) ≤ (1 + k) * 321
acf-within h a k e = omega (arith, length-acf h e a)

rej-within : (h : List ℕ) (ds : List (List ℕ)) (x : Rej) → 321 ≤ length h → Long ds → length (rej h ds x) ≤ (1 + length ds) * 321
unfolding rej
rej-within h ds x e k =
    omega (
      arith,
      length-append (rej_header h x) (rej_details (is_sup h) ds x),
      length-rej-header h e x,
      length-details (is_sup h) ds x k,
    )

answer-within : (v : View) (g : Group) (w : Result Posted ErrorCode) → 321 ≤ length g.header → Long g.details
    → length (answer v g w) ≤ (1 + length g.details) * 321
unfolding answer
answer-within v g (Ok amounts) h k = acf-within g.header _ (length g.details) h
answer-within v g (Err n) h k = rej-within g.header g.details _ h k

-- the records before the first header are no group's
answers-within : (before : List Group) (l : Book) (rs : List (List ℕ)) → Long rs
    → length (answers before l (groups rs)) + leading rs * 321 ≤ length rs * 321
unfolding answers groups leading
answers-within before l [] h = omega arith
answers-within before l (r ∷ rs) h = go (λ x k. answers-within x k rs h.1) (is_header r)
  where
    g : Group
    g = record { header = r; details = take (leading rs) rs }

    v : Result Posted ErrorCode
    v = verdict_here before l g (groups rs)

    go : ((x : List Group) (k : Book) → length (answers x k (groups rs)) + leading rs * 321 ≤ length rs * 321) → (b : Bool)
        → length (answers before l (cond b (g ∷ groups rs) (groups rs))) + cond b 0 (suc (leading rs)) * 321 ≤ length (r ∷ rs) * 321
    go f true =
        omega (
          arith,
          length-append (answer (view l) g v) (answers (before ++ (g ∷ [])) (settled l g v) (groups rs)),
          answer-within (view l) g v h.0 (long-take (leading rs) rs h.1),
          length-take (leading rs) rs,
          f (before ++ (g ∷ [])) (settled l g v),
        )
    go f false = omega (arith, f before l)

pub file-within : (l : Book) (s : List ℕ) → length (answers [] l (file_groups s)) ≤ length s
unfolding file_groups records
file-within l s =
    omega (
      arith,
      answers-within [] l (records_from s 0 (length s / 321)) (long-records s 0 (length s / 321) (omega arith)),
      length-records s 0 (length s / 321),
    )

-- ---- no call writes past the output lent to it
clear-causes : (l : Book) (c : Call) → cause l c ≡ Ok tt → first (causes (view l) c) ≡ Ok tt
unfolding cause
clear-causes l c e = go (sound l) e
  where
    go : (b : Bool) → cond b (first (causes (view l) c)) (Err BadArgument) ≡ Ok tt → first (causes (view l) c) ≡ Ok tt
    go true h = h
    go false h = let z : ◌≡◌ {A = ℕ} 0 1 = cc in absurd (omega arith)

bil-within : (b : Bil) (room : ℕ) → 642 ≤ room → length (bil b) ≤ room
bil-within b room h = omega (arith, length-bil b)

cxl-within : (x : Cxl) (room : ℕ) → 642 ≤ room → length (cxl x) ≤ room
cxl-within x room h = omega (arith, length-cxl x)

pub written-within : (l : Book) (c : Call) → cause l c ≡ Ok tt → length (next_written l c) ≤ room_of c
unfolding causes next_written
written-within l (request r room) e =
    bil-within _ room (asks r room l.today l.tracking l.confirmation _ _ (clear-causes l (request r room) e)).wide
written-within l (calendar q hs room) e =
    bil-within _ room (asks (worked_out q hs l.today) room l.today l.tracking l.confirmation _ _ (clear-dated (view l) q hs room (clear-causes l (calendar q hs room) e))).wide
written-within l (file s room) e =
    omega (arith, file-within l s, (sends s room l.tracking l.confirmation (clear-causes l (file s room) e)).wide)
written-within l (cancel id room) e =
    cxl-within _ room (cancels id room l.tracking l.confirmation _ (clear-causes l (cancel id room) e)).wide
written-within l (close d) e = omega arith
written-within l (removal a) e = omega arith
