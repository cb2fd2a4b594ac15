-- A call on a lent ledger, from what its parts answered. Assumes nothing.
use Prim.Native.Nat.{ℕ}
use mathlib.Core.Path.{◌≡◌, sym, ap, ◌∙◌, subst}
use mathlib.Core.Bool.{Bool, true, false}
use mathlib.Core.List.{List, []}
use native.Mathlib.Omega.{arith}
use lib.ListN.{length, take}
use Rattle.fields.specs.Put.{put}
use Rattle.fields.proofs.PutLaws.{put-nil}
use Rattle.units.specs.declared.Date.{Date}
use Rattle.ledger.specs.declared.Bill.{Bill}
use Rattle.ledger.specs.declared.Identity.{Identity}
use Rattle.ledger.specs.declared.Ledger.{Ledger}
use Rattle.ledger.specs.declared.LedgerHeader.{LedgerHeader}
use Rattle.rules.specs.Lists.{find, count}
use Rattle.ledger.specs.Books.{live, of_id, place_of}
use Rattle.ledger.specs.parts.Places.{header_of, with_header, place_for, bill_at}
use Rattle.ledger.specs.Sound.{sound_ledger}
use Rattle.ledger.proofs.SoundLaws.{ledger-count}
use Rattle.rules.specs.Rules.{first}
use Rattle.file.specs.File.{Group}
use Rattle.group.specs.declared.Tally.{Tally}
use Rattle.group.specs.declared.TurnResult.{TurnResult}
use Rattle.group.specs.Groups.{verdict_on}
use Rattle.group.specs.parts.Turns.{sought_by, if_written, TurnLeaves}
use Rattle.causes.specs.Causes.{Call, close, close_causes, causes}
use Rattle.causes.specs.Requests.{closes}
use Rattle.causes.specs.declared.BillCall.{BillCall}
use Rattle.ledger.specs.declared.Update.{Update}
use Rattle.causes.specs.parts.Decisions.{SoundAt, call_identity, causes_by, decided_by}
use Rattle.calls.specs.declared.Called.{Called}
use Rattle.calls.specs.Machine.{called, cause_in}
use Rattle.calls.specs.Days.{quiet_answer}
use Rattle.calls.proofs.CallLaws.{Stopped, Carried, cause-sound, called-stop}
use Rattle.calls.proofs.BillLaws.{Decided, sound-here, decided}
use Rattle.calls.proofs.FreshCloseLaws.{close-done}
use Rattle.engine.specs.parts.Calls.{CalledIn}
use Rattle.std.specs.Prelude.{Option, Result, Ok, Err, ⊤}
use Rattle.rules.specs.declared.Cause.{Cause}
use Rattle.calls.specs.declared.Returned.{Returned}

-- nothing is if_written, whether notices are written or not
pub said-none : (writes : Bool) (out : List ℕ) → out ≡ put out 0 (if_written writes [])
said-none true out = put-nil out 0
said-none false out = put-nil out 0

module _ {A : Type 0} (holds : List A → Bool) (held : List A → Ledger) (writes : Bool) (c : Call) (xs : List A) (out : List ℕ) where
  -- a call that is refused
  pub stopped-in : holds xs ≡ true → (n : Cause) → Stopped (held xs) c n → CalledIn holds held writes c xs out xs out (Err n)
  stopped-in k n s =
      record {
        holds = k;
        ledger = s.ledger;
        answer = s.answer;
        bytes = said-none writes out ∙ ap (λ (ys : List ℕ). put out 0 (if_written writes ys)) s.bytes;
      }

  -- and one that is carried out
  pub carried-in : (k : Ledger) (a : Result Returned Cause) (ys : List ℕ) → Carried (held xs) c k a ys → (us : List A) (out' : List ℕ) → holds us ≡ true → held us ≡ k
      → out' ≡ put out 0 (if_written writes ys) → CalledIn holds held writes c xs out us out' a
  carried-in k a ys s us out' h e o =
      record {
        holds = h;
        ledger = e ∙ s.ledger;
        answer = s.answer;
        bytes = o ∙ ap (λ (zs : List ℕ). put out 0 (if_written writes zs)) s.bytes;
      }

-- ---- what a search found
module _ (l : Ledger) (id : Identity) (h : LedgerHeader) (he : h ≡ header_of l) (f : Option ℕ)
    (fe : f ≡ find (of_id id) 0 (take h.count l.bills)) where
  pub found-is : f ≡ place_of id (live l)
  found-is = fe ∙ ap (λ (t : LedgerHeader). find (of_id id) 0 (take t.count l.bills)) he

  pub place_is : (p : ℕ) → p ≡ place_for f h.count → p ≡ place_for f l.count
  place_is p pe = pe ∙ ap (λ (t : LedgerHeader). place_for f t.count) he

-- ---- a request or a cancel, by what the search for its bill found
module _ (l : Ledger) (long : length l.bills ≡ 128) (sure : sound_ledger l ≡ true) (c : BillCall) (id : Identity) (ie : id ≡ call_identity c) (h : LedgerHeader)
    (he : h ≡ header_of l) (f : Option ℕ) (fe : f ≡ find (of_id id) 0 (take h.count l.bills)) (p : ℕ)
    (pe : p ≡ place_for f h.count) (b : Bill) (be : b ≡ bill_at l p) where
  finds : f ≡ place_of (call_identity c) (live l)
  finds = found-is l id h he f fe ∙ ap (λ (x : Identity). place_of x (live l)) ie

  stands : p ≡ place_for f l.count
  stands = place_is l id h he f fe p pe

  pub sound-in : SoundAt f b
  sound-in = subst (SoundAt f) (sym be) (sound-here l long sure f p stands (call_identity c) finds)

  pub decided-in : (room : ℕ) (d : Result Update Cause) → d ≡ decided_by (first (causes_by c room h f b)) c h f b → Decided l c room h f p b d
  decided-in room d de = decided l long sure f p stands room c finds h he b be d de

-- ---- a close
module _ (l : Ledger) (long : length l.bills ≡ 128) (sure : sound_ledger l ≡ true) (d : Date) (h : LedgerHeader) (he : h ≡ header_of l) (check : Result ⊤ Cause)
    (ke : check ≡ first (close_causes d h.today)) where
  cause-now : (k : Result ⊤ Cause) → check ≡ k → cause_in l (close d) ≡ k
  unfolding causes
  cause-now k e = cause-sound l (close d) sure ∙ sym (ke ∙ ap (λ (t : LedgerHeader). first (close_causes d t.today)) he) ∙ e

  pub close-stops : (n : Cause) → check ≡ Err n → (l ≡ (called l (close d)).ledger) × (Err n ≡ (called l (close d)).answer)
  close-stops n e =
      let x = called-stop l (close d) n (cause-now (Err n) e) in
      (ap (λ (r : Called). r.ledger) x, ap (λ (r : Called). r.answer) x)

  pub close-made : check ≡ Ok tt → (closed : ℕ) → closed ≡ count (closes h.today d) (take h.count l.bills)
      → (with_header l (record { today = d; tracking = h.tracking; confirmation = h.confirmation; count = h.count }) ≡ (called l (close d)).ledger)
      × (quiet_answer closed ≡ (called l (close d)).answer)
  close-made e closed ce =
      let x = close-done l d (omega (arith, ledger-count l sure, long)) (cause-now (Ok tt) e) in
      let y : closed ≡ count (closes l.today d) (live l) = ce ∙ ap (λ (t : LedgerHeader). count (closes t.today d) (take t.count l.bills)) he in (
        ap (λ (t : LedgerHeader). with_header l (record { today = d; tracking = t.tracking; confirmation = t.confirmation; count = t.count })) he
            ∙ sym (ap (λ (r : Called). r.ledger) x),
        ap quiet_answer y ∙ sym (ap (λ (r : Called). r.answer) x),
      )

-- ---- a group's turn, by the header that is held
pub turn-here : (d : Bool) (f : Option ℕ) (b : Bill) (g : Group) (c : Tally) (writes : Bool) (out₀ out : List ℕ) (x : TurnResult) (h k : LedgerHeader) → h ≡ k
    → TurnLeaves (verdict_on d h.today (sought_by f b) g) g h b c writes out₀ out x → TurnLeaves (verdict_on d k.today (sought_by f b) g) g k b c writes out₀ out x
turn-here d f b g c writes out₀ out x h k e w =
    subst (λ (t : LedgerHeader). TurnLeaves (verdict_on d t.today (sought_by f b) g) g t b c writes out₀ out x) e w
