-- A call on words that may hold anything, by what it was refused for or what the engine left. Assumes nothing.
use Prim.Native.Nat.{ℕ, ◌-◌}
use mathlib.Core.Path.{◌≡◌, refl, ◌∙◌, sym, ap}
use mathlib.Core.Bool.{true, false}
use mathlib.Core.List.{List, [], ◌∷◌}
use native.Mathlib.Omega.{arith}
use lib.ListN.{length, take, drop}
use lib.IntN.{ℤ}
use borrow.Author.Tests.{ne_eqb}
use Rattle.fields.specs.Put.{put, part}
use Rattle.fields.proofs.PutLaws.{put-nil}
use Rattle.ledger.specs.Sound.{sound_ledger}
use Rattle.words.specs.Layout.{ledger_size, holds_ledger, ledger_words, ledger_of}
use Rattle.words.proofs.WordLaws.{words-ledger, sound-holds}
use Rattle.units.specs.declared.Date.{Date}
use Rattle.ledger.specs.declared.Identity.{Identity}
use Rattle.causes.specs.declared.Request.{Request}
use Rattle.causes.specs.declared.AccountRemoval.{AccountRemoval}
use Rattle.causes.specs.declared.Start.{Start}
use Rattle.causes.specs.Causes.{Call, request, file, cancel, close, removal}
use Rattle.calls.specs.declared.Called.{Called}
use Rattle.calls.specs.declared.Returned.{Returned}
use Rattle.calls.specs.Machine.{cause_in, step_in, left_by, answer_by, called}
use Rattle.calls.specs.Days.{fresh_called}
use Rattle.calls.proofs.CallLaws.{Stopped, stopped, cause-unsound}
use Rattle.journal.specs.declared.Body.{Body}
use Rattle.journal.specs.declared.Body.TheVariants as body
use Rattle.journal.specs.declared.Head.{Head}
use Rattle.journal.specs.declared.Head.TheVariants.{Cut, Bad, Whole}
use Rattle.journal.specs.Entries.{head_of, head_number}
use Rattle.journal.specs.EntryCalls.{entry_called, entry_written}
use Rattle.journal.proofs.MadeLaws.{Taken}
use Rattle.engine.specs.parts.Calls.{CalledIn, FreshLeaves}
use Rattle.entries.specs.parts.Stepping.{EntryCalledIn}
use Rattle.boundary.specs.Boundary.{number_of, words_left, change_left, counts_left, Stores, Gives, fresh_in, entry_in, Leaves, head_called, head_written, head_found}
use Rattle.std.specs.Prelude.{Result, Ok, Err, ⊤}
use Rattle.rules.specs.declared.Cause.{Cause}
use Rattle.rules.specs.declared.Cause.TheVariants.{BadArgument, BadEntry}

-- ---- a call that is no fresh
abbrev pub NoFresh : Body → Type 0
NoFresh (body.Fresh s) = ⊥
NoFresh (body.Request r) = Unit {0}
NoFresh body.File = Unit {0}
NoFresh (body.Cancel id) = Unit {0}
NoFresh (body.Close d) = Unit {0}
NoFresh (body.Removal a) = Unit {0}
NoFresh body.Unread = Unit {0}

-- a body that is no fresh's
pub no-fresh : (b : Body) → ((s : Start) → b ≡ body.Fresh s → ⊥) → NoFresh b
no-fresh (body.Fresh s) h = h s refl
no-fresh (body.Request r) h = tt
no-fresh body.File h = tt
no-fresh (body.Cancel id) h = tt
no-fresh (body.Close d) h = tt
no-fresh (body.Removal a) h = tt
no-fresh body.Unread h = tt

-- what holds of every other body
module _ (Q : Body → Type 0) (asks : (r : Request) → Q (body.Request r)) (files : Q body.File) (cancels : (id : Identity) → Q (body.Cancel id))
    (closes : (d : Date) → Q (body.Close d)) (removes : (a : AccountRemoval) → Q (body.Removal a)) (unread : Q body.Unread) where
  each : (b : Body) → NoFresh b → Q b
  each (body.Fresh s) h = absurd h
  each (body.Request r) h = asks r
  each body.File h = files
  each (body.Cancel id) h = cancels id
  each (body.Close d) h = closes d
  each (body.Removal a) h = removes a
  each body.Unread h = unread

pub no-fresh-taken : (b : Body) → NoFresh b → Taken b
no-fresh-taken = each Taken (λ r. tt) tt (λ id. tt) (λ d. tt) (λ a. tt) tt

-- ---- "Returned is the number alone; ledger and output stay as they were."
pub refused-leaves : (ws out : List ℕ) (n : Cause) → Leaves (record { ledger = ledger_of ws; answer = Err n }) [] ws out ws out (Err n)
refused-leaves ws out n = record { answer = refl; words = refl; ledger = refl; bytes = put-nil out 0 }

-- ---- fresh
module _ (ws : List ℕ) (s : Start) where
  pub fresh-long : length ws ≡ ledger_size → fresh_called (ledger_of ws) s ≡ fresh_in ws s
  unfolding fresh_in
  fresh-long e = rw e

  pub fresh-short : (out : List ℕ) → (length ws ≡ ledger_size → ⊥) → Leaves (fresh_in ws s) [] ws out ws out (Err BadArgument)
  unfolding fresh_in
  fresh-short out e = rw (ne_eqb (length ws) ledger_size e) (refused-leaves ws out BadArgument)

  -- the words are those of the ledger that it begins, or as they were
  fresh-words : (ws₁ : List ℕ) (k : Called) (a : Result Returned Cause) → ledger_of ws₁ ≡ k.ledger → a ≡ k.answer → FreshLeaves holds_ledger ws ws₁ a
      → ws₁ ≡ words_left ws k.ledger k.answer
  fresh-words ws₁ k (Ok r) e f g = rw (sym f) (sym (words-ledger ws₁ g) ∙ ap ledger_words e)
  fresh-words ws₁ k (Err n) e f g = rw (sym f) g

  pub fresh-leaves : length ws ≡ ledger_size → (out ws₁ : List ℕ) (a : Result Returned Cause) → ledger_of ws₁ ≡ (fresh_called (ledger_of ws) s).ledger
      → a ≡ (fresh_called (ledger_of ws) s).answer
      → FreshLeaves holds_ledger ws ws₁ a → Leaves (fresh_in ws s) [] ws out ws₁ out a
  fresh-leaves long out ws₁ a e f g =
      rw (sym (fresh-long long)) (record { answer = f; words = fresh-words ws₁ (fresh_called (ledger_of ws) s) a e f g; ledger = e; bytes = put-nil out 0 })

-- ---- any other call
module _ (room : ℕ) (ws out s : List ℕ) where
  pub stopped-leaves : (c : Call) → sound_ledger (ledger_of ws) ≡ false
      → Leaves (called (ledger_of ws) c) (step_in (ledger_of ws) c).written ws out ws out (Err BadArgument)
  stopped-leaves c h =
      let x : Stopped (ledger_of ws) c BadArgument = stopped (ledger_of ws) c BadArgument (cause-unsound (ledger_of ws) c h) in
      record {
        answer = x.answer;
        words = ap (words_left ws (called (ledger_of ws) c).ledger) x.answer;
        ledger = x.ledger;
        bytes = put-nil out 0 ∙ ap (put out 0) x.bytes;
      }

  -- a close and a removal write nothing
  quiet-written : (c : Call) (ys ws₁ out₁ : List ℕ) (a : Result Returned Cause) → [] ≡ ys → Leaves (called (ledger_of ws) c) ys ws out ws₁ out₁ a
      → Leaves (called (ledger_of ws) c) [] ws out ws₁ out₁ a
  quiet-written c ys ws₁ out₁ a e x =
      record { answer = x.answer; words = x.words; ledger = x.ledger; bytes = x.bytes ∙ ap (put out 0) (sym e) }

  quiet-refused : (c : Call) → sound_ledger (ledger_of ws) ≡ false → Leaves (called (ledger_of ws) c) [] ws out ws out (Err BadArgument)
  quiet-refused c h =
      quiet-written c _ ws out (Err BadArgument) (stopped (ledger_of ws) c BadArgument (cause-unsound (ledger_of ws) c h)).bytes (stopped-leaves c h)

  -- words that hold no sound ledger
  pub unsound-leaves : (b : Body) → NoFresh b → sound_ledger (ledger_of ws) ≡ false
      → Leaves (entry_in room ws b s) (entry_written room (ledger_of ws) b s) ws out ws out (Err BadArgument)
  unsound-leaves b n h =
      each (λ (x : Body). Leaves (entry_in room ws x s) (entry_written room (ledger_of ws) x s) ws out ws out (Err BadArgument))
      (λ r. stopped-leaves (request r room) h) (stopped-leaves (file s room) h) (λ id. stopped-leaves (cancel id room) h)
      (λ d. quiet-refused (close d) h) (λ a. quiet-refused (removal a) h)
      (refused-leaves ws out BadArgument) b n

  -- a call that is refused leaves the ledger
  call_kept : (c : Call) (n : Cause) → (called (ledger_of ws) c).answer ≡ Err n → (called (ledger_of ws) c).ledger ≡ ledger_of ws
  unfolding called left_by answer_by
  call_kept c n e = go (cause_in (ledger_of ws) c) e
    where
      go : (v : Result ⊤ Cause) → answer_by (step_in (ledger_of ws) c) v ≡ Err n → left_by (ledger_of ws) c v ≡ ledger_of ws
      go (Ok tt) f = let z : ◌≡◌ {A = ℕ} 0 1 = cc in absurd (omega arith)
      go (Err m) f = refl

  kept : (b : Body) → NoFresh b → (n : Cause) → (entry_called room (ledger_of ws) b s).answer ≡ Err n → (entry_called room (ledger_of ws) b s).ledger ≡ ledger_of ws
  kept =
      each (λ (b : Body). (n : Cause) → (entry_called room (ledger_of ws) b s).answer ≡ Err n → (entry_called room (ledger_of ws) b s).ledger ≡ ledger_of ws)
      (λ r. call_kept (request r room)) (call_kept (file s room)) (λ id. call_kept (cancel id room)) (λ d. call_kept (close d)) (λ a. call_kept (removal a)) (λ n e. refl)

  entry-made : (b : Body) → NoFresh b → entry_called room (ledger_of ws) b s ≡ entry_in room ws b s
  entry-made = each (λ (b : Body). entry_called room (ledger_of ws) b s ≡ entry_in room ws b s) (λ r. refl) refl (λ id. refl) (λ d. refl) (λ a. refl) refl

  -- the words of the ledger that it leaves, or those that were lent
  words_left_lem : (ws₁ : List ℕ) (k : Called) → holds_ledger ws ≡ true → holds_ledger ws₁ ≡ true → ledger_of ws₁ ≡ k.ledger
      → ((n : Cause) → k.answer ≡ Err n → k.ledger ≡ ledger_of ws) → ws₁ ≡ words_left ws k.ledger k.answer
  words_left_lem ws₁ k h h₁ e f = go k.answer refl
    where
      go : (a : Result Returned Cause) → k.answer ≡ a → ws₁ ≡ words_left ws k.ledger a
      go (Ok r) q = sym (words-ledger ws₁ h₁) ∙ ap ledger_words e
      go (Err n) q = sym (words-ledger ws₁ h₁) ∙ ap ledger_words (e ∙ f n q) ∙ words-ledger ws h

  -- words that hold one: what the engine left of a call
  pub carried-leaves : (c : Call) → sound_ledger (ledger_of ws) ≡ true → (ws₁ out₁ : List ℕ) (a : Result Returned Cause) → CalledIn holds_ledger ledger_of true c ws out ws₁ out₁ a
      → Leaves (called (ledger_of ws) c) (step_in (ledger_of ws) c).written ws out ws₁ out₁ a
  carried-leaves c h ws₁ out₁ a m =
      record {
        answer = m.answer;
        words = words_left_lem ws₁ (called (ledger_of ws) c) (sound-holds ws h) m.holds m.ledger (call_kept c);
        ledger = m.ledger;
        bytes = m.bytes;
      }

  -- and of an entry
  pub sound-leaves : (b : Body) → NoFresh b → sound_ledger (ledger_of ws) ≡ true → (ws₁ out₁ : List ℕ) (a : Result Returned Cause)
      → EntryCalledIn true room 0 b s ws out ws₁ out₁ a → Leaves (entry_in room ws b s) (entry_written room (ledger_of ws) b s) ws out ws₁ out₁ a
  sound-leaves b n h ws₁ out₁ a m =
      rw (sym (entry-made b n))
      (record {
        answer = m.answer;
        words = words_left_lem ws₁ (entry_called room (ledger_of ws) b s) (sound-holds ws h) (sound-holds ws₁ m.sound) m.ledger (kept b n);
        ledger = m.ledger;
        bytes = m.bytes;
      })

-- ---- what is given back
pub gives : (c : Called) (ys ws out ws₁ out₁ : List ℕ) (a : Result Returned Cause) → Leaves c ys ws out ws₁ out₁ a → (x : ℤ) (ks : List ℕ) (x₁ : ℤ) (ks₁ : List ℕ) (n : ℕ)
    → Stores a x ks x₁ ks₁ n → Gives c ws x ks ws₁ x₁ ks₁ n
gives c ys ws out ws₁ out₁ a l x ks x₁ ks₁ n g =
    record {
      number = g.number ∙ ap number_of l.answer;
      words = l.words;
      ledger = l.ledger;
      change = g.change ∙ ap (change_left x) l.answer;
      counts = g.counts ∙ ap (counts_left ks) l.answer;
    }

-- an answer that was carried out
pub stores-done : (a : Result Returned Cause) (r : Returned) → a ≡ Ok r → (x : ℤ) (ks : List ℕ) (x₁ : ℤ) → x₁ ≡ r.change
    → Stores a x ks x₁ (r.written ∷ r.accepted ∷ r.rejected ∷ r.closed ∷ []) 0
stores-done a r e x ks x₁ y =
    record { number = sym (ap number_of e); change = y ∙ sym (ap (change_left x) e); counts = sym (ap (counts_left ks) e) }

-- ---- the entry at the start of a journal
module _ (room seen : ℕ) (src ws : List ℕ) (x : ℤ) (ks out : List ℕ) where
  -- what is given, written and found of what stands there
  abbrev pub Headed : Head → List ℕ → ℤ → List ℕ → List ℕ → List ℕ → ℕ → Type 0
  Headed h ws₁ x₁ ks₁ out₁ ts n =
      Gives (head_called room ws src h) ws x ks ws₁ x₁ ks₁ n × ((out₁ ≡ put out 0 (head_written room ws src h)) × (ts ≡ head_found h))

  refused : Gives (record { ledger = ledger_of ws; answer = Err BadEntry }) ws x ks ws x ks 13
  refused = record { number = refl; words = refl; ledger = refl; change = refl; counts = refl }

  pub entry-cut : head_of seen src ≡ Cut → Headed (head_of seen src) ws x ks out (0 ∷ 1 ∷ []) (head_number Cut)
  entry-cut e = rw e (refused, (put-nil out 0, refl))

  pub entry-bad : head_of seen src ≡ Bad → Headed (head_of seen src) ws x ks out (0 ∷ 0 ∷ []) (head_number Bad)
  entry-bad e = rw e (refused, (put-nil out 0, refl))

  pub entry_whole : (b : Body) (n : ℕ) → head_of seen src ≡ Whole b n → (ws₁ : List ℕ) (x₁ : ℤ) (ks₁ out₁ : List ℕ) (k : ℕ)
      → Gives (entry_in room ws b (take (n - 3) (drop 3 src))) ws x ks ws₁ x₁ ks₁ k
      → out₁ ≡ put out 0 (entry_written room (ledger_of ws) b (take (n - 3) (drop 3 src)))
      → Headed (head_of seen src) ws₁ x₁ ks₁ out₁ (n ∷ 0 ∷ []) k
  unfolding part
  entry_whole b n e ws₁ x₁ ks₁ out₁ k g w = rw e (g, (w, refl))
