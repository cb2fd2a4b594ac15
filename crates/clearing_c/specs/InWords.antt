-- Demand 3 through the boundary: a list of calls on a ledger in words, each on the words that the one before left. Assumes nothing.
use Rattle.std.specs.Prelude.{ℕ, ◌≡◌, cond, List, [], ◌∷◌, ◌++◌, map, eqb, length, get_or, ℤ, pos, ◌+ℤ◌, Ok}
use Rattle.fields.specs.Put.{part, put}
use Rattle.ledger.specs.Books.{book}
use Rattle.words.specs.Layout.{ledger_of, ledger_size}
use Rattle.rules.specs.Rules.{first}
use Rattle.causes.specs.declared.Start.{Start}
use Rattle.causes.specs.Causes.{Call, fresh_causes}
use Rattle.calls.specs.Machine.{Outcome, total, outcomes, called, step_in, ran}
use Rattle.history.specs.History.{begun, history_sum, h_after, h_causes}
use Rattle.history.specs.Written.{assigned_in}
use Rattle.history.specs.Claim.{NoneTwice, ByValue}
use Rattle.boundary.specs.Boundary.{fresh_in, Gives, number_of}

-- what a caller holds after a call: the number answered, and what stands in `change`, `counts` and the output
pub record Held : Type 0 where
  pub number : ℕ
  pub change : ℤ
  pub counts : List ℕ
  pub output : List ℕ

-- the call c on the words ws left the words ws₁ and these, as the contract of its function says; `change`, `counts` and the output held anything before
-- (for a close or a removal, which is lent no output, take an empty one)
pub record MadeBy (ws : List ℕ) (c : Call) (a : Held) (ws₁ : List ℕ) : Type 0 where
  pub change : ℤ
  pub counts : List ℕ
  pub output : List ℕ
  pub gives : Gives (called (ledger_of ws) c) ws change counts ws₁ a.change a.counts a.number
  pub bytes : a.output ≡ put output 0 (step_in (ledger_of ws) c).written

-- the words ws₂ are left by these calls, made on the words ws, and the caller holds these after each
abbrev pub CallsMade : List ℕ → List Call → List Held → List ℕ → Type 0
CallsMade ws [] [] ws₂ = ws ≡ ws₂
CallsMade ws [] (a ∷ hs) ws₂ = ⊥
CallsMade ws (c ∷ cs) [] ws₂ = ⊥
CallsMade ws (c ∷ cs) (a ∷ hs) ws₂ = (ws₁ : List ℕ) × MadeBy ws c a ws₁ × CallsMade ws₁ cs hs ws₂

-- ---- what the caller reads off a call: nothing where a number but 0 was answered
-- the signed change returned
abbrev pub change_of : Held → ℤ
change_of a = cond (eqb a.number 0) a.change (pos 0)

-- the bytes written: as many as `counts` says
abbrev pub bytes_written : Held → List ℕ
bytes_written a = cond (eqb a.number 0) (part a.output 0 (get_or a.counts 0 0)) []

-- the sum of the changes, and the Tracking IDs that the bytes assign
abbrev pub changes_of : List Held → ℤ
changes_of [] = pos 0
changes_of (a ∷ hs) = change_of a +ℤ changes_of hs

abbrev pub assigned_of : List Held → List ℕ
assigned_of [] = []
assigned_of (a ∷ hs) = assigned_in (bytes_written a) ++ assigned_of hs

-- ---- the claim about calls after a fresh that left the words ws₁
pub record ClaimsInWords (s : Start) (ws₁ : List ℕ) (cs : List Call) (hs : List Held) (ws₂ : List ℕ) : Type 0 where
  -- the words hold what the calls by value leave, and of these calls the claim holds
  pub ledger : ledger_of ws₂ ≡ ran (ledger_of ws₁) cs
  pub claims : ByValue (ledger_of ws₁) (begun s) cs
  -- each answers the number that the history gives
  pub numbers : map (λ (a : Held). a.number) hs ≡ map number_of (h_causes (begun s) cs)
  -- the total of the ledger in the words = the sum of the changes that the caller holds = the history's sum
  pub returned : pos (total (book (ledger_of ws₂))) ≡ changes_of hs
  pub history : total (book (ledger_of ws₂)) ≡ history_sum (h_after (begun s) cs)
  -- the bytes that the caller holds are those of the claim, and assign no Tracking ID twice
  pub written : map bytes_written hs ≡ map (λ (o : Outcome). o.written) (outcomes (book (ledger_of ws₁)) cs)
  pub once : NoneTwice (assigned_of hs)

-- after a fresh that succeeded on any 2,564 words and any list of calls
abbrev pub SumInWords : Type 0
SumInWords =
    (ws ws₁ ws₂ : List ℕ) (s : Start) (cs : List Call) (hs : List Held) → length ws ≡ ledger_size → first (fresh_causes s) ≡ Ok tt
    → ledger_of ws₁ ≡ (fresh_in ws s).ledger → CallsMade ws₁ cs hs ws₂ → ClaimsInWords s ws₁ cs hs ws₂
