-- Demand 3: "a single claim about a whole list" of calls that follow a fresh that succeeded, refused ones too. Assumes nothing.
use Rattle.std.specs.Prelude.{ℕ, ◌+◌, ◌≤◌, ◌<◌, ◌≡◌, Bool, true, false, List, [], ◌∷◌, map, ◌++◌, length, get_or, ℤ, pos, ◌+ℤ◌, Ok}
use Rattle.ledger.specs.declared.Ledger.{Ledger}
use Rattle.rules.specs.Lists.{count}
use Rattle.ledger.specs.Books.{Book, book, view}
use Rattle.ledger.specs.Sound.{sound}
use Rattle.records.specs.Layout.{is_rsp}
use Rattle.rules.specs.Rules.{first}
use Rattle.verdict.specs.Lines.{is_nothing, terms_of}
use Rattle.group.specs.Groups.{sought, answer, is_accepted}
use Rattle.causes.specs.declared.Start.{Start}
use Rattle.causes.specs.Causes.{Call, fresh_causes}
use Rattle.calls.specs.Machine.{Outcome, total, fresh, after, outcomes, Runs}
use Rattle.calls.specs.Days.{fresh_called}
use Rattle.history.specs.History.{History, begun, history_sum, h_after, h_causes, Decided, h_decisions}
use Rattle.history.specs.Written.{keep, assigned_in, acfs_in}

-- ---- over the calls of a list
-- the sum of the signed changes that they returned
unfoldable pub changes : List Outcome → ℤ
changes [] = pos 0
changes (o ∷ os) = o.change +ℤ changes os

-- the Tracking IDs that the bytes they wrote assign
unfoldable pub assigned : List Outcome → List ℕ
assigned [] = []
assigned (o ∷ os) = assigned_in o.written ++ assigned os

-- a group that the history accepts, and its ACF
abbrev pub accepts : Decided → Bool
accepts d = is_accepted d.verdict

abbrev pub acfs_of : List Decided → List (List ℕ)
acfs_of ds = map (λ (d : Decided). answer d.now d.group d.verdict) (keep accepts ds)

-- no group is accepted for a cancelled bill and no RSP after its Scheduled Date (demand 3): of the bill, as the history has it when the group is decided
pub record Lawful (d : Decided) : Type 0 where
  pub held : accepts d ≡ true → is_nothing (sought d.now d.group) ≡ false
  pub alive : accepts d ≡ true → (terms_of (sought d.now d.group)).cancelled ≡ false
  pub in_time : accepts d ≡ true → is_rsp d.group.header ≡ true
      → d.now.today.0 ≤ (terms_of (sought d.now d.group)).latest.scheduled.0

-- a statement about each element
abbrev pub All : {A : Type 0} → (A → Type 0) → List A → Type 0
All P [] = Unit {0}
All P (x ∷ xs) = P x × All P xs

-- no number stands twice
abbrev pub NoneTwice : List ℕ → Type 0
NoneTwice ns = (i j : ℕ) → i < length ns → j < length ns → get_or ns i 0 ≡ get_or ns j 0 → i ≡ j

-- ---- the claim about the calls cs, on the ledger l with the history h
pub record Claims (l : Book) (h : History) (cs : List Call) : Type 0 where
  -- the total of the table = the sum of the returned signed changes = the history's sum
  pub returned : pos (total (after l cs)) ≡ changes (outcomes l cs)
  pub history : total (after l cs) ≡ history_sum (h_after h cs)
  -- the history's today, next numbers and bills are the ledger's
  pub bills : (h_after h cs).now ≡ view (after l cs)
  -- each call is carried out or refused as the history says: the ledger part of 2 never occurs
  pub results : map (λ (o : Outcome). o.result) (outcomes l cs) ≡ h_causes h cs
  -- "A file accepts, by its count and its ACFs, exactly the groups that the history accepts."
  pub verdicts : map (λ (o : Outcome). o.verdicts) (outcomes l cs) ≡ map (map (λ (d : Decided). d.verdict)) (h_decisions h cs)
  pub accepted : map (λ (o : Outcome). o.accepted) (outcomes l cs) ≡ map (count accepts) (h_decisions h cs)
  -- "accepted, rejected (together the number of groups)"
  pub counted : map (λ (o : Outcome). o.accepted + o.rejected) (outcomes l cs) ≡ map length (h_decisions h cs)
  pub acfs : map (λ (o : Outcome). acfs_in o.written) (outcomes l cs) ≡ map acfs_of (h_decisions h cs)
  pub lawful : All (All Lawful) (h_decisions h cs)
  -- no Tracking ID twice
  pub once : NoneTwice (assigned (outcomes l cs))
  -- the ledger stays sound
  pub kept : sound (after l cs) ≡ true

abbrev pub SumFromHistory : Type 0
SumFromHistory = (s : Start) → first (fresh_causes s) ≡ Ok tt → (cs : List Call) → Claims (fresh s) (begun s) cs

-- ---- the same of the calls by value, after a fresh on any ledger: they do what the machine does, and of that the claim holds
pub record ByValue (l : Ledger) (h : History) (cs : List Call) : Type 0 where
  pub runs : Runs l cs
  pub claims : Claims (book l) h cs

abbrev pub SumByValue : Type 0
SumByValue = (l : Ledger) (s : Start) → first (fresh_causes s) ≡ Ok tt → (cs : List Call) → ByValue (fresh_called l s).ledger (begun s) cs
