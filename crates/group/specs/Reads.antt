-- "No line reads a group's dates, Confirmation Number or previous fields (H).": two groups that agree on all else. Assumes nothing.
use Rattle.std.specs.Prelude.{ℕ, ◌≡◌, List, [], ◌∷◌, length}
use Rattle.fields.specs.Put.{positions}
use Rattle.ledger.specs.Books.{Book}
use Rattle.file.specs.File.{Group, detail_of}
use Rattle.group.specs.Groups.{taken, verdicts}

-- headers that agree on all but Transmission Date 34-41, Confirmation Number 42-50, Scheduled Date 51-58 and filler
pub record SameHeader (h h' : List ℕ) : Type 0 where
  pub start : positions h 1 33 ≡ positions h' 1 33
  pub count : positions h 59 73 ≡ positions h' 59 73

-- details that agree on all but Transmission Date 34-41, Billing Date 46-53, From Date 80-87, the previous fields 208-233 and filler
pub record SameDetail (d d' : List ℕ) : Type 0 where
  pub start : positions d 1 33 ≡ positions d' 1 33
  pub key : positions d 42 45 ≡ positions d' 42 45
  pub charge : positions d 54 79 ≡ positions d' 54 79
  pub tiers : positions d 88 207 ≡ positions d' 88 207
  pub amounts : positions d 234 259 ≡ positions d' 234 259

pub record SameGroup (g g' : Group) : Type 0 where
  pub header : SameHeader g.header g'.header
  pub details : length g.details ≡ length g'.details
  pub detail : SameDetail (detail_of g) (detail_of g')

-- groups that agree so, one by one
abbrev pub Pairwise : (Group → Group → Type 0) → List Group → List Group → Type 0
Pairwise P [] [] = Unit {0}
Pairwise P [] (g ∷ gs) = ⊥
Pairwise P (g ∷ gs) [] = ⊥
Pairwise P (g ∷ gs) (g' ∷ gs') = P g g' × Pairwise P gs gs'

-- the groups of two files that agree so get the same verdicts, by lines 1 to 10, and leave the same ledger
abbrev pub NoLineReads : Type 0
NoLineReads =
    (l : Book) (gs gs' : List Group) → Pairwise SameGroup gs gs'
    → (verdicts [] l gs ≡ verdicts [] l gs') × (taken [] l gs ≡ taken [] l gs')
