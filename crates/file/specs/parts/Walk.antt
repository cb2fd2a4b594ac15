-- The groups by record number, as the code walks: what the contracts of the walks cite. Assumes nothing.
use Rattle.std.specs.Prelude.{ℕ, zero, suc, ◌+◌, ◌-◌, Bool, cond, ◌&&◌, List, [], ◌∷◌, ◌++◌, take, Result, Ok, Err}
use Rattle.records.specs.Layout.{record_at, records_from, is_rsp, is_sup}
use Rattle.file.specs.File.{is_header, Group, leading, groups, unfit, passes, line3}
use Rattle.records.specs.declared.Notification.{Notification}
use Rattle.records.specs.declared.Notification.TheVariants.{Response, Supplement}
use Rattle.rules.specs.declared.ErrorCode.{ErrorCode}
use Rattle.rules.specs.declared.ErrorCode.TheVariants.{Br17, Br19}

-- the records of a file of n records_after record i
abbrev pub records_after : List ℕ → ℕ → ℕ → List (List ℕ)
records_after s i n = records_from s (i + 1) (n - (i + 1))

-- the group whose header is record i
unfoldable pub group_at : List ℕ → ℕ → ℕ → Group
group_at s i n = record { header = record_at s i; details = take (leading (records_after s i n)) (records_after s i n) }

-- the groups whose headers stand before record i, and those records_after it
unfoldable pub before : List ℕ → ℕ → ℕ → List Group
before s n zero = []
before s n (suc i) = before s n i ++ cond (is_header (record_at s i)) (group_at s i n ∷ []) []

abbrev pub later : List ℕ → ℕ → ℕ → List Group
later s n i = groups (records_after s i n)

-- line 3 for the group whose header is record i, if it passes lines 1 and 2
unfoldable pub mark_at : List ℕ → ℕ → ℕ → Bool
mark_at s n i = is_header (record_at s i) && passes (group_at s i n) && line3 (before s n i ++ later s n i) (group_at s i n)

-- lines 1 and 2 for a header and its only detail
unfoldable pub pair_form : List ℕ → List ℕ → Result Notification ErrorCode
pair_form h d = cond (unfit h d) (Err Br17) (cond (is_rsp h) (Ok Response) (cond (is_sup h) (Ok Supplement) (Err Br19)))
