-- What lines 1 and 2 give for each case of a group's form: "An answer may be an enum. If so, a definition gives this paper's number and values for
-- each of the enum's cases". Assumes nothing.
use Rattle.std.specs.Prelude.{◌≡◌, Bool, [], ◌∷◌, Result, Ok, Err, ⊤}
use Rattle.ledger.specs.Books.{View}
use Rattle.file.specs.File.{Group, line1, line2, form_of}
use Rattle.rules.specs.Rules.{rule, first}
use Rattle.group.specs.Groups.{verdict_by}
use Rattle.rules.specs.declared.ErrorCode.{ErrorCode}
use Rattle.rules.specs.declared.ErrorCode.TheVariants.{Br17, Br19}
use Rattle.records.specs.declared.Notification.{Notification}

-- "1. BR17 ..", "2. BR19: code neither RSP nor SUP."
abbrev pub form_code : Result Notification ErrorCode → Result ⊤ ErrorCode
form_code (Err c) = Err c
form_code (Ok k) = Ok tt

-- the code is that of lines 1 and 2, and where they give one it is the group's, whatever its bill and the other groups
pub record FormCoded (g : Group) : Type 0 where
  pub lines : form_code (form_of g) ≡ first (rule (line1 g) Br17 ∷ rule (line2 g) Br19 ∷ [])
  pub rejected : (duplicate : Bool) (v : View) (n : ErrorCode) → form_code (form_of g) ≡ Err n → verdict_by duplicate v g ≡ Err n
