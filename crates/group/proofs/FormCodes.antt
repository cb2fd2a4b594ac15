-- The code of a group's form is that of lines 1 and 2, and its verdict. Assumes nothing.
use Prim.Native.Nat.{ℕ}
use mathlib.Core.Path.{◌≡◌, refl}
use mathlib.Core.Bool.{Bool, true, false, cond}
use mathlib.Core.List.{List, [], ◌∷◌}
use native.Mathlib.Omega.{arith}
use Rattle.ledger.specs.declared.Posted.{Posted}
use Rattle.ledger.specs.Bills.{is_prepay}
use Rattle.records.specs.Layout.{is_rsp}
use Rattle.file.specs.File.{Group, detail_of, line1, line2, form_of}
use Rattle.rules.specs.Rules.{Rule, rule, first}
use Rattle.verdict.specs.Lines.{terms_of, lines4to10, amounts_of, settle}
use Rattle.group.specs.Groups.{sought, notification_of, verdict_on, verdict_by}
use Rattle.group.specs.Forms.{form_code, FormCoded}
use Rattle.std.specs.Prelude.{Err, Result, Ok}
use Rattle.rules.specs.declared.ErrorCode.TheVariants.{Br14, Br17, Br19}
use Rattle.rules.specs.declared.ErrorCode.{ErrorCode}
use Rattle.records.specs.declared.Notification.{Notification}
use Rattle.records.specs.declared.Notification.TheVariants.{Response, Supplement}

-- the form that two conditions and a code give
abbrev form_by : Bool → Bool → Bool → Result Notification ErrorCode
form_by u v r = cond u (Err Br17) (cond v (Err Br19) (cond r (Ok Response) (Ok Supplement)))

code_lines : (u v r : Bool) → form_code (form_by u v r) ≡ first (rule u Br17 ∷ rule v Br19 ∷ [])
code_lines true v r = refl
code_lines false true r = refl
code_lines false false true = refl
code_lines false false false = refl

code-first : (u v r : Bool) (n : ErrorCode) (rs : List (Rule ErrorCode)) (amounts : Posted) → form_code (form_by u v r) ≡ Err n
    → settle (first (rule u Br17 ∷ rule v Br19 ∷ rs)) amounts ≡ Err n
code-first true v r n rs amounts e = cc
code-first false true r n rs amounts e = cc
code-first false false true n rs amounts e = let z : ◌≡◌ {A = ℕ} 0 1 = cc in absurd (omega arith)
code-first false false false n rs amounts e = let z : ◌≡◌ {A = ℕ} 0 1 = cc in absurd (omega arith)

pub form-coded : (g : Group) → FormCoded g
unfolding form_of verdict_by verdict_on
form-coded g =
    record {
      lines = code_lines (line1 g) (line2 g) (is_rsp g.header);
      rejected =
          λ duplicate v n e.
          code-first (line1 g) (line2 g) (is_rsp g.header) n
          (rule duplicate Br14 ∷ lines4to10 (notification_of g) v.today g.header (detail_of g) (sought v g))
          (amounts_of (is_prepay (terms_of (sought v g)).product) (detail_of g))
          e;
    }
