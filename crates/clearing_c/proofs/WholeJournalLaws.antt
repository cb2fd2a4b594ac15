-- What the functions for a whole journal answer. Assumes nothing.
use Prim.Native.Nat.{ℕ}
use mathlib.Core.Path.{◌≡◌, ap, ap₂, ◌∙◌}
use mathlib.Core.Bool.{Bool}
use mathlib.Core.List.{List}
use Rattle.boundary.specs.Boundary.{number_of}
use Rattle.report.specs.declared.Reported.{Reported}
use Rattle.report.specs.Report.{Reports}
use Rattle.report.specs.NoticesOf.{ReportsNotices}
use Rattle.clearing_c.specs.WholeJournals.{result_left, Tables, Notices}
use Rattle.std.specs.Prelude.{Result}
use Rattle.rules.specs.declared.Cause.{Cause}

module _ (s out₀ ts out ts₁ : List ℕ) (n : ℕ) (r : Reported) (e : n ≡ number_of r.report) (t : ts₁ ≡ result_left ts r.stopped r.report) where
  -- the number answered and the result, of the report and the end that are those of the journal
  answered : (p : Result ℕ Cause) (bad : Bool) → r.report ≡ p → r.stopped ≡ bad → (n ≡ number_of p) × (ts₁ ≡ result_left ts bad p)
  answered p bad a b = (e ∙ ap number_of a, t ∙ ap₂ (result_left ts) b a)

  pub tables : Reports s out₀ out r → Tables s out₀ ts out ts₁ n
  tables h = let x = answered _ _ h.answer h.stopped in record { number = x.0; result = x.1; bytes = h.bytes; claimed = h.claimed }

  pub notices : ReportsNotices s out₀ out r → Notices s out₀ ts out ts₁ n
  notices h = let x = answered _ _ h.answer h.stopped in record { number = x.0; result = x.1; bytes = h.bytes }
