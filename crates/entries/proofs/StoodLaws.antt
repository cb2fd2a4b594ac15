-- What stood at the start of some bytes, by what a step answered. Assumes nothing.
use Prim.Native.Nat.{ℕ, ◌-◌}
use mathlib.Core.Path.{◌≡◌, refl, sym, ◌∙◌, subst}
use mathlib.Core.Bool.{Bool, false}
use mathlib.Core.List.{List, []}
use native.Mathlib.Omega.{arith}
use Rattle.fields.specs.Put.{part}
use Rattle.journal.specs.declared.Body.{Body}
use Rattle.journal.specs.declared.Head.{Head}
use Rattle.journal.specs.declared.Head.TheVariants.{Cut, Bad, Whole}
use Rattle.journal.specs.Entries.{head_of}
use Rattle.journal.specs.Journal.{parse}
use Rattle.journal.proofs.JournalLaws.{parse-cut, parse-bad}
use Rattle.entries.specs.declared.entry.Made.{Made}
use Rattle.entries.specs.declared.entry.Ended.{Ended}
use Rattle.entries.specs.declared.entry.Ended.TheVariants as end
use Rattle.entries.specs.parts.Running.{met_bad, had_no_room}
use Rattle.entries.specs.parts.Stepping.{EntryCalledIn, StepOn, SteppedIn}
use Rattle.std.specs.Prelude.{Result, Ok, Err}
use Rattle.rules.specs.declared.Cause.{Cause}
use Rattle.calls.specs.declared.Returned.{Returned}

module _ (writes : Bool) (n seen : ℕ) (src ws₀ out₀ ws out : List ℕ) (r : Result Made Ended) (x : SteppedIn writes n seen src ws₀ out₀ ws out r) where
  -- a whole entry, with what its call left
  abbrev pub Stood : ℕ → Result Returned Cause → Type 0
  Stood m a = (b : Body) × (head_of seen src ≡ Whole b m) × EntryCalledIn writes 64200 n b (part src 3 (m - 3)) ws₀ out₀ ws out a

  pub stood-whole : (e : Made) → r ≡ Ok e → Stood e.size e.answer
  stood-whole e q = go (head_of seen src) refl x
    where
      go : (h : Head) → head_of seen src ≡ h → StepOn h writes n src ws₀ out₀ ws out r → Stood e.size e.answer
      go Cut f w = let p = sym w.2 ∙ q in let z : ◌≡◌ {A = ℕ} 0 1 = cc in absurd (omega arith)
      go Bad f w = let p = sym w.2 ∙ q in let z : ◌≡◌ {A = ℕ} 0 1 = cc in absurd (omega arith)
      go (Whole b k) f w =
          let p : Ok (record { size = k; answer = w.0 }) ≡ Ok e = sym w.1 ∙ q in
          let y : record { size = k; answer = w.0 } ≡ e = cc in
          subst (λ (m : Made). Stood m.size m.answer) y (b, f, w.2)

  -- no whole entry: nothing is parsed there, words and output are as they were, and the output was not why
  abbrev pub Neither : Ended → Type 0
  Neither e = (parse seen src ≡ record { entries = []; stopped = met_bad e; rest = src }) × (ws ≡ ws₀) × (out ≡ out₀) × (had_no_room e ≡ false)

  pub stood-left : (e : Ended) → r ≡ Err e → Neither e
  stood-left e q = go (head_of seen src) refl x
    where
      go : (h : Head) → head_of seen src ≡ h → StepOn h writes n src ws₀ out₀ ws out r → Neither e
      go Cut f w = let p : Err end.Cut ≡ Err e = sym w.2 ∙ q in let z : end.Cut ≡ e = cc in subst Neither z (parse-cut seen src f, w.0, w.1, refl)
      go Bad f w = let p : Err end.Bad ≡ Err e = sym w.2 ∙ q in let z : end.Bad ≡ e = cc in subst Neither z (parse-bad seen src f, w.0, w.1, refl)
      go (Whole b k) f w = let p = sym w.1 ∙ q in let z : ◌≡◌ {A = ℕ} 0 1 = cc in absurd (omega arith)
