-- What the code decides is the verdict of the lines in their order. Assumes nothing.
use Prim.Native.Nat.{ℕ, ◌+◌}
use mathlib.Core.Path.{◌≡◌, refl, sym, ap}
use mathlib.Core.Bool.{Bool, true, false, cond}
use mathlib.Core.List.{List}
use borrow.Author.Tests.{lt-leb}
use Rattle.fields.proofs.BoolLaws.{cases}
use Rattle.units.specs.declared.Date.{Date}
use Rattle.ledger.specs.Books.{View}
use Rattle.file.specs.File.{Group, detail_of, form_of, line1, line2, passes}
use Rattle.file.specs.parts.Walk.{group_at}
use Rattle.file.proofs.FileLaws.{header_is, only-detail}
use Rattle.file.proofs.FormLaws.{one-detail, one-within}
use Rattle.verdict.specs.Lines.{verdict_of}
use Rattle.group.specs.Groups.{identity_of, notification_of, verdict_on, verdict_by}
use Rattle.group.specs.parts.Turns.{identity_at}
use Rattle.std.specs.Prelude.{Option, Ok, Err}
use Rattle.records.specs.Layout.{is_rsp}
use Rattle.rules.specs.declared.ErrorCode.{ErrorCode}
use Rattle.records.specs.declared.Notification.TheVariants.{Response, Supplement}
use native.Mathlib.Omega.{arith}
use Rattle.ledger.specs.declared.Terms.{Terms}
use Rattle.rules.specs.declared.ErrorCode.TheVariants.{Br14, Br17, Br19}

-- ---- each return of the code is a line of the list
module _ (duplicate : Bool) (today : Date) (b : Option Terms) (g : Group) where
  pub verdict-line1 : line1 g ≡ true → Err Br17 ≡ verdict_on duplicate today b g
  unfolding verdict_on
  verdict-line1 e = rw e

  pub verdict-line2 : line1 g ≡ false → line2 g ≡ true → Err Br19 ≡ verdict_on duplicate today b g
  unfolding verdict_on
  verdict-line2 e f = rw (e, f)

  -- the code of its form is the verdict
  pub verdict-failed : (c : ErrorCode) → form_of g ≡ Err c → Err c ≡ verdict_on duplicate today b g
  unfolding form_of
  verdict-failed c = go (line1 g) (line2 g) (is_rsp g.header) refl refl
    where
      go : (u v r : Bool) → line1 g ≡ u → line2 g ≡ v → cond u (Err Br17) (cond v (Err Br19) (cond r (Ok Response) (Ok Supplement))) ≡ Err c
          → Err c ≡ verdict_on duplicate today b g
      go true v r h k e = let z : Br17 ≡ c = cc in rw (sym z) (verdict-line1 h)
      go false true r h k e = let z : Br19 ≡ c = cc in rw (sym z) (verdict-line2 h k)
      go false false true h k e = let z : ◌≡◌ {A = ℕ} 0 1 = cc in absurd (omega arith)
      go false false false h k e = let z : ◌≡◌ {A = ℕ} 0 1 = cc in absurd (omega arith)

  pub verdict-line3 : line1 g ≡ false → line2 g ≡ false → duplicate ≡ true → Err Br14 ≡ verdict_on duplicate today b g
  unfolding verdict_on
  verdict-line3 e f d = rw (e, f, d)

  pub verdict-rest : line1 g ≡ false → line2 g ≡ false → duplicate ≡ false
      → verdict_of (notification_of g) today g.header (detail_of g) b ≡ verdict_on duplicate today b g
  unfolding verdict_on verdict_of
  verdict-rest e f d = rw (e, f, d)

  -- a group that fails line 1 is rejected whatever bill it names
  pub by-bill : (c : Option Terms) → (line1 g ≡ false → b ≡ c) → verdict_on duplicate today b g ≡ verdict_on duplicate today c g
  unfolding verdict_on
  by-bill c h = cases (line1 g) (λ e. rw e) (λ e. rw (h e))

-- line 3 counts only for a group that passes lines 1 and 2
pub by-duplicate : (v : View) (g : Group) (t u : Bool) → (passes g ≡ true → t ≡ u) → verdict_by t v g ≡ verdict_by u v g
unfolding verdict_by verdict_on passes
by-duplicate v g t u h = cases (line1 g) (λ e. rw e) (λ e. cases (line2 g) (λ f. rw (e, f)) (λ f. ap (λ (x : Bool). verdict_by x v g) (h (rw (e, f)))))

-- ---- the bill that is found
-- a group that passes line 1 has one detail, and names the identity that is read
pub same_name : (s : List ℕ) (i n : ℕ) → line1 (group_at s i n) ≡ false → identity_at s i n ≡ identity_of (group_at s i n)
unfolding identity_at
same_name s i n h = rw (lt-leb n (i + 1) (one-within s i n h), header_is s i n, only-detail s i n (one-detail s i n h))
