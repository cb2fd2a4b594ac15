-- The tests of a ledger in words, joined: they are those of a sound ledger. Assumes nothing.
use Prim.Native.Nat.{ℕ, ◌≤◌}
use mathlib.Core.Path.{◌≡◌, sym, ap, ap₂, ◌∙◌}
use mathlib.Core.Bool.{Bool, true, false, ◌&&◌}
use lib.Dec.{leb}
use lib.ListN.{take}
use borrow.Author.Tests.{leb-true}
use Rattle.fields.proofs.BoolLaws.{and_right}
use Rattle.units.specs.Calendar.{is_date}
use Rattle.ledger.specs.declared.LedgerHeader.{LedgerHeader}
use Rattle.rules.specs.Lists.{every}
use Rattle.ledger.specs.Books.{live}
use Rattle.ledger.specs.parts.Places.{header_of}
use Rattle.ledger.specs.Sound.{is_next, sound_bill, distinct, sound_ledger}
use Rattle.ledger.proofs.SoundLaws.{walked, split}
use Rattle.ledger.specs.declared.Ledger.{Ledger}
use Rattle.ledger.specs.Limits.{ledger_places}
use lib.ListN.{length}

-- the test of a header
abbrev pub header_test : LedgerHeader → Bool
header_test h = is_date h.today.0 && is_next h.tracking && is_next h.confirmation && leb h.count ledger_places

module _ (l : Ledger) (k : length l.bills ≡ ledger_places) (h : LedgerHeader) (e : h ≡ header_of l) (g : Bool) (f : g ≡ header_test h) where
  by-header : sound_ledger l ≡ (g && walked (live l))
  by-header = split l k ∙ ap (λ (b : Bool). b && walked (live l)) (sym (f ∙ ap header_test e))

  -- a header that fails
  pub bad-header : g ≡ false → false ≡ sound_ledger l
  bad-header n = sym (by-header ∙ ap (λ (b : Bool). b && walked (live l)) n)

  -- one that passes: its count is in range, and the bills decide
  pub header-count : g ≡ true → h.count ≤ ledger_places
  header-count y = leb-true _ _ (and_right (is_date h.today.0 && is_next h.tracking && is_next h.confirmation) _ (sym f ∙ y))

  pub good-header : g ≡ true → (b d : Bool) → b ≡ every sound_bill (take h.count l.bills)
      → d ≡ distinct (take h.count l.bills) → (b && d) ≡ sound_ledger l
  unfolding walked
  good-header y b d p q =
      ap₂ (λ (x z : Bool). x && z) p q
      ∙ ap (λ (n : ℕ). every sound_bill (take n l.bills) && distinct (take n l.bills)) (ap (λ (t : LedgerHeader). t.count) e)
      ∙ sym (by-header ∙ ap (λ (x : Bool). x && walked (live l)) y)
