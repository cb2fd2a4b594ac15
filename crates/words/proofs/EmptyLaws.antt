-- The words of a ledger with no bills, written place by place. Assumes nothing.
use Prim.Native.Nat.{ℕ, zero, suc, ◌+◌, ◌*◌, ◌≤◌, ◌<◌}
use mathlib.Core.Path.{◌≡◌, refl, sym, ap, ◌∙◌}
use mathlib.Core.Bool.{true}
use mathlib.Core.List.{List}
use native.Mathlib.Omega.{arith}
use lib.ListN.{length, get_or, replicate, length-replicate, get_or-replicate}
use Rattle.fields.specs.Put.{put}
use Rattle.ledger.specs.declared.Bill.{Bill}
use Rattle.ledger.specs.declared.Ledger.{Ledger}
use Rattle.rules.specs.Lists.{every}
use Rattle.ledger.specs.Bills.{blank_bill}
use Rattle.words.specs.Layout.{place_size, ledger_size, bill_said, bill_words, ledger_words, holds_ledger, ledger_of}
use Rattle.words.proofs.WordLaws.{holds-words, ledger-words}
use Rattle.words.proofs.WordPlaceLaws.{written, written-more, written_all}

blank-said : (n : ℕ) → every bill_said (replicate n blank_bill) ≡ true
blank-said zero = refl
blank-said (suc n) = blank-said n

module _ (l : Ledger) (e : l.bills ≡ replicate 128 blank_bill) where
  long : length l.bills ≡ 128
  long = ap length e ∙ length-replicate 128 blank_bill

  -- one place more
  pub blank-more : (ws us vs : List ℕ) (i : ℕ) (b : Bill) → i < 128 → b ≡ blank_bill → us ≡ written l i ws → vs ≡ put us (4 + place_size * i) (bill_words b)
      → vs ≡ written l (i + 1) ws
  blank-more ws us vs i b h k p q =
      let d : b ≡ get_or l.bills i blank_bill =
      k ∙ sym (ap (λ (bs : List Bill). get_or bs i blank_bill) e ∙ get_or-replicate 128 i blank_bill blank_bill h) in
      written-more l ws i blank_bill us vs (omega (arith, long)) p (q ∙ ap (λ (x : Bill). put us (4 + place_size * i) (bill_words x)) d)

  -- all of them
  pub blank-all : (ws us : List ℕ) (i : ℕ) → length ws ≡ ledger_size → 128 ≤ i → us ≡ written l i ws → (us ≡ ledger_words l) × (ledger_of us ≡ l)
  blank-all ws us i k h p =
      let w : us ≡ ledger_words l = p ∙ written_all l ws i (omega (arith, long)) (omega arith) in
      (w, ap ledger_of w ∙ ledger-words l long (ap (every bill_said) e ∙ blank-said 128))

  -- and they hold a ledger
  pub blank-holds : (us : List ℕ) → us ≡ ledger_words l → holds_ledger us ≡ true
  blank-holds us w = ap holds_ledger w ∙ holds-words l long (ap (every bill_said) e ∙ blank-said 128)
