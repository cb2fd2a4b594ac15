-- What paper 3 of document 02 claims holds. Assumes nothing.
use Prim.Native.Nat.{ℕ, ◌<◌}
use mathlib.Core.Path.{◌≡◌, refl, sym, ap, ◌∙◌}
use mathlib.Core.Bool.{Bool, true, false, true≢false}
use native.Mathlib.Omega.{arith}
use native.Mathlib.Decide.{dec_le}
use lib.ListN.{length}
use Rattle.fields.specs.Digits.{fits}
use Rattle.fields.proofs.BoolLaws.{cases}
use Rattle.rules.specs.Lists.{has, find}
use Rattle.rules.proofs.ListLaws.{has-none, has_some}
use Rattle.ledger.specs.declared.Ledger.{Ledger}
use Rattle.ledger.specs.Bills.{blank_bill}
use Rattle.ledger.specs.Books.{live}
use Rattle.ledger.specs.Sound.{sound_ledger}
use Rattle.lookups.specs.Lookups.{is_open_of, is_earliest, open_causes, place_by, open_in}
use Rattle.lookups.proofs.EarliestLaws.{Leads, leads-found, found-leads, none_found}
use Rattle.statements.specs.Papers.{open_at, due_at, DueFirstAt, Paper3}
use Rattle.statements.proofs.KeptPlaces.{places-kept}
use Rattle.std.specs.Prelude.{Option, Some, None, Result, Ok, Err}
use Rattle.rules.specs.declared.Cause.{Cause}
use Rattle.rules.specs.declared.Cause.TheVariants.{BadArgument, NoSuchBill}

module _ (l : Ledger) (account : ℕ) where
  abbrev found : Option ℕ
  found = find (is_earliest account l.today (live l)) 0 (live l)

  abbrev some : Bool
  some = has (is_open_of account l.today) (live l)

  -- ---- the cases of the answer
  pub unsound : sound_ledger l ≡ false → open_in l account ≡ Err BadArgument
  unfolding open_in open_causes
  unsound e = rw e

  pub wide : fits 12 account ≡ false → open_in l account ≡ Err BadArgument
  unfolding open_in open_causes
  wide e = cases (sound_ledger l) (λ s. rw (s, e)) unsound

  module _ (s : sound_ledger l ≡ true) (w : fits 12 account ≡ true) where
    nothing : some ≡ false → open_in l account ≡ Err NoSuchBill
    unfolding open_in open_causes
    nothing e = rw (s, w, e)

    something : some ≡ true → open_in l account ≡ place_by (Ok tt) found
    unfolding open_in open_causes
    something e = rw (s, w, e)

    pub none : ((q : ℕ) → q < length (live l) → open_at l account q ≡ false) → open_in l account ≡ Err NoSuchBill
    none f = nothing (has-none (is_open_of account l.today) blank_bill (live l) f)

    pub only : (p : ℕ) → DueFirstAt l account p → open_in l account ≡ Ok p
    only p d =
        let leads : Leads account l.today (live l) (length (live l)) p =
        record {
          below = d.held;
          passes = d.opens;
          earliest = d.earliest;
          before = λ q h o.
              let a = d.earliest q (omega (arith, d.held)) o in
              elim (dec_le (due_at l q) (due_at l p)) [
                | yes k ↦ (let b = d.equals q (omega (arith, d.held)) o (omega arith) in absurd (omega arith))
                | no k ↦ omega arith
              ];
        } in
        something (has_some (is_open_of account l.today) blank_bill (live l) p d.held d.opens)
        ∙ ap (place_by (Ok tt)) (leads-found account l.today (live l) p leads)

  -- ---- what an answer tells
  -- an answer that is not 2 is that of a sound ledger and an account in its width
  module _ (a : Result ℕ Cause) (e : open_in l account ≡ a) (other : Err BadArgument ≡ a → ⊥) where
    sound : sound_ledger l ≡ true
    sound = cases (sound_ledger l) (λ s. s) (λ s. absurd (other (sym (unsound s) ∙ e)))

    narrow : fits 12 account ≡ true
    narrow = cases (fits 12 account) (λ w. w) (λ w. absurd (other (sym (wide w) ∙ e)))

    by-some : some ≡ true → place_by (Ok tt) found ≡ a
    by-some t = sym (something sound narrow t) ∙ e

    by-none : some ≡ false → Err NoSuchBill ≡ a
    by-none t = sym (nothing sound narrow t) ∙ e

  pub four : (q : ℕ) → open_in l account ≡ Err NoSuchBill → q < length (live l) → open_at l account q ≡ false
  four q e h =
      cases some (λ t. closed (none_found account l.today (live l) (refused found (by-some (Err NoSuchBill) e two t)))) closed
    where
      two : ◌≡◌ {A = Result ℕ Cause} (Err BadArgument) (Err NoSuchBill) → ⊥
      two t = let z : ◌≡◌ {A = ℕ} 0 1 = cc in omega arith

      refused : (f : Option ℕ) → place_by (Ok tt) f ≡ Err NoSuchBill → f ≡ None
      refused (Some p) t = let z : ◌≡◌ {A = ℕ} 0 1 = cc in absurd (omega arith)
      refused None t = refl

      closed : some ≡ false → open_at l account q ≡ false
      closed n =
          cases (open_at l account q)
          (λ t. absurd (true≢false (sym (has_some (is_open_of account l.today) blank_bill (live l) q h t) ∙ n))) (λ t. t)

  pub such : (p : ℕ) → open_in l account ≡ Ok p → DueFirstAt l account p
  such p e = cases some (λ t. leading (found-leads account l.today (live l) p (named found (by-some (Ok p) e two t)))) (λ t. absurd (four-at (by-none (Ok p) e two t)))
    where
      two : Err BadArgument ≡ Ok p → ⊥
      two t = let z : ◌≡◌ {A = ℕ} 0 1 = cc in omega arith

      four-at : Err NoSuchBill ≡ Ok p → ⊥
      four-at t = let z : ◌≡◌ {A = ℕ} 0 1 = cc in omega arith

      named : (f : Option ℕ) → place_by (Ok tt) f ≡ Ok p → f ≡ Some p
      named (Some q) t = let z : q ≡ p = cc in ap Some z
      named None t = let z : ◌≡◌ {A = ℕ} 0 1 = cc in absurd (omega arith)

      leading : Leads account l.today (live l) (length (live l)) p → DueFirstAt l account p
      leading d =
          record {
            held = d.below;
            opens = d.passes;
            earliest = d.earliest;
            equals = λ q h o t.
                elim (dec_le p q) [
                  | yes k ↦ k
                  | no k ↦ (let b = d.before q (omega arith) o in absurd (omega arith))
                ];
          }

pub paper-3 : Paper3
paper-3 =
    record {
      such = such;
      only = λ l account p s w. only l account s w p;
      none = none;
      four = four;
      unsound = unsound;
      wide = wide;
      kept = places-kept;
    }
