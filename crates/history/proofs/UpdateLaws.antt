-- One bill of a list changed, its identity kept. Assumes nothing.
use mathlib.Core.Path.{◌≡◌, refl, sym, ap, ◌∙◌}
use mathlib.Core.Bool.{Bool, true, false, not, ◌||◌}
use mathlib.Core.List.{List, [], ◌∷◌, ◌++◌, map}
use lib.Dec.{eqb}
use borrow.Author.Tests.{eqb-true, not-true}
use Rattle.fields.proofs.BoolLaws.{and_left, and_right, or-both, cases}
use Rattle.ledger.specs.declared.Bill.{Bill}
use Rattle.ledger.specs.declared.Identity.{Identity}
use Rattle.ledger.specs.declared.Terms.{Terms}
use Rattle.rules.specs.Lists.{has, update}
use Rattle.ledger.specs.Bills.{is_of}
use Rattle.ledger.specs.Books.{of_id, bill_terms}
use Rattle.ledger.specs.Sound.{holds_id, distinct}
use Rattle.group.specs.Groups.{sought_in}
use Rattle.history.specs.Claim.{All}
use Rattle.std.specs.Prelude.{Some}

pub identity-same : (id : Identity) (t : Terms) → is_of id t ≡ true → t.identity ≡ id
identity-same id t e =
    let a = eqb t.identity.account id.account in
    let k = eqb t.identity.key id.key in
    let p = eqb-true _ _ (and_left a k e) in
    let q = eqb-true _ _ (and_right a k e) in
    λ i. record { account = p i; key = q i }

pub has-map : (id : Identity) (bs : List Bill) → has (is_of id) (map bill_terms bs) ≡ holds_id id bs
has-map id [] = refl
has-map id (b ∷ bs) = ap (λ (x : Bool). is_of id b.terms || x) (has-map id bs)

pub map-append : (bs : List Bill) (b : Bill) → map bill_terms (bs ++ (b ∷ [])) ≡ map bill_terms bs ++ (b.terms ∷ [])
map-append [] b = refl
map-append (x ∷ bs) b = ap (λ (ts : List Terms). x.terms ∷ ts) (map-append bs b)

pub all_append : (Q : Bill → Type 0) (bs : List Bill) (b : Bill) → All Q bs → Q b → All Q (bs ++ (b ∷ []))
all_append Q [] b a q = (q, tt)
all_append Q (x ∷ bs) b a q = (a.0, all_append Q bs b a.1 q)

module _ (id : Identity) where
  pub map-update : (f : Bill → Bill) (f' : Terms → Terms) → ((b : Bill) → (f b).terms ≡ f' b.terms) → (bs : List Bill)
      → map bill_terms (update (of_id id) f bs) ≡ update (is_of id) f' (map bill_terms bs)
  map-update f f' k [] = refl
  map-update f f' k (b ∷ bs) =
      cases (is_of id b.terms)
      (λ e. rw (e, k b))
      (λ e. rw e (ap (λ (ts : List Terms). b.terms ∷ ts) (map-update f f' k bs)))

  all_others : (Q Q' : Bill → Type 0) (bs : List Bill) → holds_id id bs ≡ false → ((b : Bill) → of_id id b ≡ false → Q b → Q' b)
      → All Q bs → All Q' bs
  all_others Q Q' [] n o a = tt
  all_others Q Q' (b ∷ bs) n o a =
      let p = or-both (is_of id b.terms) (holds_id id bs) n in
      (o b p.0 a.0, all_others Q Q' bs p.1 o a.1)

  -- what holds of each bill, where the bill that is sought changes and the others stay
  pub all-update : (Q Q' : Bill → Type 0) (f : Bill → Bill) (bs : List Bill) → distinct bs ≡ true
      → ((b : Bill) → of_id id b ≡ true → sought_in id (map bill_terms bs) ≡ Some b.terms → Q b → Q' (f b))
      → ((b : Bill) → of_id id b ≡ false → Q b → Q' b)
      → All Q bs → All Q' (update (of_id id) f bs)
  unfolding distinct
  all-update Q Q' f [] d k o a = tt
  all-update Q Q' f (b ∷ bs) d k o a =
      let h = holds_id b.terms.identity bs in
      let n : h ≡ false = not-true h (and_left (not h) (distinct bs) d) in
      cases (is_of id b.terms)
      (λ e.
      let m : holds_id id bs ≡ false = ap (λ (i : Identity). holds_id i bs) (sym (identity-same id b.terms e)) ∙ n in
      rw e (k b e (rw e) a.0, all_others Q Q' bs m o a.1))
      (λ e. rw e (o b e a.0, all-update Q Q' f bs (and_right (not h) (distinct bs) d) (λ c u s. k c u (rw e s)) o a.1))
