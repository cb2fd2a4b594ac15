-- `engine::call::closed_by` meets its contract: what the bills add one by one is how many a close closes.
use Rattle.std.proofs.Common.{rules, tests, arith, ℕ, ◌≡◌, ◌≤◌, ◌+◌, List, length, take, sym, ap, ◌∙◌, get_or}
use Rattle.std.proofs.lemmas.Iterator.{YieldsList-from_range, YieldsList-from_map}
use Rattle.std.proofs.lemmas.Iterator.Consumers.{sum_by_from_yields_List, fits_by_from_yields_list}
use Rattle.std.proofs.lemmas.List.{length-take-le, get_or-take}
use Rattle.std.proofs.lemmas.List.FromFn.{fill_by_all}
use Rattle.std.proofs.lemmas.List.Folds.{fold-map}
use Rattle.std.specs.List.{range_with_len, sum_by}
use Rattle.ledger.specs.declared.Bill.{Bill}
use Rattle.ledger.specs.Bills.{blank_bill}
use Rattle.causes.specs.Requests.{closes}
use Rattle.calls.proofs.FreshCloseLaws.{one, one-by-one, count-few}
use Rattle.engine.proofs.call.closed_by.Goals as goal

-- what the first n bills add, by their places
by-place : (f : Bill → ℕ) (bs : List Bill) (n : ℕ) → n ≤ length bs
    → sum_by (λ (i : ℕ). f (get_or bs i blank_bill)) (range_with_len 0 n) ≡ sum_by f (take n bs)
by-place f bs n h =
    let at = λ (i : ℕ). get_or bs i blank_bill in
    sym (fold-map (λ (a : ℕ) (b : Bill). a + f b) at 0 (range_with_len 0 n))
    ∙ ap (sum_by f) (sym (fill_by_all at (take n bs) n blank_bill (length-take-le n bs h) (λ k q. get_or-take n bs k blank_bill q)))

pub sum-requires-clause-fits : goal.sum-requires-clause-fits
sum-requires-clause-fits g c =
    let a = c.args in
    let p = closes a.old a.new in
    let bs = (g.T.Holder.held a.lent.now).bills in
    let h : a.n ≤ length bs = omega (arith, c.requires.1, g.met.T.Holder.places _ c.requires.0) in
    fits_by_from_yields_list (λ (i : ℕ). one p (get_or bs i blank_bill)) (range_with_len 0 a.n) c.map.result _
    (YieldsList-from_map _ _ (YieldsList-from_range 0 a.n a.n (cc) (omega arith)) c.map.ensures.closure (λ x r q k. search (rules, tests)))
    (omega (arith, by-place (one p) bs a.n h, one-by-one p (take a.n bs), count-few p (take a.n bs), length-take-le a.n bs h, c.requires.1))

pub returns : goal.returns
returns g c =
    let a = c.args in
    let p = closes a.old a.new in
    let bs = (g.T.Holder.held a.lent.now).bills in
    sum_by_from_yields_List (λ (i : ℕ). one p (get_or bs i blank_bill)) (range_with_len 0 a.n) c.map.result _ c.sum.ensures.ran
    (YieldsList-from_map _ _ (YieldsList-from_range 0 a.n a.n (cc) (omega arith)) c.map.ensures.closure (λ x r q k. search (rules, tests)))
    ∙ by-place (one p) bs a.n (omega (arith, c.requires.1, g.met.T.Holder.places _ c.requires.0))
    ∙ one-by-one p (take a.n bs)
