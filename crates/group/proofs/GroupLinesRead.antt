-- What lines 1 to 10 read of a group: two groups that agree there have one verdict, and do one thing. Assumes nothing.
use Prim.Native.Nat.{ℕ, ◌+◌, ◌≤◌}
use mathlib.Core.Path.{◌≡◌, refl, sym, ap, ◌∙◌}
use mathlib.Core.Bool.{Bool, true}
use mathlib.Core.List.{List, [], ◌∷◌, ◌++◌}
use native.Mathlib.Omega.{arith}
use lib.ListN.{length}
use Rattle.fields.specs.Put.{part, positions, same_list}
use Rattle.fields.proofs.BoolLaws.{cases}
use Rattle.fields.proofs.PutLaws.{part-part}
use Rattle.units.specs.declared.Date.{Date}
use Rattle.ledger.specs.declared.Identity.{Identity}
use Rattle.ledger.specs.Books.{Book, View, view}
use Rattle.records.specs.Layout.{company_in, account_in, tracking_in, notice_in, record_count_in, key_in, is_rsp}
use Rattle.file.specs.File.{Group, detail_of, asks_id, unfit, line1, line2, passes, alike, line3}
use Rattle.records.specs.Tiers.{tier_consumptions, tier_charges}
use Rattle.verdict.specs.Lines.{verdict_of}
use Rattle.verdict.proofs.LinesRead.{Agree, reads-rsp, reads-sup}
use Rattle.group.specs.Groups.{identity_of, notification_of, sought, sought_in, verdict_on, verdict_by, verdict, settled, verdict_here, taken, verdicts}
use Rattle.group.specs.Reads.{SameHeader, SameDetail, SameGroup, Pairwise, NoLineReads}
use Rattle.group.proofs.DecideLaws.{verdict-line1, verdict-line2, verdict-line3, verdict-rest}
use Rattle.std.specs.Prelude.{Option, Result, Ok, Err}
use Rattle.ledger.specs.declared.Terms.{Terms}
use Rattle.ledger.specs.declared.Posted.{Posted}
use Rattle.rules.specs.declared.ErrorCode.{ErrorCode}

-- the groups agree on what is read; a SUP's Tracking ID "is read by line 1 only", which asks whether it differs from the detail's
pub record SameRead (g g' : Group) : Type 0 where
  pub details : length g.details ≡ length g'.details
  pub count : record_count_in g.header ≡ record_count_in g'.header
  pub company : company_in g.header ≡ company_in g'.header
  pub starts : same_list (positions g.header 1 28) (positions (detail_of g) 1 28) ≡ same_list (positions g'.header 1 28) (positions (detail_of g') 1 28)
  pub codes : same_list (positions g.header 31 33) (positions (detail_of g) 31 33) ≡ same_list (positions g'.header 31 33) (positions (detail_of g') 31 33)
  pub account : account_in g.header ≡ account_in g'.header
  pub key : key_in (detail_of g) ≡ key_in (detail_of g')
  pub notice : notice_in g.header ≡ notice_in g'.header
  pub tracking : is_rsp g.header ≡ true → tracking_in g.header ≡ tracking_in g'.header
  pub rest : Agree g.header g'.header (detail_of g) (detail_of g')

-- ---- lines 1 to 3
module _ (g g' : Group) (a : SameRead g g') where
  same-line1 : line1 g ≡ line1 g'
  unfolding line1 unfit
  same-line1 = rw (a.details, a.count, a.company, a.starts, a.codes, a.account, a.key)

  same-line2 : line2 g ≡ line2 g'
  unfolding line2
  same-line2 = rw a.notice

  same-passes : passes g ≡ passes g'
  unfolding passes
  same-passes = rw (same-line1, same-line2)

  same-rsp : is_rsp g.header ≡ is_rsp g'.header
  same-rsp = rw a.notice

  same-sup : asks_id g ≡ asks_id g'
  same-sup = rw a.notice

  same-identity : identity_of g ≡ identity_of g'
  same-identity = rw (a.account, a.key)

same_alike : (g g' o o' : Group) → SameRead g g' → SameRead o o' → alike g o ≡ alike g' o'
unfolding alike
same_alike g g' o o' a b = rw (same-passes o o' b, a.notice, b.notice, a.account, b.account, a.key, b.key)

same-line3 : (os os' : List Group) (g g' : Group) → SameRead g g' → Pairwise SameRead os os' → line3 os g ≡ line3 os' g'
unfolding line3
same-line3 [] [] g g' a p = refl
same-line3 [] (o ∷ os) g g' a p = absurd p
same-line3 (o ∷ os) [] g g' a p = absurd p
same-line3 (o ∷ os) (o' ∷ os') g g' a p = rw (same_alike g g' o o' a p.0, same-line3 os os' g g' a p.1)

-- ---- the verdict
module _ (t : Bool) (today : Date) (b : Option Terms) (g g' : Group) (a : SameRead g g') where
  same_rest : verdict_of (notification_of g) today g.header (detail_of g) b ≡ verdict_of (notification_of g') today g'.header (detail_of g') b
  same_rest =
      cases (is_rsp g.header)
      (λ r. rw (← same-rsp g g' a, r) (reads-rsp today b g.header g'.header (detail_of g) (detail_of g') a.rest (a.tracking r)))
      (λ r. rw (← same-rsp g g' a, r) (reads-sup today b g.header g'.header (detail_of g) (detail_of g') a.rest))

  same-verdict : verdict_on t today b g ≡ verdict_on t today b g'
  same-verdict =
      let to1 = sym (same-line1 g g' a) in
      let to2 = sym (same-line2 g g' a) in
      cases (line1 g) (λ e. sym (verdict-line1 t today b g e) ∙ verdict-line1 t today b g' (to1 ∙ e))
      (λ e. cases (line2 g) (λ f. sym (verdict-line2 t today b g e f) ∙ verdict-line2 t today b g' (to1 ∙ e) (to2 ∙ f))
      (λ f. cases t (λ d. sym (verdict-line3 t today b g e f d) ∙ verdict-line3 t today b g' (to1 ∙ e) (to2 ∙ f) d)
      (λ d. sym (verdict-rest t today b g e f d) ∙ same_rest ∙ verdict-rest t today b g' (to1 ∙ e) (to2 ∙ f) d)))

-- two groups that agree on what is read, each among other groups that agree so, have one verdict
pub reads : (v : View) (os os' : List Group) (g g' : Group) → SameRead g g' → Pairwise SameRead os os' → verdict v os g ≡ verdict v os' g'
unfolding verdict_by
reads v os os' g g' a p =
    ap (λ (t : Bool). verdict_by t v g) (same-line3 os os' g g' a p)
    ∙ ap (λ (id : Identity). verdict_on (line3 os' g') v.today (sought_in id v.bills) g) (same-identity g g' a)
    ∙ same-verdict (line3 os' g') v.today (sought v g') g g' a

-- ---- the groups of a file
same-settled : (l : Book) (g g' : Group) (v : Result Posted ErrorCode) → SameRead g g' → settled l g v ≡ settled l g' v
unfolding settled
same-settled l g g' (Ok amounts) a = rw (same-sup g g' a, same-identity g g' a)
same-settled l g g' (Err n) a = refl

both : (P : Group → Group → Type 0) (xs xs' ys ys' : List Group) → Pairwise P xs xs' → Pairwise P ys ys' → Pairwise P (xs ++ ys) (xs' ++ ys')
both P [] [] ys ys' p q = q
both P [] (x ∷ xs) ys ys' p q = absurd p
both P (x ∷ xs) [] ys ys' p q = absurd p
both P (x ∷ xs) (x' ∷ xs') ys ys' p q = (p.0, both P xs xs' ys ys' p.1 q)

pub reads_all : (l : Book) (before before' gs gs' : List Group) → Pairwise SameRead before before' → Pairwise SameRead gs gs'
    → (verdicts before l gs ≡ verdicts before' l gs') × (taken before l gs ≡ taken before' l gs')
unfolding verdicts taken
reads_all l before before' [] [] p q = (refl, refl)
reads_all l before before' [] (g ∷ gs) p q = absurd q
reads_all l before before' (g ∷ gs) [] p q = absurd q
reads_all l before before' (g ∷ gs) (g' ∷ gs') p q =
    let a = q.0 in
    let v = reads (view l) (before ++ gs) (before' ++ gs') g g' a (both SameRead before before' gs gs' p q.1) in
    let k = same-settled l g g' (verdict_here before l g gs) a ∙ ap (settled l g') v in
    let here = both SameRead before before' (g ∷ []) (g' ∷ []) p (a, tt) in
    let more = reads_all (settled l g (verdict_here before l g gs)) (before ++ (g ∷ [])) (before' ++ (g' ∷ [])) gs gs' here q.1 in
    let rest = settled l g' (verdict_here before' l g' gs') in (
      ap (λ (vs : List (Result Posted ErrorCode)). verdict_here before l g gs ∷ vs) (more.0 ∙ ap (λ (m : Book). verdicts (before' ++ (g' ∷ [])) m gs') k)
          ∙ ap (λ (x : Result Posted ErrorCode). x ∷ verdicts (before' ++ (g' ∷ [])) rest gs') v,
      more.1 ∙ ap (λ (m : Book). taken (before' ++ (g' ∷ [])) m gs') k,
    )

-- ---- by position
-- a part of two parts that agree
sub : (x y : List ℕ) (a m b k : ℕ) → b + k ≤ m → part x a m ≡ part y a m → part x (a + b) k ≡ part y (a + b) k
sub x y a m b k h e = sym (part-part x a m b k h) ∙ ap (λ (z : List ℕ). part z b k) e ∙ part-part y a m b k h

module _ (h h' : List ℕ) (s : SameHeader h h') where
  start : (b k : ℕ) → b + k ≤ 33 → part h (0 + b) k ≡ part h' (0 + b) k
  start b k w = sub h h' 0 33 b k w s.start

  counted : (b k : ℕ) → b + k ≤ 15 → part h (58 + b) k ≡ part h' (58 + b) k
  counted b k w = sub h h' 58 15 b k w s.count

module _ (d d' : List ℕ) (s : SameDetail d d') where
  lead : (b k : ℕ) → b + k ≤ 33 → part d (0 + b) k ≡ part d' (0 + b) k
  lead b k w = sub d d' 0 33 b k w s.start

  charged : (b k : ℕ) → b + k ≤ 26 → part d (53 + b) k ≡ part d' (53 + b) k
  charged b k w = sub d d' 53 26 b k w s.charge

  tier : (b k : ℕ) → b + k ≤ 120 → part d (87 + b) k ≡ part d' (87 + b) k
  tier b k w = sub d d' 87 120 b k w s.tiers

  amount : (b k : ℕ) → b + k ≤ 26 → part d (233 + b) k ≡ part d' (233 + b) k
  amount b k w = sub d d' 233 26 b k w s.amounts

  same-consumptions : tier_consumptions d ≡ tier_consumptions d'
  unfolding tier_consumptions
  same-consumptions = rw (tier 7 10 (omega arith), tier 37 10 (omega arith), tier 67 10 (omega arith), tier 97 10 (omega arith))

  same-charges : tier_charges d ≡ tier_charges d'
  unfolding tier_charges
  same-charges = rw (tier 17 13 (omega arith), tier 47 13 (omega arith), tier 77 13 (omega arith), tier 107 13 (omega arith))

same-fields : (h h' d d' : List ℕ) → SameHeader h h' → SameDetail d d' → Agree h h' d d'
same-fields h h' d d' s t =
    record {
      code = start h h' s 2 5 (omega arith);
      balance = counted h h' s 2 13 (omega arith);
      sequence = charged d d' t 0 3 (omega arith);
      consumption = charged d d' t 3 10 (omega arith);
      charge = charged d d' t 13 13 (omega arith);
      rate = tier d d' t 0 7 (omega arith);
      consumptions = same-consumptions d d' t;
      charges = same-charges d d' t;
      applied = amount d d' t 0 13 (omega arith);
      owed = amount d d' t 13 13 (omega arith);
    }

same_read : (g g' : Group) → SameGroup g g' → SameRead g g'
same_read g g' s =
    let from = start g.header g'.header s.header in
    let in-detail = lead (detail_of g) (detail_of g') s.detail in
    record {
      details = s.details;
      count = counted g.header g'.header s.header 0 2 (omega arith);
      company = from 0 2 (omega arith);
      starts = rw (from 0 28 (omega arith), in-detail 0 28 (omega arith));
      codes = rw (from 30 3 (omega arith), in-detail 30 3 (omega arith));
      account = from 7 12 (omega arith);
      key = s.detail.key;
      notice = from 30 3 (omega arith);
      tracking = λ r. from 19 9 (omega arith);
      rest = same-fields g.header g'.header (detail_of g) (detail_of g') s.header s.detail;
    }

each_same : (gs gs' : List Group) → Pairwise SameGroup gs gs' → Pairwise SameRead gs gs'
each_same [] [] p = tt
each_same [] (g ∷ gs) p = absurd p
each_same (g ∷ gs) [] p = absurd p
each_same (g ∷ gs) (g' ∷ gs') p = (same_read g g' p.0, each_same gs gs' p.1)

pub no-line-reads : NoLineReads
no-line-reads l gs gs' p = reads_all l [] [] gs gs' tt (each_same gs gs' p)
