-- A call that is carried out leaves a sound ledger sound. Assumes nothing.
use Prim.Native.Nat.{ℕ, ◌+◌, ◌≤◌}
use mathlib.Core.Path.{◌≡◌, refl, sym, ap, ap₂, ◌∙◌}
use mathlib.Core.Bool.{Bool, true, false, not, ◌&&◌, ◌||◌}
use mathlib.Core.List.{List, [], ◌∷◌, ◌++◌, map}
use lib.Dec.{eqb, leb}
use lib.ListN.{length, length-append, length-map}
use native.Mathlib.Omega.{arith}
use borrow.Author.Rules.{rules}
use borrow.Author.Tests.{leb-true, ltb-true, eqb-true, eqb-false, eq-eqb, ne_eqb, not-true}
use Rattle.fields.specs.Digits.{fits}
use Rattle.fields.proofs.BoolLaws.{and_left, and_right, or-both, cases}
use Rattle.units.specs.declared.Date.{Date}
use Rattle.units.specs.Calendar.{is_date}
use Rattle.ledger.specs.declared.Identity.{Identity}
use Rattle.ledger.specs.declared.Terms.{Terms}
use Rattle.ledger.specs.declared.Bill as bill
use Rattle.ledger.specs.declared.Posted.{Posted}
use Rattle.ledger.specs.declared.Posted.TheVariants as posted
use Rattle.rules.specs.Lists.{all, every}
use Rattle.ledger.specs.Bills.{is_of, is_rate_code, code_bytes, renewed, cancelled_bill, removed_terms}
use Rattle.ledger.specs.Books.{Book, view, bill_terms, of_id, of_account, removed_of}
use Rattle.ledger.specs.Sound.{sound_terms, sound_amounts, sound_bill, holds_id, distinct}
use Rattle.rules.proofs.ListLaws.{all-on, every_append}
use Rattle.ledger.proofs.SoundLaws.{TermsFacts, moved_facts, BookFacts, book-facts, facts-sound, terms-facts, facts-terms, bill-terms}
use Rattle.file.specs.File.{file_groups}
use Rattle.file.proofs.WalkLaws.{has-append}
use Rattle.rules.specs.Rules.{first}
use Rattle.group.specs.Groups.{sought_in}
use Rattle.group.proofs.GroupWalk.{length-update}
use Rattle.calls.proofs.FileSound.{bills-kept, distinct-kept, next_up, file-sound}
use Rattle.causes.specs.declared.CodeField.{CodeField}
use Rattle.causes.specs.declared.Request.{Request}
use Rattle.causes.specs.Causes.{five_of, Call, request, calendar, file, cancel, close, removal, request_tests, causes, worked_out}
use Rattle.calls.proofs.CalendarCalls.{clear-dated}
use Rattle.causes.specs.Requests.{code_of, latest_of, new_bill}
use Rattle.calls.specs.Machine.{numbered, next}
use Rattle.causes.proofs.CodeLaws.{good-five}
use Rattle.causes.proofs.CauseLaws.{asks, sends, cancels, closes-on, removes}
use Rattle.std.specs.Prelude.{None, Ok}

-- ---- a bill
-- what soundness asks of the amounts reads the mark and the product alone
amounts-same : (t u : Terms) (p : Posted) → t.cancelled ≡ u.cancelled → t.product ≡ u.product → sound_amounts t p ≡ sound_amounts u p
unfolding sound_amounts
amounts-same t u posted.None c e = refl
amounts-same t u (posted.BillReady charge) c e = rw (c, e)
amounts-same t u (posted.Prepay charge applied owed) c e = rw (c, e)

-- the bytes of the code that five good bytes hold are good
code-kept : (x : CodeField) → is_rate_code (five_of x) ≡ true → is_rate_code (code_bytes (code_of x)) ≡ true
code-kept x h = and_left (is_rate_code (code_bytes (code_of x))) (eqb x.third 67) (good-five x ∙ h)

-- ---- a request
module _ (l : Book) (r : Request) (f : BookFacts l) (g : all (request_tests r) ≡ true) (small : l.tracking + 1 ≤ 1000000000) where
  new-terms : sound_terms (new_bill r l.tracking).terms ≡ true
  unfolding request_tests
  new-terms =
      let o = all-on (request_tests r) g in
      let id = r.identity in
      facts-terms _ (record {
        account = ltb-true _ _ (and_left (fits 12 id.account) (fits 4 id.key) o.1.0);
        key = ltb-true _ _ (and_right (fits 12 id.account) (fits 4 id.key) o.1.0);
        code = code-kept r.code o.0;
        asked = omega arith;
        requests = omega arith;
        sequence = omega arith;
        from_one = leb-true _ _ (and_left (leb 1 l.tracking) (leb l.tracking 1000000000) f.tracking);
        tracking = omega (arith, small);
        consumption = ltb-true _ _ o.1.1.1.1.1.0;
        billing = o.1.1.1.0;
        from = o.1.1.1.1.0;
        scheduled = o.1.1.1.1.1.1.0;
        removal = refl;
      })

  renewed-sound : (b : bill.Bill) → (b.terms.sequence ≡ 999 → ⊥) → sound_bill b ≡ true → sound_bill (renewed (latest_of r l.tracking) b) ≡ true
  unfolding sound_bill
  renewed-sound b n h =
      let t = terms-facts b.terms (bill-terms b h) in
      let s = facts-terms (renewed (latest_of r l.tracking) b).terms
      (moved_facts b.terms (new_bill r l.tracking).terms _ _ _ t (terms-facts _ new-terms)
      (omega arith) (omega (arith, t.requests)) (omega (arith, t.sequence, n))) in
      rw s (amounts-same (renewed (latest_of r l.tracking) b).terms b.terms b.posted refl refl ∙ and_right (sound_terms b.terms) (sound_amounts b.terms b.posted) h)

  new-sound : sound_bill (new_bill r l.tracking) ≡ true
  unfolding sound_bill sound_amounts
  new-sound = rw new-terms

cancelled-sound : (b : bill.Bill) → sound_bill b ≡ true → sound_bill (cancelled_bill b) ≡ true
unfolding sound_bill sound_amounts
cancelled-sound b h =
    let t = terms-facts b.terms (bill-terms b h) in
    let s = facts-terms (cancelled_bill b).terms (moved_facts b.terms b.terms _ _ _ t t t.asked t.requests t.sequence) in
    rw s

-- ---- a removal
removed-terms : (t : Terms) (date : Date) → TermsFacts t → is_date date.0 ≡ true → TermsFacts (removed_terms date t)
removed-terms t date f h = search rules

removed-sound : (account : ℕ) (date : Date) → is_date date.0 ≡ true → (b : bill.Bill) → sound_bill b ≡ true → sound_bill (removed_of account date b) ≡ true
unfolding sound_bill
removed-sound account date h b s =
    let t = facts-terms (removed_terms date b.terms) (removed-terms b.terms date (terms-facts b.terms (bill-terms b s)) h) in
    cases (of_account account b)
    (λ e. rw (e, t) (amounts-same (removed_terms date b.terms) b.terms b.posted refl refl ∙ and_right (sound_terms b.terms) (sound_amounts b.terms b.posted) s))
    (λ e. rw e s)

-- a bill keeps its identity
removed-id : (account : ℕ) (date : Date) (b : bill.Bill) → (removed_of account date b).terms.identity ≡ b.terms.identity
removed-id account date b = cases (of_account account b) (λ e. rw e) (λ e. rw e)

pub removed-holds : (account : ℕ) (date : Date) (id : Identity) (bs : List bill.Bill) → holds_id id (map (removed_of account date) bs) ≡ holds_id id bs
removed-holds account date id [] = refl
removed-holds account date id (b ∷ bs) =
    ap₂ (λ (x : Identity) (y : Bool). (eqb x.account id.account && eqb x.key id.key) || y) (removed-id account date b)
    (removed-holds account date id bs)

removed-distinct : (account : ℕ) (date : Date) (bs : List bill.Bill) → distinct (map (removed_of account date) bs) ≡ distinct bs
unfolding distinct
removed-distinct account date [] = refl
removed-distinct account date (b ∷ bs) =
    ap₂ (λ (x y : Bool). not x && y)
    (ap (λ (id : Identity). holds_id id (map (removed_of account date) bs)) (removed-id account date b) ∙ removed-holds account date b.terms.identity bs)
    (removed-distinct account date bs)

every_removed : (account : ℕ) (date : Date) → is_date date.0 ≡ true → (bs : List bill.Bill) → every sound_bill bs ≡ true
    → every sound_bill (map (removed_of account date) bs) ≡ true
every_removed account date h [] s = refl
every_removed account date h (b ∷ bs) s =
    rw (removed-sound account date h b (and_left (sound_bill b) (every sound_bill bs) s))
    (every_removed account date h bs (and_right (sound_bill b) (every sound_bill bs) s))

-- ---- a bill more
eqb-sym : (a b : ℕ) → eqb a b ≡ eqb b a
eqb-sym a b =
    cases (eqb a b)
    (λ e. e ∙ sym (eq-eqb b a (sym (eqb-true a b e))))
    (λ e. e ∙ sym (ne_eqb b a (λ q. eqb-false a b e (sym q))))

-- an identity that no bill has is not found
pub nowhere : (id : Identity) (bs : List bill.Bill) → holds_id id bs ≡ false → sought_in id (map bill_terms bs) ≡ None
nowhere id [] h = refl
nowhere id (b ∷ bs) h = let o = or-both (is_of id b.terms) (holds_id id bs) h in rw o.0 (nowhere id bs o.1)

distinct_append : (bs : List bill.Bill) (b : bill.Bill) → distinct bs ≡ true → holds_id b.terms.identity bs ≡ false → distinct (bs ++ (b ∷ [])) ≡ true
unfolding distinct
distinct_append [] b d n = refl
distinct_append (x ∷ bs) b d n =
    let h = holds_id x.terms.identity bs in
    let q : h ≡ false = not-true h (and_left (not h) (distinct bs) d) in
    let o = or-both (is_of b.terms.identity x.terms) (holds_id b.terms.identity bs) n in
    let s : is_of x.terms.identity b.terms ≡ false = other x.terms b.terms o.0 in
    rw (has-append (of_id x.terms.identity) bs (b ∷ []), q, s) (distinct_append bs b (and_right (not h) (distinct bs) d) o.1)
  where
    other : (t u : Terms) → is_of u.identity t ≡ false → is_of t.identity u ≡ false
    other t u e = rw (eqb-sym u.identity.account t.identity.account, eqb-sym u.identity.key t.identity.key) e

-- ---- the numbers that a request or a cancel uses
module _ (l : Book) (f : BookFacts l) (n : (l.tracking + 1 ≤ 1000000000) × (l.confirmation + 1 ≤ 1000000000)) (bs : List bill.Bill)
    (few : length bs ≤ 128) (each : every sound_bill bs ≡ true) (once : distinct bs ≡ true) where
  numbered-facts : BookFacts (numbered l bs)
  numbered-facts =
      record {
        today = f.today;
        tracking = next_up l.tracking f.tracking (omega (arith, n.0));
        confirmation = next_up l.confirmation f.confirmation (omega (arith, n.1));
        few = few;
        bills = each;
        once = once;
      }

-- ---- the calls
request-facts : (l : Book) (r : Request) (room : ℕ) → BookFacts l → first (causes (view l) (request r room)) ≡ Ok tt → BookFacts (next l (request r room))
unfolding causes next
request-facts l r room f e =
    let a = asks r room l.today l.tracking l.confirmation (length (map bill_terms l.bills)) (sought_in r.identity (map bill_terms l.bills)) e in
    cases (holds_id r.identity l.bills)
    (λ h. rw h (numbered-facts l f a.left _
    (rw (length-update (of_id r.identity) (renewed (latest_of r l.tracking)) l.bills) f.few)
    (bills-kept r.identity (renewed (latest_of r l.tracking)) l.bills f.bills (λ b y s. renewed-sound l r f a.good a.left.0 b (a.known b.terms y).1 s))
    (distinct-kept r.identity (renewed (latest_of r l.tracking)) (λ b. refl) l.bills ∙ f.once)))
    (λ h.
    let b = new_bill r l.tracking in
    let s = new-sound l r f a.good a.left.0 in
    let k = a.new (nowhere r.identity l.bills h) in
    rw h (numbered-facts l f a.left _
    (simp (length-append) (omega (arith, k, length-map l.bills bill_terms)))
    (rw (every_append sound_bill l.bills (b ∷ []), f.bills, s))
    (distinct_append l.bills b f.once h)))

cancel-facts : (l : Book) (id : Identity) (room : ℕ) → BookFacts l → first (causes (view l) (cancel id room)) ≡ Ok tt → BookFacts (next l (cancel id room))
unfolding causes next
cancel-facts l id room f e =
    let a = cancels id room l.tracking l.confirmation (sought_in id (map bill_terms l.bills)) e in
    numbered-facts l f a.left _
    (rw (length-update (of_id id) cancelled_bill l.bills) f.few)
    (bills-kept id cancelled_bill l.bills f.bills (λ b y s. cancelled-sound b s))
    (distinct-kept id cancelled_bill (λ b. refl) l.bills ∙ f.once)

pub next-facts : (l : Book) (c : Call) → BookFacts l → first (causes (view l) c) ≡ Ok tt → BookFacts (next l c)
unfolding causes next
next-facts l (request r room) f e = request-facts l r room f e
next-facts l (calendar q hs room) f e = request-facts l (worked_out q hs l.today) room f (clear-dated (view l) q hs room e)
next-facts l (file s room) f e =
    let a = sends s room l.tracking l.confirmation e in
    book-facts _ (file-sound l (file_groups s) (facts-sound l f) a.left.1 a.left.0)
next-facts l (cancel id room) f e = cancel-facts l id room f e
next-facts l (close d) f e =
    record {
      today = closes-on d l.today e;
      tracking = f.tracking;
      confirmation = f.confirmation;
      few = f.few;
      bills = f.bills;
      once = f.once;
    }
next-facts l (removal a) f e =
    let g = removes a _ e in
    record {
      today = f.today;
      tracking = f.tracking;
      confirmation = f.confirmation;
      few = omega (arith, length-map l.bills (removed_of a.account a.date), f.few);
      bills = every_removed a.account a.date g.date l.bills f.bills;
      once = removed-distinct a.account a.date l.bills ∙ f.once;
    }
