-- The walk over a file's groups, by value or in words: `Walk` says what was done before record i. Assumes nothing.
use Prim.Native.Nat.{ℕ, zero, suc, ◌+◌, ◌-◌, ◌*◌, ◌≤◌, ◌<◌, ◌^◌}
use mathlib.Core.Path.{◌≡◌, refl, sym, ap, ap₂, ◌∙◌}
use mathlib.Core.Bool.{Bool, true, false, cond}
use mathlib.Core.List.{List, [], ◌∷◌, ◌++◌, append_assoc, append-nil}
use native.Mathlib.Omega.{arith}
use native.Mathlib.Nat.{zero-add}
use lib.ListN.{length, set, drop, length-set}
use lib.Seq.{take-append_seam, drop-append_seam}
use Rattle.fields.specs.Put.{put}
use Rattle.fields.proofs.BoolLaws.{and_left, and_right}
use Rattle.units.specs.Calendar.{is_date}
use Rattle.ledger.specs.declared.Bill.{Bill}
use Rattle.ledger.specs.declared.Ledger.{Ledger}
use Rattle.ledger.specs.declared.LedgerHeader.{LedgerHeader}
use Rattle.ledger.specs.declared.Identity.{Identity}
use Rattle.rules.specs.Lists.{every, count, update}
use Rattle.ledger.specs.Bills.{posting}
use Rattle.ledger.specs.Books.{Book, book, live, view, of_id, place_of, total_of, stored}
use Rattle.ledger.specs.parts.Places.{bill_at, header_of, updated, place_for}
use Rattle.records.specs.Layout.{record_at, records_from}
use Rattle.file.specs.File.{is_header, Group, leading, groups, asks_id, line3}
use Rattle.file.specs.parts.Walk.{records_after, group_at, before, mark_at}
use Rattle.file.proofs.FileLaws.{groups-header, groups-detail, groups-end, leading-header, leading-detail, leading-within, from_start}
use Rattle.file.proofs.WalkLaws.{before-header, before-detail}
use Rattle.group.specs.declared.Tally.{Tally}
use Rattle.group.specs.declared.TurnResult.{TurnResult}
use Rattle.group.specs.Groups.{identity_of, verdict_on, verdict_by, verdict_here, settled, answer, taken, answers, verdicts, is_accepted, is_rejected}
use Rattle.group.specs.parts.Turns.{identity_at, sought_by, in_widths, InWidthsAt, Ready, no_tally, if_written, numbered, answer_at, WithinFile, TurnLeaves, FitForTurn, TurnLeavesOn, FileTaken}
use Rattle.group.proofs.OutputLaws.{Out, out-start, out-more}
use Rattle.group.proofs.FoundLaws.{every_held, spots, spot-calm}
use Rattle.group.proofs.DecideLaws.{by-duplicate}
use Rattle.group.proofs.AcceptedLaws.{calm-posted, came-small, went-small}
use Rattle.group.proofs.AnswerSizes.{answer-long}
use Rattle.group.proofs.TurnLaws.{Comes, rejects, posts, comes, stored-book, verdict-is, ledger-is, answer-is, sums-is}
use Rattle.std.specs.Prelude.{Option, Result, Ok, Err}
use Rattle.ledger.specs.declared.Posted.{Posted}
use Rattle.rules.specs.declared.ErrorCode.{ErrorCode}

-- ---- the struct and its book
pub book-stored : (l : Ledger) (k : Book) → book (stored l k) ≡ k
book-stored l k = rw (take-append_seam k.bills (drop (length k.bills) l.bills))

stored-stored : (l : Ledger) (a b : Book) → length a.bills ≡ length b.bills → stored (stored l a) b ≡ stored l b
stored-stored l a b e =
    let d : drop (length b.bills) (a.bills ++ drop (length a.bills) l.bills) ≡ drop (length b.bills) l.bills =
    ap (λ (n : ℕ). drop n (a.bills ++ drop (length a.bills) l.bills)) (sym e)
    ∙ drop-append_seam a.bills (drop (length a.bills) l.bills)
    ∙ ap (λ (n : ℕ). drop n l.bills) e in
    rw d

pub length-update : (p : Bill → Bool) (f : Bill → Bill) (bs : List Bill) → length (update p f bs) ≡ length bs
length-update p f [] = refl
length-update p f (b ∷ bs) = go (p b) (length-update p f bs)
  where
    go : (t : Bool) → length (update p f bs) ≡ length bs → length (cond t (f b ∷ bs) (b ∷ update p f bs)) ≡ length (b ∷ bs)
    go true e = refl
    go false e = ap suc e

pub length-settled : (k : Book) (g : Group) (v : Result Posted ErrorCode) → length (settled k g v).bills ≡ length k.bills
unfolding settled
length-settled k g (Ok amounts) = length-update (of_id (identity_of g)) (posting amounts (asks_id g)) k.bills
length-settled k g (Err n) = refl

every_set : (q : Bill → Bool) (bs : List Bill) (p : ℕ) (b : Bill) → every q bs ≡ true → q b ≡ true → every q (set bs p b) ≡ true
every_set q [] p b a e = refl
every_set q (x ∷ bs) zero b a e = rw e (and_right (q x) (every q bs) a)
every_set q (x ∷ bs) (suc p) b a e = rw (and_left (q x) (every q bs) a) (every_set q bs p b (and_right (q x) (every q bs) a) e)

-- ---- one group
module _ (t : Bool) (l : Ledger) (g : Group) where
  abbrev v : Result Posted ErrorCode
  v = verdict_by t (view (book l)) g

  calm-kept : l.count ≤ length l.bills → every in_widths (live l) ≡ true → every in_widths (settled (book l) g v).bills ≡ true
  unfolding settled
  calm-kept k a = go (comes t l g)
    where
      go : Comes t l g → every in_widths (settled (book l) g v).bills ≡ true
      go (rejects n x) = rw x a
      go (posts p amounts h x d y z) =
          rw (x, z (posting amounts (asks_id g)))
          (every_set in_widths (live l) p _ a (calm-posted t (book l) g (bill_at l p) amounts x y (every_held in_widths l p h k a)))

  numbers_up : ((settled (book l) g v).tracking ≤ l.next_tracking + 1) × ((settled (book l) g v).confirmation ≤ l.next_confirmation + 1)
  unfolding settled
  numbers_up = go v
    where
      go : (w : Result Posted ErrorCode) → ((settled (book l) g w).tracking ≤ l.next_tracking + 1) × ((settled (book l) g w).confirmation ≤ l.next_confirmation + 1)
      go (Ok amounts) = (by (asks_id g), omega arith)
        where
          by : (b : Bool) → l.next_tracking + cond b 1 0 ≤ l.next_tracking + 1
          by true = omega arith
          by false = omega arith
      go (Err n) = (omega arith, omega arith)

count-cons : (q : Result Posted ErrorCode → Bool) (v : Result Posted ErrorCode) (vs : List (Result Posted ErrorCode)) → count q (v ∷ vs) ≡ cond (q v) 1 0 + count q vs
count-cons q v vs = go (q v)
  where
    go : (b : Bool) → cond b (suc (count q vs)) (count q vs) ≡ cond b 1 0 + count q vs
    go true = omega arith
    go false = omega arith

one-or-none : (b : Bool) → cond b 1 0 ≤ 1
one-or-none true = omega arith
one-or-none false = omega arith

-- ---- the walk
abbrev rest : List ℕ → ℕ → ℕ → List Group
rest s n i = groups (records_from s i (n - i))

abbrev all : List ℕ → ℕ → List Group
all s n = groups (records_from s 0 n)

-- l is the struct before the first record, k the one now; what was taken, and what there is from record i on, make the whole
pub record Walk (s : List ℕ) (n : ℕ) (l : Ledger) (writes : Bool) (out₀ : List ℕ) (k : Ledger) (out : List ℕ) (c : Tally) (i : ℕ) : Type 0 where
  pub within : i ≤ n
  pub room : c.written ≤ (i + leading (records_from s i (n - i))) * 321
  pub today : is_date k.today.0 ≡ true
  pub places : length k.bills ≡ 128
  pub few : k.count ≤ 128
  pub bills : every in_widths (live k) ≡ true
  pub tracking : k.next_tracking ≤ 1000000000 + i
  pub confirmation : k.next_confirmation ≤ 1000000000 + i
  pub accepted-few : c.accepted ≤ i
  pub rejected-few : c.rejected ≤ i
  pub came-few : c.came ≤ i * 10 ^ 13
  pub went-few : c.went ≤ i * 10 ^ 13
  pub stays : k ≡ stored l (book k)
  pub books : taken (before s n i) (book k) (rest s n i) ≡ taken [] (book l) (all s n)
  pub accepted : c.accepted + count is_accepted (verdicts (before s n i) (book k) (rest s n i)) ≡ count is_accepted (verdicts [] (book l) (all s n))
  pub rejected : c.rejected + count is_rejected (verdicts (before s n i) (book k) (rest s n i)) ≡ count is_rejected (verdicts [] (book l) (all s n))
  pub done : List ℕ
  pub wrote : Out writes 0 out₀ out done c.written
  pub bytes : done ++ answers (before s n i) (book k) (rest s n i) ≡ answers [] (book l) (all s n)
  pub sums : total_of (live k) + c.went ≡ total_of (live l) + c.came

pub walk_start : (s : List ℕ) (n : ℕ) (l : Ledger) (writes : Bool) (out : List ℕ) → length l.bills ≡ 128 → Ready l
    → Walk s n l writes out l out no_tally 0
unfolding before
walk_start s n l writes out k r =
    let e : rest s n 0 ≡ all s n = ap groups (from_start s n) in
    record {
      within = omega arith;
      room = omega arith;
      today = r.today;
      places = k;
      few = r.count;
      bills = r.bills;
      tracking = omega (arith, r.tracking);
      confirmation = omega (arith, r.confirmation);
      accepted-few = omega arith;
      rejected-few = omega arith;
      came-few = omega arith;
      went-few = omega arith;
      stays = sym (stored-book l (omega (arith, r.count)));
      books = ap (taken [] (book l)) e;
      accepted = rw e (zero-add _);
      rejected = rw e (zero-add _);
      done = [];
      wrote = out-start writes 0 out (λ w. omega arith);
      bytes = ap (answers [] (book l)) e;
      sums = refl;
    }

module _ (s : List ℕ) (n : ℕ) (l : Ledger) (writes : Bool) (out₀ : List ℕ) (k : Ledger) (out : List ℕ) (c : Tally) (i : ℕ)
    (w : Walk s n l writes out₀ k out c i) (h : i < n) where
  -- a record that is a detail
  pub walk-detail : is_header (record_at s i) ≡ false → Walk s n l writes out₀ k out c (i + 1)
  walk-detail e =
      let g = groups-detail s i n h e in
      let b = before-detail s n i e in
      record {
        within = omega arith;
        room = omega (arith, w.room, leading-detail s i n h e);
        today = w.today;
        places = w.places;
        few = w.few;
        bills = w.bills;
        tracking = omega (arith, w.tracking);
        confirmation = omega (arith, w.confirmation);
        accepted-few = omega (arith, w.accepted-few);
        rejected-few = omega (arith, w.rejected-few);
        came-few = omega (arith, w.came-few);
        went-few = omega (arith, w.went-few);
        stays = w.stays;
        books = rw (b, ← g) w.books;
        accepted = rw (b, ← g) w.accepted;
        rejected = rw (b, ← g) w.rejected;
        done = w.done;
        wrote = w.wrote;
        bytes = rw (b, ← g) w.bytes;
        sums = w.sums;
      }

  -- what a turn asks
  pub walk-few : is_header (record_at s i) ≡ true → n ≤ 200 → WithinFile c
  walk-few e few =
      record {
        accepted = omega (arith, w.accepted-few);
        rejected = omega (arith, w.rejected-few);
        written = omega (arith, w.room, leading-header s i n h e);
        came = omega (arith, w.came-few);
        went = omega (arith, w.went-few);
      }

  pub walk-room : is_header (record_at s i) ≡ true → (writes ≡ true → n * 321 ≤ length out₀) → writes ≡ true → c.written + (n - i) * 321 ≤ length out
  walk-room e room z = omega (arith, room z, w.wrote.kept, w.room, leading-header s i n h e)

  -- ---- a record that is a header: what its turn asks and leaves, where its bill was found at f, and p is the place
  module _ (f : Option ℕ) (fe : f ≡ place_of (identity_at s i n) (live k)) (p : ℕ) (pe : p ≡ place_for f k.count) where
    pub walk-calm : InWidthsAt f (bill_at k p)
    walk-calm = spot-calm k f p (omega (arith, w.places, w.few)) w.bills (spots k w.few (identity_at s i n) f p fe pe)

    module _ (e : is_header (record_at s i) ≡ true) (b : n * 321 ≤ length s) (t : Bool) (m : t ≡ mark_at s n i) (out' : List ℕ) (r : TurnResult)
        (fits : writes ≡ true → c.written + (n - i) * 321 ≤ length out)
        (x : TurnLeaves (verdict_on t k.today (sought_by f (bill_at k p)) (group_at s i n)) (group_at s i n) (header_of k) (bill_at k p) c writes out out' r) where
      abbrev g : Group
      g = group_at s i n

      abbrev kb : Book
      kb = book k

      abbrev now : Result Posted ErrorCode
      now = verdict_by t (view kb) g

      abbrev after_turn : Ledger
      after_turn = updated k p r.update

      said-now : verdict_on t k.today (sought_by f (bill_at k p)) g ≡ now
      said-now = verdict-is k w.places w.few s i n t f p fe pe

      -- what was left, by the verdict of the rules
      leaves : TurnLeaves now g (header_of k) (bill_at k p) c writes out out' r
      leaves = rw said-now at x

      -- the verdict by the mark is the verdict of the rules
      same : now ≡ verdict_here (before s n i) kb g (rest s n (i + 1))
      unfolding mark_at
      same = by-duplicate (view kb) g t (line3 (before s n i ++ rest s n (i + 1)) g) (λ z. m ∙ rw (e, z))

      led-is : after_turn ≡ stored k (settled kb g now)
      led-is =
          ap₂ (λ (x : LedgerHeader) (y : Bill). updated k p (record { header = x; bill = y })) leaves.header leaves.bill
          ∙ ledger-is k w.places w.few s i n t f p fe pe

      book-is : book after_turn ≡ settled kb g now
      book-is = ap book led-is ∙ book-stored k (settled kb g now)

      abbrev ahead : List Group
      ahead = before s n i ++ (g ∷ [])

      groups-are : rest s n i ≡ g ∷ rest s n (i + 1)
      groups-are = groups-header s i n h e

      abbrev told : List ℕ
      told = answer_at (numbered now) (header_of k) (bill_at k p) g

      books-step : taken (before s n i) kb (rest s n i) ≡ taken (before s n (i + 1)) (book after_turn) (rest s n (i + 1))
      unfolding taken
      books-step =
          ap (taken (before s n i) kb) groups-are
          ∙ ap (λ (x : Result Posted ErrorCode). taken ahead (settled kb g x) (rest s n (i + 1))) (sym same)
          ∙ sym (ap₂ (λ (x : List Group) (y : Book). taken x y (rest s n (i + 1))) (before-header s n i e) book-is)

      verdicts-step : verdicts (before s n i) kb (rest s n i) ≡ now ∷ verdicts (before s n (i + 1)) (book after_turn) (rest s n (i + 1))
      unfolding verdicts
      verdicts-step =
          ap (verdicts (before s n i) kb) groups-are
          ∙ ap (λ (x : Result Posted ErrorCode). x ∷ verdicts ahead (settled kb g x) (rest s n (i + 1))) (sym same)
          ∙ ap (λ (x : List (Result Posted ErrorCode)). now ∷ x) (sym (ap₂ (λ (x : List Group) (y : Book). verdicts x y (rest s n (i + 1))) (before-header s n i e) book-is))

      -- one verdict more is counted
      counts_step : (q : Result Posted ErrorCode → Bool) → count q (verdicts (before s n i) kb (rest s n i)) ≡ cond (q now) 1 0 + count q (verdicts (before s n (i + 1)) (book after_turn) (rest s n (i + 1)))
      counts_step q = ap (count q) verdicts-step ∙ count-cons q now (verdicts (before s n (i + 1)) (book after_turn) (rest s n (i + 1)))

      answers-step : answers (before s n i) kb (rest s n i) ≡ told ++ answers (before s n (i + 1)) (book after_turn) (rest s n (i + 1))
      unfolding answers
      answers-step =
          ap (answers (before s n i) kb) groups-are
          ∙ ap (λ (x : Result Posted ErrorCode). answer (view kb) g x ++ answers ahead (settled kb g x) (rest s n (i + 1))) (sym same)
          ∙ ap₂ (λ (x y : List ℕ). x ++ y) (sym (answer-is k w.places w.few s i n t f p fe pe))
          (sym (ap₂ (λ (x : List Group) (y : Book). answers x y (rest s n (i + 1))) (before-header s n i e) book-is))

      long : length told ≤ (1 + leading (records_after s i n)) * 321
      long = answer-long (numbered now) (header_of k) (bill_at k p) s i n h b

      pub walk-group : Walk s n l writes out₀ after_turn out' r.tally (i + 1)
      walk-group =
          rw leaves.tally
          (record {
            within = omega arith;
            room = omega (arith, w.room, leading-header s i n h e, long);
            today = ap (λ (x : LedgerHeader). is_date x.today.0) leaves.header ∙ w.today;
            places = length-set k.bills p r.update.bill ∙ w.places;
            few = omega (arith, ap (λ (x : LedgerHeader). x.count) leaves.header, w.few);
            bills = ap (λ (x : Book). every in_widths x.bills) book-is ∙ calm-kept t k g (omega (arith, w.places, w.few)) w.bills;
            tracking = omega (arith, ap (λ (x : Book). x.tracking) book-is, (numbers_up t k g).0, w.tracking);
            confirmation = omega (arith, ap (λ (x : Book). x.confirmation) book-is, (numbers_up t k g).1, w.confirmation);
            accepted-few = omega (arith, one-or-none (is_accepted now), w.accepted-few);
            rejected-few = omega (arith, one-or-none (is_rejected now), w.rejected-few);
            came-few = omega (arith, rw said-now at (came-small t k.today (sought_by f (bill_at k p)) g), w.came-few);
            went-few = omega (arith, rw said-now at (went-small t k.today f (bill_at k p) g walk-calm), w.went-few);
            stays =
                led-is
                ∙ ap (λ (x : Ledger). stored x (settled kb g now)) w.stays
                ∙ stored-stored l kb (settled kb g now) (sym (length-settled kb g now))
                ∙ ap (stored l) (sym book-is);
            books = sym books-step ∙ w.books;
            accepted = omega (arith, w.accepted, counts_step is_accepted);
            rejected = omega (arith, w.rejected, counts_step is_rejected);
            done = w.done ++ told;
            wrote = out-more writes 0 out₀ out w.done c.written w.wrote told out' _ (λ z. omega (arith, fits z, long, leading-within s i n)) leaves.bytes refl;
            bytes =
                append_assoc w.done told (answers (before s n (i + 1)) (book after_turn) (rest s n (i + 1)))
                ∙ ap (λ (x : List ℕ). w.done ++ x) (sym answers-step)
                ∙ w.bytes;
            sums = omega (arith, w.sums, sums-is k w.places w.few s i n t f p fe pe, ap (λ (x : Book). total_of x.bills) book-is);
          })

-- ---- a turn on the struct, from what its parts answered
module _ (l : Ledger) (c : Tally) (fine : FitForTurn l c) (s : List ℕ) (i n : ℕ) (id : Identity) (ie : id ≡ identity_at s i n) (f : Option ℕ)
    (fe : f ≡ place_of id (live l)) (p : ℕ) (pe : p ≡ place_for f l.count) (b : Bill) (be : b ≡ bill_at l p) where
  finds : f ≡ place_of (identity_at s i n) (live l)
  finds = fe ∙ ap (λ (x : Identity). place_of x (live l)) ie

  pub turn-calm : InWidthsAt f b
  turn-calm = rw be (spot-calm l f p (omega (arith, fine.places, fine.count)) fine.bills (spots l fine.count (identity_at s i n) f p finds pe))

  pub turn_on : (t writes : Bool) (out₀ out : List ℕ) (x : TurnResult) → TurnLeaves (verdict_on t l.today (sought_by f b) (group_at s i n)) (group_at s i n) (header_of l) b c writes out₀ out x
      → (k : Ledger) → k ≡ updated l p x.update → TurnLeavesOn s i n t l c writes out₀ k out x.tally
  turn_on t writes out₀ out x w k ke =
      record {
        found = f;
        place = p;
        result = x;
        finds = finds;
        stands = pe;
        turns = rw be at w;
        ledger = ke;
        tally = refl;
      }

-- what a turn asks, and what it leaves
module _ (s : List ℕ) (n : ℕ) (l : Ledger) (writes : Bool) (out₀ : List ℕ) (k : Ledger) (out : List ℕ) (c : Tally) (i : ℕ)
    (w : Walk s n l writes out₀ k out c i) (h : i < n) (e : is_header (record_at s i) ≡ true) where
  pub walk_fine : n ≤ 200 → FitForTurn k c
  walk_fine few =
      record {
        today = w.today;
        places = w.places;
        count = w.few;
        bills = w.bills;
        tracking = omega (arith, w.tracking);
        confirmation = omega (arith, w.confirmation);
        few = walk-few s n l writes out₀ k out c i w h e few;
      }

  pub walk_turn : n * 321 ≤ length s → (t : Bool) → t ≡ mark_at s n i → (writes ≡ true → n * 321 ≤ length out₀)
      → (k' : Ledger) (out' : List ℕ) (d : Tally) → TurnLeavesOn s i n t k c writes out k' out' d → Walk s n l writes out₀ k' out' d (i + 1)
  walk_turn b t m room k' out' d x =
      rw (x.ledger, x.tally)
      (walk-group s n l writes out₀ k out c i w h x.found x.finds x.place x.stands e b t m out' x.result
      (walk-room s n l writes out₀ k out c i w h e room) x.turns)

-- the end of the walk
pub walk_end : (s : List ℕ) (n : ℕ) (l : Ledger) (writes : Bool) (out₀ : List ℕ) (k : Ledger) (out : List ℕ) (c : Tally) (i : ℕ)
    → Walk s n l writes out₀ k out c i → n ≤ i → n ≤ 200 → FileTaken l (all s n) writes out₀ k out c
unfolding taken verdicts answers
walk_end s n l writes out₀ k out c i w h few =
    let g : rest s n i ≡ [] = groups-end s i n h in
    let x : book k ≡ taken [] (book l) (all s n) = rw g at w.books in
    let y : w.done ≡ answers [] (book l) (all s n) = sym (append-nil w.done) ∙ rw g at w.bytes in
    let u : c.accepted + 0 ≡ count is_accepted (verdicts [] (book l) (all s n)) = rw g at w.accepted in
    let v : c.rejected + 0 ≡ count is_rejected (verdicts [] (book l) (all s n)) = rw g at w.rejected in
    record {
      ledger = w.stays ∙ ap (stored l) x;
      accepted = omega (arith, u);
      rejected = omega (arith, v);
      written = w.wrote.size ∙ zero-add _ ∙ ap length y;
      bytes = w.wrote.bytes ∙ ap (λ (z : List ℕ). put out₀ 0 (if_written writes z)) y;
      came = omega (arith, w.came-few, w.within);
      went = omega (arith, w.went-few, w.within);
      sums = w.sums;
    }
