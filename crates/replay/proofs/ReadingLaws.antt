-- A journal that comes in pieces is read whole. Assumes nothing.
use Prim.Native.Nat.{ℕ, ◌+◌, ◌-◌, ◌≤◌, ◌<◌}
use mathlib.Core.Path.{◌≡◌, refl, sym, ap, ap₂, subst, ◌∙◌}
use mathlib.Core.Bool.{Bool, true, false, ◌||◌, true≢false, false≢true}
use mathlib.Core.List.{List, [], ◌++◌, append_assoc, append-nil}
use native.Mathlib.Omega.{arith}
use lib.ListN.{length, take, drop, length-append}
use lib.Seq.{length-take-le, take-add}
use Rattle.std.proofs.Common.{Option, None, Some, Result, Ok, Err, IfOk, IfSome, is_err}
use Rattle.std.proofs.KnownBytes.{Consumes-nil, Consumes-trans, Consumes-kept, Appends-nil, Appends-trans}
use Rattle.std.proofs.lemmas.List.{drop-take, take-append-le}
use Rattle.std.proofs.Math.Seq.{take-append-add}
use Rattle.std.specs.Io.KnownBytes.{Keeps, Consumes, Appends, IsAtEnd, append_known}
use Rattle.fields.proofs.PutLaws.{front-put}
use Rattle.ledger.specs.declared.Ledger.{Ledger}
use Rattle.ledger.specs.Books.{Book, book}
use Rattle.ledger.specs.Sound.{sound_ledger}
use Rattle.units.specs.Calendar.{is_date, month_days}
use Rattle.words.specs.Layout as layout
use Rattle.causes.specs.Causes.{start_tests, fresh_causes}
use Rattle.calls.proofs.FreshCloseLaws.{fresh-sound}
use Rattle.journal.specs.Journal.{Entry, Parsed, parse, parse_up_to, after_entries, first_book, journal_ledger, is_bad}
use Rattle.journal.specs.EntryCalls.{ledger_after_entries, notices_of, first_ledger}
use Rattle.journal.proofs.JournalLaws.{fed, parse-fed}
use Rattle.journal.proofs.BeginLaws.{makes-append}
use Rattle.entries.specs.parts.Running.{behind, met_bad, had_no_room}
use Rattle.entries.proofs.FirstMadeLaws.{made-append}
use Rattle.entries.proofs.RunNotices.{notices-append}
use Rattle.trace_lines.specs.Trace.{trace_lines}
use Rattle.tracing.proofs.RunLines.{lines-append}
use Rattle.input.specs.Filled.{Filled, Comes}
use Rattle.replay.specs.declared.Wanted.{Wanted}
use Rattle.replay.specs.declared.Wanted.TheVariants.{Nothing, Notices, Lines}
use Rattle.streams.specs.declared.pieces.End.{End}
use Rattle.streams.specs.declared.pieces.Unfinished.{Unfinished}
use Rattle.replay.specs.declared.Piece.{Piece}
use Rattle.entries.specs.declared.entry.Ended.{Ended}
use Rattle.entries.specs.declared.entry.Ended.TheVariants.{Cut, Bad, Full}
use Rattle.replay.specs.Reading.{written_of, ReadsFrom}
use Rattle.replay.specs.parts.Pieces.{Waits, PieceLeaves}
use Rattle.replay.proofs.WholeLaws.{waits-short, all-read}
use Rattle.streams.specs.Ends.{printed, end_of_input, end_of_piece}
use Rattle.streams.specs.Written.{Writes, AppendsFirst}
use Rattle.streams.specs.declared.output.Failed.{Failed}
use Rattle.streams.specs.declared.output.Output.{Output}
use Rattle.streams.specs.declared.output.Stream.TheVariants.{Stdout}

-- ---- entries behind entries
behind-behind : (es fs : List Entry) (p : Parsed) → behind es (behind fs p) ≡ behind (es ++ fs) p
behind-behind es fs p = rw (append_assoc es fs p.entries)

behind-fed : (es : List Entry) (fs : List Entry) (stopped : Bool) (rest ys : List ℕ)
    → fed 0 (behind es (record { entries = fs; stopped = stopped; rest = rest })) ys
    ≡ behind es (fed (length es) (record { entries = fs; stopped = stopped; rest = rest }) ys)
behind-fed es fs true rest ys = refl
behind-fed es fs false rest ys =
    let n : 0 + length (es ++ fs) ≡ length es + length fs = omega (arith, length-append es fs) in
    rw (n, append_assoc es fs (parse (length es + length fs) (rest ++ ys)).entries)

-- what parses as entries behind which t is parsed still does when more bytes come
parse-on : (s t : List ℕ) (es : List Entry) → parse 0 s ≡ behind es (parse (length es) t) → (ys : List ℕ)
    → parse 0 (s ++ ys) ≡ behind es (parse (length es) (t ++ ys))
parse-on s t es e ys =
    let p = parse (length es) t in
    parse-fed 0 s ys
    ∙ ap (λ (q : Parsed). fed 0 q ys) e
    ∙ behind-fed es p.entries p.stopped p.rest ys
    ∙ ap (behind es) (sym (parse-fed (length es) t ys))

-- ---- the reading so far
-- some bytes came in pieces: they parse as the entries that were made, behind which the bytes held are parsed
pub record Reading (t : Wanted) (had left held holds : Option (List ℕ)) (ws buf : List ℕ) (seen have total : ℕ) : Type 0 where
  pub bytes : List ℕ
  pub done : List Entry
  pub sound : sound_ledger (layout.ledger_of ws) ≡ true
  pub within : have ≤ length buf
  pub parsed : parse 0 bytes ≡ behind done (parse seen (take have buf))
  pub ledger : layout.ledger_of ws ≡ ledger_after_entries first_ledger done
  pub books : book (layout.ledger_of ws) ≡ after_entries first_book done
  pub count : seen ≡ length done
  pub size : total ≡ length (written_of t 0 first_book done)
  -- of the bytes that the reader had and of those that the writer holds, where they are known
  pub came : Consumes had left bytes
  pub wrote : Appends held holds (written_of t 0 first_book done)

first-sound : sound_ledger first_ledger ≡ true
unfolding fresh_causes start_tests is_date month_days
first-sound = fresh-sound (record { today = record { 0 = 19000101 }; tracking = 1; confirmation = 1 }) refl

first-book : book first_ledger ≡ first_book
first-book = refl

none_written : (t : Wanted) → [] ≡ written_of t 0 first_book []
unfolding notices_of trace_lines
none_written Nothing = refl
none_written Notices = refl
none_written Lines = refl

pub reading-start : (t : Wanted) (had held : Option (List ℕ)) (ws buf : List ℕ) → layout.ledger_of ws ≡ first_ledger
    → Reading t had had held held ws buf 0 0 0
unfolding ledger_after_entries after_entries notices_of
reading-start t had held ws buf e =
    record {
      bytes = [];
      done = [];
      sound = ap sound_ledger e ∙ first-sound;
      within = omega arith;
      parsed = refl;
      ledger = e;
      books = ap book e ∙ first-book;
      count = refl;
      size = ap length (none_written t);
      came = Consumes-nil had;
      wrote = subst (Appends held held) (none_written t) (Appends-nil held);
    }

pub waits_start : (buf : List ℕ) → Waits 0 (take 0 buf) false
unfolding parse parse_up_to
waits_start buf = refl

-- the bytes held stay in the buffer
pub reading-kept : (t : Wanted) (had left held holds : Option (List ℕ)) (ws buf after : List ℕ) (seen have total : ℕ)
    → Reading t had left held holds ws buf seen have total → take have after ≡ take have buf → length after ≡ length buf
    → Reading t had left held holds ws after seen have total
reading-kept t had left held holds ws buf after seen have total x e n =
    record {
      bytes = x.bytes;
      done = x.done;
      sound = x.sound;
      within = omega (arith, x.within);
      parsed = rw e x.parsed;
      ledger = x.ledger;
      books = x.books;
      count = x.count;
      size = x.size;
      came = x.came;
      wrote = x.wrote;
    }

written-append : (t : Wanted) (k : Book) (es fs : List Entry)
    → written_of t 0 k (es ++ fs) ≡ written_of t 0 k es ++ written_of t (length es) (after_entries k es) fs
written-append Nothing k es fs = refl
written-append Notices k es fs = notices-append k es fs
written-append Lines k es fs =
    let i : 1 + length es ≡ length es + 1 = omega arith in
    lines-append 1 k es fs ∙ ap (λ (n : ℕ). trace_lines 1 k es ++ trace_lines n (after_entries k es) fs) i

-- a reader that took no byte
reading-left : (t : Wanted) (had left left₁ held holds : Option (List ℕ)) (ws buf : List ℕ) (seen have total : ℕ)
    → Reading t had left held holds ws buf seen have total → Keeps left left₁ → Reading t had left₁ held holds ws buf seen have total
reading-left t had left left₁ held holds ws buf seen have total x k =
    record {
      bytes = x.bytes;
      done = x.done;
      sound = x.sound;
      within = x.within;
      parsed = x.parsed;
      ledger = x.ledger;
      books = x.books;
      count = x.count;
      size = x.size;
      came = Consumes-kept had left left₁ x.bytes x.came k;
      wrote = x.wrote;
    }

-- a writer took some bytes, and then the first ones of some more
pub first_more : (a b c : Option (List ℕ)) (front piece rest all : List ℕ) → Appends a b front → AppendsFirst piece b c → all ≡ front ++ (piece ++ rest)
    → AppendsFirst all a c
first_more a b c front piece rest all w f e =
    let n = f.0 in
    let same = ap (take (length front + n)) e ∙ take-append-add front (piece ++ rest) n ∙ ap (λ l. front ++ l) (take-append-le n piece rest f.1) in (
      length front + n,
      omega (arith, f.1, ap length e, length-append front (piece ++ rest), length-append piece rest),
      subst (Appends a c) (sym same) (Appends-trans a b c front (take n piece) w f.2),
    )

-- ---- one piece more
drop-more : (xs : List ℕ) (m n : ℕ) → m ≤ n → drop m (take n xs) ≡ take (n - m) (drop m xs)
drop-more xs m n h =
    let e : n ≡ m + (n - m) = omega arith in
    ap (λ (i : ℕ). drop m (take i xs)) e ∙ drop-take m (n - m) xs

module _ (t : Wanted) (had left held holds : Option (List ℕ)) (ws buf : List ℕ) (seen have total : ℕ)
    (x : Reading t had left held holds ws buf seen have total) (n : ℕ) (h : have ≤ n) (out₀ ws₁ buf₁ out₁ : List ℕ) (p : Piece)
    (m : PieceLeaves seen t n ws buf out₀ ws₁ buf₁ out₁ p) (left₁ holds₁ : Option (List ℕ)) (c : Consumes left left₁ (drop have (take n buf)))
    (w : Appends holds holds₁ (take p.written out₁)) where
  abbrev more : List ℕ
  more = take (n - have) (drop have buf)

  abbrev all : List Entry
  all = x.done ++ m.done

  whole : parse 0 (x.bytes ++ more) ≡ behind all (parse p.seen (take p.left buf₁))
  whole =
      let i : n ≡ have + (n - have) = omega arith in
      let t = take have buf in
      parse-on x.bytes t x.done (x.parsed ∙ ap (λ (k : ℕ). behind x.done (parse k t)) x.count) more
      ∙ ap₂ (λ (k : ℕ) (s : List ℕ). behind x.done (parse k s)) (sym x.count) (sym (ap (λ (j : ℕ). take j buf) i ∙ take-add have (n - have) buf))
      ∙ ap (behind x.done) m.parsed
      ∙ behind-behind x.done m.done (parse p.seen (take p.left buf₁))

  -- what is asked for of the piece
  abbrev piece : List ℕ
  piece = written_of t (length x.done) (after_entries first_book x.done) m.done

  piece-is : written_of t seen (book (layout.ledger_of ws)) m.done ≡ piece
  piece-is = ap₂ (λ (i : ℕ) (k : Book). written_of t i k m.done) x.count x.books

  all-written : written_of t 0 first_book all ≡ written_of t 0 first_book x.done ++ piece
  all-written = written-append t first_book x.done m.done

  size-more : total + p.written ≡ length (written_of t 0 first_book all)
  size-more =
      let e = ap length all-written ∙ length-append (written_of t 0 first_book x.done) piece in
      let s = m.written ∙ ap length piece-is in
      omega (arith, e, x.size, s)

  came-more : Consumes had left₁ (x.bytes ++ more)
  came-more = Consumes-trans had left left₁ x.bytes more x.came (subst (Consumes left left₁) (drop-more buf have n h) c)

  piece-out : take p.written out₁ ≡ piece
  piece-out = ap (take p.written) m.bytes ∙ front-put out₀ (written_of t seen (book (layout.ledger_of ws)) m.done) p.written m.written ∙ piece-is

  wrote-more : Appends held holds₁ (written_of t 0 first_book all)
  wrote-more =
      let both = Appends-trans held holds holds₁ (written_of t 0 first_book x.done) piece x.wrote (subst (Appends holds holds₁) piece-out w) in
      subst (Appends held holds₁) (sym all-written) both

  pub reading-more : Reading t had left₁ held holds₁ ws₁ buf₁ p.seen p.left (total + p.written)
  reading-more =
      record {
        bytes = x.bytes ++ more;
        done = all;
        sound = m.sound;
        within = m.within;
        parsed = whole;
        ledger = m.ledger ∙ ap (λ (l : Ledger). ledger_after_entries l m.done) x.ledger ∙ sym (made-append first_ledger x.done m.done);
        books = m.books ∙ ap (λ (k : Book). after_entries k m.done) x.books ∙ sym (makes-append first_book x.done m.done);
        count = omega (arith, m.count, x.count, length-append x.done m.done);
        size = size-more;
        came = came-more;
        wrote = wrote-more;
      }

  -- the first of a piece was written, and no more
  pub piece-failed : (holds₂ : Option (List ℕ)) → AppendsFirst (take p.written out₁) holds holds₂
      → (rest full : List ℕ) → full ≡ written_of t 0 first_book all ++ rest → AppendsFirst full held holds₂
  piece-failed holds₂ f rest full e =
      let same = piece-out in
      let whole = e ∙ ap (λ (l : List ℕ). l ++ rest) all-written ∙ append_assoc (written_of t 0 first_book x.done) piece rest in
      first_more held holds holds₂ (written_of t 0 first_book x.done) piece rest full x.wrote (subst (λ (l : List ℕ). AppendsFirst l holds holds₂) same f) whole

-- ---- the end
-- where no entry stands whole in the bytes held the reading has come to its end
pub reading-ended : (t : Wanted) (had left held holds : Option (List ℕ)) (ws buf : List ℕ) (seen have total : ℕ) (stopped : Bool)
    → Reading t had left held holds ws buf seen have total → Waits seen (take have buf) stopped → (stopped ≡ false → IsAtEnd left)
    → ReadsFrom t had left held holds ws buf (record { seen = seen; stopped = stopped; left = have; total = total })
unfolding journal_ledger is_bad
reading-ended t had left held holds ws buf seen have total stopped x w none =
    let e = x.parsed ∙ ap (behind x.done) w in
    let entries : (parse 0 x.bytes).entries ≡ x.done = ap (λ (p : Parsed). p.entries) e ∙ append-nil x.done in
    let bad : stopped ≡ (parse 0 x.bytes).stopped = sym (ap (λ (p : Parsed). p.stopped) e) in
    let rest : take have buf ≡ (parse 0 x.bytes).rest = sym (ap (λ (p : Parsed). p.rest) e) in
    let count : seen ≡ length (parse 0 x.bytes).entries = x.count ∙ sym (ap length entries) in
    let size : have ≡ length (parse 0 x.bytes).rest = sym (length-take-le have buf x.within) ∙ ap length rest in
    record {
      reads = record {
        bytes = x.bytes;
        sound = x.sound;
        ledger = x.ledger ∙ sym (ap (ledger_after_entries first_ledger) entries);
        books = x.books ∙ sym (ap (after_entries first_book) entries);
        seen = count;
        stopped = bad;
        rest = rest;
        within = x.within;
        bad = rw (bad, size, count);
        total = x.size ∙ sym (ap (λ (es : List Entry). length (written_of t 0 first_book es)) entries);
      };
      came = x.came;
      ended = none;
      written = subst (λ (es : List Entry). Appends held holds (written_of t 0 first_book es)) (sym entries) x.wrote;
    }

-- the input has ended
pub input-ended : (t : Wanted) (had left left₁ held holds : Option (List ℕ)) (ws buf : List ℕ) (seen have total : ℕ) (f : Filled) (e : Result End Unfinished)
    → e ≡ end_of_input f seen have total → Reading t had left held holds ws buf seen have total → length buf ≡ 262144 → Comes have buf left left₁ f
    → (f ≡ Ok None → Waits seen (take have buf) false) → IfOk e (λ e. ReadsFrom t had left₁ held holds ws buf e)
input-ended t had left left₁ held holds ws buf seen have total (Err x) e q read room c w = subst (λ r. IfOk r (λ e. ReadsFrom t had left₁ held holds ws buf e)) (sym q) tt
input-ended t had left left₁ held holds ws buf seen have total (Ok (Some n)) e q read room c w =
    subst (λ r. IfOk r (λ e. ReadsFrom t had left₁ held holds ws buf e)) (sym q) tt
input-ended t had left left₁ held holds ws buf seen have total (Ok None) e q x room c w =
    let fits : have < length buf = omega (arith, room, length-take-le have buf x.within, waits-short seen (take have buf) (w refl)) in
    let read = reading-left t had left left₁ held holds ws buf seen have total x c.0 in
    subst (λ r. IfOk r (λ e. ReadsFrom t had left₁ held holds ws buf e)) (sym q)
    (reading-ended t had left₁ held holds ws buf seen have total false read (w refl) (λ _. c.1 fits))

-- where a bad entry stopped it the output was not full
bad-not-full : (e : Ended) → met_bad e ≡ true → had_no_room e ≡ false
bad-not-full Cut e = refl
bad-not-full Bad e = refl
bad-not-full Full e = absurd (false≢true e)

-- a bad entry has stopped it
pub piece-ended : (t : Wanted) (had left held holds : Option (List ℕ)) (ws buf : List ℕ) (total : ℕ) (p : Piece) (stopped : Bool) (sent : Result (Unit {0}) Failed)
    (e : Result End Unfinished) → stopped ≡ met_bad p.end → e ≡ end_of_piece (record { seen = p.seen; stopped = stopped; left = p.left; total = total }) sent
    → (is_err sent ≡ false → Reading t had left held holds ws buf p.seen p.left total)
    → (had_no_room p.end ≡ false → Waits p.seen (take p.left buf) (met_bad p.end)) → (is_err sent || stopped) ≡ true
    → IfOk e (λ e. ReadsFrom t had left held holds ws buf e)
piece-ended t had left held holds ws buf total p stopped (Err x) e met q read w h = subst (λ r. IfOk r (λ e. ReadsFrom t had left held holds ws buf e)) (sym q) tt
piece-ended t had left held holds ws buf total p stopped (Ok u) e met q x w h =
    let waits = subst (Waits p.seen (take p.left buf)) (sym met) (w (bad-not-full p.end (sym met ∙ h))) in
    subst (λ r. IfOk r (λ e. ReadsFrom t had left held holds ws buf e)) (sym q)
    (reading-ended t had left held holds ws buf p.seen p.left total stopped (x refl) waits (λ y. absurd (true≢false (sym h ∙ y))))

-- what of a piece was sent to standard output
pub sent-piece : (o : Output) (p : Piece) (out : List ℕ) (r : Result (Unit {0}) Failed) (a b : Option (List ℕ)) → o ≡ printed p.written
    → (o.stream ≡ Stdout → Writes r (take o.length out) a b) → Writes r (take p.written out) a b
sent-piece o p out r a b e s =
    subst (λ (n : ℕ). Writes r (take n out) a b) (ap (λ (k : Output). k.length) e) (s (ap (λ (k : Output). k.stream) e))

pub sent : (o : Output) (p : Piece) (out : List ℕ) (all : Result (Unit {0}) Failed) (a b : Option (List ℕ)) → o ≡ printed p.written
    → (o.stream ≡ Stdout → Writes all (take o.length out) a b) → is_err all ≡ false → Appends a b (take p.written out)
sent o p out (Ok u) a b e s w = sent-piece o p out (Ok u) a b e s
sent o p out (Err x) a b e s w = absurd (true≢false w)

-- ---- what was written of all bytes that a reader had
-- what was written so far is the first of what is asked for of them
front_of : (t : Wanted) (input : List ℕ) (left held holds : Option (List ℕ)) (ws buf : List ℕ) (seen have total : ℕ)
    → (x : Reading t (Some input) left held holds ws buf seen have total)
    → (rest : List ℕ) × (written_of t 0 first_book (parse 0 input).entries ≡ written_of t 0 first_book x.done ++ rest)
front_of t input None held holds ws buf seen have total x = absurd x.came
front_of t input (Some ys) held holds ws buf seen have total x =
    let k = take have buf in
    let p = parse-on x.bytes k x.done (x.parsed ∙ ap (λ (i : ℕ). behind x.done (parse i k)) x.count) ys in
    let more = (parse (length x.done) (k ++ ys)).entries in
    let entries : (parse 0 input).entries ≡ x.done ++ more = ap (λ (s : List ℕ). (parse 0 s).entries) x.came ∙ ap (λ (q : Parsed). q.entries) p in
    (written_of t (length x.done) (after_entries first_book x.done) more, ap (written_of t 0 first_book) entries ∙ written-append t first_book x.done more)

pub read-failed : (t : Wanted) (known left held holds : Option (List ℕ)) (ws buf : List ℕ) (seen have total : ℕ)
    → Reading t known left held holds ws buf seen have total → IfSome known (λ input. AppendsFirst (written_of t 0 first_book (parse 0 input).entries) held holds)
read-failed t None left held holds ws buf seen have total x = tt
read-failed t (Some input) left held holds ws buf seen have total x =
    let f = front_of t input left held holds ws buf seen have total x in
    first_more held holds holds (written_of t 0 first_book x.done) [] f.0 _ x.wrote (0, omega arith, Appends-nil holds) f.1

-- the reading ended: all that is asked for of them was written, or, where it failed, the first of it
pub written-by : (t : Wanted) (known left held holds : Option (List ℕ)) (ws buf : List ℕ) (e : Result End Unfinished)
    → IfOk e (λ e. ReadsFrom t known left held holds ws buf e)
    → ((f : Unfinished) → e ≡ Err f → IfSome known (λ input. AppendsFirst (written_of t 0 first_book (parse 0 input).entries) held holds))
    → IfSome known (λ input. Writes e (written_of t 0 first_book (parse 0 input).entries) held holds)
written-by t None left held holds ws buf e r w = tt
written-by t (Some input) left held holds ws buf (Err f) r w = w f refl
written-by t (Some input) left held holds ws buf (Ok k) r w =
    let same = all-read input r.reads.bytes left r.came (λ z. r.ended (r.reads.stopped ∙ z)) in
    subst (λ (es : List Entry). Appends held holds (written_of t 0 first_book es)) (sym same.0) r.written

grows : (a : Option (List ℕ)) (bs : List ℕ) → Appends a (append_known a bs) bs
grows None bs = tt
grows (Some xs) bs = refl

pub send-failed : (t : Wanted) (known left held holds : Option (List ℕ)) (ws buf : List ℕ) (seen have total : ℕ)
    → (x : Reading t known left held holds ws buf seen have total) (n : ℕ) (h : have ≤ n) (out₀ ws₁ buf₁ out₁ : List ℕ) (p : Piece)
    → PieceLeaves seen t n ws buf out₀ ws₁ buf₁ out₁ p → (left₁ holds₂ : Option (List ℕ)) → Consumes left left₁ (drop have (take n buf))
    → (r : Result (Unit {0}) Failed) (e : Result End Unfinished) (end : End) → e ≡ end_of_piece end r → Writes r (take p.written out₁) holds holds₂
    → (f : Unfinished) → e ≡ Err f → IfSome known (λ input. AppendsFirst (written_of t 0 first_book (parse 0 input).entries) held holds₂)
unfolding reading-more
send-failed t None left held holds ws buf seen have total x n h out₀ ws₁ buf₁ out₁ p m left₁ holds₂ c r e end q w f z = tt
send-failed t (Some input) left held holds ws buf seen have total x n h out₀ ws₁ buf₁ out₁ p m left₁ holds₂ c (Ok u) e end q w f z =
    let k = sym q ∙ z in cc
send-failed t (Some input) left held holds ws buf seen have total x n h out₀ ws₁ buf₁ out₁ p m left₁ holds₂ c (Err y) e end q w f z =
    let grown = append_known holds (take p.written out₁) in
    let kept = grows holds (take p.written out₁) in
    let more = reading-more t (Some input) left held holds ws buf seen have total x n h out₀ ws₁ buf₁ out₁ p m left₁ grown c kept in
    let first = front_of t input left₁ held grown ws₁ buf₁ p.seen p.left (total + p.written) more in
    piece-failed t (Some input) left held holds ws buf seen have total x n h out₀ ws₁ buf₁ out₁ p m left₁ grown c kept holds₂ w first.0 _ first.1
