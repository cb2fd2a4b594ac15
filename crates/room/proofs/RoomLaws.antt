-- No journal has more notices than its tags and lengths allow; the walk that adds these up. Assumes nothing.
use Prim.Native.Nat.{ℕ, zero, suc, ◌+◌, ◌-◌, ◌≤◌, ◌<◌}
use mathlib.Core.Path.{◌≡◌, refl, sym, ap}
use mathlib.Core.Bool.{Bool, true, false, cond, ◌&&◌}
use mathlib.Core.List.{List, [], ◌∷◌, ◌++◌}
use native.Mathlib.Omega.{arith}
use lib.Dec.{eqb, leb}
use lib.ListN.{length, take, drop, length-append, length-drop, length-take}
use lib.Seq.{take_all}
use borrow.Author.Tests.{le-leb, lt-leb, leb-true}
use Rattle.fields.specs.Put.{part}
use Rattle.fields.proofs.BoolLaws.{and_both}
use Rattle.ledger.specs.Books.{Book}
use Rattle.units.specs.declared.Date.{Date}
use Rattle.ledger.specs.declared.Identity.{Identity}
use Rattle.notices.specs.declared.bil.Bil.{Bil}
use Rattle.notices.specs.declared.cxl.Cxl.{Cxl}
use Rattle.notices.specs.Notices.{bil, cxl}
use Rattle.causes.specs.declared.Request.{Request}
use Rattle.causes.specs.declared.AccountRemoval.{AccountRemoval}
use Rattle.notices.proofs.NoticeLengths.{length-bil, length-cxl}
use Rattle.causes.specs.Causes.{Call, request, file, cancel, close, removal}
use Rattle.calls.specs.Machine.{cause, next_written, outcome, step, outcomes}
use Rattle.calls.proofs.FileCallLaws.{file-within}
use Rattle.journal.specs.declared.Body.{Body}
use Rattle.journal.specs.declared.Body.TheVariants as body
use Rattle.journal.specs.declared.Head.{Head}
use Rattle.journal.specs.declared.Head.TheVariants.{Cut, Bad, Whole}
use Rattle.journal.specs.declared.Frame.{Frame}
use Rattle.journal.specs.Entries.{digits_in, fresh_body, request_body, cancel_body, close_body, removal_body, body_of, good_length, head_of, frame_of}
use Rattle.journal.specs.Journal.{call_of, after_entry, on_head, parse_up_to, parse, first_book}
use Rattle.journal.specs.EntryCalls.{written_by, notices_of, brn_of}
use Rattle.journal.proofs.HeadLaws.{tag_in, length_in, whole_is, whole-holds, whole-bytes}
use Rattle.room.specs.Room.{most_of, most_on, most_up_to, most_in}
use Rattle.std.specs.Prelude.{Some, None, Result, Ok, Err, ⊤}
use Rattle.rules.specs.declared.Cause.{Cause}

-- ---- what one entry writes
bil-long : (b : Bil) → length (bil b) ≤ 642
bil-long b = omega (arith, length-bil b)

cxl-long : (x : Cxl) → length (cxl x) ≤ 642
cxl-long x = omega (arith, length-cxl x)

module _ (k : Book) where
  call-most : (c : Call) (n : ℕ) → length (next_written k c) ≤ n → length (written_by (outcomes k (c ∷ []))) ≤ n
  unfolding outcomes step outcome
  call-most c n h = go (cause k c)
    where
      go : (v : Result ⊤ Cause) → length ((outcome k c v).written ++ []) ≤ n
      go (Ok tt) = omega (arith, length-append (next_written k c) [])
      go (Err i) = omega arith

  module _ (bytes : List ℕ) where
    -- a body that writes n bytes at most
    unfoldable Writes : ℕ → Body → Type 0
    Writes n b = length (written_by (outcomes k (call_of b bytes))) ≤ n

    no_call : (n : ℕ) (b : Body) → call_of b bytes ≡ [] → Writes n b
    unfolding Writes outcomes
    no_call n b e = rw e (omega arith)

    request-writes : (r : Request) → Writes 642 (body.Request r)
    unfolding Writes next_written
    request-writes r = call-most (request r 64200) 642 (bil-long _)

    cancel-writes : (id : Identity) → Writes 642 (body.Cancel id)
    unfolding Writes next_written
    cancel-writes id = call-most (cancel id 64200) 642 (cxl-long _)

    close-writes : (d : Date) → Writes 0 (body.Close d)
    unfolding Writes next_written
    close-writes d = call-most (close d) 0 (omega arith)

    removal-writes : (a : AccountRemoval) → Writes 0 (body.Removal a)
    unfolding Writes next_written
    removal-writes a = call-most (removal a) 0 (omega arith)

    -- a body is read, or not
    by_cond : (t : Bool) (n : ℕ) (b : Body) → Writes n b → Writes n (cond t b body.Unread)
    by_cond true n b h = h
    by_cond false n b h = no_call n body.Unread refl

    fresh-most : (n : ℕ) → Writes n (fresh_body bytes)
    unfolding fresh_body
    fresh-most n = by_cond (digits_in bytes 1 8 && digits_in bytes 9 17 && digits_in bytes 18 26) n _ (no_call n (body.Fresh _) refl)

    request-most : Writes 642 (request_body bytes)
    unfolding request_body
    request-most =
        by_cond
        (digits_in bytes 6 17 && digits_in bytes 18 21 && digits_in bytes 23 30 && digits_in bytes 31 38 && digits_in bytes 39 48 && digits_in bytes 49 56)
        642 _ (request-writes _)

    file-most : Writes (length bytes) body.File
    unfolding Writes next_written
    file-most = call-most (file bytes 64200) (length bytes) (file-within k bytes)

    cancel-most : Writes 642 (cancel_body bytes)
    unfolding cancel_body
    cancel-most = by_cond (digits_in bytes 1 12 && digits_in bytes 13 16) 642 _ (cancel-writes _)

    close-most : Writes 0 (close_body bytes)
    unfolding close_body
    close-most = by_cond (digits_in bytes 1 8) 0 _ (close-writes _)

    removal-most : Writes 0 (removal_body bytes)
    unfolding removal_body
    removal-most = by_cond (digits_in bytes 1 12 && digits_in bytes 13 20) 0 _ (removal-writes _)

    pub body-most : (tag : ℕ) → length (written_by (outcomes k (call_of (body_of tag bytes) bytes))) ≤ most_of tag (length bytes)
    unfolding Writes body_of most_of
    body-most tag = go (eqb tag 0) (eqb tag 1) (eqb tag 2) (eqb tag 3) (eqb tag 4)
      where
        go : (a b c d e : Bool)
            → Writes (cond b 642 (cond c (length bytes) (cond d 642 0)))
            (cond a (fresh_body bytes)
            (cond b (request_body bytes) (cond c body.File (cond d (cancel_body bytes) (cond e (close_body bytes) (removal_body bytes))))))
        go true b c d e = fresh-most _
        go false true c d e = request-most
        go false false true d e = file-most
        go false false false true e = cancel-most
        go false false false false true = close-most
        go false false false false false = removal-most

-- ---- what all of them write
-- an entry that is after_entry has its frame
frame-whole : (seen : ℕ) (s : List ℕ) (b : Body) (n : ℕ) → head_of seen s ≡ Whole b n → frame_of s ≡ Some (record { tag = tag_in s; length = length_in s })
unfolding frame_of
frame-whole seen s b n e =
    let w = whole_is seen s b n e in
    rw (w.good, le-leb (length_in s + 3) (length s) (omega (arith, w.bytes, w.inside)))

most-by : (fuel seen : ℕ) (k : Book) (s : List ℕ) → ((j : Book) (t : List ℕ) → length (notices_of j (parse_up_to fuel (seen + 1) t).entries) ≤ most_up_to fuel t)
    → (h : Head) → head_of seen s ≡ h
    → length (notices_of k (on_head h s (λ n. parse_up_to fuel (seen + 1) (drop n s))).entries) ≤ most_on (frame_of s) (λ n. most_up_to fuel (drop n s))
unfolding notices_of
most-by fuel seen k s ih Cut e = omega arith
most-by fuel seen k s ih Bad e = omega arith
most-by fuel seen k s ih (Whole b n) e =
    let bytes = part s 3 (n - 3) in
    let j = after_entry b bytes k in
    let es = (parse_up_to fuel (seen + 1) (drop n s)).entries in
    let m : length_in s + 3 ≡ n = sym (whole_is seen s b n e).bytes in
    let l : length bytes ≡ length_in s = omega (arith, whole-bytes seen s b n e, m) in
    let x : length (written_by (outcomes k (call_of b bytes))) ≤ most_of (tag_in s) (length_in s) =
    rw (← l, whole-holds seen s b n e) (body-most k bytes (tag_in s))
    in
    rw (frame-whole seen s b n e, m)
    (omega (arith, x, ih j (drop n s), length-append (written_by (outcomes k (call_of b bytes))) (notices_of j es)))

notices-most : (fuel seen : ℕ) (k : Book) (s : List ℕ) → length (notices_of k (parse_up_to fuel seen s).entries) ≤ most_up_to fuel s
unfolding parse_up_to most_up_to notices_of
notices-most zero seen k s = omega arith
notices-most (suc fuel) seen k s = most-by fuel seen k s (λ j t. notices-most fuel (seen + 1) j t) (head_of seen s) refl

-- the BRN file of a journal is no longer than its entries' tags and lengths allow
pub brn-within : (s : List ℕ) → length (brn_of s) ≤ most_in s
unfolding brn_of parse most_in
brn-within s = notices-most (length s) 0 first_book s

-- ---- the walk
frame-some : (t : Bool) (g f : Frame) → cond t (Some g) None ≡ Some f → (t ≡ true) × (g ≡ f)
frame-some true g f e = (refl, cc)
frame-some false g f e = let z : ◌≡◌ {A = ℕ} 0 1 = cc in absurd (omega arith)

pub frame-fits : (s : List ℕ) (f : Frame) → frame_of s ≡ Some f → f.length + 3 ≤ length s
unfolding frame_of
frame-fits s f e =
    let x = frame-some (good_length (tag_in s) (length_in s) && leb (length_in s + 3) (length s)) _ f e in
    omega (arith, ap (λ (g : Frame). g.length) x.1, leb-true (length_in s + 3) (length s) (and_both (good_length (tag_in s) (length_in s)) _ x.0).1)

-- behind an entry there are fewer bytes
pub shorter : (s : List ℕ) (f : Frame) (k : ℕ) → frame_of s ≡ Some f → length (take k (drop (f.length + 3) s)) < length s
shorter s f k e = omega (arith, frame-fits s f e, length-take k (drop (f.length + 3) s), length-drop (f.length + 3) s)

-- what holds before each entry: of the room, what the entries before it may take is gone
pub record Walking (src : List ℕ) (room : ℕ) (rest : List ℕ) (left : ℕ) : Type 0 where
  pub within : length rest ≤ length src
  -- entries that may still come
  pub fuel : ℕ
  pub enough : length rest ≤ fuel
  pub sum : most_in src + left ≡ room + most_up_to fuel rest

pub walking_start : (src : List ℕ) (room : ℕ) → Walking src room src room
unfolding most_in
walking_start src room = record { within = omega arith; fuel = length src; enough = omega arith; sum = omega arith }

none_left : (fuel : ℕ) (s : List ℕ) → frame_of s ≡ None → most_up_to fuel s ≡ 0
unfolding most_up_to
none_left zero s e = refl
none_left (suc f) s e = rw e

-- by the frame that is read
module _ (src : List ℕ) (room : ℕ) (rest : List ℕ) (left : ℕ) (w : Walking src room rest left) where
  pub has_room : frame_of rest ≡ None → true ≡ leb (most_in src) room
  has_room e = sym (le-leb (most_in src) room (omega (arith, w.sum, none_left w.fuel rest e)))

  module _ (f : Frame) (e : frame_of rest ≡ Some f) where
    abbrev n : ℕ
    n = f.length

    -- one of the entries that may come is this one
    abbrev Next : ℕ → Type 0
    Next fuel = (m : ℕ) × (fuel ≡ suc m) × (most_up_to fuel rest ≡ most_of f.tag n + most_up_to m (drop (n + 3) rest))

    next : (fuel : ℕ) → length rest ≤ fuel → Next fuel
    unfolding most_up_to
    next zero h = absurd (omega (arith, frame-fits rest f e))
    next (suc m) h = (m, refl, rw e)

    pub no_room : left < most_of f.tag n → false ≡ leb (most_in src) room
    no_room h = sym (lt-leb (most_in src) room (omega (arith, w.sum, (next w.fuel w.enough).2)))

    -- the bytes behind it, of which the code takes as many as there are
    pub walking_on : most_of f.tag n ≤ left → (k : ℕ) → length rest ≤ k + (n + 3)
        → Walking src room (take k (drop (n + 3) rest)) (left - most_of f.tag n)
    walking_on h k all =
        let x = next w.fuel w.enough in
        rw (take_all k (drop (n + 3) rest) (omega (arith, length-drop (n + 3) rest)))
        (record {
          within = omega (arith, w.within, length-drop (n + 3) rest);
          fuel = x.0;
          enough = omega (arith, x.1, w.enough, length-drop (n + 3) rest);
          sum = omega (arith, x.2, w.sum);
        })
