-- Laws of what a journal's entries make: the first is a fresh that is taken, and the others are calls. Assumes nothing.
use Prim.Native.Nat.{ℕ, zero, suc, ◌+◌, ◌-◌, ◌≤◌}
use mathlib.Core.Path.{◌≡◌, refl, sym, ap, subst, ◌∙◌}
use mathlib.Core.Bool.{Bool, true, false, cond, not, ◌&&◌, false≢true}
use mathlib.Core.List.{List, [], ◌∷◌, ◌++◌}
use native.Mathlib.Omega.{arith}
use lib.Dec.{eqb}
use lib.ListN.{length, drop}
use borrow.Author.Tests.{ne_eqb}
use Rattle.fields.proofs.BoolLaws.{cases}
use Rattle.fields.specs.Put.{part}
use Rattle.ledger.specs.Books.{Book}
use Rattle.rules.specs.Rules.{first}
use Rattle.units.specs.declared.Date.{Date}
use Rattle.ledger.specs.declared.Identity.{Identity}
use Rattle.causes.specs.declared.Start.{Start}
use Rattle.causes.specs.declared.Request.{Request}
use Rattle.causes.specs.declared.AccountRemoval.{AccountRemoval}
use Rattle.causes.specs.Causes.{Call, fresh_causes}
use Rattle.calls.specs.Machine.{step, fresh, after}
use Rattle.journal.specs.declared.Body.{Body}
use Rattle.journal.specs.declared.Body.TheVariants as body
use Rattle.journal.specs.declared.Head.{Head}
use Rattle.journal.specs.declared.Head.TheVariants.{Cut, Bad, Whole}
use Rattle.journal.specs.Entries.{digits_in, request_body, cancel_body, close_body, removal_body, body_of, fresh_taken, head_of}
use Rattle.journal.specs.Journal.{Entry, Parsed, on_head, parse_up_to, parse, call_of, calls_of, after_entry, after_entries, first_book, journal_ledger}
use Rattle.journal.proofs.HeadLaws.{tag_in, length_in, WholeAt, whole_is}
use Rattle.journal.proofs.MadeLaws.{Taken}
use Rattle.journal.proofs.JournalLaws.{parse-cut, parse-bad, parse-whole}
use Rattle.std.specs.Prelude.{Result, Ok, Err, ⊤}
use Rattle.rules.specs.declared.Cause.{Cause}

-- ---- lists of entries and of calls, one behind the other
pub makes-append : (k : Book) (es fs : List Entry) → after_entries k (es ++ fs) ≡ after_entries (after_entries k es) fs
unfolding after_entries
makes-append k [] fs = refl
makes-append k (e ∷ es) fs = makes-append (after_entry e.body e.bytes k) es fs

pub after-append : (k : Book) (cs ds : List Call) → after k (cs ++ ds) ≡ after (after k cs) ds
unfolding after
after-append k [] ds = refl
after-append k (c ∷ cs) ds = after-append (step k c).ledger cs ds

-- ---- entries after the first
pub data NoFresh : Body → Type 0 where
  request : (r : Request) → NoFresh (body.Request r)
  file : NoFresh body.File
  cancel : (id : Identity) → NoFresh (body.Cancel id)
  close : (d : Date) → NoFresh (body.Close d)
  removal : (a : AccountRemoval) → NoFresh (body.Removal a)
  unread : NoFresh body.Unread

abbrev pub NoneFresh : List Entry → Type 0
NoneFresh [] = Unit
NoneFresh (e ∷ es) = NoFresh e.body × NoneFresh es

by_cond : (t : Bool) (a b : Body) → NoFresh a → NoFresh b → NoFresh (cond t a b)
by_cond true a b h k = h
by_cond false a b h k = k

request-none : (s : List ℕ) → NoFresh (request_body s)
unfolding request_body
request-none s =
    by_cond (digits_in s 6 17 && digits_in s 18 21 && digits_in s 23 30 && digits_in s 31 38 && digits_in s 39 48 && digits_in s 49 56) _ _
    (request _) unread

cancel-none : (s : List ℕ) → NoFresh (cancel_body s)
unfolding cancel_body
cancel-none s = by_cond (digits_in s 1 12 && digits_in s 13 16) _ _ (cancel _) unread

close-none : (s : List ℕ) → NoFresh (close_body s)
unfolding close_body
close-none s = by_cond (digits_in s 1 8) _ _ (close _) unread

removal-none : (s : List ℕ) → NoFresh (removal_body s)
unfolding removal_body
removal-none s = by_cond (digits_in s 1 12 && digits_in s 13 20) _ _ (removal _) unread

-- a body under another tag is no fresh
body-none : (tag : ℕ) (s : List ℕ) → eqb tag 0 ≡ false → NoFresh (body_of tag s)
unfolding body_of
body-none tag s e =
    rw e
    (by_cond (eqb tag 1) _ _ (request-none s)
    (by_cond (eqb tag 2) _ _ file
    (by_cond (eqb tag 3) _ _ (cancel-none s)
    (by_cond (eqb tag 4) _ _ (close-none s) (removal-none s)))))

-- tag 0 stands first and nowhere else
turn-later : (t u : Bool) → t ≡ false → cond t u (not u) ≡ true → u ≡ false
turn-later t true e h = absurd (false≢true (rw e at h))
turn-later t false e h = refl

later-none : (seen : ℕ) (s : List ℕ) (b : Body) (n : ℕ) → 1 ≤ seen → head_of seen s ≡ Whole b n → NoFresh b
later-none seen s b n h e =
    let w = whole_is seen s b n e in
    let z : eqb seen 0 ≡ false = ne_eqb seen 0 (λ k. omega arith) in
    subst NoFresh (sym w.body) (body-none (tag_in s) (part s 3 (length_in s)) (turn-later (eqb seen 0) (eqb (tag_in s) 0) z w.turn))

none-by : (f seen : ℕ) (s : List ℕ) → 1 ≤ seen → ((k : ℕ) (t : List ℕ) → 1 ≤ k → NoneFresh (parse_up_to f k t).entries)
    → (h : Head) → head_of seen s ≡ h → NoneFresh (on_head h s (λ n. parse_up_to f (seen + 1) (drop n s))).entries
none-by f seen s l ih Cut e = tt
none-by f seen s l ih Bad e = tt
none-by f seen s l ih (Whole b n) e = (later-none seen s b n l e, ih (seen + 1) (drop n s) (omega arith))

none-fuel : (f seen : ℕ) (s : List ℕ) → 1 ≤ seen → NoneFresh (parse_up_to f seen s).entries
unfolding parse_up_to
none-fuel zero seen s l = tt
none-fuel (suc f) seen s l = none-by f seen s l (λ k t h. none-fuel f k t h) (head_of seen s) refl

-- entries that come after others are no fresh
pub parse-none : (seen : ℕ) (s : List ℕ) → 1 ≤ seen → NoneFresh (parse seen s).entries
unfolding parse
parse-none seen s l = none-fuel (length s) seen s l

-- ---- they make their calls
made_after : (b : Body) (bytes : List ℕ) (k : Book) → NoFresh b → after_entry b bytes k ≡ after k (call_of b bytes)
unfolding after
made_after b bytes k (request r) = refl
made_after b bytes k file = refl
made_after b bytes k (cancel id) = refl
made_after b bytes k (close d) = refl
made_after b bytes k (removal a) = refl
made_after b bytes k unread = refl

pub makes-after : (k : Book) (es : List Entry) → NoneFresh es → after_entries k es ≡ after k (calls_of es)
unfolding after_entries after
makes-after k [] h = refl
makes-after k (e ∷ es) h =
    ap (λ (j : Book). after_entries j es) (made_after e.body e.bytes k h.0)
    ∙ makes-after (after k (call_of e.body e.bytes)) es h.1
    ∙ sym (after-append k (call_of e.body e.bytes) (calls_of es))

-- ---- how a journal begins: no entry is whole, or the first is a fresh that is taken; then the ledger is that of the calls after it
pub data Begins (s : List ℕ) : Type 0 where
  nothing : (parse 0 s).entries ≡ [] → Begins s
  begins : (start : Start) (bytes : List ℕ) (es : List Entry) → first (fresh_causes start) ≡ Ok tt
      → (parse 0 s).entries ≡ record { body = body.Fresh start; bytes = bytes } ∷ es
      → journal_ledger s ≡ after (fresh start) (calls_of es)
      → Begins s

-- a fresh that is taken
data Starts (b : Body) : Type 0 where
  starts : (start : Start) → first (fresh_causes start) ≡ Ok tt → b ≡ body.Fresh start → Starts b

starts_by : (b : Body) → fresh_taken b ≡ true → Starts b
starts_by (body.Fresh s) h = go (first (fresh_causes s)) refl
  where
    go : (c : Result ⊤ Cause) → first (fresh_causes s) ≡ c → Starts (body.Fresh s)
    go (Ok tt) e = starts s e refl
    go (Err n) e = absurd (false≢true (rw e at h))
starts_by (body.Request r) h = absurd (false≢true h)
starts_by body.File h = absurd (false≢true h)
starts_by (body.Cancel id) h = absurd (false≢true h)
starts_by (body.Close d) h = absurd (false≢true h)
starts_by (body.Removal a) h = absurd (false≢true h)
starts_by body.Unread h = absurd (false≢true h)

-- a body that is no fresh, or a fresh that is taken, is taken
none-taken : (b : Body) → NoFresh b → Taken b
none-taken b (request r) = tt
none-taken b file = tt
none-taken b (cancel id) = tt
none-taken b (close d) = tt
none-taken b (removal a) = tt
none-taken b unread = tt

starts-taken : (b : Body) → Starts b → Taken b
starts-taken b (starts s c e) = subst Taken (sym e) c

-- the body of a whole entry is taken
pub whole-taken : (seen : ℕ) (s : List ℕ) (b : Body) (n : ℕ) → head_of seen s ≡ Whole b n → Taken b
whole-taken seen s b n e =
    let w = whole_is seen s b n e in
    cases (eqb (tag_in s) 0) (λ z. starts-taken b (starts_by b (w.taken z)))
    (λ z. none-taken b (subst NoFresh (sym w.body) (body-none (tag_in s) (part s 3 (length_in s)) z)))

ledger-by : (s : List ℕ) (start : Start) (bytes : List ℕ) (es : List Entry)
    → (parse 0 s).entries ≡ record { body = body.Fresh start; bytes = bytes } ∷ es → NoneFresh es
    → journal_ledger s ≡ after (fresh start) (calls_of es)
unfolding journal_ledger after_entries
ledger-by s start bytes es e h = ap (after_entries first_book) e ∙ makes-after (fresh start) es h

pub journal-begins : (s : List ℕ) → Begins s
journal-begins s = go (head_of 0 s) refl
  where
    go : (h : Head) → head_of 0 s ≡ h → Begins s
    go Cut e = nothing (ap (λ (p : Parsed). p.entries) (parse-cut 0 s e))
    go Bad e = nothing (ap (λ (p : Parsed). p.entries) (parse-bad 0 s e))
    go (Whole b n) e = from (starts_by b (w.taken w.turn))
      where
        w : WholeAt 0 s b n
        w = whole_is 0 s b n e

        from : Starts b → Begins s
        from (starts start c k) =
            let es = (parse 1 (drop n s)).entries in
            let x = part s 3 (n - 3) in
            let h : (parse 0 s).entries ≡ record { body = body.Fresh start; bytes = x } ∷ es =
            ap (λ (p : Parsed). p.entries) (parse-whole 0 s b n e) ∙ ap (λ (y : Body). record { body = y; bytes = x } ∷ es) k in
            begins start x es c h (ledger-by s start x es h (parse-none 1 (drop n s) (omega arith)))
