-- A journal: the entries that it holds, the calls that they make, and how it ends. Assumes nothing.
use Rattle.std.specs.Prelude.{ℕ, zero, suc, ◌+◌, ◌-◌, ◌≡◌, Bool, true, false, cond, not, ◌&&◌, ◌||◌, List, [], ◌∷◌, ◌++◌, eqb, ltb, length, drop}
use Rattle.fields.specs.Put.{part}
use Rattle.ledger.specs.Books.{Book}
use Rattle.causes.specs.Causes.{Call, request, file, cancel, close, removal}
use Rattle.calls.specs.Machine.{fresh, after}
use Rattle.journal.specs.declared.Body.{Body}
use Rattle.journal.specs.declared.Body.TheVariants as body
use Rattle.journal.specs.declared.Head.{Head}
use Rattle.journal.specs.declared.Head.TheVariants.{Cut, Bad, Whole}
use Rattle.journal.specs.Entries.{head_of, head_number}
use Rattle.records.specs.Limits.{file_size}

-- an entry: what its body holds, and the body's bytes
pub record Entry : Type 0 where
  pub body : Body
  pub bytes : List ℕ

-- the whole entries at the start of some bytes, whether a bad one follows, and the bytes that are left
pub record Parsed : Type 0 where
  pub entries : List Entry
  pub stopped : Bool
  pub rest : List ℕ

abbrev pub more : Entry → Parsed → Parsed
more e p = record { entries = e ∷ p.entries; stopped = p.stopped; rest = p.rest }

-- by what stands at the start of s; next reads on after an entry of so many bytes
abbrev pub on_head : Head → List ℕ → (ℕ → Parsed) → Parsed
on_head Cut s next = record { entries = []; stopped = false; rest = s }
on_head Bad s next = record { entries = []; stopped = true; rest = s }
on_head (Whole b n) s next = more (record { body = b; bytes = part s 3 (n - 3) }) (next n)

-- at most so many entries, where seen came before
unfoldable pub parse_up_to : ℕ → ℕ → List ℕ → Parsed
parse_up_to zero seen s = record { entries = []; stopped = false; rest = s }
parse_up_to (suc fuel) seen s = on_head (head_of seen s) s (λ n. parse_up_to fuel (seen + 1) (drop n s))

-- all of them: each has a byte at least, so there are no more entries than bytes
unfoldable pub parse : ℕ → List ℕ → Parsed
parse seen s = parse_up_to (length s) seen s

-- ---- what the entries make
-- "Each call's output there is 64,200 bytes": the call of an entry; "A refused call is passed over", and so is one that can't be read
abbrev pub call_of : Body → List ℕ → List Call
call_of (body.Fresh s) bytes = []
call_of (body.Request r) bytes = request r file_size ∷ []
call_of body.File bytes = file bytes file_size ∷ []
call_of (body.Cancel id) bytes = cancel id file_size ∷ []
call_of (body.Close d) bytes = close d ∷ []
call_of (body.Removal a) bytes = removal a ∷ []
call_of body.Unread bytes = []

abbrev pub calls_of : List Entry → List Call
calls_of [] = []
calls_of (e ∷ es) = call_of e.body e.bytes ++ calls_of es

-- the ledger that an entry leaves
abbrev pub after_entry : Body → List ℕ → Book → Book
after_entry (body.Fresh s) bytes k = fresh s
after_entry (body.Request r) bytes k = after k (call_of (body.Request r) bytes)
after_entry body.File bytes k = after k (call_of body.File bytes)
after_entry (body.Cancel id) bytes k = after k (call_of (body.Cancel id) bytes)
after_entry (body.Close d) bytes k = after k (call_of (body.Close d) bytes)
after_entry (body.Removal a) bytes k = after k (call_of (body.Removal a) bytes)
after_entry body.Unread bytes k = k

unfoldable pub after_entries : Book → List Entry → Book
after_entries k [] = k
after_entries k (e ∷ es) = after_entries (after_entry e.body e.bytes k) es

-- "A bad entry stops it"; bytes that are left are an entry cut short; "An empty journal .. counts as a bad entry"
unfoldable pub ends_bad : Bool → ℕ → ℕ → Bool
ends_bad stopped left seen = stopped || ltb 0 left || eqb seen 0

-- before the first entry there is no bill
abbrev pub first_book : Book
first_book = fresh (record { today = record { 0 = 19000101 }; tracking = 1; confirmation = 1 })

-- the ledger that a journal leaves, and whether it ends bad
unfoldable pub journal_ledger : List ℕ → Book
journal_ledger s = after_entries first_book (parse 0 s).entries

unfoldable pub is_bad : List ℕ → Bool
is_bad s = ends_bad (parse 0 s).stopped (length (parse 0 s).rest) (length (parse 0 s).entries)

-- document 01's number for how a journal ended: 13 where it ended bad
abbrev pub end_number : Bool → ℕ
end_number bad = cond bad 13 0

-- where the reading of a journal stops no whole entry stands (13), and it ended bad but where no byte is left after one entry at least
pub record Stops (s : List ℕ) : Type 0 where
  pub left : head_number (head_of (length (parse 0 s).entries) (parse 0 s).rest) ≡ 13
  pub bad : is_bad s ≡ not (eqb (length (parse 0 s).rest) 0 && ltb 0 (length (parse 0 s).entries))
