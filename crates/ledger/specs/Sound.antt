-- "A ledger is sound if every field is in its width and range, dates are dates, the count of requests is from 1 to the sequence (at most
-- 999), no identity stands twice, amounts fit the product, a cancelled bill has none, and applied plus owed is the charge."
-- Assumes nothing.
use Rattle.std.specs.Prelude.{ℕ, ◌+◌, Bool, true, not, ◌&&◌, List, [], ◌∷◌, leb, eqb, length, Option, Some, None}
use Rattle.fields.specs.Digits.{fits}
use Rattle.units.specs.declared.Cents.{Cents}
use Rattle.units.specs.Units.{fits_cents, fits_ccf}
use Rattle.units.specs.Calendar.{is_date}
use Rattle.ledger.specs.declared.Identity.{Identity}
use Rattle.ledger.specs.declared.Posted.{Posted}
use Rattle.ledger.specs.declared.Posted.TheVariants as posted
use Rattle.ledger.specs.declared.Terms.{Terms}
use Rattle.ledger.specs.declared.Bill.{Bill}
use Rattle.ledger.specs.declared.Ledger.{Ledger}
use Rattle.rules.specs.Lists.{all, every, has}
use Rattle.ledger.specs.Bills.{is_rate_code, code_bytes, is_prepay}
use Rattle.ledger.specs.Books.{Book, book, of_id}
use Rattle.ledger.specs.Limits.{ledger_places, last_sequence, last_number, used_up}
use Rattle.units.specs.declared.Date.{Date}

-- a next number: "1 to 999,999,999; 1,000,000,000 when used up"
abbrev pub is_next : ℕ → Bool
is_next n = leb 1 n && leb n used_up

-- "dates are dates": the removal date of paper 2 of document 02, if it is not empty
abbrev pub sound_removal : Option Date → Bool
sound_removal None = true
sound_removal (Some d) = is_date d.0

-- a bill's fields but its posted amounts: widths, ranges and dates
unfoldable pub terms_tests : Terms → List Bool
terms_tests t =
    fits 12 t.identity.account
    ∷ fits 4 t.identity.key
    ∷ is_rate_code (code_bytes t.code)
    ∷ leb 1 t.requests
    ∷ leb t.requests t.sequence
    ∷ leb t.sequence last_sequence
    ∷ leb 1 t.latest.tracking
    ∷ leb t.latest.tracking last_number
    ∷ fits_ccf t.latest.consumption
    ∷ is_date t.latest.billing.0
    ∷ is_date t.latest.from.0
    ∷ is_date t.latest.scheduled.0
    ∷ sound_removal t.removal
    ∷ []

abbrev pub sound_terms : Terms → Bool
sound_terms t = all (terms_tests t)

-- "applied plus owed is the charge", each in its width
unfoldable pub balanced : Cents → Cents → Cents → Bool
balanced charge applied owed = fits_cents charge && fits_cents applied && fits_cents owed && eqb (applied.0 + owed.0) charge.0

-- "amounts fit the product, a cancelled bill has none"
unfoldable pub sound_amounts : Terms → Posted → Bool
sound_amounts t posted.None = true
sound_amounts t (posted.BillReady charge) = not t.cancelled && not (is_prepay t.product) && fits_cents charge
sound_amounts t (posted.Prepay charge applied owed) = not t.cancelled && is_prepay t.product && balanced charge applied owed

unfoldable pub sound_bill : Bill → Bool
sound_bill b = sound_terms b.terms && sound_amounts b.terms b.posted

-- a bill among these has this identity
abbrev pub holds_id : Identity → List Bill → Bool
holds_id id bs = has (of_id id) bs

-- "no identity stands twice"
unfoldable pub distinct : List Bill → Bool
distinct [] = true
distinct (b ∷ bs) = not (holds_id b.terms.identity bs) && distinct bs

unfoldable pub book_tests : Book → List Bool
book_tests l =
    is_date l.today.0
    ∷ is_next l.tracking
    ∷ is_next l.confirmation
    ∷ leb (length l.bills) ledger_places
    ∷ every sound_bill l.bills
    ∷ distinct l.bills
    ∷ []

abbrev pub sound : Book → Bool
sound l = all (book_tests l)

-- a struct is sound if its count is in range and its book is sound; the places past the count play no part
unfoldable pub sound_ledger : Ledger → Bool
sound_ledger l = leb l.count ledger_places && sound (book l)
