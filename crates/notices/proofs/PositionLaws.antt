-- BIL and CXL hold at each position what document 01 says. Assumes nothing.
use mathlib.Core.Path.{◌≡◌, refl, sym, ap, ◌∙◌}
use mathlib.Core.List.{List, [], ◌∷◌}
use Prim.Native.Nat.{ℕ, ◌-◌, ◌≤◌, ◌<◌}
use native.Mathlib.Omega.{arith}
use native.Mathlib.Nat.{add-zero}
use lib.ListN.{length, get_or}
use Rattle.fields.specs.Text.{text}
use Rattle.fields.specs.Digits.{digits}
use Rattle.fields.specs.Put.{part, filled}
use Rattle.fields.proofs.ChainLaws.{chain, Widths, start}
use Rattle.fields.proofs.DigitLaws.{length_digits}
use Rattle.fields.proofs.PutLaws.{length-filled, part_left, part_at, part-whole, part-part}
use Rattle.units.specs.declared.Date.{Date}
use Rattle.ledger.specs.Bills.{code_bytes, charge_of, is_prepay}
use Rattle.records.specs.Layout.{record_at}
use Rattle.records.proofs.FieldLaws.{field_at}
use Rattle.notices.specs.declared.Alike.{Alike}
use Rattle.notices.specs.declared.bil.Bil.{Bil}
use Rattle.notices.specs.declared.cxl.Cxl.{Cxl}
use Rattle.notices.specs.Notices.{spaces, zeros, spaces_from, alike_fields, header, detail_to_key, bil_alike, bil_header, bil_to_tiers, product_fill, bil_to_owed, bil_detail, bil, cxl_alike, cxl_header, cxl_detail, cxl}
use Rattle.notices.specs.Positions.{AlikeAt, OwnAt, SpacesFromAt, HeaderAt, BilDetailAt, BilAt, CxlDetailAt, CxlAt}
use Rattle.notices.proofs.NoticeLengths.{length-spaces-from, length-bil-header, length-bil-detail, length-bil, length-cxl-header, length-cxl-detail, length-cxl}

-- ---- the spaces that end a record, and its byte 13
pub spaces-at : (r : List ℕ) (a : ℕ) → 1 ≤ a → a ≤ 321 → part r (a - 1) (322 - a) ≡ spaces_from a → SpacesFromAt a r
unfolding spaces_from
spaces-at r a h k e =
    let n = length-filled (321 - a) 32 in
    record {
      blank =
          ap (λ (j : ℕ). part r j (321 - a)) (sym (add-zero (a - 1)))
          ∙ sym (part-part r (a - 1) (322 - a) 0 (321 - a) (omega arith))
          ∙ ap (λ (l : List ℕ). part l 0 (321 - a)) e
          ∙ part_left (spaces (321 - a)) (13 ∷ []) 0 (321 - a) (omega arith)
          ∙ part-whole (spaces (321 - a)) (321 - a) n;
      end =
          ap (λ (j : ℕ). part r j 1) (omega arith)
          ∙ sym (part-part r (a - 1) (322 - a) (321 - a) 1 (omega arith))
          ∙ ap (λ (l : List ℕ). part l (321 - a) 1) e
          ∙ part_at (spaces (321 - a)) (13 ∷ []) (321 - a) 1 n refl;
    }

-- ---- a record: positions 1 to 41, and then the fields of rest, whose widths are ws
abbrev pub alike_then : List ℕ → List ℕ → List ℕ → List ℕ → List ℕ → Date → List (List ℕ) → List (List ℕ)
alike_then code number id record_type name today rest = code ∷ number ∷ id ∷ record_type ∷ name ∷ digits 8 today.0 ∷ rest

abbrev pub widths_then : List ℕ → List ℕ
widths_then ws = 2 ∷ 5 ∷ 12 ∷ 9 ∷ 2 ∷ 3 ∷ 8 ∷ ws

module _ (firm code number id record_type name : List ℕ) (today : Date) (rest : List (List ℕ)) (ws : List ℕ)
    (wide : Widths (firm ∷ alike_then code number id record_type name today rest) (widths_then ws)) where
  pub alike_at : AlikeAt firm code number id record_type name today (chain firm (alike_then code number id record_type name today rest))
  alike_at =
      let field = field_at firm (alike_then code number id record_type name today rest) (widths_then ws) wide in
      record {
        company = field 0 (omega arith);
        rate_code = field 1 (omega arith);
        account = field 2 (omega arith);
        tracking = field 3 (omega arith);
        type = field 4 (omega arith);
        notice = field 5 (omega arith);
        transmission = field 6 (omega arith);
      }

-- a record of our own
module _ (l : Alike) (record_type name : List ℕ) (two : length record_type ≡ 2) (three : length name ≡ 3) (rest : List (List ℕ)) (ws : List ℕ) (wide : Widths rest ws) where
  abbrev own_then : List (List ℕ)
  own_then = alike_then (code_bytes l.code) (digits 12 l.account) (digits 9 l.tracking) record_type name l.today rest

  own-wide : Widths (text "34" ∷ own_then) (widths_then ws)
  own-wide = (refl, (refl, (length_digits 12 _, (length_digits 9 _, (two, (three, (length_digits 8 _, wide)))))))

  own-field : (k : ℕ) → k < length (widths_then ws) → part (chain (text "34") own_then) (start (widths_then ws) k) (get_or (widths_then ws) k 0) ≡ get_or (text "34" ∷ own_then) k []
  own-field k h = field_at (text "34") own_then (widths_then ws) own-wide k h

  own_at : OwnAt l record_type name (chain (text "34") own_then)
  own_at = alike_at (text "34") _ _ _ record_type name l.today rest ws own-wide

module _ (l : Alike) (name : List ℕ) (three : length name ≡ 3) (number date : ℕ) where
  abbrev header_rest : List (List ℕ)
  header_rest = digits 9 number ∷ digits 8 date ∷ text "01" ∷ spaces_from 61 ∷ []

  abbrev header_widths : List ℕ
  header_widths = 9 ∷ 8 ∷ 2 ∷ 261 ∷ []

  header-wide : Widths header_rest header_widths
  header-wide = (length_digits 9 _, (length_digits 8 _, (refl, (length-spaces-from 61, tt))))

  pub header_at : HeaderAt l name number date (header l name number date)
  unfolding header alike_fields
  header_at =
      let field = own-field l (text "01") name refl three header_rest header_widths header-wide in
      record {
        alike = own_at l (text "01") name refl three header_rest header_widths header-wide;
        confirmation = field 7 (omega arith);
        scheduled = field 8 (omega arith);
        record_count = field 9 (omega arith);
        rest = spaces-at _ 61 (omega arith) (omega arith) (field 10 (omega arith));
      }

-- ---- BIL
module _ (b : Bil) where
  abbrev bil_rest : List (List ℕ)
  bil_rest =
      digits 4 b.bill.terms.identity.key
      ∷ digits 8 b.bill.terms.latest.billing.0
      ∷ digits 3 b.bill.terms.sequence
      ∷ digits 10 b.bill.terms.latest.consumption.0
      ∷ zeros 13
      ∷ digits 8 b.bill.terms.latest.from.0
      ∷ zeros 120
      ∷ digits 3 b.bill.terms.requests
      ∷ digits 10 b.previous.0
      ∷ digits 13 (charge_of b.bill.posted).0
      ∷ filled 26 (product_fill (is_prepay b.bill.terms.product))
      ∷ spaces_from 260
      ∷ []

  abbrev bil_widths : List ℕ
  bil_widths = 4 ∷ 8 ∷ 3 ∷ 10 ∷ 13 ∷ 8 ∷ 120 ∷ 3 ∷ 10 ∷ 13 ∷ 26 ∷ 62 ∷ []

  bil-wide : Widths bil_rest bil_widths
  bil-wide = (
    length_digits 4 _,
    (
      length_digits 8 _,
      (
        length_digits 3 _,
        (
          length_digits 10 _,
          (
            length-filled 13 48,
            (
              length_digits 8 _,
              (
                length-filled 120 48,
                (length_digits 3 _, (length_digits 10 _, (length_digits 13 _, (length-filled 26 _, (length-spaces-from 260, tt))))),
              ),
            ),
          ),
        ),
      ),
    ),
  )

  pub bil-detail-at : BilDetailAt b (bil_detail b)
  unfolding bil_detail bil_to_owed bil_to_tiers detail_to_key alike_fields
  bil-detail-at =
      let field = own-field (bil_alike b) (text "02") (text "BIL") refl refl bil_rest bil_widths bil-wide in
      record {
        alike = own_at (bil_alike b) (text "02") (text "BIL") refl refl bil_rest bil_widths bil-wide;
        key = field 7 (omega arith);
        billing = field 8 (omega arith);
        sequence = field 9 (omega arith);
        consumption = field 10 (omega arith);
        charge = field 11 (omega arith);
        from = field 12 (omega arith);
        tiers = field 13 (omega arith);
        previous_sequence = field 14 (omega arith);
        previous_consumption = field 15 (omega arith);
        previous_charge = field 16 (omega arith);
        applied_and_owed = field 17 (omega arith);
        rest = spaces-at _ 260 (omega arith) (omega arith) (field 18 (omega arith));
      }

  pub bil-header-at : HeaderAt (bil_alike b) (text "BIL") b.confirmation b.bill.terms.latest.scheduled.0 (bil_header b)
  unfolding bil_header
  bil-header-at = header_at (bil_alike b) (text "BIL") refl b.confirmation b.bill.terms.latest.scheduled.0

  -- the two records of a BIL
  pub bil-first : record_at (bil b) 0 ≡ bil_header b
  unfolding bil
  bil-first = part_left (bil_header b) (bil_detail b) 0 321 (omega (arith, length-bil-header b)) ∙ part-whole (bil_header b) 321 (length-bil-header b)

  pub bil-second : record_at (bil b) 1 ≡ bil_detail b
  unfolding bil
  bil-second = part_at (bil_header b) (bil_detail b) 321 321 (length-bil-header b) (length-bil-detail b)

  pub bil-at : BilAt b (bil b)
  bil-at = record { long = length-bil b; header = rw bil-first bil-header-at; detail = rw bil-second bil-detail-at }

-- ---- CXL
module _ (x : Cxl) where
  abbrev cxl_rest : List (List ℕ)
  cxl_rest = digits 4 x.terms.identity.key ∷ spaces_from 46 ∷ []

  abbrev cxl_widths : List ℕ
  cxl_widths = 4 ∷ 276 ∷ []

  pub cxl-detail-at : CxlDetailAt x (cxl_detail x)
  unfolding cxl_detail detail_to_key alike_fields
  cxl-detail-at =
      let wide : Widths cxl_rest cxl_widths = (length_digits 4 _, (length-spaces-from 46, tt)) in
      let field = own-field (cxl_alike x) (text "02") (text "CXL") refl refl cxl_rest cxl_widths wide in
      record {
        alike = own_at (cxl_alike x) (text "02") (text "CXL") refl refl cxl_rest cxl_widths wide;
        key = field 7 (omega arith);
        rest = spaces-at _ 46 (omega arith) (omega arith) (field 8 (omega arith));
      }

  pub cxl-header-at : HeaderAt (cxl_alike x) (text "CXL") x.confirmation 0 (cxl_header x)
  unfolding cxl_header
  cxl-header-at = header_at (cxl_alike x) (text "CXL") refl x.confirmation 0

  pub cxl-at : CxlAt x (cxl x)
  unfolding cxl
  cxl-at =
      let first : record_at (cxl x) 0 ≡ cxl_header x =
      part_left (cxl_header x) (cxl_detail x) 0 321 (omega (arith, length-cxl-header x)) ∙ part-whole (cxl_header x) 321 (length-cxl-header x) in
      let second : record_at (cxl x) 1 ≡ cxl_detail x = part_at (cxl_header x) (cxl_detail x) 321 321 (length-cxl-header x) (length-cxl-detail x) in
      record { long = length-cxl x; header = rw first cxl-header-at; detail = rw second cxl-detail-at }
