-- ACF and REJ hold at each position what document 01 says. Assumes nothing.
use mathlib.Core.Path.{◌≡◌, refl, ap, ◌∙◌}
use mathlib.Core.Bool.{Bool}
use mathlib.Core.List.{List, [], ◌∷◌, ◌++◌, append_assoc}
use Prim.Native.Nat.{ℕ, zero, suc, ◌+◌, ◌*◌, ◌≤◌, ◌<◌}
use native.Mathlib.Omega.{arith}
use native.Mathlib.Nat.{not-suc-le-zero, le_of_suc-le-suc}
use lib.ListN.{length, take, drop, get_or, length-append}
use lib.Seq.{take-add, drop-drop}
use Rattle.fields.specs.Text.{text}
use Rattle.fields.specs.Digits.{digits}
use Rattle.fields.specs.Put.{part, positions}
use Rattle.fields.proofs.ChainLaws.{chain, Widths, start}
use Rattle.fields.proofs.DigitLaws.{length_digits}
use Rattle.fields.proofs.PutLaws.{part_left, part_right, part-whole}
use Rattle.units.specs.declared.Date.{Date}
use Rattle.records.specs.Layout.{record_at, company_in, rate_code_in, account_in, tracking_in, type_in, from_in, is_sup}
use Rattle.records.proofs.FieldLaws.{field_at}
use Rattle.notices.specs.declared.acf.Acf.{Acf}
use Rattle.notices.specs.declared.rej.Rej.{Rej}
use Rattle.notices.specs.Notices.{spaces_from}
use Rattle.notices.specs.Answers.{acf_tracking, acf_scheduled, acf_balance, acf_alike, acf, rej_alike, rej_header, from_back, rej_detail, rej_details, rej}
use Rattle.notices.specs.Positions.{SentAt, AcfAt, RejHeaderAt, RejDetailAt, RejAt}
use Rattle.notices.proofs.NoticeLengths.{length-spaces-from}
use Rattle.notices.proofs.AnswerLaws.{length-within, length-tracking, length-balance, length-acf, length-rej-header, length_from, length-rej-detail}
use Rattle.notices.proofs.PositionLaws.{spaces-at, alike_then, widths_then, alike_at}

-- a part is two parts, one after the other
part-add : (s : List ℕ) (i n m : ℕ) → part s i (n + m) ≡ part s i n ++ part s (i + n) m
unfolding part
part-add s i n m = take-add n m (drop i s) ∙ ap (λ (l : List ℕ). take n (drop i s) ++ take m l) (drop-drop n i s)

-- ---- a record of the sender's, with Notification Code and Transmission Date replaced, and then the fields of rest
-- positions 1 to 19 and 1 to 30 are their fields
sent-start : (s : List ℕ) → positions s 1 19 ≡ company_in s ++ rate_code_in s ++ account_in s
sent-start s = part-add s 0 7 12 ∙ ap (λ (l : List ℕ). l ++ account_in s) (part-add s 0 2 5)

sent-type : (s : List ℕ) → positions s 1 30 ≡ company_in s ++ rate_code_in s ++ account_in s ++ tracking_in s ++ type_in s
sent-type s =
    part-add s 0 28 2
    ∙ ap (λ (l : List ℕ). l ++ type_in s) (part-add s 0 19 9 ∙ ap (λ (l : List ℕ). l ++ tracking_in s) (sent-start s))

module _ (s : List ℕ) (whole : 321 ≤ length s) (id : List ℕ) (nine : length id ≡ 9) (name : List ℕ) (three : length name ≡ 3) (today : Date)
    (rest : List (List ℕ)) (ws : List ℕ) (wide : Widths rest ws) where
  abbrev sent_then : List (List ℕ)
  sent_then = alike_then (rate_code_in s) (account_in s) id (type_in s) name today rest

  sent-wide : Widths (company_in s ∷ sent_then) (widths_then ws)
  sent-wide = (
    length-within s whole 0 2 (omega arith),
    (
      length-within s whole 2 5 (omega arith),
      (
        length-within s whole 7 12 (omega arith),
        (nine, (length-within s whole 28 2 (omega arith), (three, (length_digits 8 _, wide)))),
      ),
    ),
  )

  sent-field : (k : ℕ) → k < length (widths_then ws)
      → part (chain (company_in s) sent_then) (start (widths_then ws) k) (get_or (widths_then ws) k 0) ≡ get_or (company_in s ∷ sent_then) k []
  sent-field k h = field_at (company_in s) sent_then (widths_then ws) sent-wide k h

  sent-at : SentAt s id name today (chain (company_in s) sent_then)
  sent-at = alike_at (company_in s) _ _ id _ name today rest ws sent-wide

-- ---- ACF
module _ (h : List ℕ) (a : Acf) (whole : 321 ≤ length h) where
  abbrev acf_rest : List (List ℕ)
  acf_rest = digits 9 a.confirmation ∷ digits 8 (acf_scheduled h a) ∷ text "00" ∷ acf_balance h a ∷ spaces_from 74 ∷ []

  abbrev acf_widths : List ℕ
  acf_widths = 9 ∷ 8 ∷ 2 ∷ 13 ∷ 248 ∷ []

  acf-wide : Widths acf_rest acf_widths
  acf-wide = (length_digits 9 _, (length_digits 8 _, (refl, (length-balance h whole a, (length-spaces-from 74, tt)))))

  pub acf-at : AcfAt h a (acf h a)
  unfolding acf acf_alike
  acf-at =
      let id = acf_tracking h a in
      let nine = length-tracking h whole a in
      let field = sent-field h whole id nine (text "ACF") refl a.today acf_rest acf_widths acf-wide in
      rw (sent-start h)
      (record {
        long = rw (sent-start h) at (length-acf h whole a);
        alike = sent-at h whole id nine (text "ACF") refl a.today acf_rest acf_widths acf-wide;
        confirmation = field 7 (omega arith);
        scheduled = field 8 (omega arith);
        record_count = field 9 (omega arith);
        balance = field 10 (omega arith);
        rest = spaces-at _ 74 (omega arith) (omega arith) (field 11 (omega arith));
      })

-- ---- REJ
module _ (r : List ℕ) (x : Rej) (whole : 321 ≤ length r) where
  abbrev rej_header_rest : List (List ℕ)
  rej_header_rest = digits 9 x.confirmation ∷ positions r 51 321 ∷ []

  pub rej-header-at : RejHeaderAt r x (rej_header r x)
  unfolding rej_header rej_alike
  rej-header-at =
      let nine = length-within r whole 19 9 (omega arith) in
      let wide : Widths rej_header_rest (9 ∷ 271 ∷ []) = (length_digits 9 _, (length-within r whole 50 271 (omega arith), tt)) in
      let field = sent-field r whole (tracking_in r) nine (text "REJ") refl x.today rej_header_rest (9 ∷ 271 ∷ []) wide in
      rw (sent-type r)
      (record {
        alike = sent-at r whole (tracking_in r) nine (text "REJ") refl x.today rej_header_rest (9 ∷ 271 ∷ []) wide;
        confirmation = field 7 (omega arith);
        from_scheduled = field 8 (omega arith);
      })

  module _ (sup : Bool) where
    abbrev rej_rest : List (List ℕ)
    rej_rest = positions r 42 79 ∷ from_back sup (from_in r) ∷ positions r 88 259 ∷ (text "BR" ++ digits 2 x.code) ∷ spaces_from 264 ∷ []

    abbrev rej_widths : List ℕ
    rej_widths = 38 ∷ 8 ∷ 172 ∷ 4 ∷ 58 ∷ []

    rej-wide : Widths rej_rest rej_widths
    rej-wide = (
      length-within r whole 41 38 (omega arith),
      (
        length_from r whole sup,
        (
          length-within r whole 87 172 (omega arith),
          (length-append (text "BR") (digits 2 x.code) ∙ ap (λ (k : ℕ). 2 + k) (length_digits 2 _), (length-spaces-from 264, tt)),
        ),
      ),
    )

    -- the error code is one field
    one_code : rej_detail sup r x ≡ chain (positions r 1 30) (text "REJ" ∷ digits 8 x.today.0 ∷ rej_rest)
    unfolding rej_detail rej_alike
    one_code =
        let p : List ℕ = rej_alike r x ++ positions r 42 79 ++ from_back sup (from_in r) ++ positions r 88 259 in
        ap (λ (b : List ℕ). b ++ spaces_from 264) (append_assoc p (text "BR") (digits 2 x.code))

    pub rej-detail-at : RejDetailAt sup r x (rej_detail sup r x)
    rej-detail-at =
        let nine = length-within r whole 19 9 (omega arith) in
        let field = sent-field r whole (tracking_in r) nine (text "REJ") refl x.today rej_rest rej_widths rej-wide in
        rw (one_code, sent-type r)
        (record {
          alike = sent-at r whole (tracking_in r) nine (text "REJ") refl x.today rej_rest rej_widths rej-wide;
          key_to_charge = field 7 (omega arith);
          from = field 8 (omega arith);
          tiers_to_owed = field 9 (omega arith);
          error_code = field 10 (omega arith);
          rest = spaces-at _ 264 (omega arith) (omega arith) (field 11 (omega arith));
        })

-- every record of a group is whole
abbrev WholeEach : List (List ℕ) → Type 0
WholeEach ds = (j : ℕ) → j < length ds → length (get_or ds j []) ≡ 321

module _ (sup : Bool) (x : Rej) where
  long-each : (ds : List (List ℕ)) → WholeEach ds → length (rej_details sup ds x) ≡ length ds * 321
  unfolding rej_details
  long-each [] w = refl
  long-each (d ∷ ds) w =
      length-append (rej_detail sup d x) (rej_details sup ds x)
      ∙ (let e = long-each ds (λ (j : ℕ) (k : j < length ds). w (suc j) (omega arith)) in
      let f = length-rej-detail d (omega (arith, w 0 (omega arith))) sup x in
      omega arith)

  -- record j of the details
  each_at : (ds : List (List ℕ)) → WholeEach ds → (j : ℕ) → j < length ds → part (rej_details sup ds x) (j * 321) 321 ≡ rej_detail sup (get_or ds j []) x
  unfolding rej_details
  each_at [] w j k = absurd (not-suc-le-zero k)
  each_at (d ∷ ds) w zero k =
      let f = length-rej-detail d (omega (arith, w 0 (omega arith))) sup x in
      part_left (rej_detail sup d x) (rej_details sup ds x) 0 321 (omega arith) ∙ part-whole (rej_detail sup d x) 321 f
  each_at (d ∷ ds) w (suc j) k =
      let f = length-rej-detail d (omega (arith, w 0 (omega arith))) sup x in
      let e : suc j * 321 ≡ 321 + j * 321 = omega arith in
      ap (λ (i : ℕ). part (rej_detail sup d x ++ rej_details sup ds x) i 321) e
      ∙ part_right (rej_detail sup d x) (rej_details sup ds x) 321 (j * 321) 321 f
      ∙ each_at ds (λ (i : ℕ) (l : i < length ds). w (suc i) (omega arith)) j (le_of_suc-le-suc k)

pub rej-at : (h : List ℕ) (ds : List (List ℕ)) (x : Rej) → length h ≡ 321 → WholeEach ds → RejAt h ds x (rej h ds x)
unfolding rej
rej-at h ds x w v =
    let f = length-rej-header h (omega arith) x in
    let g = long-each (is_sup h) x ds v in
    let first : record_at (rej_header h x ++ rej_details (is_sup h) ds x) 0 ≡ rej_header h x =
    part_left (rej_header h x) (rej_details (is_sup h) ds x) 0 321 (omega arith) ∙ part-whole (rej_header h x) 321 f in
    record {
      long = length-append (rej_header h x) (rej_details (is_sup h) ds x) ∙ omega arith;
      header = rw first (rej-header-at h x (omega arith));
      details = λ (j : ℕ) (k : j < length ds).
          let e : (j + 1) * 321 ≡ 321 + j * 321 = omega arith in
          let at : record_at (rej_header h x ++ rej_details (is_sup h) ds x) (j + 1) ≡ rej_detail (is_sup h) (get_or ds j []) x =
          ap (λ (i : ℕ). part (rej_header h x ++ rej_details (is_sup h) ds x) i 321) e
          ∙ part_right (rej_header h x) (rej_details (is_sup h) ds x) 321 (j * 321) 321 f
          ∙ each_at (is_sup h) x ds v j k in
          rw at (rej-detail-at (get_or ds j []) x (omega (arith, v j k)) (is_sup h));
    }
