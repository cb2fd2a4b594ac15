-- A reader's bytes are read to their end, or to a bad entry. Assumes nothing.
use Rattle.std.proofs.Common.{ℕ, ◌+◌, ◌*◌, ◌≤◌, ◌<◌, ◌≡◌, Bool, true, false, cond, not, ◌&&◌, eqb, List, ◌++◌, Option, Some, None, length, get_or, refl, sym, ap, ◌∙◌, append-nil, arith, true≢false}
use lib.Dec.{ltb}
use borrow.Author.Tests.{ltb-true}
use Rattle.std.proofs.lemmas.Bool.Decides.{nat_tests}
use Rattle.std.specs.Io.KnownBytes.{Consumes, IsAtEnd}
use Rattle.fields.specs.Put.{part}
use Rattle.fields.proofs.BoolLaws.{cases}
use Rattle.journal.specs.declared.Body.{Body}
use Rattle.journal.specs.declared.Head.{Head}
use Rattle.journal.specs.declared.Head.TheVariants.{Cut, Bad, Whole}
use Rattle.journal.specs.Entries.{head_of, head_by, body_of, entry_limit, in_turn, good_length, fresh_taken}
use Rattle.journal.specs.Journal.{Parsed, parse, ends_bad, is_bad}
use Rattle.journal.proofs.JournalLaws.{fed, parse-fed, parse-bad, parse-whole}
use Rattle.replay.specs.parts.Pieces.{Waits}

-- ---- where no entry stands whole and no bad one stands, fewer bytes stand than the longest entry has
good-short : (tag n : ℕ) → good_length tag n ≡ true → n ≤ 64200
unfolding good_length
good-short tag n h = grind (arith, nat_tests)

third : (a b c : Bool) → (a && b && c) ≡ true → c ≡ true
third true true c h = h
third true false c h = absurd (true≢false (sym h))
third false b c h = absurd (true≢false (sym h))

by-tests : (a g c d : Bool) (b : Body) (m size : ℕ) → (a ≡ true → size < 64203) → (g ≡ true → c ≡ true → size < 64203)
    → cond a Cut (cond g (cond c Cut (cond d Bad (Whole b m))) Bad) ≡ Cut → size < 64203
by-tests true g c d b m size p q e = p refl
by-tests false true true d b m size p q e = q refl refl
by-tests false true false true b m size p q e = cc
by-tests false true false false b m size p q e = cc
by-tests false false c d b m size p q e = cc

cut-short : (seen : ℕ) (s : List ℕ) → head_of seen s ≡ Cut → length s < 64203
unfolding head_of head_by
cut-short seen s e =
    let tag = get_or s 0 0 in
    let n = get_or s 1 0 * 256 + get_or s 2 0 in
    let b = body_of tag (part s 3 n) in
    by-tests (ltb (length s) 3) (ltb seen entry_limit && in_turn seen tag && good_length tag n) (ltb (length s) (n + 3)) (eqb tag 0 && not (fresh_taken b)) b
    (n + 3) (length s)
    (λ z. omega (arith, ltb-true (length s) 3 z))
    (λ g z. omega (arith, ltb-true (length s) (n + 3) z, good-short tag n (third (ltb seen entry_limit) (in_turn seen tag) (good_length tag n) g)))
    e

pub waits-short : (seen : ℕ) (s : List ℕ) → Waits seen s false → length s < 64203
waits-short seen s w = by (head_of seen s) refl
  where
    by : (h : Head) → head_of seen s ≡ h → length s < 64203
    by Cut e = cut-short seen s e
    by Bad e = absurd (true≢false (ap (λ (p : Parsed). p.stopped) (sym (parse-bad seen s e) ∙ w)))
    by (Whole b n) e = let k = ap (λ (p : Parsed). p.entries) (sym (parse-whole seen s b n e) ∙ w) in cc

-- ---- behind a bad entry nothing is read
fed-stopped : (p : Parsed) (ys : List ℕ) → p.stopped ≡ true → ((fed 0 p ys).entries ≡ p.entries) × ((fed 0 p ys).stopped ≡ true)
fed-stopped p ys z = (rw z, rw z)

bad-stopped : (s : List ℕ) → (parse 0 s).stopped ≡ true → is_bad s ≡ true
unfolding is_bad ends_bad
bad-stopped s z = rw z

-- the entries of all bytes that a reader had are those of the bytes that came, where they are all that it had or a bad entry stopped the reading
pub all-read : (input bytes : List ℕ) (left : Option (List ℕ)) → Consumes (Some input) left bytes → ((parse 0 bytes).stopped ≡ false → IsAtEnd left)
    → ((parse 0 input).entries ≡ (parse 0 bytes).entries) × (is_bad input ≡ is_bad bytes)
all-read input bytes None c end = absurd c
all-read input bytes (Some ys) c end =
    cases (parse 0 bytes).stopped
    (λ z.
    let e : parse 0 input ≡ fed 0 (parse 0 bytes) ys = ap (parse 0) c ∙ parse-fed 0 bytes ys in
    let f = fed-stopped (parse 0 bytes) ys z in
    (ap (λ (p : Parsed). p.entries) e ∙ f.0, bad-stopped input (ap (λ (p : Parsed). p.stopped) e ∙ f.1) ∙ sym (bad-stopped bytes z)))
    (λ z.
    let e : input ≡ bytes = c ∙ ap (λ (l : List ℕ). bytes ++ l) (end z) ∙ append-nil bytes in
    (ap (λ (s : List ℕ). (parse 0 s).entries) e, ap is_bad e))
