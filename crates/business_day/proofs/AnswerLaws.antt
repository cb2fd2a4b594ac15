-- What was read, and the line that is printed for it. Assumes nothing.
use Prim.Native.Nat.{ℕ, ◌≤◌}
use mathlib.Core.Path.{◌≡◌, refl, sym, ap, ◌∙◌}
use mathlib.Core.Bool.{Bool, true, false, cond}
use mathlib.Core.List.{List, [], ◌++◌}
use native.Mathlib.Omega.{arith}
use lib.ListN.{length, take}
use lib.Seq.{length-take-le}
use Rattle.fields.specs.Put.{put}
use Rattle.fields.proofs.PutLaws.{put-nil, front-put, put-longer}
use Rattle.std.specs.declared.io.Error.{Error}
use Rattle.input.specs.Filled.{Filled}
use Rattle.std.specs.Io.KnownBytes.{Consumes}
use Rattle.std.proofs.Common.{IfSome, Option, Some, None, Result, Ok, Err, drop, subst, append-nil, take-append-drop, true≢false}
use Rattle.std.proofs.KnownBytes.{Consumes-trans}
use Rattle.std.proofs.lemmas.List.{take-take}
use Rattle.holidays.specs.DayLine.{day_line, day_of}
use Rattle.holidays.proofs.InputLaws.{unread-rest}
use Rattle.streams.specs.declared.output.Failed.{Failed}
use Rattle.streams.specs.Written.{Writes}
use Rattle.business_day.specs.declared.Input.{Input}
use Rattle.business_day.specs.Answering.{input_room, StopsAt, is_failed, RestUnread, Took, Answers, AnswersAll, WritesAll}

-- ---- where the reading stops
pub stops-within : (f : Filled) (room n : ℕ) → StopsAt room n f → n ≤ room
stops-within (Ok (Some k)) room n h = omega arith
stops-within (Ok None) room n h = omega arith
stops-within (Err e) room n h = omega arith

not_failed : (f : Filled) (x : Option ℕ) → f ≡ Ok x → is_failed f ≡ false
not_failed f None e = ap is_failed e
not_failed f (Some n) e = ap is_failed e

rest-unread : (date number s : List ℕ) (f : Filled) → StopsAt input_room (length s) f → RestUnread date number s f
rest-unread date number s (Ok (Some k)) h = λ more. unread-rest date number s more (omega arith)
rest-unread date number s (Ok None) h = tt
rest-unread date number s (Err e) h = tt

-- ---- the bytes that came
-- so many were held, and a read brought those behind them
pub came_more : (a b c : Option (List ℕ)) (before after : List ℕ) (have n : ℕ) → have ≤ n → take have after ≡ take have before
    → Consumes a b (take have before) → Consumes b c (drop have (take n after)) → Consumes a c (take n after)
came_more a b c before after have n h same first second =
    let front = take-take have n after h ∙ same in
    let e = sym (take-append-drop have (take n after)) ∙ ap (λ l. l ++ drop have (take n after)) front in
    subst (Consumes a c) (sym e) (Consumes-trans a b c _ _ first second)

-- where the reader's bytes are known and no read failed, the line for those that came is that for all of them
all_or_first : (date number s : List ℕ) (input : List ℕ) (rest : Option (List ℕ)) (f : Filled) → is_failed f ≡ false → RestUnread date number s f
    → Took s (Some input) rest f → day_of date number input ≡ day_of date number s
all_or_first date number s input None (Ok (Some k)) e u t = absurd t
all_or_first date number s input (Some ys) (Ok (Some k)) e u t = ap (day_of date number) t ∙ u ys
all_or_first date number s input None (Ok None) e u t = absurd t.0
all_or_first date number s input (Some ys) (Ok None) e u t =
    ap (day_of date number) (t.0 ∙ ap (λ l. s ++ l) t.1 ∙ append-nil s)
all_or_first date number s input rest (Err x) e u t = absurd (true≢false e)

-- ---- the line
module _ (date number buf : List ℕ) (r : Input) (room : length buf ≡ input_room) (h : StopsAt (length buf) r.length r.last) where
  answers_by : (out₀ out line : List ℕ) (n : ℕ) (f : Bool) → f ≡ is_failed r.last → line ≡ cond f [] (day_line (day_of date number (take r.length buf)))
      → n ≡ length line → out ≡ put out₀ 0 line → Answers date number buf out n
  answers_by out₀ out line n f t l s q =
      let e : length (take r.length buf) ≡ r.length = length-take-le r.length buf (stops-within r.last (length buf) r.length h) in
      let stops : StopsAt input_room (length (take r.length buf)) r.last = rw (e, ← room) h in
      let k = l ∙ ap (λ (b : Bool). cond b [] (day_line (day_of date number (take r.length buf)))) t in
      record {
        last = r.last;
        bytes = take r.length buf;
        held = ap (λ (i : ℕ). take i buf) (sym e);
        stops = stops;
        rest = rest-unread date number (take r.length buf) r.last stops;
        line = ap (take n) q ∙ front-put out₀ line n s ∙ k;
        size = s ∙ ap length k;
        within = omega (arith, s, ap length q, put-longer out₀ line);
      }

  -- a read failed, or none did
  pub answers-none : (e : Error) (out : List ℕ) → r.last ≡ Err e → Answers date number buf out 0
  answers-none e out q = answers_by out out [] 0 true (sym (ap is_failed q)) refl refl (put-nil out 0)

  pub answers : (x : Option ℕ) (out₀ out : List ℕ) (n : ℕ) → r.last ≡ Ok x
      → n ≡ length (day_line (day_of date number (take r.length buf))) → out ≡ put out₀ 0 (day_line (day_of date number (take r.length buf)))
      → Answers date number buf out n
  answers x out₀ out n good s q = answers_by out₀ out _ n false (sym (not_failed r.last x good)) refl s q

  -- of all bytes that the reader had
  pub answers-all : (x : Option ℕ) (out₀ out : List ℕ) (n : ℕ) → r.last ≡ Ok x
      → n ≡ length (day_line (day_of date number (take r.length buf))) → out ≡ put out₀ 0 (day_line (day_of date number (take r.length buf)))
      → (known rest : Option (List ℕ)) → Took (take r.length buf) known rest r.last → IfSome known (λ input. AnswersAll date number input out n)
  answers-all x out₀ out n good s q None rest took = tt
  answers-all x out₀ out n good s q (Some input) rest took =
      let bytes = take r.length buf in
      let size : length bytes ≡ r.length = length-take-le r.length buf (stops-within r.last (length buf) r.length h) in
      let stops : StopsAt input_room (length bytes) r.last = rw (size, ← room) h in
      let same = all_or_first date number bytes input rest r.last (not_failed r.last x good) (rest-unread date number bytes r.last stops) took in
      record { failed = false; line = ap (take n) q ∙ front-put out₀ (day_line (day_of date number bytes)) n s ∙ ap day_line (sym same) }

-- what is written of that
pub writes_all : (date number out : List ℕ) (n : ℕ) (known before after : Option (List ℕ)) (sent : Result (Unit {0}) Failed) → IfSome known (λ input. AnswersAll date number input out n)
    → Writes sent (take n out) before after → IfSome known (λ input. WritesAll date number input before after sent)
writes_all date number out n None before after sent h s = tt
writes_all date number out n (Some input) before after sent h s = (h.failed, subst (λ l. Writes sent l before after) h.line s)
