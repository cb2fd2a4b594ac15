-- `holidays::put_day` meets its contract, by whether a date was worked out: two writes one after the other, or three.
use mathlib.Core.Path.{refl, sym}
use native.Mathlib.Omega.{arith}
use Rattle.fields.proofs.PutLaws.{first, next}
use Rattle.fields.proofs.DigitLaws.{length_digits}
use Rattle.holidays.proofs.DayLineLaws.{refusal-written}
use Rattle.holidays.proofs.put_day.Goals as goal

pub returns-in-Ok : goal.returns-in-Ok
returns-in-Ok c =
    let a = c.args in
    let w1 = first a.out.now 0 _ (omega arith) c.put_digits.ensures (length_digits _ _) in
    let w2 = next w1 _ c.put_bytes.ensures refl in
    rw c.in-Ok.is record { answer = sym w2.long; written = w2.same }

pub returns-in-Err : goal.returns-in-Err
returns-in-Err c =
    let w = refusal-written _ _ _ _ c.from-n.result _ c.number_width-width.ensures c.put_bytes-in-Err.ensures c.put_digits-in-Err.ensures c.put_bytes-in-Err-2.ensures in
    rw (c.in-Err.is, sym c.from-n.ensures) record { answer = w.0; written = w.1 }
