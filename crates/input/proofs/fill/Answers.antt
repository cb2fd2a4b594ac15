-- `input::fill`: what came stands behind the bytes held.
use Rattle.std.proofs.Common.{arith, length-take-le, length-drop, subst, sym}
use Rattle.std.specs.Prelude.{length, drop, ◌-◌}
use Rattle.input.specs.Filled.{Moved}
use Rattle.input.proofs.FilledLaws.{comes}
use Rattle.input.proofs.fill.Goals as goal

pub returns-clause-bytes : goal.returns-clause-bytes
returns-clause-bytes g c =
    let have = c.args.have in
    let xs = c.args.buf.now in
    let got = c.read_input-got in
    comes have _ got.new.buf _ _ _ (length-take-le have xs c.requires) (omega (arith, length-drop (length xs - have) (drop have xs), length-drop have xs)) got.result c.filled_by.result
    (subst (λ n. Moved n got.result) (sym got.auto.buf) got.ensures.moved)
    got.ensures.bytes c.filled_by.ensures
