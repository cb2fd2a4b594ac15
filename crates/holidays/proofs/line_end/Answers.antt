-- `holidays::line_end` meets its contract.
use mathlib.Core.Path.{ap, ◌∙◌}
use Prim.Native.Nat.{◌+◌}
use lib.ListN.{drop}
use Rattle.std.proofs.lemmas.List.{take_rest}
use Rattle.holidays.proofs.LineLaws.{line-found}
use Rattle.holidays.proofs.line_end.Goals as goal

pub returns : goal.returns
returns c =
    let s = c.args.s.now in
    let at = c.args.at in
    ap (λ n. at + n) (rw (c.newline.ensures, take_rest) at c.unwrap_or.ensures ∙ line-found (drop at s))
