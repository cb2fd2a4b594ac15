-- `trace_lines::put_call` meets its contract: the name that the tag picks is the definition's, with its comma.
use mathlib.Core.Path.{◌≡◌, ap, ◌∙◌}
use Rattle.std.specs.Prelude.{◌+◌, ℕ, List, length}
use Rattle.fields.specs.Put.{put}
use Rattle.table.specs.Table.{cell}
use Rattle.trace_lines.specs.Lines.{call_name}
use Rattle.trace_lines.proofs.LineLaws.{name-fresh, name-request, name-file, name-cancel, name-close, name-removal}
use Rattle.trace_lines.proofs.put_call.Goals as goal
use Rattle.trace_lines.proofs.put_call.Goals.{in-0, in-1, in-2, in-3, in-4, in_default}

pub returns : goal.returns
unfolding cell
returns c =
    let tag = c.args.tag in
    let name : c.match-tag.name.now ≡ cell (call_name tag) =
    elim c.match-tag.branch [
      | in-0 w ↦ rw (w.name-is, name-fresh tag w.in-0.is)
      | in-1 w ↦ rw (w.name-is, name-request tag w.in-1.is)
      | in-2 w ↦ rw (w.name-is, name-file tag w.in-2.is)
      | in-3 w ↦ rw (w.name-is, name-cancel tag w.in-3.is)
      | in-4 w ↦ rw (w.name-is, name-close tag w.in-4.is)
      | in_default w ↦
          let r = w.in_default.in_default-own.rest in
          rw (w.name-is, name-removal tag r.0.0.0.0.1 r.0.0.0.1 r.0.0.1 r.0.1 r.1)
    ]
    in
    (c.put_bytes.ensures ∙ ap (put c.args.out.now c.args.at) name, ap (λ (xs : List ℕ). c.args.at + length xs) name)
