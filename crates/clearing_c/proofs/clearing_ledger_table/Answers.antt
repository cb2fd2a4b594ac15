-- `clearing_c::clearing_ledger_table` meets its contract: the bytes that were written are stored.
use mathlib.Core.Path.{◌≡◌, ap, ◌∙◌}
use Rattle.std.proofs.Common.{rules}
use Rattle.boundary.specs.Boundary.{number_of, number_left}
use Rattle.clearing_c.proofs.clearing_ledger_table.Goals as goal

pub returns : goal.returns
returns c =
    let e : c.map.result ≡ c.print-p.result = search rules in record { number = c.store_number.ensures.answer ∙ ap number_of (e ∙ c.print-p.ensures.answer); written = c.store_number.ensures.stored ∙ ap (number_left _) (e ∙ c.print-p.ensures.answer); bytes = c.print-p.ensures.written }
