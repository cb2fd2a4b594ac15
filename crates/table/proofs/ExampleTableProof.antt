-- Document 01's example of the table, and the table without bills, by computation. Assumes nothing.
use mathlib.Core.Path.{refl}
use Rattle.fields.specs.Digits.{digits}
use Rattle.ledger.specs.Bills.{state_of}
use Rattle.table.specs.Table.{cell, ended, heading, terms_cells, amount_cells, state_cell, line_of, total_line, stop_line, table_of}
use Rattle.table.specs.Example.{Example, Empty}

pub example-holds : Example
unfolding digits state_of cell ended heading terms_cells amount_cells state_cell line_of total_line stop_line table_of
example-holds next confirmation tracking billing from = refl

pub empty_holds : Empty
unfolding digits cell ended heading total_line stop_line table_of
empty_holds today next confirmation = refl
