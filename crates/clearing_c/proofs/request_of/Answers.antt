-- `clearing_c::request_of` meets its contract.
use Rattle.clearing_c.proofs.request_of.Goals as goal

pub returns : goal.returns
returns c = rw c.code_field.ensures
