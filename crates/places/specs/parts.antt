-- Definitions that serve the contracts of inner functions; they state no rule of document 01.
pub mod Slots
-- A ledger lent as one struct.
pub mod OneLedger
