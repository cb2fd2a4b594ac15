-- The limits of a ledger. Assumes nothing.
use Rattle.std.specs.Prelude.{ℕ}

-- "up to 128 bills"
abbrev pub ledger_places : ℕ
ledger_places = 128

-- "(at most 999)": the last sequence, and the last count of requests
abbrev pub last_sequence : ℕ
last_sequence = 999

-- "1 to 999,999,999; 1,000,000,000 when used up": the last Tracking ID or Confirmation Number, and the next number after it
abbrev pub last_number : ℕ
last_number = 999999999

abbrev pub used_up : ℕ
used_up = 1000000000
