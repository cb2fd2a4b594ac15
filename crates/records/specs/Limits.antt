-- The limits of records and files ("Supplier file", "Causes"). Assumes nothing.
use Rattle.std.specs.Prelude.{ℕ}

-- "Records are 320 bytes .. and then byte 13"
abbrev pub record_size : ℕ
record_size = 321

-- "Request and cancel write 642 bytes": two records
abbrev pub notice_size : ℕ
notice_size = 642

-- "at most 200 records"
abbrev pub file_records : ℕ
file_records = 200

-- "or over 64,200": the bytes of so many records
abbrev pub file_size : ℕ
file_size = 64200
