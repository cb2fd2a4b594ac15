-- A call's answer in the struct. Assumes nothing.
use Rattle.std.specs.Prelude.{ℤ, pos, ◌-ℤ◌, Result, Ok}
use Rattle.group.specs.declared.Tally.{Tally}
use Rattle.records.specs.Limits.{notice_size}
use Rattle.rules.specs.declared.Cause.{Cause}
use Rattle.calls.specs.declared.Returned.{Returned}

-- of a call that wrote one notice of two records
abbrev pub noticed : ℤ → Result Returned Cause
noticed change = Ok (record { change = change; written = notice_size; accepted = 0; rejected = 0; closed = 0 })

-- of a file whose groups come to these counts
abbrev pub cleared : Tally → Result Returned Cause
cleared c =
    Ok
    (record {
      change = pos c.came -ℤ pos c.went;
      written = c.written;
      accepted = c.accepted;
      rejected = c.rejected;
      closed = 0;
    })
