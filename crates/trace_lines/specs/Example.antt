-- What `trace` prints for document 01's example journal, and for one with rejected groups, refused calls and negative changes. Assumes nothing.
use Rattle.std.specs.Prelude.{ℕ, ◌≡◌, true, false, List, [], ◌∷◌, ◌++◌}
use Rattle.fields.specs.Text.{text}
use Rattle.table.specs.Table.{ended}
use Rattle.history.specs.Cases.{Sent, sent_header, sent}
use Rattle.trace_lines.specs.Trace.{trace_of}

-- "fresh 20171113, a request (ZZC40, 123456780019, 0007, B, 85 Ccf, due 20171116)"
abbrev opening : List ℕ
opening =
    (0 ∷ 0 ∷ 26 ∷ [])
    ++ text "20171113000000001000000001"
    ++ (1 ∷ 0 ∷ 56 ∷ [])
    ++ text "ZZC401234567800190007B2017111320171013000000008520171116"

-- "an accepted RSP of 4250 cents"
abbrev response : Sent
response =
    record { sup = false; tracking = 1; sequence = 1; first = 60; second = 25; charge = 4250; applied = 0; owed = 0 }

abbrev pub traced_journal : List ℕ
traced_journal = opening ++ (2 ∷ 2 ∷ 130 ∷ []) ++ sent (response ∷ [])

-- what `trace` prints for it
abbrev pub example_trace : List ℕ
example_trace =
    ended (text "0000000001,fresh,00,00000000000000000,000,000,000")
    ++ ended (text "0000000002,request,00,00000000000000000,000,000,000")
    ++ ended (text "0000000003,file,00,00000000000004250,001,000,000")
    ++ ended (text "group,000000002,123456780019,0007,RSP,ACF")

abbrev pub ExampleTrace : Type 0
ExampleTrace = trace_of traced_journal ≡ example_trace

-- ---- a journal with rejected groups, refused calls and negative changes
-- the same with another charge, and a SUP
abbrev replacement : Sent
replacement =
    record { sup = false; tracking = 1; sequence = 1; first = 60; second = 25; charge = 4000; applied = 0; owed = 0 }

abbrev supplement : Sent
supplement =
    record { sup = true; tracking = 0; sequence = 0; first = 60; second = 25; charge = 4250; applied = 0; owed = 0 }

-- an RSP and a SUP for the open bill; a header without detail and the RSP that replaces the charge; a close; a cancel; a close whose date is not
-- digits; a file of one byte; an entry cut short
abbrev pub mixed_journal : List ℕ
mixed_journal =
    opening
    ++ (2 ∷ 5 ∷ 4 ∷ [])
    ++ sent (response ∷ supplement ∷ [])
    ++ (2 ∷ 3 ∷ 195 ∷ [])
    ++ sent_header response
    ++ sent (replacement ∷ [])
    ++ (4 ∷ 0 ∷ 8 ∷ [])
    ++ text "20171117"
    ++ (3 ∷ 0 ∷ 16 ∷ [])
    ++ text "1234567800190007"
    ++ (4 ∷ 0 ∷ 8 ∷ [])
    ++ text "2017111X"
    ++ (2 ∷ 0 ∷ 1 ∷ [])
    ++ text "A"
    ++ (4 ∷ 0 ∷ [])

abbrev pub mixed_trace : List ℕ
mixed_trace =
    ended (text "0000000001,fresh,00,00000000000000000,000,000,000")
    ++ ended (text "0000000002,request,00,00000000000000000,000,000,000")
    ++ ended (text "0000000003,file,00,00000000000004250,001,001,000")
    ++ ended (text "group,000000002,123456780019,0007,RSP,ACF")
    ++ ended (text "group,000000003,123456780019,0007,SUP,BR11")
    ++ ended (text "0000000004,file,00,-0000000000000250,001,001,000")
    ++ ended (text "group,000000004,123456780019,    ,RSP,BR17")
    ++ ended (text "group,000000005,123456780019,0007,RSP,ACF")
    ++ ended (text "0000000005,close,00,00000000000000000,000,000,001")
    ++ ended (text "0000000006,cancel,00,-0000000000004000,000,000,000")
    ++ ended (text "0000000007,close,02,00000000000000000,000,000,000")
    ++ ended (text "0000000008,file,11,00000000000000000,000,000,000")
    ++ ended (text "stopped,13")

abbrev pub Mixed : Type 0
Mixed = trace_of mixed_journal ≡ mixed_trace

-- "an empty journal, or a refused fresh": no line but the last; here 20171132 is no date
abbrev pub refused_fresh : List ℕ
refused_fresh = (0 ∷ 0 ∷ 26 ∷ []) ++ text "20171132000000001000000001"

abbrev pub EmptyTrace : Type 0
EmptyTrace = (trace_of [] ≡ ended (text "stopped,13")) × (trace_of refused_fresh ≡ ended (text "stopped,13"))
