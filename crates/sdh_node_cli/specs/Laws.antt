-- The laws of streams.
use Rattle.std.specs.Prelude.{◌≡◌, ℕ, List, [], ◌++◌, codes, Option}
use Rattle.sdh_ringmap.specs.declared.Pos.{Pos}
use Rattle.sdh_circuits.specs.Provisioned.{Provisioned}
use Rattle.sdh_node_cli.specs.declared.stop.Stop.{Stop}
use Rattle.sdh_node_cli.specs.Bench.{Bench}
use Rattle.sdh_node_cli.specs.Streams.{GivenRecord, AreGiven, stream_of, EachHas}
use Rattle.sdh_node_cli.specs.Outcome.{StopsAfter}

-- The bytes that were read, up to a record that wasn't done, determine which records were done and which bytes were
-- read after these. There is no other way to split them.
abbrev pub RecordsAreTold : Type 0
RecordsAreTold =
    (b : Bench) (one other : List GivenRecord) (first second : List ℕ) (why how : Stop) (left now : Option (List ℕ))
    → AreGiven b one → AreGiven b other → StopsAfter b one why first left → StopsAfter b other how second now
    → stream_of one ++ first ≡ stream_of other ++ second → (one ≡ other) × (first ≡ second)

-- Each record has at least 7 bytes, as `hold 1` has. One that begins with `r` is that of a round, and has at least 16, as
-- `round none none` has. One that begins with `round f` has at least 17 and a frame from the west after them, whose first
-- byte is the 18th, as `round frame none` has. So where only the bytes that a record still lacks to these numbers are
-- asked for, no byte after a record is asked for, and of its frames at most one.
abbrev pub RecordsAreLong : Type 0
RecordsAreLong = (circuits : List Provisioned) (at : Pos)
    → EachHas circuits at [] 7 × EachHas circuits at (codes "r") 16 × EachHas circuits at (codes "round f") 18
