-- What came in the round before.
use Rattle.std.specs.Prelude.{ℕ, Option, None, Some}
use Rattle.sdh_payload.specs.declared.delivered.Delivered.{Delivered}
use Rattle.sdh_payload.specs.declared.delivered.Delivered.TheVariants.{Chunk}
use Rattle.sdh_payload.specs.Customer.{Customer}
use Rattle.sdh_payload.specs.Stream.{chunk_of}
use Rattle.sdh_outage.specs.declared.latest.Latest.{Latest}

-- the chunk of this number of a port's stream, where the port is known, and else what is kept with its bytes
abbrev pub latest_of : Option Customer → ℕ → Delivered → Delivered
latest_of None number plain = plain
latest_of (Some port) number plain = Chunk (chunk_of port number)

abbrev pub came : Latest → Delivered
came l = latest_of l.port l.number l.plain
