-- What a port delivers of the AU-4 that brings its circuit.
use Rattle.std.specs.Prelude.{Option, IsSome}
use Rattle.sdh_payload.specs.declared.chunk.ChunkForm.{ChunkForm}
use Rattle.sdh_payload.specs.declared.chunk.ChunkForm.TheVariants.{Plain, Short, Long}
use Rattle.sdh_payload.specs.Chunk.{taken}
use Rattle.sdh_payload.specs.Outlet.{Outlet, silent, delivering}
use Rattle.sdh_payload.specs.declared.delivered.Delivered.{Delivered}
use Rattle.sdh_payload.specs.declared.delivered.Delivered.TheVariants.{Ais, Chunk}
use Rattle.sdh_pointer.specs.declared.reading.Action.{Action}
use Rattle.sdh_pointer.specs.declared.reading.Action.TheVariants as action
use Rattle.sdh_terminal.specs.Passing.{Input, h3_of}

-- the form of the chunk that comes with an action: three bytes fewer at a positive justification, and three more at a
-- negative one
abbrev pub chunk_form : Action → ChunkForm
chunk_form action.Normal = Plain
chunk_form action.New = Plain
chunk_form action.Up = Short
chunk_form action.Down = Long
chunk_form action.Ais = Plain

abbrev pub chunk_from : Input → Outlet
chunk_from i = delivering i.value (taken (chunk_form i.action) i.au.payload (h3_of i.au.pointers))

abbrev pub delivered_by : Action → Input → Outlet
delivered_by action.Ais i = silent
delivered_by action.Normal i = chunk_from i
delivered_by action.New i = chunk_from i
delivered_by action.Up i = chunk_from i
delivered_by action.Down i = chunk_from i

-- what a port delivers of an AU-4 that is dropped to it: AIS, or the chunk that the AU-4 carries
unfoldable pub delivered_from : Input → Outlet
delivered_from i = delivered_by i.action i

-- there is memory for a chunk: that of the chunk that is delivered, or spare memory while AIS is delivered
abbrev pub HasRoom : {Memory : Type 0} → Delivered → Option Memory → Type 0
HasRoom (Chunk c) spare = Unit {0}
HasRoom Ais spare = IsSome spare
