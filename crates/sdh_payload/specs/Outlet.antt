-- What a port delivers in a round, or is owed.
use Rattle.std.specs.Prelude.{ℕ, List, take}
use Rattle.sdh_payload.specs.declared.delivered.Delivered.{Delivered}
use Rattle.sdh_payload.specs.declared.delivered.Delivered.TheVariants.{Ais, Chunk}
use Rattle.sdh_payload.specs.declared.delivered.Front.{Front}
use Rattle.sdh_payload.specs.declared.delivered.Front.TheVariants as front

-- what a port delivers, AIS or bytes, and the pointer value with which the bytes come, 0 with AIS
pub record Outlet : Type 0 where
  pub delivered : Delivered
  pub value : ℕ

-- a port that delivers AIS
abbrev pub silent : Outlet
silent = record { delivered = Ais; value = 0 }

-- a port that delivers bytes, which come with a pointer value
abbrev pub delivering : ℕ → List ℕ → Outlet
delivering value bytes = record { delivered = Chunk bytes; value = value }

-- the front of what is delivered with a pointer value: AIS, or the first 16 bytes and the value
abbrev pub front_by : Delivered → ℕ → Front
front_by Ais value = front.Ais
front_by (Chunk bytes) value = front.Bytes (take 16 bytes) value

-- the front of what a port delivers
abbrev pub front_of : Outlet → Front
front_of o = front_by o.delivered o.value
