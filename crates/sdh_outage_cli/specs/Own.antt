-- That the bytes of a port's own customer are counted as its own.
use Rattle.std.specs.Prelude.{ℕ, ◌≡◌, ◌≢◌, ◌⊎◌, ◌<◌, ◌≤◌, None, Some, List, slice_get}
use Rattle.sdh_frame.specs.Aus.{ones}
use Rattle.sdh_circuits.specs.Provisioned.{Provisioned, arc_of, customer_at}
use Rattle.sdh_circuits.specs.declared.End.{End}
use Rattle.sdh_circuits.specs.Ends.{other_end, port_id}
use Rattle.sdh_payload.specs.History.{Happening, ups_told, downs_told}
use Rattle.sdh_restoration.specs.Changes.{Stretch}
use Rattle.sdh_restoration.specs.Happened.{happened}
use Rattle.sdh_node.specs.Rings.Clocks.{clocks_by}
use Rattle.sdh_payload.specs.Chunk.{taken}
use Rattle.sdh_payload.specs.Outlet.{Outlet}
use Rattle.sdh_payload.specs.declared.chunk.ChunkForm.{ChunkForm}
use Rattle.sdh_payload.specs.declared.delivered.Delivered.{Delivered}
use Rattle.sdh_payload.specs.declared.delivered.Delivered.TheVariants.{Chunk}
use Rattle.sdh_outage.specs.Near.{near}
use Rattle.sdh_outage.specs.Kinds.{own_kind}
use Rattle.sdh_laws.specs.Strangers.Transit.{ComesAfterTransit}

-- a chunk that was taken from ones
abbrev pub IsOfOnes : Delivered → Type 0
IsOfOnes now = (form : ChunkForm) × (h3 : List ℕ) × (now ≡ Chunk (taken form ones.payload h3))

-- at most 3,915 slips each way were ordered at a port: that many change its clock by five chunks. A plan orders at most
-- 16 before each of at most 64 settle steps.
abbrev pub AreFewSlips : List Happening → Type 0
AreFewSlips history = (ups_told history ≤ 3915) × (downs_told history ≤ 3915)

-- In a ring of at most 16 nodes with these circuits, after these stretches, what a port delivers in round t after
-- exactly one transit is AIS, or was taken from ones, or is counted as its own customer's, whatever came before it: it
-- is in order, a jump or torn, and neither strange nor foreign.
abbrev pub OwnBytesAreOwn : Type 0
OwnBytesAreOwn =
    (n : ℕ) (circuits : List Provisioned) (ss : List Stretch) (t index : ℕ) (c : Provisioned) (e : End) (o : Outlet) (before : Delivered)
    → n ≤ 16 → slice_get circuits index ≡ Some c → 1 ≤ (arc_of n c).spans → (arc_of n c).spans < n
    → ((r : ℕ) → AreFewSlips (happened ss (port_id index (other_end e)) r))
    → ComesAfterTransit n circuits (clocks_by circuits ss) t (port_id index e) o
    → IsOfOnes o.delivered ⊎ (own_kind (near (customer_at c (other_end e)) t) before o.delivered ≢ None)
