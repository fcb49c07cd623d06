-- The law that a circuit on whose arc nothing is ever asked delivers as if nothing happened elsewhere.
use Rattle.std.specs.Prelude.{ℕ, ◌≡◌, ◌<◌, ◌-◌, ◌/◌, true, nat_lt, if◌then◌else◌, Some, List, length, slice_get}
use Rattle.sdh_ringmap.specs.Rates.{n_of}
use Rattle.sdh_ringmap.specs.declared.terms.Code.TheVariants.{Nr}
use Rattle.sdh_ringmap.specs.Arcs.{holds_span}
use Rattle.sdh_ringmap.specs.Places.{span_at}
use Rattle.sdh_ringmap.specs.declared.Side.{Side}
use Rattle.sdh_circuits.specs.Provisioned.{Provisioned, arc_of, customer_at}
use Rattle.sdh_circuits.specs.Provisioning.{Provisioning, AreCircuits}
use Rattle.sdh_circuits.specs.declared.End.{End}
use Rattle.sdh_payload.specs.Outlet.{Outlet, silent, delivering}
use Rattle.sdh_payload.specs.Stream.{stream_from}
use Rattle.sdh_payload.specs.Chunk.{taken_len}
use Rattle.sdh_payload.specs.Clock.{ticked, next_form}
use Rattle.sdh_plant.specs.Fibres.{Fibres}
use Rattle.sdh_circuits.specs.Ends.{other_end, port_id}
use Rattle.sdh_request.specs.declared.settings.Settings.{Settings}
use Rattle.sdh_node.specs.Rings.Held.{outlet_at}
use Rattle.sdh_node.specs.Rings.Rounds.{round}
use Rattle.sdh_restoration.specs.Changes.{Stretch, rounds_in}
use Rattle.sdh_node.specs.Rings.Changes.{new_world}
use Rattle.sdh_node.specs.Rings.Clocks.{clocks_by}
use Rattle.sdh_node.specs.Rings.Laws.{MayHappen}
use Rattle.sdh_node.specs.Rings.Sides.{world_in}
use Rattle.sdh_laws.specs.Hearing.Laws.{MayStart}
use Rattle.sdh_restoration.specs.Sides.{asked_in}

-- ---- the law

-- by what happened, neither end of a span of the circuit's arc asks for anything in any of these rounds
abbrev pub NoneAsks : Settings → ℕ → List Stretch → Provisioned → Type 0
NoneAsks s n ss c =
    (r p : ℕ) (d : Side) → r < rounds_in ss → p < n → holds_span n (arc_of n c) (span_at n p d) ≡ true
    → asked_in s.threshold s.wait n ss r p d ≡ Nr

-- What a port delivers in round t straight over its circuit's arc. It is AIS until the first bytes have come over all
-- spans. Then it is what the other port sent one round a span before: 2349 bytes, or three fewer or more where its
-- clock slipped in that round, with the pointer value that the clock had after it.
abbrev pub straight : ℕ → List Provisioned → List Stretch → ℕ → Provisioned → End → ℕ → Outlet
straight n circuits ss i c e t =
    let far = other_end e in
    let spans = (arc_of n c).spans in
    let clock = clocks_by circuits ss (port_id i far) (t - spans) in
    if nat_lt t spans then silent else delivering (ticked clock).value
    (stream_from (customer_at c far) clock.sent (taken_len (next_form clock)))

-- where nothing is ever asked on a circuit's arc, each of its ports delivers straight over that arc in every round
abbrev pub UndisturbedPortsDeliver : Type 0
UndisturbedPortsDeliver =
    (s : Settings) (ids : List ℕ) (circuits : Provisioning) (f : Fibres) (ss : List Stretch) → MayStart s ids f
    → MayHappen (new_world s ids circuits f) ss
    → AreCircuits (length ids) (n_of s.rate / 2) circuits.circuits
    → (i : ℕ) (c : Provisioned) → slice_get circuits.circuits i ≡ Some c → (e : End) → NoneAsks s (length ids) ss c
    → (t : ℕ) → t < rounds_in ss → outlet_at (round (world_in ss (new_world s ids circuits f) t)).ring (port_id i e)
    ≡ straight (length ids) circuits.circuits ss i c e t
