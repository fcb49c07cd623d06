-- The clock of a port, by its name and position, and what the port adds.
use Rattle.std.proofs.Common.{◌≡◌, ℕ, ◌-◌, ◌<◌, ◌≤◌, Bool, true, false, nat_le, length, Option, Some}
use Rattle.std.proofs.Common.{None, refl, ap, ◌∙◌, subst, arith}
use Rattle.std.specs.Prelude.{if◌then◌else◌, All}
use Rattle.std.specs.Option.{option_map_or}
use Rattle.std.proofs.lemmas.Bool.Decides.{nat_tests}
use Rattle.sdh_circuits.specs.declared.PortId.{PortId}
use Rattle.sdh_circuits.specs.Provisioning.{HasOffsets}
use Rattle.sdh_payload.specs.declared.chunk.ChunkForm.TheVariants.{Plain, Short, Long}
use Rattle.sdh_payload.specs.Clock.{Clock, IsClock, waiting, next_form, after_form, ticked, ticks}
use Rattle.sdh_payload.proofs.Clocking.{form_ticked}
use Rattle.sdh_bridge.specs.declared.Origin.TheVariants.{Add}
use Rattle.sdh_terminal.specs.Passing.{Input, no_input}
use Rattle.sdh_terminal.specs.Tributaries.{Tributary, port_of, sent_in, input_by}
use Rattle.sdh_terminal.specs.Tributaries.{action_of, sent_by}
use Rattle.sdh_node.specs.Rings.Held.{node_at}
use Rattle.sdh_node.specs.Rings.Rounds.{World}
use Rattle.sdh_terminal.proofs.Found.{found_has}
use Rattle.sdh_node.proofs.RingLaws.Clocks.{clock_of}
use Rattle.sdh_laws.specs.Hearing.Laws.{IsWhole}
use Rattle.sdh_laws.specs.Carrying.Windows.{value_at}
use Rattle.sdh_laws.proofs.carrying.Clocks.{form_there}
use Rattle.sdh_laws.proofs.converging.Ports.{clock_there, HasSmall, ports_small}

-- ---- a clock

plain_after : (c : Clock) → next_form c ≡ Plain → ((ticked c).rest ≡ c.rest - 1) × ((ticked c).value ≡ c.value)
unfolding ticked
plain_after c plain = (ap (λ f. (after_form f c).rest) plain, ap (λ f. (after_form f c).value) plain)

-- a clock that might slip and doesn't has no slip that waits
none_waits : (c : Clock) → c.rest ≡ 0 → next_form c ≡ Plain → waiting c ≡ 0
none_waits c may plain = go (nat_le 1 c.rest) (nat_le 1 c.ups) (nat_le 1 c.downs) refl refl refl plain
  where
    go : (rest ups downs : Bool) → nat_le 1 c.rest ≡ rest → nat_le 1 c.ups ≡ ups → nat_le 1 c.downs ≡ downs
        → (if rest then Plain else if ups then Short else if downs then Long else Plain) ≡ Plain → waiting c ≡ 0
    go true ups downs r u d p = let some : 1 ≤ c.rest = grind (arith, nat_tests) in absurd (omega (arith, some, may))
    go false true downs r u d p = absurd (cc)
    go false false true r u d p = absurd (cc)
    go false false false r u d p =
        let ups : c.ups ≡ 0 = grind (arith, nat_tests) in
        let downs : c.downs ≡ 0 = grind (arith, nat_tests) in
        omega arith

-- where a clock justifies nothing in five rounds, one after the other, no slip waits in the fifth
pub goes_five : (c : Clock) → c.rest ≤ 4 → ((k : ℕ) → k ≤ 4 → next_form (ticks k c) ≡ Plain) → waiting (ticks 4 c) ≡ 0
unfolding ticks
goes_five c few plain =
    let c1 = ticked c in
    let c2 = ticked c1 in
    let c3 = ticked c2 in
    let c4 = ticked c3 in
    let p0 = plain_after c (plain 0 (omega arith)) in
    let p1 = plain_after c1 (plain 1 (omega arith)) in
    let p2 = plain_after c2 (plain 2 (omega arith)) in
    let p3 = plain_after c3 (plain 3 (omega arith)) in
    none_waits c4 (omega arith) (plain 4 (omega arith))

-- ---- at a node

-- the clock that is found at a port is the port's clock
by_clock : (o : Option Tributary) (c : Clock) → option_map_or (λ (t : Tributary). Some t.feed.clock) o None ≡ Some c → clock_of o ≡ c
by_clock None c e = absurd (cc)
by_clock (Some t) c e = cc

pub form_by : (v : World) (q : ℕ) (id : PortId) (c : Clock) → clock_there v q id ≡ Some c → form_there v q id ≡ next_form c
form_by v q id c e = ap next_form (by_clock (port_of id (node_at v.ring.nodes q).ports) c e)

-- an input has the action and the value that a clock gives
abbrev AddsBy : Input → Clock → Type 0
AddsBy i c = (i.action ≡ action_of (next_form c)) × (i.value ≡ (ticked c).value)

adds : (o : Option Tributary) (c : Clock) → option_map_or (λ (t : Tributary). Some t.feed.clock) o None ≡ Some c
    → AddsBy (option_map_or (λ (t : Tributary). input_by (sent_in t.feed)) o no_input) c
unfolding sent_by
adds None c e = absurd (cc)
adds (Some t) c e =
    let same : t.feed.clock ≡ c = cc in
    (ap action_of (form_ticked t.feed.clock) ∙ ap (λ (k : Clock). action_of (next_form k)) same, ap (λ (k : Clock). (ticked k).value) same)

pub added_so : (v : World) (q m : ℕ) (id : PortId) (c : Clock) → clock_there v q id ≡ Some c → AddsBy (value_at v q m (Add id)) c
added_so v q m id c e = adds (port_of id (node_at v.ring.nodes q).ports) c e

adds_none : (o : Option Tributary) → option_map_or (λ (t : Tributary). Some t.feed.clock) o None ≡ None
    → option_map_or (λ (t : Tributary). input_by (sent_in t.feed)) o no_input ≡ no_input
adds_none None e = refl
adds_none (Some t) e = absurd (cc)

pub none_added : (v : World) (q m : ℕ) (id : PortId) → clock_there v q id ≡ None → value_at v q m (Add id) ≡ no_input
none_added v q m id e = adds_none (port_of id (node_at v.ring.nodes q).ports) e

-- ---- its value and its rest

pub clock_bounds : (w : World) → IsWhole w → All HasOffsets w.ring.circuits.circuits → (q : ℕ) (id : PortId) (c : Clock)
    → q < length w.ring.nodes → clock_there w q id ≡ Some c → (c.value ≤ 782) × (c.rest ≤ 4)
clock_bounds w whole all q id c h e = by_found (port_of id (node_at w.ring.nodes q).ports) refl e
  where
    by_found : (o : Option Tributary) → port_of id (node_at w.ring.nodes q).ports ≡ o
        → option_map_or (λ (t : Tributary). Some t.feed.clock) o None ≡ Some c → (c.value ≤ 782) × (c.rest ≤ 4)
    by_found None found e = absurd (cc)
    by_found (Some t) found e =
        let same : t.feed.clock ≡ c = cc in
        let is =
        (found_has (λ (t : Tributary). IsClock t.feed.port.offset w.ring.rounds t.feed.clock) id (node_at w.ring.nodes q).ports t
        (whole.placed.between q h).gone found).0 in
        let small = (found_has HasSmall id (node_at w.ring.nodes q).ports t (ports_small w whole all q h) found).0 in
        subst (λ (k : Clock). (k.value ≤ 782) × (k.rest ≤ 4)) same (is.value_small small, is.rest_few)
