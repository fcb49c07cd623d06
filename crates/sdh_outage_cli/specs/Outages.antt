-- What is reported of a settle step with the outages of its ports.
use Rattle.std.specs.Prelude.{ℕ, zero, suc, ◌-◌, List, [], ◌∷◌, slice_get, Option, option_map}
use Rattle.sdh_circuits.specs.declared.End.{End}
use Rattle.sdh_circuits.specs.declared.PortId.{PortId}
use Rattle.sdh_circuits.specs.Ends.{other_end, port_id}
use Rattle.sdh_circuits.specs.Provisioned.{Provisioned, customer_at}
use Rattle.sdh_payload.specs.Customer.{Customer}
use Rattle.sdh_payload.specs.declared.delivered.Delivered.{Delivered}
use Rattle.sdh_node.specs.Rings.Held.{HeldRing, outlet_at}
use Rattle.sdh_node.specs.Rings.Rounds.{World}
use Rattle.sdh_scripts.specs.Ports.{of_ports}
use Rattle.sdh_outage.specs.declared.kind.Kind.{Kind}
use Rattle.sdh_outage.specs.declared.change.Change.{Change}
use Rattle.sdh_outage.specs.declared.outage.Outage.{Outage}
use Rattle.sdh_outage.specs.Kinds.{Whose, kind_of}
use Rattle.sdh_outage.specs.Outages.{outage_of}
use Rattle.sdh_outage.specs.Changes.{kind_changes}
use Rattle.sdh_outage_cli.specs.Streams.{holder_of}

-- ---- one port

-- what a port delivered in the last round
abbrev pub delivered_at : HeldRing → PortId → Delivered
delivered_at r port = (outlet_at r port).delivered

-- What each of the first k rounds of a course was to a port, the latest first. A course gives the world after each
-- number of rounds. What a round was follows from the customer at the port's far end (`far`), from which port of
-- another circuit sends the bytes that aren't this customer's (`whose`), from the number of the round, and from what
-- the port delivered in the round before and in this one.
abbrev pub kinds_in : Customer → Whose → PortId → ℕ → (ℕ → World) → List Kind
kinds_in far whose port zero at = []
kinds_in far whose port (suc k) at =
    kind_of far whose ((at (suc k)).ring.rounds - 1) (delivered_at (at k).ring port) (delivered_at (at (suc k)).ring port)
    ∷ kinds_in far whose port k at

-- the outage of a port in these rounds; the number of the first is how many rounds had run before it
abbrev pub outage_in : Customer → Whose → PortId → ℕ → (ℕ → World) → Outage
outage_in far whose port k at = outage_of (at 0).ring.rounds (kinds_in far whose port k at)

-- for the ports of the circuit of this number: whose bytes come that aren't their own customers', among the other
-- circuits of the course's ring
abbrev pub whose_in : (ℕ → World) → ℕ → Whose
whose_in at index = holder_of (at 0).ring.circuits.circuits index

-- ---- all ports

-- the port at an end of the circuit of this name had this outage
pub record PortOutage : Type 0 where
  pub name : List ℕ
  pub end : End
  pub outage : Outage

-- the outage of the port at an end of the circuit of this number, in the first k rounds of a course
abbrev pub port_out : ℕ → (ℕ → World) → ℕ → Provisioned → End → PortOutage
port_out k at index c e = record {
  name = c.name;
  end = e;
  outage = outage_in (customer_at c (other_end e)) (whose_in at index) (port_id index e) k at;
}

-- the outages of the ports of these circuits, which are counted from `index`
abbrev pub ports_out : ℕ → (ℕ → World) → ℕ → List Provisioned → List PortOutage
ports_out k at = of_ports (port_out k at)

-- ---- the changes of one port

-- what a port went through, round by round: the changes, and what they come to
pub record PortTrace : Type 0 where
  pub changes : List Change
  pub out : PortOutage

-- the trace of the port at an end of the circuit of this number
abbrev pub trace_at : ℕ → (ℕ → World) → ℕ → Provisioned → End → PortTrace
trace_at k at index c e = record {
  changes = kind_changes (at 0).ring.rounds (kinds_in (customer_at c (other_end e)) (whose_in at index) (port_id index e) k at);
  out = port_out k at index c e;
}

-- the trace of a port, where its circuit is one of these
abbrev pub trace_in : ℕ → (ℕ → World) → List Provisioned → PortId → Option PortTrace
trace_in k at cs port = option_map (λ c. trace_at k at port.circuit c port.end) (slice_get cs port.circuit)

-- ---- a settle step

-- the settle step, counted from 1; its last round; the circuits; each port, in their order, a before b; and what a port
-- went through
pub record Outaged : Type 0 where
  pub number : ℕ
  pub round : ℕ
  pub circuits : List Provisioned
  pub ports : List PortOutage
  pub trace : PortId → Option PortTrace

-- what is reported of settle step `number`, which ended with the k-th round of a course
abbrev pub outaged_in : ℕ → (ℕ → World) → ℕ → Outaged
outaged_in number at k = record {
  number = number;
  round = (at k).ring.rounds - 1;
  circuits = (at k).ring.circuits.circuits;
  ports = ports_out k at 0 (at k).ring.circuits.circuits;
  trace = trace_in k at (at k).ring.circuits.circuits;
}
