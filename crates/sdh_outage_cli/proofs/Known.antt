-- What is reported of outages depends only on the rounds of a settle step.
use Rattle.std.proofs.Common.{◌≡◌, ℕ, zero, suc, ◌+◌, ◌-◌, ◌≤◌, List, [], ◌∷◌, refl, ap, ◌∙◌, arith}
use Rattle.std.specs.Prelude.{slice_get, option_map}
use Rattle.sdh_circuits.specs.declared.PortId.{PortId}
use Rattle.sdh_circuits.specs.declared.End.{End}
use Rattle.sdh_circuits.specs.declared.End.TheVariants.{A, B}
use Rattle.sdh_circuits.specs.Ends.{other_end, port_id}
use Rattle.sdh_circuits.specs.Provisioned.{Provisioned, customer_at}
use Rattle.sdh_payload.specs.Customer.{Customer}
use Rattle.sdh_node.specs.Rings.Rounds.{World}
use Rattle.sdh_scripts.specs.Laws.{KeepsRounds}
use Rattle.sdh_owed.proofs.Known.{no_round}
use Rattle.sdh_outage.specs.Kinds.{Whose, kind_of}
use Rattle.sdh_outage.specs.Outages.{outage_of}
use Rattle.sdh_outage.specs.Changes.{kind_changes}
use Rattle.sdh_outage_cli.specs.Streams.{holder_of}
use Rattle.sdh_outage_cli.specs.Outages.{delivered_at, kinds_in, outage_in, whose_in, ports_out, trace_at, trace_in, outaged_in}
use Rattle.sdh_outage_cli.specs.Scripts.{outage_walk}

-- courses that agree up to a round give equal kinds
kinds_same : (far : Customer) (whose other : Whose) → whose ≡ other → (port : PortId) (k : ℕ) (at bt : ℕ → World)
    → ((j : ℕ) → j ≤ k → at j ≡ bt j) → kinds_in far whose port k at ≡ kinds_in far other port k bt
kinds_same far whose other is port zero at bt same = refl
kinds_same far whose other is port (suc k) at bt same =
    let before = same k (omega arith) in
    let now = same (suc k) (omega arith) in
    let rest = kinds_same far whose other is port k at bt (λ j h. same j (omega arith)) in
    λ i. kind_of far (is i) ((now i).ring.rounds - 1) (delivered_at (before i).ring port) (delivered_at (now i).ring port) ∷ rest i

-- the ring's circuits are those of its first world
whose_same : (index k : ℕ) (at bt : ℕ → World) → ((j : ℕ) → j ≤ k → at j ≡ bt j) → whose_in at index ≡ whose_in bt index
whose_same index k at bt same = ap (λ (v : World). holder_of v.ring.circuits.circuits index) (same 0 (omega arith))

kinds_in_same : (far : Customer) (index : ℕ) (port : PortId) (k : ℕ) (at bt : ℕ → World) → ((j : ℕ) → j ≤ k → at j ≡ bt j)
    → kinds_in far (whose_in at index) port k at ≡ kinds_in far (whose_in bt index) port k bt
kinds_in_same far index port k at bt same =
    kinds_same far (whose_in at index) (whose_in bt index) (whose_same index k at bt same) port k at bt same

outage_same : (far : Customer) (index : ℕ) (port : PortId) (k : ℕ) (at bt : ℕ → World) → ((j : ℕ) → j ≤ k → at j ≡ bt j)
    → outage_in far (whose_in at index) port k at ≡ outage_in far (whose_in bt index) port k bt
outage_same far index port k at bt same =
    let first = same 0 (omega arith) in
    let kinds = kinds_in_same far index port k at bt same in
    λ i. outage_of (first i).ring.rounds (kinds i)

ports_same : (k : ℕ) (at bt : ℕ → World) → ((j : ℕ) → j ≤ k → at j ≡ bt j) → (index : ℕ) (cs : List Provisioned)
    → ports_out k at index cs ≡ ports_out k bt index cs
ports_same k at bt same index [] = refl
ports_same k at bt same index (c ∷ cs) =
    let a = outage_same c.b index (port_id index A) k at bt same in
    let b = outage_same c.a index (port_id index B) k at bt same in
    let rest = ports_same k at bt same (index + 1) cs in
    λ i. record { name = c.name; end = A; outage = a i } ∷ record { name = c.name; end = B; outage = b i } ∷ rest i

trace_same : (k : ℕ) (at bt : ℕ → World) → ((j : ℕ) → j ≤ k → at j ≡ bt j) → (index : ℕ) (c : Provisioned) (e : End)
    → trace_at k at index c e ≡ trace_at k bt index c e
trace_same k at bt same index c e =
    let far = customer_at c (other_end e) in
    let first = same 0 (omega arith) in
    let kinds = kinds_in_same far index (port_id index e) k at bt same in
    let out = outage_same far index (port_id index e) k at bt same in
    λ i. record { changes = kind_changes (first i).ring.rounds (kinds i); out = record { name = c.name; end = e; outage = out i } }

traces_same : (k : ℕ) (at bt : ℕ → World) → ((j : ℕ) → j ≤ k → at j ≡ bt j) → (cs : List Provisioned) (port : PortId)
    → trace_in k at cs port ≡ trace_in k bt cs port
traces_same k at bt same cs port =
    λ i. option_map (λ (c : Provisioned). trace_same k at bt same port.circuit c port.end i) (slice_get cs port.circuit)

looks : (number k : ℕ) (at bt : ℕ → World) → ((j : ℕ) → j ≤ k + 0 → at j ≡ bt j) → outaged_in number at k ≡ outaged_in number bt k
looks number k at bt same =
    let last = same k (omega arith) in
    let ports =
    ports_same k at bt (λ j h. same j (omega arith)) 0 (at k).ring.circuits.circuits
    ∙ ap (λ (v : World). ports_out k bt 0 v.ring.circuits.circuits) last in
    let traces =
    λ (port : PortId). traces_same k at bt (λ j h. same j (omega arith)) (at k).ring.circuits.circuits port
    ∙ ap (λ (v : World). trace_in k bt v.ring.circuits.circuits port) last in
    λ i. record {
      number = number;
      round = (last i).ring.rounds - 1;
      circuits = (last i).ring.circuits.circuits;
      ports = ports i;
      trace = λ port. traces port i;
    }

pub keeps_rounds : KeepsRounds outage_walk
keeps_rounds = record { other = no_round; last = λ number at k. refl; looks = looks }
