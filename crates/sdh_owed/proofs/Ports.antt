-- The ports of a restored ring show what they are owed.
use Rattle.std.proofs.Common.{◌≡◌, ℕ, suc, ◌+◌, ◌-◌, ◌≤◌, Some, List, [], ◌∷◌, length, refl, ap, ◌∙◌, subst, arith}
use Rattle.std.specs.Prelude.{Bool, slice_get}
use Rattle.std.specs.Option.{option_map_or}
use Rattle.sdh_ringmap.specs.Numbering.{magnitude}
use Rattle.sdh_circuits.specs.declared.End.{End}
use Rattle.sdh_circuits.specs.declared.End.TheVariants.{A, B}
use Rattle.sdh_circuits.specs.declared.PortId.{PortId}
use Rattle.sdh_circuits.specs.Provisioned.{Provisioned, customer_at}
use Rattle.sdh_restoration.specs.Applied.{is_applied}
use Rattle.sdh_restoration.specs.Due.{due, sends_by}
use Rattle.sdh_circuits.specs.Ends.{other_end}
use Rattle.sdh_payload.specs.Customer.{Customer}
use Rattle.sdh_payload.specs.History.{Happening}
use Rattle.sdh_payload.specs.Laws.{clock_by, GoesBy}
use Rattle.sdh_payload.proofs.Histories.{clocks_go_by_history}
use Rattle.sdh_payload.specs.Outlet.{Outlet, delivering}
use Rattle.sdh_payload.specs.Stream.{stream_from}
use Rattle.sdh_restoration.specs.Changes.{Stretch}
use Rattle.sdh_restoration.specs.Happened.{happened}
use Rattle.sdh_owed.specs.Reports.{ports_of, report_of}
use Rattle.sdh_promise.specs.Owed.{owed_port, owed_ports, IsOwed}
use Rattle.sdh_spans.specs.Brought.{plainly}
use Rattle.sdh_node.specs.Rings.Clocks.{offset_of, clocks_by}
use Rattle.sdh_node.proofs.RingLaws.Happened.{clocks_tell}
use Rattle.sdh_node.specs.Rings.Held.{HeldRing, outlet_at}
use Rattle.sdh_node.specs.Rings.Rounds.{World}
use Rattle.sdh_laws.specs.Carrying.Laws.{due_by_clocks, IsRestored}
use Rattle.sdh_laws.specs.Carrying.Windows.{layout_of, HasCircuits}
use Rattle.sdh_laws.proofs.carrying.Owed.{offset_small}
use Rattle.sdh_status.specs.PortLine.{PortLine}
use Rattle.sdh_scripts.specs.Ports.{end_outlet, port_line_at, lines_from}

-- ---- clocks and what happened

-- a clock that goes by its history sends what the history says
sends_told : (customer : Customer) (history : List Happening) → customer.offset ≤ 782
    → plainly customer (clock_by customer.offset history) ≡ sends_by customer history
sends_told customer history small =
    let by : GoesBy customer.offset history (clock_by customer.offset history) = clocks_go_by_history customer.offset history small in
    let value = ap magnitude by.value_is in
    λ i. delivering (value i) (stream_from customer (by.begins i) 2349)

-- the port at the other end of a circuit of this number
abbrev other_of : ℕ → End → PortId
other_of index e = record { circuit = index; end = other_end e }

-- the offset of the other port is that of its customer
offset_is : (circuits : List Provisioned) (index : ℕ) (c : Provisioned) (e : End) → slice_get circuits index ≡ Some c
    → offset_of circuits (other_of index e) ≡ (customer_at c (other_end e)).offset
offset_is circuits index c e get = ap (λ o. option_map_or (λ (d : Provisioned). (customer_at d (other_end e)).offset) o 0) get

-- what a port is owed by the clocks of a run equals what it is owed by what happened
pub due_told : (n : ℕ) (applied : ℕ → Bool) (circuits : List Provisioned) (ss : List Stretch) (index : ℕ) (c : Provisioned) (e : End)
    (t : ℕ) → slice_get circuits index ≡ Some c → (customer_at c (other_end e)).offset ≤ 782
    → due_by_clocks n applied c e (clocks_by circuits ss (other_of index e)) t
    ≡ due n applied c (λ k. sends_by (customer_at c (other_end e)) (happened ss (other_of index e) k)) t
due_told n applied circuits ss index c e t get small =
    let customer = customer_at c (other_end e) in
    let same : (k : ℕ) → plainly customer (clocks_by circuits ss (other_of index e) k)
    ≡ sends_by customer (happened ss (other_of index e) k) = λ k. (
    let h = happened ss (other_of index e) k in
    ap (plainly customer) (clocks_tell circuits ss (other_of index e) k ∙ ap (λ o. clock_by o h) (offset_is circuits index c e get))
    ∙ sends_told customer h small) in
    λ i. due n applied c (λ k. same k i) t

-- ---- reports

-- the ports of the circuits from a place on, in a ring of n
pub ports_are : (r : HeldRing) (n : ℕ) (applied : ℕ → Bool) (before : PortId → ℕ → List Happening) (t index : ℕ) (cs : List Provisioned)
    → ((k : ℕ) (c : Provisioned) → slice_get cs k ≡ Some c → (e : End)
    → outlet_at r (record { circuit = index + k; end = e })
    ≡ due n applied c (λ j. sends_by (customer_at c (other_end e)) (before (record { circuit = index + k; end = other_end e }) j)) t)
    → lines_from (end_outlet (outlet_at r)) index cs ≡ owed_ports n applied before t index cs
ports_are r n applied before t index [] h = refl
ports_are r n applied before t index (c ∷ cs) h =
    let line = λ (e : End) (o : Outlet). let x : PortLine = record { name = c.name; end = e; outlet = o } in x in
    let Shows =
    λ (d : Provisioned) (e : End) (i : ℕ). outlet_at r (record { circuit = i; end = e })
    ≡ due n applied d (λ j. sends_by (customer_at d (other_end e)) (before (record { circuit = i; end = other_end e }) j)) t in
    let here : index + 0 ≡ index = omega arith in
    let one = λ (e : End). ap (line e) (subst (Shows c e) here (h 0 c refl e)) in
    let later = lines_from (end_outlet (outlet_at r)) (index + 1) cs in
    let first = λ (x : PortLine). x ∷ port_line_at (end_outlet (outlet_at r)) index c B ∷ later in
    let second = λ (x : PortLine). owed_port n applied before t index c A ∷ x ∷ later in
    let third = λ (x : List PortLine). owed_port n applied before t index c A ∷ owed_port n applied before t index c B ∷ x in
    ap first (one A) ∙ ap second (one B) ∙ ap third (ports_are r n applied before t (index + 1) cs (λ k d get e. (
    let next : index + suc k ≡ index + 1 + k = omega arith in
    subst (Shows d e) next (h (suc k) d get e))))

-- the report of a ring that is restored under the clocks of a run shows what is owed under what happened
pub owed_now : (ss : List Stretch) (w : World) (number : ℕ) (requests : List ℕ) → HasCircuits (layout_of w)
    → IsRestored (clocks_by w.ring.circuits.circuits ss) w requests
    → IsOwed (length w.ring.ids) requests (happened ss) w.ring.circuits.circuits (ports_of (report_of number w.ring))
unfolding report_of
owed_now ss w number requests form h =
    let n = length w.ring.ids in
    let cs = w.ring.circuits.circuits in
    ports_are w.ring n (is_applied requests) (happened ss) (w.ring.rounds - 1) 0 cs (λ k c get e. (
    let same : k ≡ 0 + k = omega arith in
    subst (λ i. outlet_at w.ring (record { circuit = i; end = e })
    ≡ due n (is_applied requests) c (λ j. sends_by (customer_at c (other_end e)) (happened ss (other_of i e) j))
    (w.ring.rounds - 1)) same
    (h.ports k c get e ∙ due_told n (is_applied requests) cs ss k c e (w.ring.rounds - 1) get
    (offset_small cs form.offsets k c get (other_end e)))))
