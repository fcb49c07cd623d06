-- Rings whose settled states, deliveries and routes are known: each is given by the requests of its spans, 11 for a
-- span that has failed and 6 for a manual request.
use Rattle.std.specs.Prelude.{ℕ, zero, suc, ◌≡◌, List, [], ◌∷◌}
use Rattle.sdh_payload.specs.Customer.{Customer}
use Rattle.sdh_circuits.specs.Provisioned.{Provisioned, arc_of}
use Rattle.sdh_circuits.specs.declared.End.TheVariants.{A, B}
use Rattle.sdh_nodestate.specs.declared.NodeState.TheVariants as state
use Rattle.sdh_restoration.specs.Applied.{is_applied}
use Rattle.sdh_restoration.specs.Routes.{hops}
use Rattle.sdh_signal.specs.Settled.{settled}
use Rattle.sdh_bridge.specs.declared.Origin.TheVariants.{Ais}
use Rattle.sdh_signal.specs.Walks.{Stand, port, back_from, delivery}
use Rattle.std.specs.Prelude.{Some}
use Rattle.sdh_ringmap.specs.Places.{position_of}

abbrev pub no_customer : Customer
no_customer = record { text = []; trace = []; offset = 0 }

-- a circuit in slot 1
abbrev pub circuit : ℕ → ℕ → Provisioned
circuit from to = record {
  name = [];
  from = position_of from;
  to = position_of to;
  slot = record { 0 = 1 };
  a = no_customer;
  b = no_customer;
}

-- where a walk stands after k spans
abbrev pub stand_after : ℕ → List ℕ → List Provisioned → ℕ → Stand → Stand
stand_after n rs cs zero x = x
stand_after n rs cs (suc k) x = stand_after n rs cs k (back_from n (settled rs) cs 1 x.at x.origin)

-- four nodes, a circuit from the first to the third: the second span has failed
abbrev pub OneSpanFailed : Type 0
OneSpanFailed =
    let rs = 0 ∷ 11 ∷ 0 ∷ 0 ∷ [] in let c = circuit 0 2 in
    (settled rs 0 ≡ state.PassThrough tt) × (settled rs 1 ≡ state.SwitchEast (Some (position_of 2)))
    × (settled rs 2 ≡ state.SwitchWest (Some (position_of 1))) × (settled rs 3 ≡ state.PassThrough tt)
    × (hops 4 (is_applied rs) (arc_of 4 c) ≡ 4)
    × ((stand_after 4 rs (c ∷ []) 4 (delivery 4 (settled rs) (c ∷ []) c A)).origin ≡ port 0 B)
    × ((stand_after 4 rs (c ∷ []) 4 (delivery 4 (settled rs) (c ∷ []) c B)).origin ≡ port 0 A)

-- four nodes, a circuit from the first to the fourth: the first and the third span have failed, and the circuit goes
-- over the fourth
abbrev pub TwoSpansFailed : Type 0
TwoSpansFailed =
    let rs = 11 ∷ 0 ∷ 11 ∷ 0 ∷ [] in let c = circuit 0 3 in
    (settled rs 0 ≡ state.SwitchEast (Some (position_of 3))) × (settled rs 1 ≡ state.SwitchWest (Some (position_of 2)))
    × (settled rs 2 ≡ state.SwitchEast (Some (position_of 1))) × (settled rs 3 ≡ state.SwitchWest (Some (position_of 0)))
    × (hops 4 (is_applied rs) (arc_of 4 c) ≡ 1)
    × ((stand_after 4 rs (c ∷ []) 1 (delivery 4 (settled rs) (c ∷ []) c A)).origin ≡ port 0 B)
    × ((stand_after 4 rs (c ∷ []) 1 (delivery 4 (settled rs) (c ∷ []) c B)).origin ≡ port 0 A)

-- two circuits in one slot end at the second node, both of whose spans have failed: without squelching each would be
-- led to the other's port
abbrev pub ANodeIsCutOff : Type 0
ANodeIsCutOff =
    let rs = 11 ∷ 11 ∷ 0 ∷ 0 ∷ [] in let x = circuit 0 1 in let y = circuit 1 2 in let cs = x ∷ y ∷ [] in
    (settled rs 0 ≡ state.SwitchEast (Some (position_of 2))) × (settled rs 1 ≡ state.Isolated tt)
    × (settled rs 2 ≡ state.SwitchWest (Some (position_of 0))) × (settled rs 3 ≡ state.PassThrough tt)
    × ((delivery 4 (settled rs) cs x A).origin ≡ Ais) × ((delivery 4 (settled rs) cs x B).origin ≡ Ais)
    × ((delivery 4 (settled rs) cs y A).origin ≡ Ais) × ((delivery 4 (settled rs) cs y B).origin ≡ Ais)

-- two manual requests tie, and nothing is switched; then one of them is cleared
abbrev pub ATie : Type 0
ATie =
    let rs = 0 ∷ 6 ∷ 0 ∷ 6 ∷ [] in let one = 0 ∷ 0 ∷ 0 ∷ 6 ∷ [] in let c = circuit 0 2 in
    (settled rs 0 ≡ state.Idle tt) × (settled rs 1 ≡ state.Idle tt) × (settled rs 2 ≡ state.Idle tt) × (settled rs 3 ≡ state.Idle tt)
    × (hops 4 (is_applied rs) (arc_of 4 c) ≡ 2)
    × (settled one 0 ≡ state.SwitchWest (Some (position_of 3))) × (settled one 1 ≡ state.PassThrough tt)
    × (settled one 2 ≡ state.PassThrough tt) × (settled one 3 ≡ state.SwitchEast (Some (position_of 0)))
    × (hops 4 (is_applied one) (arc_of 4 c) ≡ 2)

-- sixteen nodes, a circuit over all spans but the last: the last span but one has failed
abbrev pub TheLongestRoute : Type 0
TheLongestRoute =
    let rs = 0 ∷ 0 ∷ 0 ∷ 0 ∷ 0 ∷ 0 ∷ 0 ∷ 0 ∷ 0 ∷ 0 ∷ 0 ∷ 0 ∷ 0 ∷ 0 ∷ 11 ∷ 0 ∷ [] in let c = circuit 0 15 in
    (settled rs 14 ≡ state.SwitchEast (Some (position_of 15))) × (settled rs 15 ≡ state.SwitchWest (Some (position_of 14)))
    × (settled rs 0 ≡ state.PassThrough tt) × (hops 16 (is_applied rs) (arc_of 16 c) ≡ 29)
