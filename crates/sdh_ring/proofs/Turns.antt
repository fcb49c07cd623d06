-- What a caller of a ring's rounds keeps from turn to turn.
use Rattle.std.proofs.Common.{◌≡◌, ℕ, ◌+◌, ◌≤◌, ap, sym, subst, ◌∙◌, arith}
use Rattle.sdh_ringmap.specs.declared.terms.Rate.{Rate}
use Rattle.sdh_plant.specs.Fibres.{Fibres, IsPrepared}
use Rattle.sdh_plant.specs.Calls.{prepared}
use Rattle.sdh_plant.proofs.Calling.{stay_prepared}
use Rattle.sdh_node.specs.Rings.Held.{HeldRing}
use Rattle.sdh_node.specs.Rings.Rounds.{World}
use Rattle.sdh_node.specs.Rings.Runs.{IsRound}
use Rattle.sdh_rounds.proofs.Laws.{rounds_keep}
use Rattle.sdh_node.specs.Stations.{adm}

-- rounds leave all of a ring but its nodes and its count of rounds
pub held_more : (from now : HeldRing) (after : World) (w : World) (k : ℕ)
    → now ≡ record from { nodes = now.nodes; rounds = from.rounds + k } → w.ring ≡ now → IsRound w after
    → after.ring ≡ record from { nodes = after.ring.nodes; rounds = from.rounds + (k + 1) }
held_more from now after w k held is r =
    let keeps = (rounds_keep adm w after r).0 in
    keeps.ring
    ∙ ap (λ (x : HeldRing). record x { nodes = after.ring.nodes; rounds = x.rounds + 1 }) (is ∙ held)
    ∙ ap (λ n. record from { nodes = after.ring.nodes; rounds = n })
    (let e : from.rounds + k + 1 ≡ from.rounds + (k + 1) = omega arith in e)

-- fibres that were just prepared with the ring's rate and size are prepared for the ring
pub prepared_for : (rate its_rate : Rate) (n nodes : ℕ) (f now : Fibres) → 2 ≤ n → n ≤ 16 → now ≡ prepared rate n f → rate ≡ its_rate
    → n ≡ nodes → IsPrepared its_rate nodes now
prepared_for rate its_rate n nodes f now enough few laid same size =
    subst (λ r. IsPrepared r nodes now) same (subst (λ k. IsPrepared rate k now) size
    (subst (IsPrepared rate n) (sym laid) (stay_prepared.prepared rate n f enough few)))
