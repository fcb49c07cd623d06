-- What is reported with watches follows from the rounds of a settle step and the 128 after it.
use Rattle.std.proofs.Common.{◌≡◌, ℕ, zero, suc, ◌+◌, ◌≤◌, ◌∷◌, refl, ap₂, arith}
use Rattle.sdh_circuits.specs.declared.PortId.{PortId}
use Rattle.sdh_node.specs.Rings.Rounds.{World}
use Rattle.sdh_scripts.specs.Laws.{KeepsRounds}
use Rattle.sdh_owed.proofs.Known.{no_round}
use Rattle.sdh_watch.specs.Watching.{given_of, heard_in, watched, watched_in}
use Rattle.sdh_watch.specs.Scripts.{watch_walk}

-- courses that agree up to a round give a port's watch equal bytes
pub heard_same : (k : ℕ) (at bt : ℕ → World) (port : PortId) → ((j : ℕ) → j ≤ k → at j ≡ bt j) → heard_in k at port ≡ heard_in k bt port
heard_same zero at bt port same = refl
heard_same (suc k) at bt port same =
    ap₂ (λ (v : World) l. given_of v.ring port ∷ l) (same (suc k) (omega arith)) (heard_same k at bt port (λ j h. same j (omega arith)))

looks : (number k : ℕ) (at bt : ℕ → World) → ((j : ℕ) → j ≤ k + 128 → at j ≡ bt j) → watched_in number at k ≡ watched_in number bt k
looks number k at bt same =
    let mid = same k (omega arith) in
    let left = same (k + 128) (omega arith) in
    let heard = λ (port : PortId). heard_same 128 (λ j. at (k + j)) (λ j. bt (k + j)) port (λ j h. same (k + j) (omega arith)) in
    λ i. watched number (mid i).ring (left i).ring (λ port. heard port i)

pub keeps_rounds : KeepsRounds watch_walk
keeps_rounds = record { other = no_round; last = λ number at k. refl; looks = looks }
