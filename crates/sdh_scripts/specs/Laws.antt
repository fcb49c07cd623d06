-- The law of scripts over rings of any kind, with any report of a settle step.
use Rattle.std.specs.Prelude.{ℕ, ◌≡◌, ◌+◌, ◌-◌, ◌≤◌, List, length}
use Rattle.sdh_plant.specs.Arrivals.{Knows}
use Rattle.sdh_rounds.specs.Held.{World}
use Rattle.sdh_plan.specs.declared.step.Step.{Step}
use Rattle.sdh_status.specs.declared.Status.{Status}
use Rattle.sdh_scripts.specs.Walks.{Walk}
use Rattle.sdh_scripts.specs.Scripts.{Runs, ComesTo}

-- a step that runs no round keeps the identifiers, the number of nodes, the number of rounds and what was sent; known
-- arrivals stay known
pub record DoesNoRound {N : Type 0} (does : Step → World N → World N) : Type 0 where
  pub ids : (s : Step) (w : World N) → (does s w).ring.ids ≡ w.ring.ids
  pub size : (s : Step) (w : World N) → length (does s w).ring.nodes ≡ length w.ring.nodes
  pub rounds : (s : Step) (w : World N) → (does s w).ring.rounds ≡ w.ring.rounds
  pub sent : (s : Step) (w : World N) → (does s w).fibres.sent ≡ w.fibres.sent
  pub knows : (s : Step) (w : World N) → Knows w.fibres → Knows (does s w).fibres

-- the report of a settle step shows its last round, and depends only on its rounds and those after it
pub record KeepsRounds {N T : Type 0} (walk : Walk N T) : Type 0 where
  pub other : DoesNoRound walk.does
  pub last : (number : ℕ) (at : ℕ → World N) (k : ℕ) → walk.last (walk.tells number at k) ≡ (at k).ring.rounds - 1
  pub looks : (number k : ℕ) (at bt : ℕ → World N) → ((j : ℕ) → j ≤ k + walk.behind → at j ≡ bt j)
      → walk.tells number at k ≡ walk.tells number bt k

-- Where arrivals are known they determine what a script comes to. A script that a fault broke off comes to the
-- beginning of that.
abbrev pub KnownScripts : {N T : Type 0} → Walk N T → Type 0
KnownScripts {N} {T} walk = (limit before : ℕ) (steps : List Step) (w : World N) (reports : List T) (end : Status) (left : World N)
    → Knows w.fibres → 1 ≤ length w.ring.ids → length w.ring.nodes ≡ length w.ring.ids → Runs walk limit before steps w reports end left
    → ComesTo walk limit before steps w reports end left
