-- What rounds keep of a world, and rounds after rounds.
use Rattle.std.proofs.Common.{◌≡◌, ℕ, zero, suc, ◌+◌, ◌<◌, length, refl, ap, ◌∙◌, arith}
use Rattle.sdh_ringmap.specs.Rates.{n_of}
use Rattle.sdh_ringmap.specs.declared.Side.{Side}
use Rattle.sdh_node.specs.Rings.Rounds.{World, round, arrivals_of}
use Rattle.sdh_node.specs.Rings.Runs.{run}
use Rattle.sdh_laws.specs.Hearing.Laws.{IsWhole}
use Rattle.sdh_laws.proofs.hearing.Follows.{condition_after}
use Rattle.sdh_laws.proofs.hearing.Nodes.{count, length-after}
use Rattle.sdh_laws.proofs.hearing.Staying.{left_run}
use Rattle.sdh_node.specs.Rings.Sides.{condition_to}
use Rattle.sdh_rounds.specs.Rounds as any_round
use Rattle.sdh_rounds.specs.Runs as any_run

pub length_run : (w : World) (k : ℕ) → length (run k w).ring.nodes ≡ length w.ring.nodes
unfolding any_run.run
length_run w zero = refl
length_run w (suc k) = length-after (run k w) ∙ length_run w k

-- a node stays for each identifier
pub nodes_run : (w : World) → IsWhole w → (k : ℕ) → length (run k w).ring.nodes ≡ length w.ring.ids
nodes_run w whole k = length_run w k ∙ count w whole.placed

pub inside_run : (w : World) (k p : ℕ) → p < length w.ring.nodes → p < length (run k w).ring.nodes
inside_run w k p h = omega (arith, length_run w k)

pub rate_run : (w : World) (k : ℕ) → n_of (run k w).ring.settings.rate ≡ n_of w.ring.settings.rate
rate_run w k = ap (λ s. n_of s.rate) (left_run k w).settings

pub condition_run : (w : World) (k p : ℕ) (d : Side) → condition_to (run k w) p d ≡ condition_to w p d
unfolding any_run.run any_round.round
condition_run w zero p d = refl
condition_run w (suc k) p d = condition_after (arrivals_of (run k w)) (run k w) p d ∙ condition_run w k p d

-- rounds after rounds
pub run_more : (w : World) (a k : ℕ) → run k (run a w) ≡ run (k + a) w
unfolding any_run.run
run_more w a zero = ap (λ j. run j w) {x = a} {y = zero + a} (omega arith)
run_more w a (suc k) = ap round (run_more w a k) ∙ ap (λ j. run j w) {x = suc (k + a)} {y = suc k + a} (omega arith)
