-- A calm round leaves all that is compared as it was, and a round that does so is calm, unless it is the first one or
-- is held.
use Rattle.std.proofs.Common.{◌≡◌, ℕ, ◌≤◌, Bool, true, false, refl, ap, ◌∙◌}
use Rattle.std.specs.Prelude.{◌&&◌, not, nat_le}
use Rattle.std.proofs.lemmas.Bool.{and_parts, leb-true, le-leb}
use Rattle.sdh_kbytes.specs.Same.{same_code, same_word, same_heard}
use Rattle.sdh_kbytes.proofs.SameWords.{code_same, heard_same, same_is}
use Rattle.sdh_nodestate.specs.Shapes.{same_state}
use Rattle.sdh_nodestate.proofs.SameStates.{state_same}
use Rattle.sdh_terminal.specs.Same.{same_readings, same_generators}
use Rattle.sdh_node.specs.Same.{ComparedIn, ComparedOut, Compared, same_in, same_out, same_compared}
use Rattle.sdh_node.specs.Node.{Node, crossing, after_crossing, with_calm, may_be_calm, is_held, compared, node_round}
use Rattle.sdh_node.proofs.Itself.{compared_itself}
use Rattle.sdh_terminal.proofs.Same.{readings_same, generators_same}

in_same : (a b : ComparedIn) → same_in a b ≡ true → a ≡ b
in_same a b e =
    let last = and_parts (same_code a.request b.request && same_heard a.heard b.heard) (same_readings a.readings b.readings) e in
    let first = and_parts (same_code a.request b.request) (same_heard a.heard b.heard) last.0 in
    let request = code_same a.request b.request first.0 in
    let heard = heard_same a.heard b.heard first.1 in
    let readings = readings_same a.readings b.readings last.1 in
    λ i. record { request = request i; heard = heard i; readings = readings i }

out_same : (a b : ComparedOut) → same_out a b ≡ true → a ≡ b
out_same a b e =
    let both = and_parts (same_word a.word b.word) (same_generators a.generators b.generators) e in
    let word = same_is a.word b.word both.0 in
    let generators = generators_same a.generators b.generators both.1 in
    λ i. record { word = word i; generators = generators i }

pub compared_same : (a b : Compared) → same_compared a b ≡ true → a ≡ b
unfolding same_compared
compared_same a b e =
    let five =
    and_parts (same_in a.west b.west && same_in a.east b.east && same_state a.state b.state && same_out a.west_out b.west_out)
    (same_out a.east_out b.east_out) e in
    let four =
    and_parts (same_in a.west b.west && same_in a.east b.east && same_state a.state b.state) (same_out a.west_out b.west_out) five.0 in
    let three = and_parts (same_in a.west b.west && same_in a.east b.east) (same_state a.state b.state) four.0 in
    let two = and_parts (same_in a.west b.west) (same_in a.east b.east) three.0 in
    let west = in_same a.west b.west two.0 in
    let east = in_same a.east b.east two.1 in
    let state = state_same a.state b.state three.1 in
    let west_out = out_same a.west_out b.west_out four.1 in
    let east_out = out_same a.east_out b.east_out five.1 in
    λ i. record { west = west i; east = east i; state = state i; west_out = west_out i; east_out = east_out i }

not_true : (b : Bool) → not b ≡ true → b ≡ false
not_true true e = cc
not_true false e = refl

-- a calm round isn't the node's first one, isn't held, and leaves all that is compared as it was
pub calm_leaves : (now : ℕ) (n : Node) → (node_round now n).0.calm ≡ true
    → (1 ≤ n.rounds) × (is_held n ≡ false) × (compared (node_round now n).0 ≡ compared n)
unfolding node_round with_calm
calm_leaves now n e =
    let both = and_parts (may_be_calm n) (same_compared (compared (after_crossing (crossing now n) n)) (compared n)) e in
    let may = and_parts (nat_le 1 n.rounds) (not (is_held n)) both.0 in (
      leb-true 1 n.rounds may.0,
      not_true (is_held n) may.1,
      compared_same (compared (after_crossing (crossing now n) n)) (compared n) both.1,
    )

-- a round after the first one that isn't held and leaves all that is compared as it was is calm
pub unchanged_is_calm : (now : ℕ) (n : Node) → 1 ≤ n.rounds → is_held n ≡ false → compared (node_round now n).0 ≡ compared n
    → (node_round now n).0.calm ≡ true
unfolding node_round with_calm
unchanged_is_calm now n ran free same =
    let some : nat_le 1 n.rounds ≡ true = le-leb 1 n.rounds ran in
    rw (some, free) (ap (λ c. same_compared c (compared n)) same ∙ compared_itself (compared n))
