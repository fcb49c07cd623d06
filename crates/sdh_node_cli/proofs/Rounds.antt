-- A round of a node on the bench, and its answer.
use Rattle.std.proofs.Common.{◌≡◌, ℕ, ◌-◌, List, [], ◌++◌, ap, ◌∙◌}
use Rattle.sdh_frame.specs.Sizes.{Frame}
use Rattle.sdh_node.specs.Node.{Node, node_round}
use Rattle.sdh_aps.specs.Lines.{signal_line}
use Rattle.sdh_aps.specs.Showing.{shown_of}
use Rattle.sdh_node_cli.specs.Bench.{Bench, after_round, bench_frames, ports_from, lines_of, frames_if, answer_to}

pub round_is : (b before : Bench) (n : Node) → b ≡ before → n ≡ (node_round b.moment b.node).0 → record b { node = n } ≡ after_round before
round_is b before n same is = ap (λ (m : Node). record b { node = m }) is ∙ ap after_round same

-- the line of what the node shows, the lines of its ports, and the frames
pub answered : (b before : Bench) (n : Node) (west east : Frame) (round : ℕ) (none first second third : List ℕ)
    → b ≡ before → n ≡ (node_round b.moment b.node).0 → west ≡ (bench_frames b).west → east ≡ (bench_frames b).east → round ≡ n.rounds - 1
    → none ≡ [] → first ≡ none ++ signal_line round b.id (shown_of n) → second ≡ first ++ ports_from n b.at 0 b.circuits
    → third ≡ second ++ frames_if b.mode (record { west = west; east = east }) → third ≡ answer_to before
unfolding answer_to lines_of
answered b before n west east round none first second third same node w e number empty one two three =
    let shown : first ≡ signal_line (n.rounds - 1) b.id (shown_of n) =
    one ∙ ap (λ t. t ++ signal_line round b.id (shown_of n)) empty ∙ ap (λ k. signal_line k b.id (shown_of n)) number in
    three
    ∙ ap (λ t. t ++ frames_if b.mode (record { west = west; east = east })) (two ∙ ap (λ t. t ++ ports_from n b.at 0 b.circuits) shown)
    ∙ (λ j. (signal_line ((node j).rounds - 1) b.id (shown_of (node j)) ++ ports_from (node j) b.at 0 b.circuits)
    ++ frames_if b.mode (record { west = w j; east = e j }))
    ∙ ap answer_to same
