-- What is shown of a node in a round.
use Rattle.std.specs.Prelude.{ℕ, List, get_or, option_map}
use Rattle.sdh_ringmap.specs.declared.Pos.{Pos}
use Rattle.sdh_nodestate.specs.FarEnds.{far_of}
use Rattle.sdh_nodestate.specs.declared.Needs.{Needs}
use Rattle.sdh_nodestate.specs.declared.Heard.{Heard}
use Rattle.sdh_nodestate.specs.declared.Sent.{Sent}
use Rattle.sdh_nodestate.specs.declared.NodeState.{NodeState}
use Rattle.sdh_node.specs.Node.{Node, sent_of, heard_by, needed}
use Rattle.sdh_report.specs.Lines.{state_word}
use Rattle.sdh_aps.specs.declared.shown.Shown.{Shown}

-- in a ring of these identifiers: the node's state and the identifier of its far end, the words that it sent, the words
-- that it hears, and the local requests of its sides
abbrev pub shown_by : List ℕ → NodeState → Sent → Heard → Needs → Shown
shown_by ids state sent heard needs = record {
  state = state_word state;
  far = option_map (λ (p : Pos). get_or ids p.0 0) (far_of state);
  sent = record { west = sent.west; east = sent.east };
  heard_west = heard.west;
  heard_east = heard.east;
  asks_west = needs.west;
  asks_east = needs.east;
}

-- what a node shows after the last round
unfoldable pub shown_of : Node → Shown
shown_of n = shown_by n.ids n.state (sent_of n) (heard_by n) (needed n)
