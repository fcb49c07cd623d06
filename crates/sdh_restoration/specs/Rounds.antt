-- A side's history as a list of rounds.
use Rattle.std.specs.Prelude.{false, List, slice_index_or}
use Rattle.sdh_request.specs.declared.Command.TheVariants as command
use Rattle.sdh_restoration.specs.declared.history.SideRound.{SideRound}
use Rattle.sdh_restoration.specs.History.{SideHistory}

-- a round in which the fibre is clear, no command holds, and the moment is 0
abbrev pub still_round : SideRound
still_round = record { is_cut = false; degraded = 0; command = command.Clear; moment = record { 0 = 0 } }

-- the history that a list of rounds gives; after the end of the list each round is `still_round`
abbrev pub history_of : List SideRound → SideHistory
history_of rounds = record {
  is_cut = λ t. (slice_index_or rounds t still_round).is_cut;
  degraded = λ t. (slice_index_or rounds t still_round).degraded;
  command = λ t. (slice_index_or rounds t still_round).command;
  moment = λ t. (slice_index_or rounds t still_round).moment.0;
}
