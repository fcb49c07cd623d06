-- The history of one side of a node from the stretches of a run, and what the side asks for by it. No frame occurs in it.
use Rattle.std.specs.Prelude.{ℕ, ◌-◌, ◌==◌, nat_lt, if◌then◌else◌, List, [], ◌∷◌}
use Rattle.sdh_ringmap.specs.declared.Side.{Side}
use Rattle.sdh_request.specs.declared.Command.{Command}
use Rattle.sdh_request.specs.declared.Command.TheVariants as command
use Rattle.sdh_ringmap.specs.declared.terms.Condition.{Condition}
use Rattle.sdh_ringmap.specs.declared.terms.Condition.TheVariants.{Clear}
use Rattle.sdh_ringmap.specs.Fibres.{fibre, fibre_to, is_cut, degraded_by}
use Rattle.sdh_restoration.specs.History.{SideHistory, Asking, local_request}
use Rattle.sdh_restoration.specs.Changes.{Change, Fibre, Order, Now, Stretch}

-- what holds on a side in a round: the condition of the fibre that comes in, the command, and the moment
pub record Holding : Type 0 where
  pub condition : Condition
  pub command : Command
  pub moment : ℕ

-- what holds on a side of a new ring over new fibres
abbrev pub new_holding : Holding
new_holding = record { condition = Clear; command = command.Clear; moment = 0 }

-- what holds on side d of position p in a ring of n after a change
abbrev pub holding_after : ℕ → ℕ → Side → Change → Holding → Holding
holding_after n p d (Fibre q e condition) h = if fibre q e == fibre_to n p d then record h { condition = condition } else h
holding_after n p d (Order q e command) h = if fibre q e == fibre p d then record h { command = command } else h
holding_after n p d (Now t) h = record h { moment = t }
holding_after n p d c h = h

-- what holds on side d of position p in a ring of n after these changes, in their order
abbrev pub all_holding : ℕ → ℕ → Side → List Change → Holding → Holding
all_holding n p d [] h = h
all_holding n p d (c ∷ cs) h = all_holding n p d cs (holding_after n p d c h)

-- what holds on side d of position p in round t of these stretches, where h held before them
abbrev pub holding_in : ℕ → ℕ → Side → List Stretch → Holding → ℕ → Holding
holding_in n p d [] h t = h
holding_in n p d (s ∷ ss) h t =
    if nat_lt t s.rounds then all_holding n p d s.changes h else holding_in n p d ss (all_holding n p d s.changes h) (t - s.rounds)

-- the history of side d of position p over these stretches, from a new ring over new fibres on
abbrev pub side_history : ℕ → ℕ → Side → List Stretch → SideHistory
side_history n p d ss = record {
  is_cut = λ t. is_cut (holding_in n p d ss new_holding t).condition;
  degraded = λ t. degraded_by (holding_in n p d ss new_holding t).condition;
  command = λ t. (holding_in n p d ss new_holding t).command;
  moment = λ t. (holding_in n p d ss new_holding t).moment;
}

-- what each side asks for in round t of the stretches, by its history, in a ring of n with this threshold and this
-- waiting time
abbrev pub asked_in : ℕ → ℕ → ℕ → List Stretch → ℕ → Asking
asked_in threshold wait n stretches t p d = local_request threshold wait (side_history n p d stretches) t
