-- What a round and a settle step answer and leave.
use Rattle.std.specs.Prelude.{ℕ, ◌≡◌, ◌+◌, ◌≤◌, Bool, true, false, Result, Ok, Err, OnOk, OnErr, IsErr, length}
use Rattle.sdh_basics.specs.Causes.{Rose, IsCounted}
use Rattle.sdh_plant.specs.Fibres.{IsPrepared}
use Rattle.sdh_rounds.specs.Stations.{Station}
use Rattle.sdh_rounds.specs.Held.{World}
use Rattle.sdh_rounds.specs.Runs.{IsRound, IsBrokenOff}
use Rattle.sdh_rounds.specs.Quiet.{Settles, Unsettles, BreaksOff}
use Rattle.sdh_rounds.specs.Faults.{BreaksRound, BreaksStep}
use Rattle.sdh_rounds.specs.Laws.{EndsAtAMultiple}
use Rattle.sdh_rounds.specs.declared.faults.PlantFault.{PlantFault as Fault}
use Rattle.sdh_rounds.specs.declared.faults.SettleError.{SettleError}
use Rattle.sdh_rounds.specs.declared.faults.SettleError.TheVariants.{Unsettled, PlantFault}

-- a round over a plant, whose count of faults was `before` and is `after`; the count is exact where `exact` says so
pub record IsOneRound {N : Type 0} (s : Station N) (exact : Bool) (w : World N) (result : Result (Unit {0}) Fault) (left : World N)
    (before after : ℕ) : Type 0 where
  pub ok : OnOk result (IsRound s w left)
  pub prepared : OnOk result (IsPrepared w.ring.settings.rate (length w.ring.ids) left.fibres)
  -- a fault breaks the ring
  pub err : OnErr result (IsBrokenOff s w left.fibres)
  pub broken : OnErr result (left.ring.broken ≡ true)
  pub breaks : OnErr result (BreaksRound s w left)
  pub later : before ≤ after
  pub failed : OnErr result (Rose before after)
  -- where the plant's count is exact: one call failed if the round ended with a fault, and none if it ended with Ok
  pub counted : IsCounted exact (IsErr result) before after

-- what a settle step leaves, by how it ended
abbrev pub Outcome : {N : Type 0} → Station N → World N → ℕ → Result (Unit {0}) SettleError → World N → Type 0
Outcome s w limit (Ok u) left = Settles s w limit left
Outcome s w limit (Err Unsettled) left = Unsettles s w limit left
Outcome s w limit (Err PlantFault) left = BreaksOff s w limit left.fibres

-- a settle step of at most `limit` rounds over a plant, whose count of faults was `before` and is `after`; the count is
-- exact where `exact` says so
pub record IsStep {N : Type 0} (s : Station N) (exact : Bool) (w : World N) (limit : ℕ) (result : Result (Unit {0}) SettleError)
    (left : World N) (before after : ℕ) : Type 0 where
  pub outcome : Outcome s w limit result left
  pub prepared : left.ring.broken ≡ false → IsPrepared w.ring.settings.rate (length w.ring.ids) left.fibres
  -- a step that ended with a window ran a round, and the number of its last round is a multiple of 128 and not 0
  pub numbers : OnOk result (EndsAtAMultiple w.ring left.ring limit)
  pub all : result ≡ Err Unsettled → left.ring.rounds ≡ w.ring.rounds + limit
  -- a fault breaks the ring
  pub broken : result ≡ Err PlantFault → left.ring.broken ≡ true
  pub breaks : result ≡ Err PlantFault → BreaksStep s w limit left
  pub later : before ≤ after
  pub failed : result ≡ Err PlantFault → Rose before after
  -- where the plant's count is exact: one call failed if the step ended with a fault, and none if it ended otherwise
  pub counted : IsCounted exact (result ≡ Err PlantFault) before after
