-- What every settle step of a ring keeps.
use Rattle.std.specs.Prelude.{ℕ, ◌≡◌, ◌≢◌, ◌+◌, ◌≤◌, Result, Err, OnOk, length}
use Rattle.sdh_circuits.specs.declared.PortId.{PortId}
use Rattle.sdh_rounds.specs.Quiet.{enough_for}
use Rattle.sdh_rounds.specs.declared.faults.SettleError.{SettleError}
use Rattle.sdh_rounds.specs.declared.faults.SettleError.TheVariants.{Unsettled, PlantFault}
use Rattle.sdh_node.specs.Rings.Clocks.{HasPortIn, clock_at, waiting_at, clocks_from}
use Rattle.sdh_node.specs.Rings.Rounds.{World}
use Rattle.sdh_laws.specs.Hearing.Laws.{IsWhole}
use Rattle.sdh_laws.specs.Carrying.Laws.{Restores}
use Rattle.sdh_laws.specs.Resting.Laws.{LeavesAtRest}
use Rattle.sdh_laws.specs.Restoring.Followed.{RestoresFollowedBy, LeavesFollowed}
use Rattle.sdh_laws.specs.Restoring.Laws.{RestoresBy}
use Rattle.sdh_laws.specs.Strangers.Laws.{KeepsStrangersOutInAll, DeliversAfterTransit, DeliversRecentBytes}
use Rattle.sdh_ring.specs.Faults.{BreaksStep}

pub record KeepsPromises (w : World) (limit : ℕ) (result : Result (Unit {0}) SettleError) (left : World) : Type 0 where
  pub whole : result ≢ Err PlantFault → IsWhole w → IsWhole left
  -- a step of at least 68 rounds that ended with a quiet window used up all slips
  pub slips : OnOk result ((port : PortId) → w.ring.rounds + 68 ≤ left.ring.rounds → waiting_at left.ring port ≡ 0)
  -- after a step that ended with a quiet window, if the ring was whole before it: each node is in its settled state,
  -- and each port has delivered what it is owed
  pub restored : OnOk result (Restores w left)
  -- the same holds after an unsettled step, if its limit is at least 12n + 102
  pub soon : result ≡ Err Unsettled → RestoresBy w limit left
  -- and, if its limit is at least 6n + 8, where the interpreters of the ring followed the generators across their spans
  -- (`IsFollowed` in `sdh_laws/specs/Restoring/Followed`), no controller was held and no slip waited
  pub sooner : result ≡ Err Unsettled → RestoresFollowedBy w limit left
  -- interpreters follow once a window ended
  pub followed : OnOk result (LeavesFollowed w left)
  -- ring and fibres are at rest once a window ended
  pub rests : OnOk result (LeavesAtRest w left)
  -- a ring that is vouched for (`IsVouched` in `sdh_laws/specs/Strangers/Vouched`) stays so, and no port meets a
  -- stranger in any round of the step
  pub strangers : result ≢ Err PlantFault → KeepsStrangersOutInAll w left
  -- if the ring was whole before it: once the last controller stopped missing rounds and 2n - 3 rounds more are over,
  -- each port delivers AIS, ones, or what its circuit's other port sent exactly one transit before (`IsTransit` in
  -- `sdh_laws/specs/Strangers/Transit`): as many rounds as it came over spans, straight or once round the ring
  pub transit : result ≢ Err PlantFault → DeliversAfterTransit w left
  -- and so no port meets a stranger or gets bytes that are older than 2n - 3 rounds
  pub recent : result ≢ Err PlantFault → DeliversRecentBytes w left
  -- if the ring was whole before the step, a step whose limit is at least 64n + 512 rounds (`enough_for`) is not
  -- unsettled, whatever happened before it
  pub answers : IsWhole w → enough_for (length w.ring.ids) ≤ limit → result ≢ Err Unsettled
  -- each port's clock has gone on by the rounds that ran
  pub clocks : result ≢ Err PlantFault → (port : PortId) → HasPortIn w.ring port
      → clock_at left.ring port ≡ clocks_from w port left.ring.rounds
  -- after a fault, each port's clock has gone on by the rounds that ended, and by one more if the port's node had run
  -- the round that was broken off
  pub broken_clocks : result ≡ Err PlantFault → BreaksStep w limit left
