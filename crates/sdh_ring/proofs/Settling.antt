-- A settle step, with all that it keeps.
use Rattle.std.proofs.Common.{◌≡◌, ℕ, ◌+◌, ◌≤◌, refl, ap, ◌∙◌, arith, length}
use Rattle.std.specs.Prelude.{Result, Ok, Err}
use Rattle.sdh_circuits.specs.declared.PortId.{PortId}
use Rattle.sdh_node.specs.Stations.{adm}
use Rattle.sdh_rounds.specs.Faults as breaking
use Rattle.sdh_rounds.specs.Outcome.{Outcome}
use Rattle.sdh_rounds.specs.declared.faults.SettleError.{SettleError}
use Rattle.sdh_rounds.specs.declared.faults.SettleError.TheVariants.{Unsettled, PlantFault}
use Rattle.sdh_rounds.proofs.Runs.{held_run}
use Rattle.sdh_node.specs.Rings.Held.{HeldRing}
use Rattle.sdh_node.specs.Rings.Rounds.{World}
use Rattle.sdh_node.specs.Rings.Quiet.{Settles}
use Rattle.sdh_node.specs.Rings.Clocks.{HasPortIn, clock_at, waiting_at}
use Rattle.sdh_node.specs.Rings.Fixed.{IsRested}
use Rattle.sdh_node.proofs.RingLaws.Waiting.{waits_run_out}
use Rattle.sdh_laws.specs.Hearing.Laws.{StepsStayWhole}
use Rattle.sdh_laws.specs.Carrying.Windows.{layout_in, HasCircuits}
use Rattle.sdh_laws.specs.Carrying.Laws.{SettledRingsAreRestored}
use Rattle.sdh_laws.specs.Resting.Laws.{StepsLeaveAtRest}
use Rattle.sdh_laws.specs.Restoring.Laws.{UnsettledRingsAreRestored}
use Rattle.sdh_laws.specs.Restoring.Followed.{UnsettledFollowedRingsAreRestored, StepsLeaveFollowed}
use Rattle.sdh_laws.specs.Converging.Laws.{StepsAnswer}
use Rattle.sdh_laws.specs.Strangers.Laws.{StepsKeepStrangersOut, StepsDeliverAfterTransit, StepsDeliverRecentBytes}
use Rattle.sdh_ring.specs.Promises.{KeepsPromises}
use Rattle.sdh_ring.proofs.Breaking.{breaks_step, went_by}

-- a step of at least 68 rounds uses up all slips
none_left : (w left : World) (limit : ℕ) (port : PortId) → Settles w limit left
    → (HasPortIn w.ring port → IsRested (clock_at w.ring port)) → w.ring.rounds + 68 ≤ left.ring.rounds → waiting_at left.ring port ≡ 0
none_left w left limit port settles rested long =
    let ran : left.ring.rounds ≡ w.ring.rounds + length settles.rounds =
    ap (λ (x : World). x.ring.rounds) settles.left_is ∙ ap (λ (r : HeldRing). r.rounds) (held_run adm settles.rounds w) in
    ap (λ (x : World). waiting_at x.ring port) settles.left_is
    ∙ waits_run_out settles.rounds w port (λ there. (let h = rested there in (h.rest_few, h.few))) (omega (arith, ran, long))

-- the laws of steps
pub record StepLaws : Type 0 where
  pub whole : StepsStayWhole
  pub restored : SettledRingsAreRestored
  pub rests : StepsLeaveAtRest
  pub soon : UnsettledRingsAreRestored
  pub sooner : UnsettledFollowedRingsAreRestored
  pub followed : StepsLeaveFollowed
  pub answers : StepsAnswer
  pub strangers : StepsKeepStrangersOut
  pub transit : StepsDeliverAfterTransit
  pub recent : StepsDeliverRecentBytes

pub promises_kept : StepLaws → (w left : World) (limit : ℕ) (result : Result (Unit {0}) SettleError) → HasCircuits (layout_in w.ring)
    → ((port : PortId) → HasPortIn w.ring port → IsRested (clock_at w.ring port)) → Outcome adm w limit result left
    → (result ≡ Err PlantFault → breaking.BreaksStep adm w limit left) → KeepsPromises w limit result left
promises_kept laws w left limit (Ok u) fit rested s broke = record {
  whole = λ _ whole. laws.whole.settled w left limit whole s;
  slips = λ port long. none_left w left limit port s (rested port) long;
  restored = laws.restored w left limit fit s;
  soon = λ e. absurd (cc);
  sooner = λ e. absurd (cc);
  followed = laws.followed w left limit fit s;
  rests = laws.rests w left limit fit s;
  strangers = λ _. laws.strangers.settled w left limit fit s;
  transit = λ _. laws.transit.settled w left limit fit s;
  recent = λ _. laws.recent.settled w left limit fit s;
  answers = λ whole large e. cc;
  clocks = λ _ port there. went_by s.rounds w left port s.left_is there;
  broken_clocks = λ e. absurd (cc);
}
promises_kept laws w left limit (Err Unsettled) fit rested s broke = record {
  whole = λ _ whole. laws.whole.unsettled w left limit whole s;
  slips = tt;
  restored = tt;
  soon = λ _. laws.soon w left limit fit s;
  sooner = λ _. laws.sooner w left limit fit s;
  followed = tt;
  rests = tt;
  strangers = λ _. laws.strangers.unsettled w left limit fit s;
  transit = λ _. laws.transit.unsettled w left limit fit s;
  recent = λ _. laws.recent.unsettled w left limit fit s;
  answers = λ whole large _. laws.answers w left limit fit whole large s;
  clocks = λ _ port there. went_by s.rounds w left port s.left_is there;
  broken_clocks = λ e. absurd (cc);
}
promises_kept laws w left limit (Err PlantFault) fit rested s broke = record {
  whole = λ no whole. absurd (no refl);
  slips = tt;
  restored = tt;
  soon = λ e. absurd (cc);
  sooner = λ e. absurd (cc);
  followed = tt;
  rests = tt;
  strangers = λ no. absurd (no refl);
  transit = λ no. absurd (no refl);
  recent = λ no. absurd (no refl);
  answers = λ whole large e. cc;
  clocks = λ no port there. absurd (no refl);
  broken_clocks = λ e. breaks_step w left limit (broke e);
}
