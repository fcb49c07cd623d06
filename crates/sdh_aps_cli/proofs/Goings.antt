-- What a call comes to with a plan.
use Rattle.std.proofs.Common.{◌≡◌, ◌≢◌, true, false, ℕ, ◌<◌, None, Some, List, length, refl, ap, sym, subst, ◌∙◌, arith}
use Rattle.std.specs.Prelude.{◌==◌, Bool, Option, option_map, position, if◌then◌else◌}
use Rattle.sdh_ringmap.specs.declared.Pos.{Pos}
use Rattle.sdh_ringmap.specs.Places.{found_at}
use Rattle.sdh_plan.specs.Planned.{Planned}
use Rattle.sdh_status.specs.declared.Status.{Status}
use Rattle.sdh_status.specs.declared.Status.TheVariants as status
use Rattle.sdh_shell.proofs.Endings.{one_status}
use Rattle.sdh_scripts.specs.NewRuns.{IsRunOfPlan}
use Rattle.sdh_scripts.specs.Texts.{WriteFailed}
use Rattle.sdh_scripts.specs.Streams.{WroteSteps}
use Rattle.sdh_scripts.specs.declared.run.NewRun.{NewRun}
use Rattle.sdh_scripts.proofs.Plans.{of_plan}
use Rattle.sdh_programs.specs.Programs.{Refuses, Runs}
use Rattle.sdh_programs.specs.Deeds.{IsOnly}
use Rattle.sdh_programs.specs.Laws.{StepsAreReported, CutsAreReported, FaultsAreReported}
use Rattle.sdh_owed.specs.Laws.{ScriptsSettle}
use Rattle.sdh_owed.specs.Plans.{world_of}
use Rattle.sdh_aps_cli.specs.Endings.{signalling_endings, frames_end}
use Rattle.sdh_aps_cli.specs.Words.{has_node, window_at, listing_of}
use Rattle.sdh_aps_cli.specs.Scripts.{signalling_walk}
use Rattle.sdh_aps_cli.specs.Listing.{begun_of, ended_of}
use Rattle.sdh_aps_cli.specs.Laws.{ScriptsGoAsSignals, StepsGoAsSignals}
use Rattle.sdh_aps_cli.specs.Plans.{Piece, signalling_account, rounds_of_pieces, IsCutRun, ends_by, has_rounds, IsPlaced, HasRounds}
use Rattle.sdh_aps_cli.specs.Running.{running_ring, listing_in}
use Rattle.sdh_aps_cli.specs.Headline.{signal_deed_of, signalling}
use Rattle.sdh_aps_cli.specs.declared.ending.Ending.TheVariants as ending
use Rattle.sdh_aps_cli.specs.declared.running.PlanRun.{PlanRun}
use Rattle.sdh_aps_cli.specs.declared.window.FrameAsk.{FrameAsk}
use Rattle.sdh_aps_cli.specs.declared.listing.SignalListing.{SignalListing}
use Rattle.sdh_aps_cli.specs.declared.listing.SignalAsk.{SignalAsk}
use Rattle.sdh_aps_cli.specs.declared.listing.SignalAsk.TheVariants as asked
use Rattle.sdh_aps_cli.specs.declared.listing.PlanListing.{PlanListing}
use Rattle.sdh_aps_cli.specs.declared.listing.PlanListing.TheVariants as listed
use Rattle.sdh_aps_cli.proofs.Plans.{signalled, cut_run}
use Rattle.sdh_laws.proofs.strangers.Rules.{found_inside}

-- ---- the node that is asked for

frames_placed : (n : ℕ) (o : Option Pos) (a : FrameAsk) (l : PlanListing) → ((p : Pos) → o ≡ Some p → p.0 < n)
    → option_map (λ p. listed.Frames (window_at a p)) o ≡ Some l → IsPlaced n l
frames_placed n None a l inside e = cc
frames_placed n (Some p) a l inside e = subst (IsPlaced n) (same (listed.Frames (window_at a p)) l e) (inside p refl)
  where
    same : (x y : PlanListing) → ◌≡◌ {A = Option PlanListing} (Some x) (Some y) → x ≡ y
    same x y h = grind arith

lines_placed : (n : ℕ) (b : Bool) (s : SignalListing) (l : PlanListing) → (if b then Some (listed.Lines s) else None) ≡ Some l → IsPlaced n l
lines_placed n true s l e = subst (IsPlaced n) (same (listed.Lines s) l e) tt
  where
    same : (x y : PlanListing) → ◌≡◌ {A = Option PlanListing} (Some x) (Some y) → x ≡ y
    same x y h = grind arith
lines_placed n false s l e = cc

-- the node whose frames are asked for is one of the ring's
pub is_placed : (ask : SignalAsk) (ids : List ℕ) (l : PlanListing) → listing_of ask ids ≡ Some l → IsPlaced (length ids) l
is_placed (asked.Lines s) ids l e = lines_placed (length ids) (has_node s ids) s l e
is_placed (asked.Frames a) ids l e =
    frames_placed (length ids) (found_at ids a.id) a l (λ p h. found_inside ids a.id p (position (λ x. x == a.id) ids) refl h) e

-- ---- what is done with a plan

pub run_only : (ask : SignalAsk) (plan : Planned) (listing : PlanListing) → listing_of ask plan.nodes ≡ Some listing
    → IsOnly signalling ask plan (Runs listing)
run_only ask plan listing is =
    let does : Runs listing ≡ signal_deed_of (listing_of ask plan.nodes) = sym (ap signal_deed_of is) in
    record { does = does; only = λ other d. d ∙ sym does }

-- a plan that doesn't have the node is refused
pub none_only : (ask : SignalAsk) (plan : Planned) → listing_of ask plan.nodes ≡ None
    → IsOnly signalling ask plan (Refuses ending.NoSuchNode)
none_only ask plan is =
    let does : Refuses ending.NoSuchNode ≡ signal_deed_of (listing_of ask plan.nodes) = sym (ap signal_deed_of is) in
    record { does = does; only = λ other d. d ∙ sym does }

-- ---- endings

-- a run ends with a plant fault where its script did
pub run_faults : FaultsAreReported signalling
run_faults listing told end = record { ends = ends listing; back = back listing }
  where
    ends : (l : PlanListing) → end ≡ status.PlantFault → ends_by l (rounds_of_pieces told) end ≡ ending.Shared status.PlantFault
    ends (listed.Lines l) e = ap ending.Shared e
    ends (listed.Frames ask) e = ap (frames_end (has_rounds ask (rounds_of_pieces told))) e

    by : (came : Bool) (s : Status) → frames_end came s ≡ ending.Shared status.PlantFault → s ≡ status.PlantFault
    by came status.PlantFault e = refl
    by true s e = absurd (let x = one_status signalling_endings status.Ok status.PlantFault e in grind arith)
    by false s e = absurd (grind arith)

    back : (l : PlanListing) → ends_by l (rounds_of_pieces told) end ≡ ending.Shared status.PlantFault → end ≡ status.PlantFault
    back (listed.Lines l) e = one_status signalling_endings end status.PlantFault e
    back (listed.Frames ask) e = by (has_rounds ask (rounds_of_pieces told)) end e

-- how a run ended, by what is reported of it, where the ring that it left has run as many rounds
pub ends_reported : (l : PlanListing) (rounds : ℕ) (s : Status) (pieces : List Piece) → (s ≢ status.PlantFault → rounds ≡ rounds_of_pieces pieces)
    → ends_by l rounds s ≡ ends_by l (rounds_of_pieces pieces) s
ends_reported (listed.Lines l) rounds s pieces same = refl
ends_reported (listed.Frames ask) rounds status.PlantFault pieces same = refl
ends_reported (listed.Frames ask) rounds s pieces same = ap (λ n. frames_end (has_rounds ask n) s) (same (λ e. grind arith))

-- ---- what was written of a run

module _ (settles : ScriptsSettle) (signals : ScriptsGoAsSignals) (steps : StepsGoAsSignals) where
  abbrev Begins : PlanListing → Planned → NewRun PlanRun → Type 0
  Begins listing plan run = IsRunOfPlan running_ring signalling_account plan run × (listing_in run.runner ≡ listing)

  pub steps_reported : StepsAreReported signalling signalling_walk running_ring (λ r told. ended_of (listing_in r) told)
      (λ r told. begun_of (listing_in r) told) Begins HasRounds
  steps_reported listing plan run f old new end left begins fresh x =
      let own = listing_in run.runner in
      let of = of_plan running_ring signalling_account plan run begins.0 f
      (λ k l w. WroteSteps signalling_walk k (ended_of own) (begun_of own) l w f old new end left) x in
      let r = signalled settles signals steps plan listing f begins.0.form fresh.honest old new end left
      (subst (λ (p : PlanListing). WroteSteps signalling_walk plan.limit (ended_of p) (begun_of p) plan.steps (world_of plan f) f old new end left)
      begins.1 of) in
      record { told = r.0; came = r.1; text = r.2; leaves = r.3 }

  pub cuts_reported : {O : Type 0} (written : O → Option (List ℕ)) (faults : O → ℕ)
      → CutsAreReported signalling IsCutRun written faults signalling_walk running_ring (λ r told. ended_of (listing_in r) told)
      (λ r told. begun_of (listing_in r) told) Begins
  cuts_reported written faults listing plan run f before after left begins fresh rose x =
      let own = listing_in run.runner in
      let of = of_plan running_ring signalling_account plan run begins.0 f
      (λ k l w. WriteFailed signalling_walk k (ended_of own) (begun_of own) l w (written before) (written after) left) x in
      cut_run settles signals steps plan listing f begins.0.form fresh.honest (written before) (written after) left
      (subst (λ (p : PlanListing). WriteFailed signalling_walk plan.limit (ended_of p) (begun_of p) plan.steps (world_of plan f) (written before)
      (written after) left) begins.1 of)
