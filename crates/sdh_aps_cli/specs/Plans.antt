-- What is written of the run of a plan whose signalling is shown. The run begins with a plant that has made no fibres.
use Rattle.std.specs.Prelude.{ℕ, ◌≡◌, ◌≢◌, ◌⊎◌, ◌+◌, ◌<◌, ◌≤◌, nat_le, Bool, true, List, [], ◌∷◌, ◌++◌, map, All}
use mathlib.Core.Logic.{inl}
use Rattle.std.specs.List.{flat_map}
use Rattle.sdh_plant.specs.Fibres.{Fibres}
use Rattle.sdh_plant.specs.Arrivals.{Knows}
use Rattle.sdh_node.specs.Node.{Node}
use Rattle.sdh_node.specs.Rings.Rounds.{World}
use Rattle.sdh_plan.specs.Planned.{Planned}
use Rattle.sdh_plan.specs.declared.step.Step.{Step}
use Rattle.sdh_status.specs.declared.Status.{Status}
use Rattle.sdh_status.specs.declared.Status.TheVariants as status
use Rattle.sdh_promise.specs.Scenes.{scenes}
use Rattle.sdh_promise.specs.Plans.{ring_of}
use Rattle.sdh_shell.specs.Calls.{HasRun}
use Rattle.sdh_shell.specs.Writing.{Parts, joined}
use Rattle.sdh_programs.specs.Programs.{IsRunEnd, Closing}
use Rattle.sdh_scripts.specs.Plans.{Account, ReportsOwe}
use Rattle.sdh_scripts.specs.Plans as plans
use Rattle.sdh_scripts.specs.Streams.{StoppedTold, CutTold}
use Rattle.sdh_owed.specs.Plans.{new_ring_of, world_of}
use Rattle.sdh_aps_cli.specs.Signalled.{Signalled}
use Rattle.sdh_aps_cli.specs.Scripts.{signalling_walk}
use Rattle.sdh_aps_cli.specs.Owed.{AreSignalled, AreOfTheNext}
use Rattle.sdh_aps_cli.specs.Listing.{begun_of, ended_of}
use Rattle.sdh_aps_cli.specs.Endings.{line_of, signalling_endings, frames_end, frames_run, frames_line}
use Rattle.sdh_aps_cli.specs.declared.ending.Ending.{Ending}
use Rattle.sdh_aps_cli.specs.declared.ending.Ending.TheVariants as ending
use Rattle.sdh_aps_cli.specs.declared.listing.PlanListing.{PlanListing}
use Rattle.sdh_aps_cli.specs.declared.listing.PlanListing.TheVariants as listing
use Rattle.sdh_aps_cli.specs.declared.window.FrameWindow.{FrameWindow}

abbrev pub signalling_account : Account Node Signalled
signalling_account = record { walk = signalling_walk; new_ring = new_ring_of }

-- over honest fibres each settle step that ended shows what the ring of signals does, by the script alone
abbrev pub Owes : ReportsOwe Signalled
Owes plan f reports end left = AreSignalled (ring_of plan) plan.nodes plan.limit [] 0 (scenes [] plan.steps) reports end

-- What holds of one list of reports, one for each settle step that ended. Over every plant they show the rounds that
-- ran. Where the arrivals are known, they are the reports that the script comes to; after a fault, the first of them.
-- Over honest fibres they show what the ring of signals does, and with a limit that is always enough no settle step is
-- unsettled.
abbrev pub IsRunOf : Planned → Fibres → List Signalled → Status → Fibres → Type 0
IsRunOf = plans.IsRunOf signalling_account Owes

-- ---- what is reported

-- a piece of the report of a run: of a settle step that ended, or of the rounds that ran of one that didn't
pub data Piece : Type 0 where
  Ended : Signalled → Piece
  Begun : Signalled → Piece

abbrev pub piece_text : PlanListing → Piece → List ℕ
piece_text listing (Ended s) = ended_of listing s
piece_text listing (Begun s) = begun_of listing s

abbrev pub pieces_text : PlanListing → List Piece → List ℕ
pieces_text listing pieces = flat_map (piece_text listing) pieces

-- how many rounds of the run, from its first one on, had run when a piece ended
abbrev pub rounds_after : Piece → ℕ
rounds_after (Ended s) = s.rounds
rounds_after (Begun s) = s.rounds

-- how many rounds of a run had run in all after these pieces, where n had run before them
abbrev pub rounds_from : ℕ → List Piece → ℕ
rounds_from n [] = n
rounds_from n (p ∷ more) = rounds_from (rounds_after p) more

abbrev pub rounds_of_pieces : List Piece → ℕ
rounds_of_pieces pieces = rounds_from 0 pieces

-- the pieces of the settle steps that ended, and then those of a settle step that didn't
abbrev pub pieces_of : List Signalled → List Signalled → List Piece
pieces_of ended begun = map Ended ended ++ map Begun begun

-- `begun` is what is reported after the settle steps that ended. It is empty where the script was done, or where the
-- plant made no fibres. Otherwise it reports the step with which the script ended: of a settle step the rounds that
-- ran, of a step that was refused nothing.
abbrev pub IsLastSignalled : Planned → Fibres → List Signalled → List Signalled → Status → Fibres → Type 0
IsLastSignalled plan f reports begun end left =
    ((begun ≡ []) × ((end ≡ status.Ok) ⊎ ((end ≡ status.PlantFault) × (reports ≡ []) × (left ≡ f))))
    ⊎ ((last : World) × (last.fibres ≡ left)
    × StoppedTold signalling_walk plan.limit plan.steps (world_of plan f) reports begun end last)

-- Over honest fibres: what is reported of the first rounds of the settle step that comes after those in `reports` is
-- what the ring of signals does in them. Where the script ended unsettled, these are as many rounds as a settle step
-- may have.
pub record AreFirstRounds (plan : Planned) (reports : List Signalled) (end : Status) (one : Signalled) : Type 0 where
  pub count : ℕ
  pub few : count ≤ plan.limit
  pub all : (k : ℕ) → end ≡ status.Unsettled k → count ≡ plan.limit
  pub shown : AreOfTheNext (ring_of plan) plan.nodes [] (scenes [] plan.steps) reports count one.changes

-- a plan was run over any plant, it ended so, and these pieces are reported of the rounds that ran, step by step
pub record IsSignalledRun (plan : Planned) (f : Fibres) (pieces : List Piece) (end : Status) (left : Fibres) : Type 0 where
  pub reports : List Signalled
  pub came : IsRunOf plan f reports end left
  pub begun : List Signalled
  pub begun_is : IsLastSignalled plan f reports begun end left
  pub begun_owed : f.honest ≡ true → All (AreFirstRounds plan reports end) begun
  pub pieces_are : pieces ≡ pieces_of reports begun

-- What was to be written when a write failed, over honest fibres, shows what the ring of signals does. The steps in
-- `gone` had been done, and `ended` reports each settle step among them. Of the settle step after these, `begun`
-- reports the first rounds, or nothing.
pub record CutOwes (plan : Planned) (ended begun : List Signalled) : Type 0 where
  pub gone : List Step
  pub later : List Step
  pub steps_are : plan.steps ≡ gone ++ later
  pub shown : AreSignalled (ring_of plan) plan.nodes plan.limit [] 0 (scenes [] gone) ended status.Ok
  pub next : All (AreFirstRounds plan ended status.WriteFault) begun

-- A write failed while the plan ran, and no round ran after it. This had been reported, and was written: `done` of the
-- settle steps before, and `shown` of the rounds of the next one. With the round that ran last, or at the end of its step,
-- this was to be reported: `ended` of the settle steps that ended, and `begun` of one that hadn't. So the first part of
-- the text is that of all rounds before the last one, and the last part what that round adds, or the step's end.
pub record IsCutRun (listing : PlanListing) (plan : Planned) (f : Fibres) (text : Parts) (left : Fibres) : Type 0 where
  pub done : List Signalled
  pub shown : List Signalled
  pub ended : List Signalled
  pub begun : List Signalled
  pub last : World
  pub last_is : last.fibres ≡ left
  pub cut : CutTold signalling_walk plan.limit plan.steps (world_of plan f) done shown ended begun last
  pub owed : f.honest ≡ true → CutOwes plan ended begun
  pub first_is : text.first ≡ pieces_text listing (pieces_of done shown)
  pub text_is : joined text ≡ pieces_text listing (pieces_of ended begun)

-- ---- how it ends

-- the run had all rounds whose frames are asked for
abbrev pub has_rounds : FrameWindow → ℕ → Bool
has_rounds ask rounds = nat_le (ask.first + ask.count) rounds

-- the ending of a run of this number of rounds, by what is written of it
abbrev pub ends_by : PlanListing → ℕ → Status → Ending
ends_by (listing.Lines l) rounds end = ending.Shared end
ends_by (listing.Frames ask) rounds end = frames_end (has_rounds ask rounds) end

abbrev pub ends_run : (listing : PlanListing) (rounds : ℕ) (end : Status) → HasRun end → IsRunEnd signalling_endings (ends_by listing rounds end)
ends_run (listing.Lines l) rounds end h = inl (end, (λ i. ending.Shared end), h)
ends_run (listing.Frames ask) rounds end h = frames_run (has_rounds ask rounds) end h

-- the last line, after what is written of the run
abbrev pub last_line_after : PlanListing → Ending → List ℕ
last_line_after (listing.Lines l) end = line_of end
last_line_after (listing.Frames ask) end = frames_line end

abbrev pub closing : Closing PlanListing Piece signalling_endings
closing = record {
  ends = λ listing pieces end. ends_by listing (rounds_of_pieces pieces) end;
  ends_run = λ listing pieces end h. ends_run listing (rounds_of_pieces pieces) end h;
  line = last_line_after;
}

-- what a run needs to come to its end: where the arrivals are known each settle step has a quiet window within the
-- limit; or the fibres are honest and the limit is always enough. For frames the arrivals are known, each settle step
-- has a quiet window, and there are all rounds that are asked for
abbrev pub MaySettle : PlanListing → Planned → Fibres → Type 0
MaySettle (listing.Lines l) plan f = plans.MaySettle signalling_account plan f
MaySettle (listing.Frames ask) plan f =
    let ran = plans.ran_of signalling_account plan f in
    Knows (world_of plan f).fibres × (ran.ending ≡ status.Ok) × (has_rounds ask (rounds_of_pieces (pieces_of ran.reports [])) ≡ true)

-- ---- a run in the code

-- the node whose frames are written is one of n
abbrev pub IsPlaced : ℕ → PlanListing → Type 0
IsPlaced n (listing.Lines l) = Unit {0}
IsPlaced n (listing.Frames ask) = ask.at.0 < n

-- a run with these pieces ran as many rounds as they say, if no fault of the plant broke it off
abbrev pub HasRounds : List Piece → Status → ℕ → Type 0
HasRounds pieces end rounds = end ≢ status.PlantFault → rounds ≡ rounds_of_pieces pieces
