-- What a course says of the frames that were sent, over a plant that reports them.
use Rattle.std.specs.Prelude.{ℕ, ◌≡◌, ◌+◌, ◌*◌, Some, List, [], ◌∷◌, length}
use Rattle.sdh_circuits.specs.Provisioning.{Provisioning}
use Rattle.sdh_plant.specs.Fibres.{Fibres}
use Rattle.sdh_request.specs.declared.settings.Settings.{Settings}
use Rattle.sdh_node.specs.Rings.Changes.{new_world}
use Rattle.sdh_plan.specs.declared.step.Step.{Step}
use Rattle.sdh_status.specs.declared.Status.TheVariants as status
use Rattle.sdh_report.specs.Reports.{Report}
use Rattle.sdh_promise.specs.Owed.{Ring}
use Rattle.sdh_owed.specs.Course.{HasCourse}

-- the number of rounds that had run with the last of these reports, where `ran` had run before them
abbrev pub ran_by : ℕ → List Report → ℕ
ran_by ran [] = ran
ran_by ran (r ∷ reports) = ran_by (r.round + 1) reports

-- The reports fix the rounds of a course. Where the script came to its end, 2n frames were sent in each round up to the
-- last report's, and none after it. So a run of fewer rounds than it reports, or of more, has no course.
abbrev pub CoursesCountFrames : Type 0
CoursesCountFrames =
    (s : Settings) (ids : List ℕ) (circuits : Provisioning) (f : Fibres) (ring : Ring) (limit : ℕ) (steps : List Step)
    (reports : List Report) (left : Fibres) (frames : List (List ℕ)) → f.sent ≡ Some [] → left.sent ≡ Some frames
    → HasCourse (new_world s ids circuits f) ring limit steps reports status.Ok left → length frames ≡ 2 * length ids * ran_by 0 reports
