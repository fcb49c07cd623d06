-- The state of each side of a ring at a settle step of a script, by the changes before each settle step alone: no round
-- is counted. So the requests that decide what a report shows can be computed without running a round.
use Rattle.std.specs.Prelude.{ℕ, ◌&&◌, not, nat_le, if◌then◌else◌, Option, Some, None, List, [], ◌∷◌}
use Rattle.sdh_ringmap.specs.declared.Side.{Side}
use Rattle.sdh_ringmap.specs.declared.terms.Code.{Code}
use Rattle.sdh_ringmap.specs.declared.terms.Condition.{Condition}
use Rattle.sdh_ringmap.specs.declared.terms.Condition.TheVariants.{Clear, Cut, Degraded}
use Rattle.sdh_request.specs.declared.Defect.{Defect}
use Rattle.sdh_request.specs.declared.Defect.TheVariants as defect
use Rattle.sdh_request.specs.Requests.{is_defect_free, waits, highest_code}
use Rattle.sdh_restoration.specs.Applied.{span_requests}
use Rattle.sdh_restoration.specs.Changes.{Change}
use Rattle.sdh_restoration.specs.Sides.{Holding, new_holding, all_holding}
use Rattle.sdh_promise.specs.Owed.{Ring}

-- the state of a side: the condition of the fibre that comes in, the command and the moment (`Holding`), the defect
-- that the side had at the last settle step, and the moment of the settle step at which its last defect was no longer
-- there
pub record Resting : Type 0 where
  pub holding : Holding
  pub defect : Defect
  pub ended : Option ℕ

-- a side in a new ring over new fibres
abbrev pub fresh : Resting
fresh = record { holding = new_holding; defect = defect.None; ended = None }

-- the defect of a side whose fibre stays in this condition, where `threshold` violations are a degradation
abbrev pub defect_of : ℕ → Condition → Defect
defect_of threshold Clear = defect.None
defect_of threshold Cut = defect.Sf
defect_of threshold (Degraded k) = if nat_le threshold k then defect.Sd else defect.None

-- the state of a side after a settle step with the condition, the command and the moment of h, where its state before
-- was r: the side comes to rest in that step
abbrev pub at_rest : ℕ → Holding → Resting → Resting
at_rest threshold h r =
    (let now = defect_of threshold h.condition in
    record {
      holding = h;
      defect = now;
      ended = if not (is_defect_free r.defect) && is_defect_free now
          then Some h.moment else r.ended;
    })

-- the state of side d of position p in a ring of n after these changes and a settle step
abbrev pub rest_after_changes : ℕ → ℕ → ℕ → Side → List Change → Resting → Resting
rest_after_changes threshold n p d changes r = at_rest threshold (all_holding n p d changes r.holding) r

-- the state of a side after some settle steps, with these changes before each
abbrev pub rest_in : ℕ → ℕ → ℕ → Side → List (List Change) → Resting → Resting
rest_in threshold n p d [] r = r
rest_in threshold n p d (changes ∷ later) r = rest_in threshold n p d later (rest_after_changes threshold n p d changes r)

-- the local request of a side that is in this state after a settle step
abbrev pub asks : ℕ → Resting → Code
asks wait r = highest_code r.holding.command r.defect (waits wait r.defect r.holding.moment r.ended)

-- the requests of all spans after some settle steps, with these changes before each, from a new ring over new fibres on
abbrev pub requests_after : Ring → List (List Change) → List ℕ
requests_after ring past = span_requests ring.nodes (λ p d. asks ring.wait (rest_in ring.threshold ring.nodes p d past fresh))
