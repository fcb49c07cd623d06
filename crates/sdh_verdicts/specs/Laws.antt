-- How verdicts on circuits agree with what a ring reports.
use Rattle.std.specs.Prelude.{ℕ, ◌≡◌, ◌↔◌, ◌+◌, ◌-◌, ◌≤◌, List, [], ◌∷◌, length, count_by, All}
use Rattle.sdh_circuits.specs.declared.End.{End}
use Rattle.sdh_circuits.specs.declared.End.TheVariants.{A, B}
use Rattle.sdh_circuits.specs.declared.PortId.{PortId}
use Rattle.sdh_circuits.specs.Provisioned.{Provisioned, customer_at}
use Rattle.sdh_circuits.specs.Ends.{other_end}
use Rattle.sdh_payload.specs.History.{Happening}
use Rattle.sdh_payload.specs.Outlet.{Outlet, silent}
use Rattle.sdh_restoration.specs.Applied.{is_applied}
use Rattle.sdh_restoration.specs.Due.{sends_by}
use Rattle.sdh_plan.specs.Planned.{Planned, IsPlanned}
use Rattle.sdh_plan.specs.Steps.{is_settle}
use Rattle.sdh_status.specs.declared.Status.TheVariants as status
use Rattle.sdh_status.specs.PortLine.{PortLine}
use Rattle.sdh_restoration.specs.Happened.{happened}
use Rattle.sdh_promise.specs.Owed.{PortReport, requests_by}
use Rattle.sdh_promise.specs.Plans.{ring_of, OwesAll}
use Rattle.sdh_verdicts.specs.Foretold.{stretches_by, IsLastForetold}
use Rattle.sdh_verdicts.specs.declared.failure.Failure.{Failure}
use Rattle.sdh_verdicts.specs.declared.judging.Verdict.{Verdict}
use Rattle.sdh_verdicts.specs.declared.judging.Verdict.TheVariants.{Kept, Over, Lost}
use Rattle.sdh_verdicts.specs.Failures.{IsFailureIn, case_steps}
use Rattle.sdh_verdicts.specs.Verdicts.{longer_steps, scenes_with, requests_with, verdict_under, verdict_of, hops_of}

-- the plan with a case after its script, and another limit
abbrev pub longer_plan : Planned → List Failure → ℕ → Planned
longer_plan plan case limit = record plan { limit = limit; steps = longer_steps plan case }

-- ---- when it is a plan

-- There is room after the plan's script for the case's steps and a settle step: with them it has at most 1,000 steps,
-- of which at most 64 are settle steps. The limit is one that a plan may have. 64 n + 512 is such a limit, and with
-- it each settle step ends in a ring of n.
pub record HasRoom (plan : Planned) (case : List Failure) (limit : ℕ) : Type 0 where
  pub steps : length plan.steps + length (case_steps (length plan.nodes) plan.settings.threshold case) ≤ 999
  pub settles : count_by is_settle plan.steps ≤ 63
  pub limit_from_1 : 1 ≤ limit
  pub limit_small : limit ≤ 65536

-- the longer plan is a plan exactly where there is room for the case
abbrev pub LongerPlansArePlans : Type 0
LongerPlansArePlans = (plan : Planned) (case : List Failure) (limit : ℕ) → IsPlanned plan → All (IsFailureIn (length plan.nodes)) case
    → (IsPlanned (longer_plan plan case limit) ↔ HasRoom plan case limit)

-- ---- what its last report shows

-- what a port delivers in round t by its circuit's verdict: AIS where the circuit is lost, and else what was sent
-- `hops` rounds before
abbrev pub outlet_told : Verdict → ℕ → (ℕ → Outlet) → ℕ → Outlet
outlet_told Lost hops sent t = silent
outlet_told Kept hops sent t = sent (t - hops)
outlet_told Over hops sent t = sent (t - hops)

-- The line of the port at an end of circuit number `index` in round t, by the circuit's verdict in a case. `before`
-- gives what had happened at each port before each round. What was sent is what the customer at the other end sent.
abbrev pub port_told : Planned → List Failure → (PortId → ℕ → List Happening) → ℕ → ℕ → Provisioned → End → PortLine
port_told plan case before t index c e =
    record {
      name = c.name;
      end = e;
      outlet = outlet_told (verdict_of plan case c) (hops_of plan case c)
          (λ k. sends_by (customer_at c (other_end e)) (before (record { circuit = index; end = other_end e }) k)) t;
    }

-- the lines of all ports of these circuits, in the order of the circuits, a before b; the circuits are numbered from
-- `index` on
abbrev pub ports_told : Planned → List Failure → (PortId → ℕ → List Happening) → ℕ → ℕ → List Provisioned → List PortLine
ports_told plan case before t index [] = []
ports_told plan case before t index (c ∷ cs) =
    port_told plan case before t index c A ∷ port_told plan case before t index c B ∷ ports_told plan case before t (index + 1) cs

-- The last of these reports shows each port as its circuit's verdict in the case says. The verdicts follow from the
-- requests in that report's round and the spans that are applied under them. What had happened at the ports follows
-- from the changes of the longer script and the rounds of the reports.
pub record IsShownInCase (plan : Planned) (case : List Failure) (reports : List PortReport) : Type 0 where
  pub foretold : IsLastForetold (ring_of plan) (scenes_with plan case) reports
  pub ports : foretold.last.ports
      ≡ ports_told plan case (happened (stretches_by [] (scenes_with plan case) reports)) foretold.last.round 0 plan.circuits
  pub requests : requests_by (ring_of plan) (stretches_by [] (scenes_with plan case) reports) foretold.last.round ≡ requests_with plan case
  pub verdicts : (c : Provisioned) → verdict_of plan case c ≡ verdict_under (length plan.nodes)
      (is_applied (requests_by (ring_of plan) (stretches_by [] (scenes_with plan case) reports) foretold.last.round)) c

-- Take reports of the longer plan, which has the case after its script. If they come to the script's end and show what
-- they owe, the last of them shows each port as its circuit's verdict in the case says.
abbrev pub CaseIsShown : Planned → List Failure → Type 0
CaseIsShown plan case = (limit : ℕ) (reports : List PortReport) → OwesAll (longer_plan plan case limit) reports status.Ok
    → IsShownInCase plan case reports

-- the last report shows what the verdicts say, for every plan and every case
abbrev pub CasesAreShown : Type 0
CasesAreShown = (plan : Planned) (case : List Failure) → IsPlanned plan → CaseIsShown plan case
