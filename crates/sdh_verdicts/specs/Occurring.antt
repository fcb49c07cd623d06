-- A plan of three nodes and a case, for which the laws of `specs/Laws.antt` are worked out. A clock slips and a
-- controller is held before the plan's settle step, and then a span is cut.
use Rattle.std.specs.Prelude.{ℕ, ◌≡◌, List, [], ◌∷◌, length, replicate, All}
use Rattle.sdh_ringmap.specs.declared.terms.Rate.TheVariants.{Four}
use Rattle.sdh_ringmap.specs.Places.{position_of}
use Rattle.sdh_circuits.specs.declared.End.TheVariants.{A}
use Rattle.sdh_circuits.specs.Provisioned.{Provisioned}
use Rattle.sdh_payload.specs.Customer.{Customer}
use Rattle.sdh_payload.specs.declared.clock.Turn.TheVariants.{Up}
use Rattle.sdh_plan.specs.Planned.{Planned, IsPlanned}
use Rattle.sdh_plan.specs.declared.step.Step.TheVariants as step
use Rattle.sdh_status.specs.declared.Status.TheVariants as status
use Rattle.sdh_promise.specs.Owed.{PortReport}
use Rattle.sdh_promise.specs.Plans.{OwesAll}
use Rattle.sdh_verdicts.specs.declared.failure.Failure.{Failure}
use Rattle.sdh_verdicts.specs.declared.failure.Failure.TheVariants.{Span}
use Rattle.sdh_verdicts.specs.declared.judging.Verdict.TheVariants.{Over}
use Rattle.sdh_verdicts.specs.Failures.{IsFailureIn}
use Rattle.sdh_verdicts.specs.Verdicts.{verdict_of, hops_of}
use Rattle.sdh_verdicts.specs.Laws.{longer_plan, HasRoom, IsShownInCase}

abbrev pub customer : ℕ → Customer
customer offset = record { text = 65 ∷ []; trace = replicate 16 32; offset = offset }

-- circuit c1 from the first node over two spans to the third, in slot 1
abbrev pub c1 : Provisioned
c1 = record { name = 99 ∷ 49 ∷ []; from = position_of 0; to = position_of 2; slot = record { 0 = 1 }; a = customer 0; b = customer 522 }

-- three nodes at STM-4: a customer's clock slips three times, and the controller of the second node misses seven rounds
abbrev pub three_nodes_plan : Planned
three_nodes_plan = record {
  settings = record { rate = Four; threshold = 1; wait = 5 };
  limit = 1000;
  nodes = 1 ∷ 2 ∷ 3 ∷ [];
  circuits = c1 ∷ [];
  steps = step.Slip (record { circuit = 0; end = A }) Up 3 ∷ step.Hold (position_of 1) 7 ∷ step.Settle ∷ [];
}

-- the span east of the first node is cut
abbrev pub cut : List Failure
cut = Span (position_of 0) ∷ []

-- The case is one of the plan's ring, there is room for it, and the longer script has reports that show what they owe.
-- So the last report shows what the verdict says: the circuit goes round the cut, over three spans.
pub record CaseOccurs : Type 0 where
  pub planned : IsPlanned three_nodes_plan
  pub case : All (IsFailureIn (length three_nodes_plan.nodes)) cut
  pub room : HasRoom three_nodes_plan cut 1000
  pub longer : IsPlanned (longer_plan three_nodes_plan cut 1000)
  pub reports : List PortReport
  pub owe : OwesAll (longer_plan three_nodes_plan cut 1000) reports status.Ok
  pub shown : IsShownInCase three_nodes_plan cut reports
  pub over : verdict_of three_nodes_plan cut c1 ≡ Over
  pub hops : hops_of three_nodes_plan cut c1 ≡ 3
