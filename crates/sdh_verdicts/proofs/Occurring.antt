-- A plan and a case for which the laws of `specs/Laws.antt` hold.
use Rattle.std.proofs.Common.{◌≡◌, ℕ, zero, suc, ◌+◌, ◌<◌, ◌≤◌, true, List, [], ◌∷◌, length, Some, refl, sym, ◌∙◌, arith, inl}
use Rattle.std.specs.Prelude.{slice_get, slice_index}
use Rattle.std.specs.List.{All}
use Rattle.std.proofs.lemmas.List.Elements.{All-nil, All-cons}
use Rattle.sdh_basics.specs.Cells.{cells}
use Rattle.sdh_ringmap.specs.Arcs.{is_clear, is_joined}
use Rattle.sdh_ringmap.specs.Ids.{AreIds}
use Rattle.sdh_ringmap.specs.Places.{position_of}
use Rattle.sdh_ringmap.specs.declared.Side.TheVariants.{West, East}
use Rattle.sdh_ringmap.specs.declared.terms.Condition.TheVariants.{Cut}
use Rattle.sdh_circuits.specs.declared.End.TheVariants.{A}
use Rattle.sdh_circuits.specs.Naming.{is_name}
use Rattle.sdh_circuits.specs.Provisioned.{Provisioned}
use Rattle.sdh_circuits.specs.Provisioning.{IsInRing, IsInSlots, HasOffsets, AreCircuits, IsProvisioning}
use Rattle.sdh_payload.specs.declared.clock.Turn.TheVariants.{Up}
use Rattle.sdh_restoration.specs.Applied.{span_requests, applies, is_applied}
use Rattle.sdh_restoration.specs.Routes.{hops}
use Rattle.sdh_plan.specs.Planned.{IsPlanned, provisioning_of}
use Rattle.sdh_status.specs.declared.Status.TheVariants as status
use Rattle.sdh_restoration.specs.Changes.{Fibre, Hold, Slip, Stretch}
use Rattle.sdh_restoration.specs.Happened.{happened}
use Rattle.sdh_promise.specs.Owed.{requests_by, owed_ports}
use Rattle.sdh_promise.specs.Plans.{ring_of, OwesAll}
use Rattle.sdh_promise.specs.Owed.{PortReport}
use Rattle.sdh_verdicts.specs.declared.failure.Failure.TheVariants.{Span}
use Rattle.sdh_verdicts.specs.declared.judging.Verdict.TheVariants.{Over}
use Rattle.sdh_verdicts.specs.Failures.{IsFailureIn}
use Rattle.sdh_verdicts.specs.Verdicts.{verdict_of, hops_of}
use Rattle.sdh_verdicts.specs.Laws.{longer_plan, HasRoom, LongerPlansArePlans, CasesAreShown}
use Rattle.sdh_verdicts.specs.Occurring.{c1, three_nodes_plan, cut, CaseOccurs}

-- ---- the plan

id_at : (i : ℕ) → i < length three_nodes_plan.nodes → slice_index three_nodes_plan.nodes i ≡ i + 1
id_at zero h = refl
id_at (suc zero) h = refl
id_at (suc (suc zero)) h = refl
id_at (suc (suc (suc i))) h = absurd (omega arith)

ids_are : AreIds three_nodes_plan.nodes
ids_are = record {
  few = omega arith;
  enough = omega arith;
  small = λ i h. (let e = id_at i h in omega arith);
  distinct = λ i j h k same. (let e = id_at i h in let f = id_at j k in omega arith);
}

-- the only circuit is number 0
only : (i : ℕ) (c : Provisioned) → slice_get (c1 ∷ []) i ≡ Some c → i ≡ 0
only zero c e = refl
only (suc i) c e = cc

circuits_are : AreCircuits 3 2 (c1 ∷ [])
unfolding is_name
circuits_are = record {
  in_ring =
      All-cons (IsInRing 3) c1 [] (record { from_inside = omega arith; to_inside = omega arith; two_ends = λ e. omega arith })
      (All-nil (IsInRing 3));
  in_slots = All-cons (IsInSlots 2) c1 [] (record { from_1 = omega arith; small = omega arith }) (All-nil (IsInSlots 2));
  offsets = All-cons HasOffsets c1 [] (record { a = omega arith; b = omega arith }) (All-nil HasOffsets);
  named = All-cons (λ c. is_name c.name ≡ true) c1 [] refl (All-nil (λ c. is_name c.name ≡ true));
  named_apart = λ i j c d e f same. only i c e ∙ sym (only j d f);
  apart = λ i j s c d e f x y same. only i c e ∙ sym (only j d f);
}

provisioning_is : IsProvisioning (provisioning_of three_nodes_plan)
provisioning_is = record { rate = inl refl; ring_small = (let few : 3 ≤ 16 = omega arith in few); empty = tt; circuits = circuits_are }

is_planned : IsPlanned three_nodes_plan
is_planned = record {
  threshold_from_1 = omega arith;
  threshold_small = omega arith;
  wait_small = omega arith;
  limit_from_1 = omega arith;
  limit_small = omega arith;
  nodes_fit = ids_are;
  circuits_fit = provisioning_is;
  steps_from_1 = omega arith;
  steps_few = omega arith;
  steps_fit = (
    record { in_ring = (omega arith, omega arith, omega arith); forward = omega arith; few_settles = omega arith; few_slips = omega arith },
    (
      record { in_ring = (omega arith, omega arith, omega arith); forward = omega arith; few_settles = omega arith; few_slips = tt },
      (record { in_ring = tt; forward = omega arith; few_settles = omega arith; few_slips = tt }, tt),
    ),
  );
  last_settles = refl;
}

is_case : All (IsFailureIn (length three_nodes_plan.nodes)) cut
is_case = All-cons (IsFailureIn 3) (Span (position_of 0)) [] (omega arith) (All-nil (IsFailureIn 3))

has_room : HasRoom three_nodes_plan cut 1000
has_room = record {
  steps = (let few : 5 ≤ 999 = omega arith in few);
  settles = (let few : 1 ≤ 63 = omega arith in few);
  limit_from_1 = omega arith;
  limit_small = omega arith;
}

-- ---- its reports

-- what happened before the plan's report, and from there to the last one
abbrev scene : Stretch
scene = record { changes = Slip (record { circuit = 0; end = A }) Up 3 ∷ Hold 1 7 ∷ []; rounds = 129 }

abbrev failing : Stretch
failing = record { changes = Fibre 0 East Cut ∷ Fibre 1 West Cut ∷ []; rounds = 128 }

-- the report of a settle step that shows what is owed after these stretches
abbrev report : ℕ → ℕ → List Stretch → PortReport
report number t ss = record {
  number = number;
  round = t;
  ports = owed_ports 3 (is_applied (requests_by (ring_of three_nodes_plan) ss t)) (happened ss) t 0 (c1 ∷ []);
}

abbrev reports : List PortReport
reports = report 1 128 (scene ∷ []) ∷ report 2 256 (scene ∷ failing ∷ []) ∷ []

are_owed : OwesAll (longer_plan three_nodes_plan cut 1000) reports status.Ok
are_owed = (
  refl,
  record { window = omega arith; within = omega arith; multiple = refl },
  refl,
  (refl, record { window = omega arith; within = omega arith; multiple = refl }, refl, (refl, inl refl)),
)

-- ---- the verdict in the case

goes_round : verdict_of three_nodes_plan cut c1 ≡ Over
unfolding span_requests cells applies is_clear is_joined
goes_round = refl

three_spans : hops_of three_nodes_plan cut c1 ≡ 3
unfolding span_requests cells applies is_clear is_joined hops
three_spans = refl

pub a_case_occurs : LongerPlansArePlans → CasesAreShown → CaseOccurs
a_case_occurs plans shows = record {
  planned = is_planned;
  case = is_case;
  room = has_room;
  longer = (plans three_nodes_plan cut 1000 is_planned is_case).1 has_room;
  reports = reports;
  owe = are_owed;
  shown = shows three_nodes_plan cut is_planned 1000 reports are_owed;
  over = goes_round;
  hops = three_spans;
}
