-- All checks of a document in their order, and the plan that its keys and words give. The keys, ranges, reasons and
-- their order are this project's own.
use Rattle.std.specs.Prelude.{ℕ, ◌+◌, ◌*◌, ◌/◌, ℤ, List, [], ◌∷◌, ◌++◌, map, length, Bool, ◌==◌, ◌&&◌, not, nat_le, if◌then◌else◌, Option}
use Rattle.std.specs.Prelude.{Some, None, is_some, is_none, unwrap_or, codes}
use Rattle.std.specs.Option.{option_map_or}
use Rattle.toml.specs.Data.{Data, Members, get_member}
use Rattle.sdh_ringmap.specs.declared.terms.Rate.{Rate}
use Rattle.sdh_ringmap.specs.declared.terms.Rate.TheVariants.{Four, Sixteen}
use Rattle.sdh_ringmap.specs.Rates.{n_of}
use Rattle.sdh_ringmap.specs.Numbering.{is_ring_size, first_unfit, first_repeat, magnitude}
use Rattle.sdh_circuits.specs.Provisioned.{Provisioned}
use Rattle.sdh_plan.specs.declared.step.Step.{Step}
use Rattle.sdh_plan.specs.Check.{Check}
use Rattle.sdh_plan.specs.Document.{◌>>=◌, has_only, number_at, elements_in, is_array_of, is_integer, is_string, is_table, integer_of}
use Rattle.sdh_plan.specs.Document.{string_of}
use Rattle.sdh_plan.specs.Circuits.{members_of, circuit_of_table, circuits_checks}
use Rattle.sdh_plan.specs.Steps.{step_of, steps_checks, new_past, ends_settled}
use Rattle.sdh_plan.specs.Planned.{Planned}
use Rattle.sdh_plan.specs.declared.reason.Reason.{Reason}
use Rattle.sdh_plan.specs.declared.reason.Reason.TheVariants as reason

-- the keys that a document may have
abbrev pub document_keys : List (List ℕ)
document_keys = codes "rate" ∷ codes "nodes" ∷ codes "threshold" ∷ codes "wait" ∷ codes "limit" ∷ codes "script" ∷ codes "circuit" ∷ []

-- the rate: STM-4 or STM-16
unfoldable pub rate_at : Members → Option Rate
rate_at ms = do
  n ← number_at (codes "rate") 4 16 ms
  if n == 4 then Some Four else if n == 16 then Some Sixteen else None

-- What the keys give where they pass the checks.
abbrev pub rate_in : Members → Rate
rate_in ms = unwrap_or (rate_at ms) Four

abbrev pub n_in : Members → ℕ
n_in ms = n_of (rate_in ms)

abbrev pub numbers_in : Members → List ℤ
numbers_in ms = map integer_of (elements_in (codes "nodes") ms)

abbrev pub nodes_in : Members → List ℕ
nodes_in ms = map magnitude (numbers_in ms)

abbrev pub threshold_at : ℕ → Members → Option ℕ
threshold_at n ms = number_at (codes "threshold") 1 (3 * n) ms

abbrev pub wait_at : Members → Option ℕ
wait_at ms = number_at (codes "wait") 0 1000000 ms

abbrev pub limit_at : Members → Option ℕ
limit_at ms = number_at (codes "limit") 1 65536 ms

-- the circuits that tables ask for, in a ring of these nodes
abbrev pub circuits_in : List ℕ → Members → List Provisioned
circuits_in nodes ms = map (λ d. circuit_of_table nodes (members_of d)) (elements_in (codes "circuit") ms)

abbrev pub steps_in : Members → List Step
steps_in ms = map (λ d. step_of (n_in ms) (nodes_in ms) (circuits_in (nodes_in ms) ms) (string_of d)) (elements_in (codes "script") ms)

-- a check of the document
abbrev pub check_of_document : Reason → Bool → Check
check_of_document reason fails = record { reason = reason; place = 0; fails = fails }

-- a check that fails where `at` is there: the place, counted from 0, of the first node that breaks a rule
abbrev pub first_node : Reason → Option ℕ → Check
first_node reason at = record { reason = reason; place = option_map_or (λ i. i + 1) at 0; fails = is_some at }

-- the checks of the identifiers
unfoldable pub number_checks : List ℤ → List Check
number_checks numbers =
    check_of_document reason.NodeCount (not (is_ring_size (length numbers)))
    ∷ first_node reason.NodeId (first_unfit numbers)
    ∷ first_node reason.Repeat (first_repeat numbers)
    ∷ []

-- the checks of the keys, the rate and the nodes
unfoldable pub ring_checks : Members → List Check
ring_checks ms =
    check_of_document reason.UnknownKey (not (has_only document_keys ms))
    ∷ check_of_document reason.Rate (is_none (rate_at ms))
    ∷ check_of_document reason.Nodes (not (is_array_of is_integer (codes "nodes") ms))
    ∷ number_checks (numbers_in ms)

-- the checks of the other numbers
unfoldable pub settings_checks : ℕ → Members → List Check
settings_checks n ms =
    check_of_document reason.Threshold (is_none (threshold_at n ms))
    ∷ check_of_document reason.Wait (is_none (wait_at ms))
    ∷ check_of_document reason.Limit (is_none (limit_at ms))
    ∷ []

-- the checks of the circuits, in a ring of these nodes at STM-n
unfoldable pub provision_checks : ℕ → List ℕ → Members → List Check
provision_checks n nodes ms =
    check_of_document reason.Circuits (is_some (get_member (codes "circuit") ms) && not (is_array_of is_table (codes "circuit") ms))
    ∷ circuits_checks (n / 2) nodes [] 1 (elements_in (codes "circuit") ms)

-- the check of the last step
abbrev pub last_check : List Step → Check
last_check steps = record { reason = reason.LastStep; place = length steps; fails = not (ends_settled steps) }

-- the checks of the texts of a script, in a ring of these nodes and circuits at STM-n
abbrev pub texts_checks : ℕ → List ℕ → List Provisioned → List Data → List Check
texts_checks n nodes circuits ds =
    steps_checks n nodes circuits new_past 1 ds ++ last_check (map (λ d. step_of n nodes circuits (string_of d)) ds) ∷ []

-- a script has 1 to 1,000 steps
abbrev pub is_script_length : ℕ → Bool
is_script_length k = nat_le 1 k && nat_le k 1000

-- the checks of the script, in a ring of these nodes and circuits at STM-n
unfoldable pub script_checks : ℕ → List ℕ → List Provisioned → Members → List Check
script_checks n nodes circuits ms =
    check_of_document reason.Script (not (is_array_of is_string (codes "script") ms))
    ∷ check_of_document reason.ScriptLength (not (is_script_length (length (elements_in (codes "script") ms))))
    ∷ texts_checks n nodes circuits (elements_in (codes "script") ms)

-- all checks of a document, in their order
unfoldable pub checks : Members → List Check
checks ms =
    ring_checks ms ++ (settings_checks (n_in ms) ms ++ (provision_checks (n_in ms) (nodes_in ms) ms
    ++ script_checks (n_in ms) (nodes_in ms) (circuits_in (nodes_in ms) ms) ms))

-- the plan that the keys and words give
unfoldable pub plan_of : Members → Planned
plan_of ms = record {
  settings = record { rate = rate_in ms; threshold = unwrap_or (threshold_at (n_in ms) ms) 0; wait = unwrap_or (wait_at ms) 0 };
  limit = unwrap_or (limit_at ms) 0;
  nodes = nodes_in ms;
  circuits = circuits_in (nodes_in ms) ms;
  steps = steps_in ms;
}
