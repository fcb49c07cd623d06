-- The identifiers of a ring as a document gives them.
use Rattle.std.proofs.Common.{◌≡◌, ℕ, ℤ, ◌+◌, ◌<◌, List, map, length, Bool, true, false, not, cond, Option, Some, None, Result, Ok, Err}
use Rattle.std.proofs.Common.{refl, ap, ◌∙◌, arith}
use Rattle.std.specs.Option.{option_map_or, is_some}
use Rattle.std.proofs.lemmas.Bool.Decides.{nat_tests}
use Rattle.std.proofs.lemmas.List.{length-map}
use Rattle.toml.specs.declared.value.Value.{Value}
use Rattle.toml.specs.View.{view}
use Rattle.sdh_ringmap.specs.Numbering.{ring_of, is_ring_size, first_unfit, first_repeat, magnitude}
use Rattle.sdh_ringmap.specs.declared.MapError.{MapError}
use Rattle.sdh_ringmap.specs.declared.MapError.TheVariants.{NodeCount, NodeId, Repeat}
use Rattle.sdh_plan.specs.declared.reason.Reason.TheVariants as reason
use Rattle.sdh_plan.specs.Check.{Refusal, answer}
use Rattle.sdh_plan.specs.Document.{integer_of}
use Rattle.sdh_plan.specs.Plans.{number_checks}

-- what the checks answer, and what the ring map answers
said : Bool → Option ℕ → Option ℕ → Option Refusal
said b u r =
    cond (not b) (Some (record { reason = reason.NodeCount; place = 0 }))
    (cond (is_some u) (Some (record { reason = reason.NodeId; place = option_map_or (λ i. i + 1) u 0 }))
    (cond (is_some r) (Some (record { reason = reason.Repeat; place = option_map_or (λ i. i + 1) r 0 })) None))

made : Bool → Option ℕ → Option ℕ → List ℕ → Result (List ℕ) MapError
made b u r ids = cond b (option_map_or (λ i. Err (NodeId (i + 1))) u (option_map_or (λ i. Err (Repeat (i + 1))) r (Ok ids))) (Err NodeCount)

-- the refusal that an error of the ring map stands for
abbrev pub refusal_of : MapError → Refusal
refusal_of NodeCount = record { reason = reason.NodeCount; place = 0 }
refusal_of (NodeId place) = record { reason = reason.NodeId; place = place }
refusal_of (Repeat place) = record { reason = reason.Repeat; place = place }

fails : (b : Bool) (u r : Option ℕ) (ids : List ℕ) (why : MapError) → made b u r ids ≡ Err why → said b u r ≡ Some (refusal_of why)
unfolding said made
fails false u r ids why e = let same : NodeCount ≡ why = cc in ap (λ w. Some (refusal_of w)) same
fails true (Some i) r ids why e = let same : NodeId (i + 1) ≡ why = cc in ap (λ w. Some (refusal_of w)) same
fails true None (Some i) ids why e = let same : Repeat (i + 1) ≡ why = cc in ap (λ w. Some (refusal_of w)) same
fails true None None ids why e = cc

passes : (b : Bool) (u r : Option ℕ) (ids kept : List ℕ) → made b u r ids ≡ Ok kept → (said b u r ≡ None) × (kept ≡ ids)
unfolding said made
passes false u r ids kept e = cc
passes true (Some i) r ids kept e = cc
passes true None (Some i) ids kept e = cc
passes true None None ids kept e = (refl, cc)

all_fail : (numbers : List ℤ) (why : MapError) → ring_of numbers ≡ Err why → answer (number_checks numbers) ≡ Some (refusal_of why)
unfolding ring_of number_checks said made
all_fail numbers why e = fails (is_ring_size (length numbers)) (first_unfit numbers) (first_repeat numbers) (map magnitude numbers) why e

pub count_fails : (numbers : List ℤ) → ring_of numbers ≡ Err NodeCount
    → answer (number_checks numbers) ≡ Some (record { reason = reason.NodeCount; place = 0 })
count_fails numbers e = all_fail numbers NodeCount e

pub node_fails : (numbers : List ℤ) (place : ℕ) → ring_of numbers ≡ Err (NodeId place)
    → answer (number_checks numbers) ≡ Some (record { reason = reason.NodeId; place = place })
node_fails numbers place e = all_fail numbers (NodeId place) e

pub repeat_fails : (numbers : List ℤ) (place : ℕ) → ring_of numbers ≡ Err (Repeat place)
    → answer (number_checks numbers) ≡ Some (record { reason = reason.Repeat; place = place })
repeat_fails numbers place e = all_fail numbers (Repeat place) e

pub nodes_pass : (numbers : List ℤ) (kept : List ℕ) → ring_of numbers ≡ Ok kept → answer (number_checks numbers) ≡ None
unfolding ring_of number_checks said made
nodes_pass numbers kept e =
    (passes (is_ring_size (length numbers)) (first_unfit numbers) (first_repeat numbers) (map magnitude numbers) kept e).0

pub nodes_made : (numbers : List ℤ) (kept : List ℕ) → ring_of numbers ≡ Ok kept → kept ≡ map magnitude numbers
unfolding ring_of said made
nodes_made numbers kept e =
    (passes (is_ring_size (length numbers)) (first_unfit numbers) (first_repeat numbers) (map magnitude numbers) kept e).1

-- more than 16 nodes are too many
pub too_many : (values : List Value) → 16 < length values → answer (number_checks (map integer_of (map view values)))
    ≡ Some (record { reason = reason.NodeCount; place = 0 })
unfolding number_checks
too_many values h =
    let len : length (map integer_of (map view values)) ≡ length values =
    length-map (map view values) integer_of ∙ length-map values view in
    let many : is_ring_size (length (map integer_of (map view values))) ≡ false = grind (arith, nat_tests, len) in
    rw many refl
