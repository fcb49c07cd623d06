-- The circuits of a document, one after the other.
use Rattle.std.proofs.Common.{◌≡◌, ℕ, ◌+◌, ◌<◌, ◌≤◌, List, [], ◌∷◌, ◌++◌, map, length, take, drop, get_or, Option, Some, None, refl, ap}
use Rattle.std.proofs.Common.{sym, subst, ◌∙◌, length-take-le}
use Rattle.std.proofs.lemmas.List.{drop_more, take_more, take_all, map-append, length-map}
use Rattle.toml.specs.declared.value.Value.{Value}
use Rattle.toml.specs.View.{view}
use Rattle.sdh_circuits.specs.Provisioned.{Provisioned}
use Rattle.sdh_circuits.specs.Provisioning.{Provisioning}
use Rattle.sdh_circuits.specs.Checks.{with_circuit}
use Rattle.sdh_plan.specs.declared.check_error.CheckError.{CheckError}
use Rattle.sdh_plan.specs.declared.check_error.CheckError.TheVariants as error
use Rattle.sdh_plan.specs.declared.reason.Reason.{Reason}
use Rattle.sdh_plan.specs.Check.{Refusal, answer, first_fault}
use Rattle.sdh_plan.specs.Refusals.{IsRefused, refusal_at}
use Rattle.sdh_plan.specs.Circuits.{circuit_of_table, circuit_faults, circuits_checks, members_of, kept_ring, provisioned}
use Rattle.sdh_plan.proofs.Checking.{place_passes, place_fails}

pub keeps : (nodes : List ℕ) (circuits : List Provisioned) (c : Provisioned) → Some nodes ≡ kept_ring nodes (circuits ++ c ∷ [])
keeps nodes [] c = refl
keeps nodes (d ∷ circuits) c = refl

module _ (slots : ℕ) (nodes : List ℕ) (values : List Value) where
  abbrev circuit_at : Value → Provisioned
  circuit_at v = circuit_of_table nodes (members_of (view v))

  abbrev made : ℕ → List Provisioned
  made i = map circuit_at (take i values)

  -- the circuits of the values before the i-th are added, and their checks pass
  pub record Added (circuits : Provisioning) (i : ℕ) : Type 0 where
    pub checks : answer (circuits_checks slots nodes [] 1 (map view values))
        ≡ answer (circuits_checks slots nodes (made i) (i + 1) (map view (drop i values)))
    pub circuits_made : circuits ≡ provisioned slots nodes (made i)

  pub added_len : (p : Provisioning) (i : ℕ) → Added p i → i ≤ length values → length p.circuits ≡ i
  added_len p i before h =
      ap (λ q. length q.circuits) before.circuits_made ∙ length-map (take i values) circuit_at ∙ length-take-le i values h

  here : (i : ℕ) (v : Value) → i < length values → v ≡ get_or values i v
      → answer (circuits_checks slots nodes (made i) (i + 1) (map view (drop i values)))
      ≡ answer (circuits_checks slots nodes (made i) (i + 1) (view v ∷ map view (drop (i + 1) values)))
  here i v h e =
      ap (λ l. answer (circuits_checks slots nodes (made i) (i + 1) (map view l))) (drop_more values i v h)
      ∙ ap (λ w. answer (circuits_checks slots nodes (made i) (i + 1) (view w ∷ map view (drop (i + 1) values)))) (sym e)

  grown : (i : ℕ) (v : Value) → i < length values → v ≡ get_or values i v → made i ++ circuit_at v ∷ [] ≡ made (i + 1)
  grown i v h e =
      ap (λ w. made i ++ circuit_at w ∷ []) e ∙ sym (map-append circuit_at (take i values) (get_or values i v ∷ []))
      ∙ ap (map circuit_at) (sym (take_more values i v h))

  -- the checks of the next value, as the circuit map sees them
  seen : (p : Provisioning) (i : ℕ) (v : Value) → Added p i
      → first_fault (circuit_faults p.slots nodes p.circuits (members_of (view v)))
      ≡ first_fault (circuit_faults slots nodes (made i) (members_of (view v)))
  seen p i v before = ap (λ q. first_fault (circuit_faults q.slots nodes q.circuits (members_of (view v)))) before.circuits_made

  pub added_next : (p q : Provisioning) (i : ℕ) (v : Value) → Added p i → i < length values → v ≡ get_or values i v
      → q ≡ with_circuit p nodes (circuit_at v)
      → first_fault (circuit_faults p.slots nodes p.circuits (members_of (view v))) ≡ None → Added q (i + 1)
  added_next p q i v before h e added passed = record {
    checks =
        before.checks ∙ here i v h e ∙ place_passes (i + 1) (circuit_faults slots nodes (made i) (members_of (view v)))
        (circuits_checks slots nodes (made i ++ circuit_at v ∷ []) (i + 1 + 1) (map view (drop (i + 1) values)))
        (sym (seen p i v before) ∙ passed)
        ∙ ap (λ cs. answer (circuits_checks slots nodes cs (i + 1 + 1) (map view (drop (i + 1) values)))) (grown i v h e);
    circuits_made = added ∙ ap (λ r. with_circuit r nodes (circuit_at v)) before.circuits_made
        ∙ ap (λ r. record { slots = slots; ring = r; circuits = made i ++ circuit_at v ∷ [] }) (keeps nodes (made i) (circuit_at v))
        ∙ ap (provisioned slots nodes) (grown i v h e);
  }

  refused_there : (i : ℕ) (o : Option Reason) (why : CheckError) (all : Option Refusal)
      → ((reason : Reason) → o ≡ Some reason → all ≡ Some (record { reason = reason; place = i + 1 }))
      → IsRefused (refusal_at (i + 1) o) why → IsRefused all why
  refused_there i None error.Memory all fails e = tt
  refused_there i None (error.BadPlan r p) all fails e = cc
  refused_there i (Some reason) error.Memory all fails e = tt
  refused_there i (Some reason) (error.BadPlan r p) all fails e = fails reason refl ∙ e

  pub added_fails : (p : Provisioning) (i place : ℕ) (v : Value) (why : CheckError) → Added p i → i < length values → v ≡ get_or values i v
      → place ≡ i + 1
      → IsRefused (refusal_at place (first_fault (circuit_faults p.slots nodes p.circuits (members_of (view v))))) why
      → IsRefused (answer (circuits_checks slots nodes [] 1 (map view values))) why
  added_fails p i place v why before h e at refused =
      refused_there i (first_fault (circuit_faults p.slots nodes p.circuits (members_of (view v)))) why _
      (λ reason fails. before.checks ∙ here i v h e ∙ place_fails (i + 1) (circuit_faults slots nodes (made i) (members_of (view v)))
      (circuits_checks slots nodes (made i ++ circuit_at v ∷ []) (i + 1 + 1) (map view (drop (i + 1) values))) reason
      (sym (seen p i v before) ∙ fails))
      (subst (λ (k : ℕ). IsRefused (refusal_at k (first_fault
      (circuit_faults p.slots nodes p.circuits (members_of (view v))))) why) at refused)

  maps : (vs : List Value) → map circuit_at vs ≡ map (λ d. circuit_of_table nodes (members_of d)) (map view vs)
  maps [] = refl
  maps (v ∷ vs) = ap (λ l. circuit_at v ∷ l) (maps vs)

  pub added_circuits : (p : Provisioning) (i : ℕ) → Added p i → length values ≤ i
      → p ≡ provisioned slots nodes (map (λ d. circuit_of_table nodes (members_of d)) (map view values))
  added_circuits p i before h =
      before.circuits_made ∙ ap (provisioned slots nodes) (ap (map circuit_at) (take_all i values h) ∙ maps values)
