-- Checks one after the other.
use Rattle.std.proofs.Common.{◌≡◌, ℕ, List, [], ◌∷◌, ◌++◌, Bool, true, false, cond, Option, Some, None, Ok, Err, refl, ap, sym, ◌∙◌}
use Rattle.sdh_plan.specs.declared.check_error.CheckError.{CheckError}
use Rattle.sdh_plan.specs.declared.check_error.CheckError.TheVariants as error
use Rattle.sdh_plan.specs.declared.reason.Reason.{Reason}
use Rattle.sdh_plan.specs.Refusals.{IsRefused}
use Rattle.sdh_plan.specs.Check.{Check, Refusal, Fault, answer, checks_at_place, first_fault, unless}

pub passes : {X : Type 0} (r : Option Reason) (x y : X) → Ok y ≡ unless r x → (r ≡ None) × (y ≡ x)
passes None x y e = (refl, cc)
passes (Some reason) x y e = cc

pub refuses : {X : Type 0} (r : Option Reason) (x : X) (reason : Reason) → Err reason ≡ unless r x → r ≡ Some reason
refuses None x reason e = cc
refuses (Some other) x reason e = cc

fault_later : (b : Bool) (reason : Reason) (later more : List Fault)
    → (first_fault later ≡ None → first_fault (later ++ more) ≡ first_fault more) → cond b (Some reason) (first_fault later) ≡ None
    → cond b (Some reason) (first_fault (later ++ more)) ≡ first_fault more
fault_later true reason later more rest e = cc
fault_later false reason later more rest e = rest e

pub fault_behind : (faults more : List Fault) → first_fault faults ≡ None → first_fault (faults ++ more) ≡ first_fault more
fault_behind [] more e = refl
fault_behind (fault ∷ later) more e = fault_later fault.1 fault.0 later more (fault_behind later more) e

fault_sooner : (b : Bool) (reason r : Reason) (later more : List Fault)
    → (first_fault later ≡ Some r → first_fault (later ++ more) ≡ Some r) → cond b (Some reason) (first_fault later) ≡ Some r
    → cond b (Some reason) (first_fault (later ++ more)) ≡ Some r
fault_sooner true reason r later more rest e = e
fault_sooner false reason r later more rest e = rest e

pub fault_before : (faults more : List Fault) (r : Reason) → first_fault faults ≡ Some r → first_fault (faults ++ more) ≡ Some r
fault_before [] more r e = cc
fault_before (fault ∷ later) more r e = fault_sooner fault.1 fault.0 r later more (fault_before later more r) e

-- two readings, one after the other
pub first_fails : {X Z : Type 0} (faults more : List Fault) (x : X) (z : Z) (reason : Reason) → Err reason ≡ unless (first_fault faults) x
    → Err reason ≡ unless (first_fault (faults ++ more)) z
first_fails faults more x z reason e =
    sym (ap (λ r. unless r z) (fault_before faults more reason (refuses (first_fault faults) x reason e)))

pub second_fails : {X Y Z : Type 0} (faults : List Fault) (more : X → List Fault) (x y : X) (f : X → Y) (z : Z) (reason : Reason)
    → Ok y ≡ unless (first_fault faults) x → Err reason ≡ unless (first_fault (more y)) (f y)
    → Err reason ≡ unless (first_fault (faults ++ more x)) z
second_fails faults more x y f z reason e h =
    let parts : (first_fault faults ≡ None) × (y ≡ x) = passes (first_fault faults) x y e in
    sym (ap (λ r. unless r z) (fault_behind faults (more x) parts.0 ∙ ap (λ v. first_fault (more v)) (sym parts.1)
    ∙ refuses (first_fault (more y)) (f y) reason h))

pub both_pass : {X Y : Type 0} (faults : List Fault) (more : X → List Fault) (x y : X) (f : X → Y) (made : Y)
    → Ok y ≡ unless (first_fault faults) x → Ok made ≡ unless (first_fault (more y)) (f y)
    → Ok y ≡ unless (first_fault (faults ++ more x)) x
both_pass faults more x y f made e h =
    let parts : (first_fault faults ≡ None) × (y ≡ x) = passes (first_fault faults) x y e in
    let later : (first_fault (more y) ≡ None) × (made ≡ f y) = passes (first_fault (more y)) (f y) made h in
    let none : first_fault (faults ++ more x) ≡ None =
    fault_behind faults (more x) parts.0 ∙ ap (λ v. first_fault (more v)) (sym parts.1) ∙ later.0 in
    ap Ok parts.1 ∙ sym (ap (λ r. unless r x) none)

-- the checks of one place, and those after them
pub place_passes : (place : ℕ) (faults : List Fault) (more : List Check) → first_fault faults ≡ None
    → answer (checks_at_place place faults ++ more) ≡ answer more
place_passes place [] more e = refl
place_passes place (fault ∷ later) more e = passed fault.1 (place_passes place later more) e
  where
    passed : (b : Bool) → (first_fault later ≡ None → answer (checks_at_place place later ++ more) ≡ answer more)
        → cond b (Some fault.0) (first_fault later) ≡ None
        → cond b (Some (record { reason = fault.0; place = place })) (answer (checks_at_place place later ++ more)) ≡ answer more
    passed true rest h = cc
    passed false rest h = rest h

pub place_fails : (place : ℕ) (faults : List Fault) (more : List Check) (reason : Reason) → first_fault faults ≡ Some reason
    → answer (checks_at_place place faults ++ more) ≡ Some (record { reason = reason; place = place })
place_fails place [] more reason e = cc
place_fails place (fault ∷ later) more reason e = failed fault.1 (place_fails place later more reason) e
  where
    failed : (b : Bool) → (first_fault later ≡ Some reason → answer (checks_at_place place later ++ more)
        ≡ Some (record { reason = reason; place = place })) → cond b (Some fault.0) (first_fault later) ≡ Some reason
        → cond b (Some (record { reason = fault.0; place = place })) (answer (checks_at_place place later ++ more))
        ≡ Some (record { reason = reason; place = place })
    failed true rest h = let same : fault.0 ≡ reason = cc in ap (λ r. Some (record { reason = r; place = place })) same
    failed false rest h = rest h

-- checks in two parts
pub answer_behind : (checks more : List Check) → answer checks ≡ None → answer (checks ++ more) ≡ answer more
answer_behind [] more e = refl
answer_behind (check ∷ later) more e = behind check.fails (answer_behind later more) e
  where
    behind : (b : Bool) → (answer later ≡ None → answer (later ++ more) ≡ answer more)
        → cond b (Some (record { reason = check.reason; place = check.place })) (answer later) ≡ None
        → cond b (Some (record { reason = check.reason; place = check.place })) (answer (later ++ more)) ≡ answer more
    behind true rest h = cc
    behind false rest h = rest h

pub answer_before : (checks more : List Check) (r : Refusal) → answer checks ≡ Some r → answer (checks ++ more) ≡ Some r
answer_before [] more r e = cc
answer_before (check ∷ later) more r e = before check.fails (answer_before later more r) e
  where
    before : (b : Bool) → (answer later ≡ Some r → answer (later ++ more) ≡ Some r)
        → cond b (Some (record { reason = check.reason; place = check.place })) (answer later) ≡ Some r
        → cond b (Some (record { reason = check.reason; place = check.place })) (answer (later ++ more)) ≡ Some r
    before true rest h = h
    before false rest h = rest h

-- a refusal by the first of two parts, and by the second
pub refused_before : (checks more : List Check) (why : CheckError) → IsRefused (answer checks) why → IsRefused (answer (checks ++ more)) why
refused_before checks more error.Memory e = tt
refused_before checks more (error.BadPlan reason place) e = answer_before checks more (record { reason = reason; place = place }) e

pub refused_behind : (checks more : List Check) (why : CheckError) → answer checks ≡ None → IsRefused (answer more) why
    → IsRefused (answer (checks ++ more)) why
refused_behind checks more error.Memory none e = tt
refused_behind checks more (error.BadPlan reason place) none e = answer_behind checks more none ∙ e
