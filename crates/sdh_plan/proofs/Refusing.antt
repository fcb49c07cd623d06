-- The checks of a circuit, as the circuit map makes them.
use Rattle.std.proofs.Common.{◌≡◌, ℕ, List, Bool, true, false, not, cond, Option, Some, None, Result, Err, IfSome, IfNone, refl, ap, sym}
use Rattle.std.proofs.Common.{◌∙◌}
use Rattle.std.specs.Option.{option_and_then}
use Rattle.sdh_circuits.specs.Provisioned.{Provisioned}
use Rattle.sdh_circuits.specs.Provisioning.{Provisioning}
use Rattle.sdh_circuits.specs.Checks.{Wish, wish_checks, refusal}
use Rattle.sdh_circuits.specs.declared.AddError.{AddError}
use Rattle.sdh_circuits.specs.declared.AddError.TheVariants as refused
use Rattle.sdh_plan.specs.declared.reason.Reason.TheVariants as reason
use Rattle.sdh_plan.specs.Check.{first_fault}
use Rattle.sdh_plan.specs.Refusals.{reason_of}
use Rattle.toml.specs.Data.{Members}
use Rattle.sdh_plan.specs.Document.{has_only}
use Rattle.sdh_plan.specs.Circuits.{circuit_keys, wish_in, wish_faults, circuit_faults}

eight : (a b c d e f g h : Bool)
    → cond (not a) (Some reason.Slot) (cond (not b) (Some reason.End)
    (cond (not c) (Some reason.SameEnds) (cond (not d) (Some reason.Offset)
    (cond (not e) (Some reason.Text) (cond (not f) (Some reason.Trace)
    (cond (not g) (Some reason.Name) (cond (not h) (Some reason.Overlap) None)))))))
    ≡ option_and_then reason_of (cond a (cond b (cond c (cond d
    (cond e (cond f (cond g (cond h None (Some refused.Overlap)) (Some refused.Name)) (Some refused.Trace)) (Some refused.Text))
    (Some refused.Offset)) (Some refused.SameEnds)) (Some refused.End)) (Some refused.Slot))
eight false b c d e f g h = refl
eight true false c d e f g h = refl
eight true true false d e f g h = refl
eight true true true false e f g h = refl
eight true true true true false f g h = refl
eight true true true true true false g h = refl
eight true true true true true true false h = refl
eight true true true true true true true false = refl
eight true true true true true true true true = refl

pub same_checks : (p : Provisioning) (nodes : List ℕ) (wish : Wish)
    → first_fault (wish_faults p.slots nodes p.circuits wish) ≡ option_and_then reason_of (refusal p nodes wish)
unfolding wish_faults refusal wish_checks
same_checks p nodes wish = eight _ _ _ _ _ _ _ _

-- a circuit is refused for its first check that fails, and because memory ran out only where no check fails
pub refused_for : (X : Type 0) (p : Provisioning) (nodes : List ℕ) (wish : Wish) (why : AddError)
    → IfSome (refusal p nodes wish) (λ first. ◌≡◌ {A = Result X AddError} (Err why) (Err first))
    → IfNone (refusal p nodes wish) (why ≡ refused.Memory) → first_fault (wish_faults p.slots nodes p.circuits wish) ≡ reason_of why
refused_for X p nodes wish why first memory = same_checks p nodes wish ∙ by (refusal p nodes wish) first memory
  where
    by : (o : Option AddError) → IfSome o (λ first. ◌≡◌ {A = Result X AddError} (Err why) (Err first)) → IfNone o (why ≡ refused.Memory)
        → option_and_then reason_of o ≡ reason_of why
    by None s n = sym (ap reason_of n)
    by (Some first) s n = let e : ◌≡◌ {A = Result X AddError} (Err why) (Err first) = s in let same : first ≡ why = cc in ap reason_of same

pub all_passed : (p : Provisioning) (nodes : List ℕ) (wish : Wish) → refusal p nodes wish ≡ None
    → first_fault (wish_faults p.slots nodes p.circuits wish) ≡ None
all_passed p nodes wish e = same_checks p nodes wish ∙ ap (option_and_then reason_of) e

-- where the keys and the kinds pass, the first check of a table that fails is one of what it asks for
pub asked_first : (slots : ℕ) (nodes : List ℕ) (before : List Provisioned) (ms : Members) (wish : Wish) → has_only circuit_keys ms ≡ true
    → wish_in ms ≡ Some wish
    → first_fault (circuit_faults slots nodes before ms) ≡ first_fault (wish_faults slots nodes before wish)
unfolding circuit_faults
asked_first slots nodes before ms wish known asked = rw (known, asked) refl
