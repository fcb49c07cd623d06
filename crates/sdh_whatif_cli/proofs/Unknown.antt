-- The plan that bytes are, and whether the user's own failures are failures of its ring.
use Rattle.std.proofs.Common.{◌≡◌, ℕ, List, Option, Some, None, sym, ap, ◌∙◌, subst}
use Rattle.std.specs.Prelude.{IfSome}
use Rattle.sdh_plan.specs.Planned.{Planned}
use Rattle.sdh_shell.specs.Reading.{TellsPlan}
use Rattle.sdh_shell.proofs.Plans.{one_plan}
use Rattle.sdh_whatif_cli.specs.declared.own.OwnError.{OwnError}
use Rattle.sdh_whatif_cli.specs.declared.own.OwnError.TheVariants as error
use Rattle.sdh_whatif_cli.specs.Own.{first_unknown, IsUnknown}
use Rattle.sdh_whatif_cli.specs.Outcome.{HasPlanFor}

pub known_of : (left : Option (List ℕ)) (texts : List (List ℕ)) (plan : Planned) → HasPlanFor texts left
    → IfSome left (λ bytes. TellsPlan bytes plan) → first_unknown plan.nodes texts ≡ None
known_of None texts plan has tells = absurd has
known_of (Some bytes) texts plan has tells =
    subst (λ (p : Planned). first_unknown p.nodes texts ≡ None) (one_plan bytes has.0 plan has.1 tells) has.2

-- the place of the first unknown text is that of the error
pub first_place : (nodes given : List ℕ) (texts : List (List ℕ)) (why : OwnError) (place : ℕ) → given ≡ nodes → why ≡ error.Unknown place
    → IsUnknown (first_unknown given texts) why → first_unknown nodes texts ≡ Some place
first_place nodes given texts error.Memory place same is unknown = cc
first_place nodes given texts (error.Unknown at) place same is unknown =
    let first : first_unknown given texts ≡ Some at = unknown in
    let here : at ≡ place = cc in
    sym (ap (λ (l : List ℕ). first_unknown l texts) same) ∙ first ∙ ap Some here
