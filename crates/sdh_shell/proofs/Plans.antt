-- Bytes, and their one plan.
use Rattle.std.proofs.Common.{◌≡◌, ℕ, List, ap, sym, ◌∙◌}
use Rattle.std.proofs.lemmas.Option.{same_Some}
use Rattle.sdh_plan.specs.Planned.{Planned}
use Rattle.sdh_plan.specs.Plans.{plan_of}
use Rattle.sdh_shell.specs.Reading.{TellsPlan}

-- bytes are those of one plan
pub one_plan : (bytes : List ℕ) (p q : Planned) → TellsPlan bytes p → TellsPlan bytes q → p ≡ q
one_plan bytes p q x y =
    let same : x.1.0 ≡ y.1.0 = same_Some x.1.0 y.1.0 (sym x.1.1.1 ∙ y.1.1.1) in
    x.1.3 ∙ ap plan_of same ∙ sym y.1.3
