-- What happens at sides and at ports.
use Rattle.std.proofs.Common.{◌≡◌, Bool, true, ◌∷◌, refl, ap, arith}
use Rattle.std.specs.Prelude.{◌==◌, if◌then◌else◌}
use Rattle.std.proofs.lemmas.Bool.Decides.{nat_tests}
use Rattle.sdh_ringmap.specs.Fibres.{fibre, fibre_to}
use Rattle.sdh_payload.specs.History.{told}
use Rattle.sdh_restoration.specs.Sides.{Holding}
use Rattle.sdh_promise.specs.Laws.{SidesAreTold, PortsAreTold, OwedByTheOther}

pub sides_are_told : SidesAreTold
sides_are_told n p q d e c h same =
    let b : (fibre q e == fibre_to n p d) ≡ true = grind (arith, nat_tests, same) in
    let x : Holding = record h { condition = c } in
    ap (λ (t : Bool). (if t then x else h).condition) b

pub ports_are_told : PortsAreTold
ports_are_told port other turn count history not = ap (λ (t : Bool). if t then told turn count ∷ history else history) not

pub owed_by_the_other : OwedByTheOther
owed_by_the_other n t index before c e = refl
