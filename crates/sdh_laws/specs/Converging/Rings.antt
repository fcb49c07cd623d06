-- A ring, and changes that may happen to it, for which the laws hold.
use Rattle.std.specs.Prelude.{ℕ, Some, List, [], ◌∷◌, replicate}
use Rattle.sdh_ringmap.specs.declared.terms.Rate.TheVariants.{Four}
use Rattle.sdh_ringmap.specs.Places.{position_of}
use Rattle.sdh_ringmap.specs.declared.Side.TheVariants.{West, East}
use Rattle.sdh_request.specs.declared.Command.TheVariants as command
use Rattle.sdh_payload.specs.Customer.{Customer}
use Rattle.sdh_circuits.specs.Provisioned.{Provisioned}
use Rattle.sdh_circuits.specs.Provisioning.{Provisioning}
use Rattle.sdh_ringmap.specs.declared.terms.Condition.TheVariants.{Cut, Degraded}
use Rattle.sdh_plant.specs.Fibres.{Fibres, IsHonest}
use Rattle.sdh_request.specs.declared.settings.Settings.{Settings}
use Rattle.sdh_circuits.specs.declared.End.TheVariants.{A}
use Rattle.sdh_payload.specs.declared.clock.Turn.TheVariants.{Up}
use Rattle.sdh_restoration.specs.Changes.{Fibre, Order, Slip, Now, Stretch}
use Rattle.sdh_node.specs.Rings.Changes.{new_world, after_stretches}
use Rattle.sdh_node.specs.Rings.Laws.{MayHappen}
use Rattle.sdh_laws.specs.Hearing.Laws.{MayStart}
use Rattle.sdh_laws.specs.Carrying.Windows.{layout_of, HasCircuits}
use Rattle.sdh_laws.specs.Converging.Laws.{Converges}
use Rattle.sdh_laws.specs.Converging.Healthy.{HealthySteps}

-- three nodes at STM-4, where one violation is a degradation
abbrev pub settings : Settings
settings = record { rate = Four; threshold = 1; wait = 5 }

abbrev pub three : List ℕ
three = 1 ∷ 2 ∷ 3 ∷ []

abbrev pub customer : ℕ → Customer
customer offset = record { text = 65 ∷ []; trace = replicate 16 32; offset = offset }

-- circuit c1 over two spans, in slot 1
abbrev pub c1 : Provisioned
c1 = record { name = 99 ∷ 49 ∷ []; from = position_of 0; to = position_of 2; slot = record { 0 = 1 }; a = customer 0; b = customer 522 }

abbrev pub one_circuit : Provisioning
one_circuit = record { slots = 2; ring = Some three; circuits = c1 ∷ [] }

-- A customer's clock slips three times and a span is cut both ways. Then a fibre is degraded, a switch is forced, and
-- time passes.
abbrev pub troubles : List Stretch
troubles =
    record { changes = Slip (record { circuit = 0; end = A }) Up 3 ∷ Fibre 0 East Cut ∷ Fibre 1 West Cut ∷ []; rounds = 129 }
    ∷ record { changes = Fibre 1 East (Degraded 3) ∷ Order 2 West command.Forced ∷ Now 7 ∷ []; rounds = 40 } ∷ []

-- Over every honest plant the ring may start, its circuit is one of its size, and the troubles may happen. So while it
-- is healthy its settle steps end with rounds 128, 256 and so on, and a window ends after the troubles.
pub record RingOccurs (f : Fibres) : Type 0 where
  pub may : MayStart settings three f
  pub circuits : HasCircuits (layout_of (new_world settings three one_circuit f))
  pub happen : MayHappen (new_world settings three one_circuit f) troubles
  pub steps : HealthySteps (new_world settings three one_circuit f)
  pub converges : Converges (after_stretches troubles (new_world settings three one_circuit f))

abbrev pub ARingOccurs : Type 0
ARingOccurs = (f : Fibres) → IsHonest f → RingOccurs f
