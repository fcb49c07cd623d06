use Rattle.std.proofs.Common.{refl}
use Rattle.sdh_ringmap.specs.Arcs.{is_clear, holds_span}
use Rattle.sdh_ringmap.specs.Steps.{going}
use Rattle.sdh_restoration.specs.Applied.{applies}
use Rattle.sdh_restoration.specs.Routes.{hops}
use Rattle.sdh_signal.specs.Settled.{settled, far_end}
use Rattle.sdh_bridge.specs.Connections.{may_carry, stands_for, leaves_working, leaves_protection}
use Rattle.sdh_signal.specs.Walks.{delivery}
use Rattle.sdh_signal.proofs.routing.worked_rings.Goals as goal

pub returns-clause-one : goal.returns-clause-one
unfolding going settled far_end applies hops is_clear holds_span may_carry stands_for leaves_working leaves_protection delivery
returns-clause-one c = (refl, refl, refl, refl, refl, refl, refl)

pub returns-clause-two : goal.returns-clause-two
unfolding going settled far_end applies hops is_clear holds_span may_carry stands_for leaves_working leaves_protection delivery
returns-clause-two c = (refl, refl, refl, refl, refl, refl, refl)

pub returns-clause-cut_off : goal.returns-clause-cut_off
unfolding going settled far_end applies hops is_clear holds_span may_carry stands_for leaves_working leaves_protection delivery
returns-clause-cut_off c = (refl, refl, refl, refl, refl, refl, refl, refl)

pub returns-clause-tie : goal.returns-clause-tie
unfolding going settled far_end applies hops is_clear holds_span may_carry stands_for leaves_working leaves_protection delivery
returns-clause-tie c = (refl, refl, refl, refl, refl, refl, refl, refl, refl, refl)

pub returns-clause-longest : goal.returns-clause-longest
unfolding going settled far_end applies hops is_clear holds_span may_carry stands_for leaves_working leaves_protection delivery
returns-clause-longest c = (refl, refl, refl, refl)
