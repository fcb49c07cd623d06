-- States of one kind with the same far end are one state.
use Rattle.std.proofs.Common.{◌≡◌, ◌↔◌, Bool, true, false, IsTrue, Option, Some, None, refl, ap, sym, ◌∙◌}
use Rattle.std.proofs.lemmas.Bool.{eqb-true, eq-eqb}
use Rattle.sdh_ringmap.specs.declared.Pos.{Pos}
use Rattle.sdh_nodestate.specs.declared.NodeState.{NodeState}
use Rattle.sdh_nodestate.specs.declared.NodeState.TheVariants as state
use Rattle.sdh_nodestate.specs.Shapes.{same_far, same_state}

far_same : (a b : Option Pos) → same_far a b ≡ true → a ≡ b
far_same None None e = refl
far_same (Some a) (Some b) e = let same : a.0 ≡ b.0 = eqb-true a.0 b.0 e in λ i. Some (record { 0 = same i })
far_same None (Some b) e = cc
far_same (Some a) None e = cc

pub state_same : (a b : NodeState) → same_state a b ≡ true → a ≡ b
unfolding same_state
state_same (state.Idle x) (state.Idle y) e = refl
state_same (state.PassThrough x) (state.PassThrough y) e = refl
state_same (state.SwitchWest f) (state.SwitchWest g) e = ap state.SwitchWest (far_same f g e)
state_same (state.SwitchEast f) (state.SwitchEast g) e = ap state.SwitchEast (far_same f g e)
state_same (state.Isolated x) (state.Isolated y) e = refl
state_same (state.Idle x) (state.PassThrough y) e = cc
state_same (state.Idle x) (state.SwitchWest y) e = cc
state_same (state.Idle x) (state.SwitchEast y) e = cc
state_same (state.Idle x) (state.Isolated y) e = cc
state_same (state.PassThrough x) (state.Idle y) e = cc
state_same (state.PassThrough x) (state.SwitchWest y) e = cc
state_same (state.PassThrough x) (state.SwitchEast y) e = cc
state_same (state.PassThrough x) (state.Isolated y) e = cc
state_same (state.SwitchWest x) (state.Idle y) e = cc
state_same (state.SwitchWest x) (state.PassThrough y) e = cc
state_same (state.SwitchWest x) (state.SwitchEast y) e = cc
state_same (state.SwitchWest x) (state.Isolated y) e = cc
state_same (state.SwitchEast x) (state.Idle y) e = cc
state_same (state.SwitchEast x) (state.PassThrough y) e = cc
state_same (state.SwitchEast x) (state.SwitchWest y) e = cc
state_same (state.SwitchEast x) (state.Isolated y) e = cc
state_same (state.Isolated x) (state.Idle y) e = cc
state_same (state.Isolated x) (state.PassThrough y) e = cc
state_same (state.Isolated x) (state.SwitchWest y) e = cc
state_same (state.Isolated x) (state.SwitchEast y) e = cc

far_itself : (a : Option Pos) → same_far a a ≡ true
far_itself None = refl
far_itself (Some a) = eq-eqb a.0 _ refl

pub state_itself : (a : NodeState) → same_state a a ≡ true
unfolding same_state
state_itself (state.Idle x) = refl
state_itself (state.PassThrough x) = refl
state_itself (state.SwitchWest f) = far_itself f
state_itself (state.SwitchEast f) = far_itself f
state_itself (state.Isolated x) = refl

is_true : (r : Bool) → IsTrue r → r ≡ true
is_true true t = refl
is_true false t = cc

so_true : (r : Bool) → r ≡ true → IsTrue r
so_true true e = refl
so_true false e = absurd (cc)

-- the comparison of states finds equal ones
pub state_tells : (r : Bool) (a b : NodeState) → r ≡ same_state a b → IsTrue r ↔ (a ≡ b)
state_tells r a b is = (λ t. state_same a b (sym is ∙ is_true r t), λ e. so_true r (is ∙ ap (same_state a) (sym e) ∙ state_itself a))
