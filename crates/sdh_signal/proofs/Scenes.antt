-- What a node hears through its filters, and what that means for the conditions of its step.
use Rattle.std.proofs.Common.{◌≡◌, ℕ, ◌<◌, Bool, None, List, length, get_or, ap, sym, subst, ◌∙◌}
use Rattle.std.specs.Prelude.{option_map, slice_get, if◌then◌else◌}
use Rattle.sdh_basics.specs.Indexed.{map_from}
use Rattle.sdh_basics.proofs.CellsLaws.{get_or-placed}
use Rattle.sdh_ringmap.specs.Places.{neighbour}
use Rattle.sdh_ringmap.specs.declared.Side.TheVariants.{West, East}
use Rattle.sdh_nodestate.specs.declared.Needs.{Needs}
use Rattle.sdh_nodestate.specs.declared.Sent.{Sent}
use Rattle.sdh_nodestate.specs.Conditions.{MayNeed, MayStep}
use Rattle.sdh_nodestate.specs.Filtering.{Brought, heard_of, hears}
use Rattle.sdh_signal.specs.Signals.{Filters, no_filters, no_needs}
use Rattle.sdh_signal.specs.Nodes.{filters_with, scene_through, IsSilent}

nothing_heard : (b : Brought) → b.last ≡ None → hears b ≡ None
nothing_heard b e = ap (λ o. heard_of o b.second b.third) e

pub may_step : (ids : List ℕ) (p : ℕ) (x : Needs) (f : Filters) → p < length ids → MayNeed x → IsSilent x f
    → MayStep (scene_through ids p x f)
may_step ids p x f h may silent = record {
  inside = h;
  needs = may;
  west_silent = λ e. nothing_heard f.west (silent.west e);
  east_silent = λ e. nothing_heard f.east (silent.east e);
}

-- a round brought nothing on a failing side
silent_with : (words : List Sent) (n p : ℕ) (x : Needs) (f : Filters) → IsSilent x (filters_with words n p x f)
silent_with words n p x f = record {
  west = λ e. ap (λ b. if b then None else option_map (λ (s : Sent). s.east) (slice_get words (neighbour n p West))) e;
  east = λ e. ap (λ b. if b then None else option_map (λ (s : Sent). s.west) (slice_get words (neighbour n p East))) e;
}

pub all_silent : (words : List Sent) (n : ℕ) (needs : List Needs) (old now : List Filters)
    → now ≡ map_from (λ p x. filters_with words n p x (get_or old p no_filters)) 0 needs
    → (p : ℕ) → p < length needs → IsSilent (get_or needs p no_needs) (get_or now p no_filters)
all_silent words n needs old now is p h =
    subst (IsSilent (get_or needs p no_needs))
    (sym (ap (λ (fs : List Filters). get_or fs p no_filters) is
    ∙ get_or-placed (λ p x. filters_with words n p x (get_or old p no_filters)) needs p no_needs no_filters h))
    (silent_with words n p (get_or needs p no_needs) (get_or old p no_filters))

pub heard_silent : (x : Needs) (f g : Filters) → f ≡ g → IsSilent x f → IsSilent x g
heard_silent x f g e h = subst (IsSilent x) e h

-- a node's part of a round, by what was read of the lists
pub turned : {X : Type 0} (held : Bool) (steps : Filters → X) (y old was : X) (f g : Filters) → was ≡ old → g ≡ f
    → y ≡ (if held then old else steps f) → y ≡ (if held then was else steps g)
turned held steps y old was f g e h is =
    is ∙ ap (λ z. if held then z else steps f) (sym e) ∙ ap (λ z. if held then was else steps z) (sym h)
