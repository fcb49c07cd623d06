-- What passes a node whose span on a side is free.
use Rattle.std.proofs.Common.{◌≡◌, ℕ, Bool, true, false, Option, Some, None, List, refl, ap, ◌∙◌, inl, inr, ◌⊎◌}
use Rattle.std.specs.Prelude.{if◌then◌else◌}
use Rattle.std.specs.Option.{option_map_or}
use Rattle.sdh_bridge.specs.Connections.{chain_on, leaves_protection, leaves_working, may_carry, origin_sent, stands_for}
use Rattle.sdh_bridge.specs.declared.Origin.{Origin}
use Rattle.sdh_bridge.specs.declared.Origin.TheVariants.{Ais, Protection, Working}
use Rattle.sdh_circuits.specs.Provisioned.{Provisioned}
use Rattle.sdh_circuits.specs.declared.End.{End}
use Rattle.sdh_circuits.specs.declared.End.TheVariants.{A, B}
use Rattle.sdh_nodestate.specs.declared.NodeState.{NodeState}
use Rattle.sdh_nodestate.specs.declared.NodeState.TheVariants as state
use Rattle.sdh_ringmap.specs.Places.{opposite, span_at, position_of}
use Rattle.sdh_ringmap.specs.declared.Chain.{Chain}
use Rattle.sdh_ringmap.specs.declared.Pos.{Pos}
use Rattle.sdh_ringmap.specs.declared.Side.{Side}
use Rattle.sdh_ringmap.specs.declared.Side.TheVariants.{East, West}
use Rattle.sdh_signal.proofs.States.{Resting}
use Rattle.sdh_signal.proofs.Views.{Idle, Isolated, PassThrough, Switch, carried, end_at, far_at, side_state}
use Rattle.sdh_signal.specs.Law.{is_open}
use Rattle.sdh_signal.specs.Walks.{carries_in, port, protection_in, stands_in, working_in}
use Rattle.sdh_squelch.proofs.LookUps.{entry}
use Rattle.sdh_squelch.specs.Table.{circuit_from, circuits_at, is_carried}
use Rattle.sdh_squelch.specs.declared.Row.{Row}

rest-open : (st : NodeState) (d : Side) → (st ≡ PassThrough) ⊎ (st ≡ Idle) → is_open st d ≡ true
rest-open st d (inl e) = ap (λ s. is_open s d) e
rest-open st d (inr e) = ap (λ s. is_open s d) e

by_side : (d : Side) (a b : Bool) (f g : Option Pos) (rest : NodeState) → a ≡ false → is_open rest d ≡ true
    → is_open (side_state d a b f g rest) d ≡ true
by_side d true b f g rest e h = cc
by_side East false true f g rest e h = refl
by_side West false true f g rest e h = refl
by_side d false false f g rest e h = h

-- a side whose span is free isn't switched
pub settled-open : (n : ℕ) (r : Resting n) (d : Side) (q : ℕ) → r.applied (span_at n q d) ≡ false → is_open (r.state q) d ≡ true
settled-open n r d q e =
    ap (λ s. is_open s d) (r.by_sides d q)
    ∙ by_side d (r.applied (span_at n q d)) (r.applied (span_at n q (opposite d))) (r.far d q) (r.far (opposite d) q) (r.rest q) e
    (rest-open (r.rest q) d (r.either q))

none_by : (a b : Bool) (x y z : Origin) → (if a then Some A else (if b then Some B else None)) ≡ None
    → (if a then x else (if b then y else z)) ≡ z
none_by true b x y z e = cc
none_by false true x y z e = cc
none_by false false x y z e = refl

some_by : (a b : Bool) (i : ℕ) (z : Origin) (x : End) → (if a then Some A else (if b then Some B else None)) ≡ Some x
    → (if a then port i A else (if b then port i B else z)) ≡ port i x
some_by true b i z x e = let t : A ≡ x = cc in ap (port i) t
some_by false true i z x e = let t : B ≡ x = cc in ap (port i) t
some_by false false i z x e = cc

-- a circuit that ends at p, and one that doesn't
sent-own : (p i : ℕ) (c : Provisioned) (z : Origin) (x : End) → end_at c p ≡ Some x
    → origin_sent (position_of p) (Some (entry i c)) z ≡ port i x
sent-own p i c z x e = some_by _ _ i z x e

sent-on : (p i : ℕ) (c : Provisioned) (z : Origin) → end_at c p ≡ None → origin_sent (position_of p) (Some (entry i c)) z ≡ z
sent-on p i c z e = none_by _ _ _ _ z e

module _ (n : ℕ) (cs : List Provisioned) (q : ℕ) where
  pub open-stands : (st : NodeState) (d : Side) (m : ℕ) → is_open st d ≡ true → stands_in n cs q st d m ≡ Working d
  unfolding stands_for
  open-stands (state.Isolated i) d m e = cc
  open-stands (state.SwitchWest f) West m e = cc
  open-stands (state.SwitchWest f) East m e = refl
  open-stands (state.SwitchEast f) West m e = refl
  open-stands (state.SwitchEast f) East m e = cc
  open-stands (state.PassThrough i) d m e = refl
  open-stands (state.Idle i) d m e = refl

  -- what is taken from the other side goes on, if the circuit in the slot doesn't end here
  goes_by : (st : NodeState) (d : Side) (m : ℕ) (k : Option Row) → circuits_at n cs q m d ≡ k
      → (origin_sent (position_of q) k (stands_in n cs q st (opposite d) m) ≡ stands_in n cs q st (opposite d) m)
      → working_in n cs q st d m ≡ stands_in n cs q st (opposite d) m
  unfolding leaves_working stands_for
  goes_by (state.Isolated i) d m k h g = refl
  goes_by (state.SwitchWest f) d m k h g = ap (λ o. origin_sent (position_of q) o (stands_in n cs q (state.SwitchWest f) (opposite d) m)) h ∙ g
  goes_by (state.SwitchEast f) d m k h g = ap (λ o. origin_sent (position_of q) o (stands_in n cs q (state.SwitchEast f) (opposite d) m)) h ∙ g
  goes_by (state.PassThrough i) d m k h g =
      ap (λ o. origin_sent (position_of q) o (stands_in n cs q (state.PassThrough i) (opposite d) m)) h ∙ g
  goes_by (state.Idle i) d m k h g = ap (λ o. origin_sent (position_of q) o (stands_in n cs q (state.Idle i) (opposite d) m)) h ∙ g

  -- a circuit that doesn't end here goes on
  pub leaves-on : (st : NodeState) (i : ℕ) (c : Provisioned) (d : Side) (m : ℕ) → circuit_from n (span_at n q d) m 0 cs ≡ Some (entry i c)
      → end_at c q ≡ None → working_in n cs q st d m ≡ stands_in n cs q st (opposite d) m
  leaves-on st i c d m h e = goes_by st d m (Some (entry i c)) h (sent-on q i c (stands_in n cs q st (opposite d) m) e)

  own_or_none : (st : NodeState) (d : Side) (m : ℕ) → (working_in n cs q st d m ≡ Ais)
      ⊎ (working_in n cs q st d m ≡ origin_sent (position_of q) (circuits_at n cs q m d) (stands_in n cs q st (opposite d) m))
  unfolding leaves_working
  own_or_none (state.Isolated i) d m = inl refl
  own_or_none (state.SwitchWest f) d m = inr refl
  own_or_none (state.SwitchEast f) d m = inr refl
  own_or_none (state.PassThrough i) d m = inr refl
  own_or_none (state.Idle i) d m = inr refl

  open_sends : (st : NodeState) (y d : Side) (m : ℕ) → is_open st y ≡ true
      → working_in n cs q st d m ≡ origin_sent (position_of q) (circuits_at n cs q m d) (stands_in n cs q st (opposite d) m)
  unfolding leaves_working
  open_sends (state.Isolated i) y d m o = cc
  open_sends (state.SwitchWest f) y d m o = refl
  open_sends (state.SwitchEast f) y d m o = refl
  open_sends (state.PassThrough i) y d m o = refl
  open_sends (state.Idle i) y d m o = refl

  own_by : (st : NodeState) (i : ℕ) (c : Provisioned) (x : End) (d : Side) (m : ℕ)
      → circuit_from n (span_at n q d) m 0 cs ≡ Some (entry i c) → end_at c q ≡ Some x
      → origin_sent (position_of q) (circuits_at n cs q m d) (stands_in n cs q st (opposite d) m) ≡ port i x
  own_by st i c x d m h e =
      ap (λ o. origin_sent (position_of q) o (stands_in n cs q st (opposite d) m)) h ∙ sent-own q i c (stands_in n cs q st (opposite d) m) x e

  -- a circuit that begins at a node that isn't isolated is its port's own stream
  pub leaves-own : (st : NodeState) (i : ℕ) (c : Provisioned) (x : End) (y d : Side) (m : ℕ)
      → circuit_from n (span_at n q d) m 0 cs ≡ Some (entry i c) → is_open st y ≡ true → end_at c q ≡ Some x
      → working_in n cs q st d m ≡ port i x
  leaves-own st i c x y d m h o e = open_sends st y d m o ∙ own_by st i c x d m h e

  pub leaves-own_or_none : (st : NodeState) (i : ℕ) (c : Provisioned) (x : End) (d : Side) (m : ℕ)
      → circuit_from n (span_at n q d) m 0 cs ≡ Some (entry i c) → end_at c q ≡ Some x
      → (working_in n cs q st d m ≡ Ais) ⊎ (working_in n cs q st d m ≡ port i x)
  leaves-own_or_none st i c x d m h e = elim (own_or_none st d m) [ inl none ↦ inl none | inr own ↦ inr (own ∙ own_by st i c x d m h e) ]

  pub leaves-unused : (st : NodeState) (d : Side) (m : ℕ) → circuit_from n (span_at n q d) m 0 cs ≡ None → working_in n cs q st d m ≡ Ais
  leaves-unused st d m h = elim (own_or_none st d m) [
    | inl none ↦ none
    | inr own ↦ own
        ∙ ap (λ o. origin_sent (position_of q) o (stands_in n cs q st (opposite d) m)) h
  ]

  pub unused-carries : (d : Side) (m : ℕ) (f : Option Pos) → circuit_from n (span_at n q d) m 0 cs ≡ None → carries_in n cs q d m f ≡ false
  unfolding may_carry
  unused-carries d m f h =
      ap (λ o. option_map_or (is_carried n o) (chain_on n (position_of q) (circuits_at n cs q m) d f) false) h
      ∙ none_carried (chain_on n (position_of q) (circuits_at n cs q m) d f) where
        none_carried : (k : Option Chain) → option_map_or (is_carried n None) k false ≡ false
        none_carried None = refl
        none_carried (Some k) = refl

  -- what may be carried to a far end, by the circuit in the slot
  pub carries-by : (d : Side) (m f : ℕ) → carries_in n cs q d m (far_at f) ≡ carried n q (circuits_at n cs q m d) d f
  unfolding may_carry
  carries-by West m f = refl
  carries-by East m f = refl

  pub isolated-stands : (d : Side) (m : ℕ) → stands_in n cs q Isolated d m ≡ Ais
  unfolding stands_for
  isolated-stands d m = refl

  pub isolated-leaves : (d : Side) (m : ℕ) → protection_in n cs q Isolated d m ≡ Ais
  unfolding leaves_protection
  isolated-leaves d m = refl

  pub idle-leaves : (d : Side) (m : ℕ) → protection_in n cs q Idle d m ≡ Ais
  unfolding leaves_protection
  idle-leaves d m = refl

  -- a switched side with a circuit that may be carried, and one with a circuit that may not
  pub switched-stands : (d : Side) (m : ℕ) (f : Option Pos) (b : Bool) → carries_in n cs q d m f ≡ b
      → stands_in n cs q (Switch d f) d m ≡ (if b then Protection (opposite d) else Ais)
  unfolding stands_for
  switched-stands East m f b e = ap (λ k. if k then Protection West else Ais) e
  switched-stands West m f b e = ap (λ k. if k then Protection East else Ais) e

  pub bridged-leaves : (d : Side) (m : ℕ) (f : Option Pos) → carries_in n cs q d m f ≡ true
      → protection_in n cs q (Switch d f) (opposite d) m ≡ working_in n cs q (Switch d f) d m
  unfolding leaves_protection
  bridged-leaves East m f e = ap (λ k. if k then working_in n cs q (Switch East f) East m else Ais) e
  bridged-leaves West m f e = ap (λ k. if k then working_in n cs q (Switch West f) West m else Ais) e

  pub blocked-leaves : (d : Side) (m : ℕ) (f : Option Pos) → carries_in n cs q d m f ≡ false
      → protection_in n cs q (Switch d f) (opposite d) m ≡ Ais
  unfolding leaves_protection
  blocked-leaves East m f e = ap (λ k. if k then working_in n cs q (Switch East f) East m else Ais) e
  blocked-leaves West m f e = ap (λ k. if k then working_in n cs q (Switch West f) West m else Ais) e

  -- nothing leaves on protection over the switched side
  pub away-leaves : (d : Side) (m : ℕ) (f : Option Pos) → protection_in n cs q (Switch d f) d m ≡ Ais
  unfolding leaves_protection
  away-leaves East m f = refl
  away-leaves West m f = refl

  pub passed-leaves : (d : Side) (m : ℕ) → protection_in n cs q PassThrough (opposite d) m ≡ Protection d
  unfolding leaves_protection
  passed-leaves East m = refl
  passed-leaves West m = refl
