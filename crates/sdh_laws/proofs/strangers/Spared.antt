-- A customer of a ring of three whose circuit doesn't use the span that is cut.
use Rattle.std.proofs.Common.{◌≡◌, ℕ, zero, suc, ◌+◌, ◌-◌, ◌<◌, ◌≤◌, Bool, true, false, List, [], ◌∷◌, length, Some, refl, ap, ap₂, sym, ◌∙◌, subst}
use Rattle.std.proofs.Common.{arith}
use Rattle.std.specs.Prelude.{if◌then◌else◌, nat_lt, slice_get}
use Rattle.sdh_ringmap.specs.Arcs.{holds_span}
use Rattle.sdh_ringmap.specs.Fibres.{degraded_by, is_cut}
use Rattle.sdh_ringmap.specs.Places.{span_at}
use Rattle.sdh_ringmap.specs.declared.Side.{Side}
use Rattle.sdh_ringmap.specs.declared.Side.TheVariants.{West, East}
use Rattle.sdh_ringmap.specs.declared.terms.Code.TheVariants.{Nr}
use Rattle.sdh_circuits.specs.Provisioned.{arc_of}
use Rattle.sdh_circuits.specs.Ends.{other_end, port_id}
use Rattle.sdh_circuits.specs.declared.End.{End}
use Rattle.sdh_plant.specs.Fibres.{Fibres, IsHonest}
use Rattle.sdh_restoration.specs.Changes.{Stretch}
use Rattle.sdh_restoration.specs.Due.{nothing_applied}
use Rattle.sdh_restoration.specs.Sides.{Holding, all_holding, asked_in, holding_in, new_holding, side_history}
use Rattle.sdh_signal.specs.Laws.{StillRingsAreSettled}
use Rattle.sdh_node.specs.Node.{receiving_on}
use Rattle.sdh_node.specs.Rings.Changes.{after_stretch, new_world}
use Rattle.sdh_node.specs.Rings.Clocks.{clocks_from}
use Rattle.sdh_node.specs.Rings.Held.{node_at, outlet_at}
use Rattle.sdh_node.specs.Rings.Laws.{MayHappen}
use Rattle.sdh_node.specs.Rings.Rounds.{World, round}
use Rattle.sdh_node.specs.Rings.Sides.{world_in}
use Rattle.sdh_rounds.specs.Rounds as any_round
use Rattle.sdh_laws.specs.Carrying.Windows.{Layout, layout_of, HasCircuits}
use Rattle.sdh_laws.specs.Carrying.Laws.{due_by_clocks}
use Rattle.sdh_laws.specs.Converging.Rings.{settings, three, c1, one_circuit}
use Rattle.sdh_laws.specs.Hearing.Laws.{IsWhole, MayStart}
use Rattle.sdh_laws.specs.Resting.Rest.{IsAtRest}
use Rattle.sdh_laws.specs.Strangers.Spared.{settling, cutting_beside, ThreeSpareACustomer}
use Rattle.sdh_laws.specs.Strangers.Untouched.{AsksNothingOnArc}
use Rattle.sdh_laws.proofs.carrying.Ways.{layout_run}
use Rattle.sdh_laws.proofs.converging.HealthyRounds.{healthy_rounds_are_calm}
use Rattle.sdh_laws.proofs.converging.Rings.{three_ids, circuits_are}
use Rattle.sdh_laws.proofs.converging.Uneventful.{asks_nothing}
use Rattle.sdh_laws.proofs.hearing.Changes.{new_worlds_are_whole}
use Rattle.sdh_laws.proofs.hearing.Staying.{left_in, left_run, world_later, world_low}
use Rattle.sdh_laws.proofs.hearing.Stretches.{requests_are_the_historys}
use Rattle.sdh_laws.proofs.resting.Resting.{rests_from}
use Rattle.sdh_laws.proofs.strangers.Untroubled.{unasked_ports_deliver}

-- ---- the sides towards the two spans of the circuit's arc

abbrev pub Sparing : ℕ → Side → Type 0
Sparing p d = holds_span 3 (arc_of 3 c1) (span_at 3 p d) ≡ true

if_same : {X : Type 0} (b : Bool) (x : X) → (if b then x else x) ≡ x
if_same true x = refl
if_same false x = refl

-- nothing happens to them
stays_new : (p : ℕ) (d : Side) → p < 3 → Sparing p d → all_holding 3 p d cutting_beside.changes new_holding ≡ new_holding
unfolding holds_span
stays_new zero West h held = absurd (cc)
stays_new zero East h held = refl
stays_new (suc zero) West h held = refl
stays_new (suc zero) East h held = refl
stays_new (suc (suc zero)) West h held = refl
stays_new (suc (suc zero)) East h held = absurd (cc)
stays_new (suc (suc (suc p))) d h held = absurd (omega arith)

abbrev both : List Stretch
both = settling ∷ cutting_beside ∷ []

always_new : (p : ℕ) (d : Side) → p < 3 → Sparing p d → (t : ℕ) → holding_in 3 p d both new_holding t ≡ new_holding
always_new p d h held t =
    ap (λ (x : Holding). if nat_lt t 129 then new_holding else (if nat_lt (t - 129) 64 then x else x)) (stays_new p d h held)
    ∙ ap (λ (x : Holding). if nat_lt t 129 then new_holding else x) (if_same (nat_lt (t - 129) 64) new_holding)
    ∙ if_same (nat_lt t 129) new_holding

asks_none : (p : ℕ) (d : Side) → p < 3 → Sparing p d → (t : ℕ) → asked_in 1 5 3 both t p d ≡ Nr
asks_none p d h held t =
    asks_nothing 1 (omega arith) 5 (side_history 3 p d both) (record {
      cut = λ j. ap (λ (x : Holding). is_cut x.condition) (always_new p d h held j);
      degraded = λ j. ap (λ (x : Holding). degraded_by x.condition) (always_new p d h held j);
      command = λ j. ap (λ (x : Holding). x.command) (always_new p d h held j);
    }) t

-- ---- the ring

module _ (law : StillRingsAreSettled) (f : Fibres) (honest : IsHonest f) where
  abbrev w : World
  w = new_world settings three one_circuit f

  may : MayStart settings three f
  may = record { ids_ok = three_ids; honest = honest; least = omega arith }

  happen : MayHappen w both
  happen = (tt, ((tt, (tt, tt)), tt))

  abbrev rested : World
  rested = after_stretch settling w

  whole : IsWhole w
  whole = new_worlds_are_whole settings three one_circuit f three_ids honest

  rests : IsAtRest (clocks_from w) rested
  rests =
      rests_from law w whole circuits_are 7
      (λ j late. healthy_rounds_are_calm settings three one_circuit f may circuits_are j (omega arith)) 129 (omega arith)

  form : HasCircuits (layout_of rested)
  form = subst HasCircuits (sym (layout_run w 129)) circuits_are

  ids_then : (t : ℕ) → t ≤ 193 → (world_in both w t).ring.ids ≡ three
  ids_then t few = (left_in both w t (omega arith)).ids

  -- in each round nothing is asked on the arc
  none_in : (t : ℕ) → t < 193 → AsksNothingOnArc (round (world_in both w t)) c1
  unfolding any_round.round any_round.round_with
  none_in t few =
      subst (λ (l : List ℕ). (p : ℕ) (d : Side) → p < length l → holds_span (length l) (arc_of (length l) c1) (span_at (length l) p d) ≡ true
      → (receiving_on d (node_at (round (world_in both w t)).ring.nodes p)).request ≡ Nr) (sym (ids_then t (omega arith)))
      (λ p d low held. (requests_are_the_historys settings three one_circuit f both may happen).each p d t low (omega arith)
      ∙ asks_none p d low held t)

  later : (t : ℕ) → world_in both w (129 + t) ≡ world_in (cutting_beside ∷ []) rested t
  later t = world_later settling (cutting_beside ∷ []) w t

  none_later : (t : ℕ) → t < 64 → AsksNothingOnArc (round (world_in (cutting_beside ∷ []) rested t)) c1
  none_later t few = subst (λ v. AsksNothingOnArc (round v) c1) (later t) (none_in (129 + t) (omega arith))

  -- nor is anything if nothing happens
  abbrev longer : List Stretch
  longer = record { changes = []; rounds = 130 } ∷ []

  none_before : (p : ℕ) (d : Side) → asked_in 1 5 3 longer 129 p d ≡ Nr
  none_before p d =
      asks_nothing 1 (omega arith) 5 (side_history 3 p d longer) (record {
        cut = λ j. ap (λ (x : Holding). is_cut x.condition) (if_same (nat_lt j 130) new_holding);
        degraded = λ j. ap (λ (x : Holding). degraded_by x.condition) (if_same (nat_lt j 130) new_holding);
        command = λ j. ap (λ (x : Holding). x.command) (if_same (nat_lt j 130) new_holding);
      }) 129

  rested_is : world_in longer w 129 ≡ rested
  rested_is = world_low (record { changes = []; rounds = 130 }) [] w 129 (omega arith)

  before : AsksNothingOnArc (round rested) c1
  unfolding any_round.round any_round.round_with
  before =
      subst (λ (l : List ℕ). (p : ℕ) (d : Side) → p < length l → holds_span (length l) (arc_of (length l) c1) (span_at (length l) p d) ≡ true
      → (receiving_on d (node_at (round rested).ring.nodes p)).request ≡ Nr) (sym (left_run 129 w).ids)
      (λ p d low held. subst (λ v. (receiving_on d (node_at (round v).ring.nodes p)).request ≡ Nr) rested_is
      ((requests_are_the_historys settings three one_circuit f longer may (tt, tt)).each p d 129 low (omega arith) ∙ none_before p d))

  spared : (t : ℕ) → t < 64 → (e : End) → outlet_at (round (world_in both w (129 + t))).ring (port_id 0 e)
      ≡ due_by_clocks 3 nothing_applied c1 e (clocks_from w (port_id 0 (other_end e))) (129 + t)
  spared t few e =
      let there : slice_get rested.ring.circuits.circuits 0 ≡ Some c1 =
      ap (λ (l : Layout). slice_get l.circuits 0) (layout_run w 129) in
      let number : rested.ring.rounds + t ≡ 129 + t = (let r = (left_run 129 w).rounds in omega arith) in
      ap (λ v. outlet_at (round v).ring (port_id 0 e)) (later t)
      ∙ unasked_ports_deliver law rested (clocks_from w) rests form (cutting_beside ∷ []) ((tt, (tt, tt)), tt) 0 c1 there
      ((tt, (tt, tt)), tt) before none_later t few e
      ∙ ap₂ (λ n r. due_by_clocks n nothing_applied c1 e (clocks_from w (port_id 0 (other_end e))) r)
      (ap length (left_run 129 w).ids) number

pub three_spare_a_customer : StillRingsAreSettled → ThreeSpareACustomer
three_spare_a_customer law f honest t few e = spared law f honest t few e
