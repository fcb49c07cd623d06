-- Pointers come to rest span by span.
use Rattle.std.proofs.Common.{◌≡◌, ℕ, suc, ◌+◌, ◌-◌, ◌*◌, ◌<◌, ◌≤◌, List, length, None, refl, sym, ◌∙◌, subst, arith, inl, inr}
use Rattle.std.specs.Prelude.{◌/◌}
use Rattle.std.proofs.lemmas.Bool.{cases_lt}
use Rattle.std.proofs.lemmas.List.{ext_get_or}
use Rattle.sdh_ringmap.specs.declared.terms.Rate.{Rate}
use Rattle.sdh_ringmap.specs.declared.terms.Rate.TheVariants.{Four, Sixteen}
use Rattle.sdh_ringmap.specs.Rates.{n_of}
use Rattle.sdh_ringmap.specs.declared.Side.{Side}
use Rattle.sdh_ringmap.specs.Places.{neighbour, opposite}
use Rattle.sdh_ringmap.proofs.Sides.{neighbour_below}
use Rattle.sdh_circuits.specs.Provisioning.{AreCircuits}
use Rattle.sdh_bridge.specs.declared.Origin.{Origin}
use Rattle.sdh_bridge.specs.declared.Origin.TheVariants.{Add, Working, Protection, Ais}
use Rattle.sdh_nodestate.specs.declared.NodeState.{NodeState}
use Rattle.sdh_signal.specs.Settled.{settled}
use Rattle.sdh_signal.specs.Walks.{IsOver, IsArrival, back_from, working_in, protection_in}
use Rattle.sdh_signal.specs.Rounds.{Spreads}
use Rattle.sdh_signal.proofs.Spread.{steadiness_spreads}
use Rattle.sdh_pointer.specs.Reading.{start}
use Rattle.sdh_node.specs.Node.{receiving_on, sending_on}
use Rattle.sdh_node.specs.Rings.Rounds.{World}
use Rattle.sdh_node.specs.Rings.Runs.{run}
use Rattle.sdh_laws.specs.Hearing.Laws.{IsWhole}
use Rattle.sdh_laws.proofs.hearing.Changes.{whole_run}
use Rattle.sdh_laws.proofs.hearing.Nodes.{count}
use Rattle.sdh_laws.specs.Carrying.Windows.{layout_of, slots_of, HasCircuits}
use Rattle.sdh_laws.proofs.carrying.Connections.{SendsWorking, SendsProtection, BringsProtection, sends_working, sends_protection}
use Rattle.sdh_laws.proofs.carrying.Connections.{brings_protection}
use Rattle.sdh_laws.proofs.carrying.Ways.{layout_run}
use Rattle.sdh_spans.specs.Spans.{IsConstant}
use Rattle.sdh_spans.proofs.Steady.{constant_as, constant_later}
use Rattle.sdh_laws.specs.Converging.Steady.{went, brought_to, brought_in_slot, StaysSettled, HasStillPointers}
use Rattle.sdh_laws.specs.Converging.Laws.{PointersRest}
use Rattle.sdh_laws.proofs.converging.Runs.{length_run, rate_run}
use Rattle.sdh_laws.proofs.converging.Spans.{a_span_is_steady, sending_rests, reading_rests}
use Rattle.sdh_laws.proofs.converging.Ports.{does_by, value_by, sound_by, source_at, source_small, sources_send}
use Rattle.sdh_node.specs.Rings.Held.{node_at}
use Rattle.sdh_rounds.specs.Runs as any_run
use Rattle.sdh_rounds.proofs.Terms.{terms}

pub two_halves : (rate : Rate) → n_of rate / 2 + n_of rate / 2 ≡ n_of rate
two_halves Four = refl
two_halves Sixteen = refl

-- ---- a run by its layout: what goes into the AU-4s in round j, where the nodes are in these states after it

module _ (w : World) (whole : IsWhole w) where
  open terms w use {n, cs}

  abbrev half : ℕ
  half = slots_of (layout_of w)

  pub working_goes : (q m j : ℕ) (e : Side) (st : NodeState) → q < n → m ≤ half → (node_at (run (suc j) w).ring.nodes q).state ≡ st
      → went w q e m j ≡ brought_in_slot w q m (working_in n cs q st e m) j
  unfolding any_run.run
  working_goes q m j e st = subst (λ l. SendsWorking l (run j w)) (layout_run w j) (sends_working (run j w) (whole_run w j whole)) q m e st

  pub protection_goes : (q m j : ℕ) (e : Side) (st : NodeState) → q < n → 1 ≤ m → (node_at (run (suc j) w).ring.nodes q).state ≡ st
      → went w q e (half + m) j ≡ brought_in_slot w q m (protection_in n cs q st e m) j
  unfolding any_run.run
  protection_goes q m j e st =
      subst (λ l. SendsProtection l (run j w)) (layout_run w j) (sends_protection (run j w) (whole_run w j whole)) q m e st

  pub protection_comes : (p m j : ℕ) (d : Side) → p < n → brought_in_slot w p m (Protection d) j ≡ brought_to w p d (half + m) j
  protection_comes p m j d =
      subst (λ l. BringsProtection l (run j w)) (layout_run w j) (brings_protection (run j w) (whole_run w j whole)) p m d

  pub inside_of : (p : ℕ) → p < n → p < length w.ring.nodes
  inside_of p h = omega (arith, count w whole.placed)

  pub beside : (p : ℕ) (d : Side) → neighbour n p d < n
  beside p d = neighbour_below n p d (let e = whole.placed.ids.enough in omega arith)

  pub generators_many : (k p : ℕ) (d : Side) → p < length w.ring.nodes
      → length (sending_on d (node_at (run k w).ring.nodes p)).generators ≡ n_of w.ring.settings.rate
  generators_many k p d h = (((whole_run w k whole).placed.sides p (omega (arith, length_run w k))).sends d).generators ∙ rate_run w k

  pub readings_many : (k p : ℕ) (d : Side) → p < length w.ring.nodes
      → length (receiving_on d (node_at (run k w).ring.nodes p)).readings ≡ n_of w.ring.settings.rate
  readings_many k p d h = (((whole_run w k whole).placed.sides p (omega (arith, length_run w k))).receives d).readings ∙ rate_run w k

-- ---- in settled states

module _ (w : World) (whole : IsWhole w) (form : HasCircuits (layout_of w)) (rs : List ℕ) (rest : StaysSettled w rs) where
  open terms w use {n, cs}

  starts : (p m : ℕ) (o : Origin) → p < n → IsOver o → IsConstant (brought_in_slot w p m o) 0
  starts p m o h over =
      let source = source_at w p o in
      record {
        does = does_by source;
        value = value_by source;
        sound = sound_by source (source_small w whole form.offsets p o (inside_of w whole p h));
        does_is = λ j late. (sources_send w whole rest.unslipped j p m o h over).does;
        value_is = λ j late. (sources_send w whole rest.unslipped j p m o h over).value;
      }

  module _ (m : ℕ) (low : 1 ≤ m) (high : m ≤ half w whole) where
    went_working : (q j : ℕ) (e : Side) → q < n → went w q e m j
        ≡ brought_in_slot w q m (working_in n cs q (settled rs q) e m) j
    went_working q j e h = working_goes w whole q m j e (settled rs q) h high (rest.settled_are (suc j) (omega arith) q h)

    went_protection : (q j : ℕ) (e : Side) → q < n → went w q e (half w whole + m) j
        ≡ brought_in_slot w q m (protection_in n cs q (settled rs q) e m) j
    went_protection q j e h = protection_goes w whole q m j e (settled rs q) h low (rest.settled_are (suc j) (omega arith) q h)

    over_span : (t p : ℕ) (o : Origin) → p < n → IsArrival o
        → (let b = back_from n (settled rs) cs m p o in IsConstant (brought_in_slot w b.at m b.origin) t
        → IsConstant (brought_in_slot w p m o) (t + 9))
    over_span t p Ais h arrives c = absurd arrives
    over_span t p (Add id) h arrives c = absurd arrives
    over_span t p (Working d) h arrives c =
        let q = neighbour n p d in
        a_span_is_steady w whole p d m t h low (omega (arith, two_halves w.ring.settings.rate))
        (constant_as _ (went w q (opposite d) m) t (λ j. went_working q j (opposite d) (beside w whole p d)) c)
    over_span t p (Protection d) h arrives c =
        let q = neighbour n p d in
        constant_as (brought_to w p d (half w whole + m)) (brought_in_slot w p m (Protection d)) (t + 9) (λ j. protection_comes w whole p m j d h)
        (a_span_is_steady w whole p d (half w whole + m) t h (omega arith) (omega (arith, two_halves w.ring.settings.rate))
        (constant_as _ (went w q (opposite d) (half w whole + m)) t (λ j. went_protection q j (opposite d) (beside w whole p d)) c))

    spreads : Spreads n (settled rs) cs m (λ t p o. IsConstant (brought_in_slot w p m o) t) 0 9
    spreads = record {
      starts = λ p o h over. starts p m o h over;
      later = λ t u p o late c. constant_later (brought_in_slot w p m o) t u late c;
      over_span = λ t p o h arrives late c. over_span t p o h arrives c;
    }

    all_constant : (p : ℕ) (o : Origin) → p < n → IsConstant (brought_in_slot w p m o) (27 * n + 9)
    all_constant p o h =
        let same = rest.spans in
        constant_later (brought_in_slot w p m o) (0 + 9 * (3 * length rs + 1)) (27 * n + 9) (omega arith)
        (steadiness_spreads rs (half w whole) cs (subst (λ k. AreCircuits k (half w whole) cs) (sym same) form) m
        (λ t p o. IsConstant (brought_in_slot w p m o) t) 0 9
        (subst (λ k. Spreads k (settled rs) cs m (λ t p o. IsConstant (brought_in_slot w p m o) t) 0 9) (sym same) spreads) p o
        (omega arith))

    all_working : (q : ℕ) (e : Side) → q < n → IsConstant (went w q e m) (27 * n + 9)
    all_working q e h =
        let o = working_in n cs q (settled rs q) e m in
        constant_as (brought_in_slot w q m o) (went w q e m) (27 * n + 9) (λ j. went_working q j e h) (all_constant q o h)

    all_protection : (q : ℕ) (e : Side) → q < n → IsConstant (went w q e (half w whole + m)) (27 * n + 9)
    all_protection q e h =
        let o = protection_in n cs q (settled rs q) e m in
        constant_as (brought_in_slot w q m o) (went w q e (half w whole + m)) (27 * n + 9) (λ j. went_protection q j e h)
        (all_constant q o h)

  -- each AU-4
  all_went : (q i : ℕ) (e : Side) → q < n → i < n_of w.ring.settings.rate → IsConstant (went w q e (i + 1)) (27 * n + 9)
  all_went q i e h small = elim (cases_lt (half w whole) (i + 1)) [
    | inr low ↦ all_working (i + 1) (omega arith) low q e h
    | inl high ↦ (
        let m = i + 1 - half w whole in
        let at : half w whole + m ≡ i + 1 = omega arith in
        subst (λ au. IsConstant (went w q e au) (27 * n + 9)) at
        (all_protection m (omega arith) (omega (arith, two_halves w.ring.settings.rate)) q e h))
  ]

  pub still_pointers : (j : ℕ) → 27 * n + 18 ≤ j → HasStillPointers w j
  still_pointers j late = record {
    generators = λ p d h. ext_get_or None _ _ (generators_many w whole (suc j) p d h ∙ sym (generators_many w whole j p d h)) (λ i small.
        (let c = all_went p i d (omega (arith, count w whole.placed)) (omega (arith, generators_many w whole (suc j) p d h)) in
        let few : i < n_of w.ring.settings.rate = omega (arith, generators_many w whole (suc j) p d h) in
        sending_rests w whole p d i (27 * n + 9) h few c (suc j) (omega arith)
        ∙ sym (sending_rests w whole p d i (27 * n + 9) h few c j (omega arith))));
    readings = λ p d h. ext_get_or start _ _ (readings_many w whole (suc j) p d h ∙ sym (readings_many w whole j p d h)) (λ i small.
        (let few : i < n_of w.ring.settings.rate = omega (arith, readings_many w whole (suc j) p d h) in
        reading_rests w whole p d i (27 * n + 9) h few
        (all_went (neighbour n p d) i (opposite d) (beside w whole p d) few) j (omega arith)));
  }

pub pointers_rest : PointersRest
pointers_rest w rs whole form rest j late = still_pointers w whole form rs rest j late
