-- The pointers of a healthy ring, along the walk of each AU-4.
use Rattle.std.proofs.Common.{◌≡◌, ℕ, zero, suc, ◌+◌, ◌-◌, ◌<◌, ◌≤◌, List, length, get_or, replicate, Option, Some, None, refl, ap, ap₂}
use Rattle.std.proofs.Common.{sym, ◌∙◌, subst, arith, inl, inr}
use Rattle.std.specs.Prelude.{◌/◌}
use Rattle.std.proofs.lemmas.Bool.{cases_lt}
use Rattle.std.proofs.lemmas.List.{get_or-replicate, length-replicate, get_or_past, ext_get_or}
use Rattle.sdh_ringmap.specs.Rates.{n_of}
use Rattle.sdh_ringmap.specs.declared.Side.{Side}
use Rattle.sdh_ringmap.specs.declared.Side.TheVariants.{West, East}
use Rattle.sdh_ringmap.specs.Places.{neighbour, opposite, position_of}
use Rattle.sdh_circuits.specs.Provisioned.{Provisioned}
use Rattle.sdh_circuits.specs.Provisioning.{Provisioning}
use Rattle.sdh_bridge.specs.declared.Origin.{Origin}
use Rattle.sdh_bridge.specs.declared.Origin.TheVariants.{Add, Working, Protection, Ais}
use Rattle.sdh_signal.specs.Law.{Ends, all_idle}
use Rattle.sdh_signal.specs.Walks.{Stand, stand, IsOver, IsArrival, Leads, back_from, working_in, protection_in}
use Rattle.sdh_signal.proofs.Idle.{idle_walks_are_short}
use Rattle.sdh_signal.proofs.Passing.{idle-leaves}
use Rattle.sdh_signal.proofs.Views.{Idle}
use Rattle.sdh_pointer.specs.declared.reading.Reading.{Reading}
use Rattle.sdh_pointer.specs.declared.reading.Action.TheVariants as action
use Rattle.sdh_pointer.specs.Reading as interpreter
use Rattle.sdh_pointer.specs.Reading.{after_word, action_on}
use Rattle.sdh_pointer.specs.Sending.{word_sent, next_sending}
use Rattle.sdh_pointer.specs.Spreading.{IsSmall, IsValueOver, action_over, word_over, sending_over, reading_over}
use Rattle.sdh_pointer.proofs.Spreading.{values_spread, source_sends, action_start, sending_start, reading_start, reading_value}
use Rattle.sdh_pointer.proofs.Spreading.{sending_stays, reading_stays}
use Rattle.sdh_plant.specs.Fibres.{Fibres}
use Rattle.sdh_ringmap.specs.Fibres.{is_cut}
use Rattle.sdh_request.specs.declared.settings.Settings.{Settings}
use Rattle.sdh_terminal.specs.Passing.{Input}
use Rattle.sdh_node.specs.Node.{Node, receiving_on, sending_on, new_node}
use Rattle.sdh_node.specs.Rings.Rounds.{World}
use Rattle.sdh_node.specs.Rings.Runs.{run}
use Rattle.sdh_laws.specs.Hearing.Laws.{IsWhole, MayStart}
use Rattle.sdh_laws.proofs.hearing.Rounds.{reads}
use Rattle.sdh_laws.specs.Carrying.Windows.{layout_of, HasCircuits}
use Rattle.sdh_spans.specs.Spans.{word_behind}
use Rattle.sdh_laws.specs.Converging.Steady.{went, brought_to, brought_in_slot, HasStillPointers}
use Rattle.sdh_laws.proofs.converging.Spans.{sending_in, reading_in, word_in, Takes, generator_goes, interpreter_goes}
use Rattle.sdh_laws.proofs.converging.Ports.{IsSent, source_at, source_small, sources_send}
use Rattle.sdh_laws.proofs.converging.Spreading.{two_halves, working_goes, protection_goes, protection_comes, inside_of, beside}
use Rattle.sdh_laws.proofs.converging.Spreading.{generators_many, readings_many}
use Rattle.sdh_laws.proofs.converging.HealthySignals.{begin_whole, size, new_is, new_unslipped, clear_begin, healthy}
use Rattle.sdh_node.specs.Rings.Held.{node_at}
use Rattle.sdh_node.specs.Rings.Sides.{condition_to}
use Rattle.sdh_node.specs.Rings.Changes.{new_world}
use Rattle.sdh_rounds.specs.Runs as any_run

-- ---- what comes over h spans from a source

pub record IsFrom (f : ℕ → Input) (o : Option ℕ) (h : ℕ) : Type 0 where
  pub does : (t : ℕ) → (f t).action ≡ action_over o h t
  pub value : (t : ℕ) → IsValueOver o h t (f t).value

from_as : (f g : ℕ → Input) (o : Option ℕ) (h : ℕ) → ((t : ℕ) → g t ≡ f t) → IsFrom f o h → IsFrom g o h
from_as f g o h same from = record {
  does = λ t. ap (λ (i : Input). i.action) (same t) ∙ from.does t;
  value = λ t. subst (λ (i : Input). IsValueOver o h t i.value) (sym (same t)) (from.value t);
}

-- from a source itself
from_source : (f : ℕ → Input) (o : Option ℕ) → ((t : ℕ) → IsSent (f t) o) → IsFrom f o 0
from_source f None sent = record { does = λ t. (sent t).does; value = λ t. tt }
from_source f (Some v) sent = record { does = λ t. (sent t).does ∙ sym (source_sends v t); value = λ t late. (sent t).value }

pub same_all : {A : Type 0} (m i : ℕ) (a : A) → get_or (replicate m a) i a ≡ a
same_all m i a = elim (cases_lt i m) [
  | inl lt ↦ get_or-replicate m i a a lt
  | inr past ↦ get_or_past (replicate m a) i a (omega (arith, length-replicate m a))
]

module _ (s : Settings) (ids : List ℕ) (circuits : Provisioning) (f : Fibres) (may : MayStart s ids f) where
  abbrev w : World
  w = new_world s ids circuits f

  abbrev n : ℕ
  n = length ids

  abbrev cs : List Provisioned
  cs = circuits.circuits

  abbrev half : ℕ
  half = n_of s.rate / 2

  whole : IsWhole w
  whole = begin_whole s ids circuits f may

  inside : (p : ℕ) → p < n → p < length w.ring.nodes
  inside p h = inside_of w whole p h

  near : (p : ℕ) (d : Side) → neighbour n p d < n
  near p d = beside w whole p d

  idle_after : (k p : ℕ) → p < n → (node_at (run k w).ring.nodes p).state ≡ Idle
  idle_after k p h = (healthy s ids circuits f may k p h).state_idle

  -- ---- the new_world

  new_sending : (d : Side) (p i : ℕ) → get_or (sending_on d (new_node s ids cs (position_of p))).generators i None ≡ None
  unfolding new_node
  new_sending West p i = same_all (n_of s.rate) i None
  new_sending East p i = same_all (n_of s.rate) i None

  new_reading : (d : Side) (p i : ℕ) → get_or (receiving_on d (new_node s ids cs (position_of p))).readings i interpreter.start
      ≡ interpreter.start
  unfolding new_node
  new_reading West p i = same_all (n_of s.rate) i interpreter.start
  new_reading East p i = same_all (n_of s.rate) i interpreter.start

  sending_zero : (p : ℕ) (d : Side) (i : ℕ) → p < n → sending_in w p d i 0 ≡ None
  sending_zero p d i h = ap (λ (m : Node). get_or (sending_on d m).generators i None) (new_is s ids circuits f may p h) ∙ new_sending d p i

  reading_zero : (p : ℕ) (d : Side) (i : ℕ) → p < n → reading_in w p d i 0 ≡ interpreter.start
  reading_zero p d i h =
      ap (λ (m : Node). get_or (receiving_on d m).readings i interpreter.start) (new_is s ids circuits f may p h) ∙ new_reading d p i

  -- in round 0 no interpreter reads, and all comes as AIS
  reading_one : (p : ℕ) (d : Side) (i : ℕ) → p < n → reading_in w p d i 1 ≡ interpreter.start
  unfolding any_run.run
  reading_one p d i h = ap (λ l. get_or l i interpreter.start) ((reads w whole p d (inside p h)).idle refl) ∙ reading_zero p d i h

  came_zero : (p : ℕ) (d : Side) (i : ℕ) → p < n → (brought_to w p d (i + 1) 0).action ≡ action.Ais
  unfolding any_run.run
  came_zero p d i h =
      ap (λ l. get_or l (i + 1 - 1) action.Ais) ((reads w whole p d (inside p h)).none refl) ∙ same_all (n_of s.rate) (i + 1 - 1) action.Ais

  -- ---- one span

  module _ (q : ℕ) (e : Side) (i : ℕ) (o : Option ℕ) (h : ℕ) (small : IsSmall o) (there : q < n) (few : i < n_of s.rate)
      (from : IsFrom (went w q e (i + 1)) o h) where
    pub sending_so : (k : ℕ) → sending_in w q e i k ≡ sending_over o h k
    sending_so zero = sending_zero q e i there ∙ sym (sending_start o h 0 (omega arith))
    sending_so (suc k) =
        generator_goes w whole q e i k (inside q there) few
        ∙ ap₂ (λ x a. next_sending x a (went w q e (i + 1) k).value) (sending_so k) (from.does k)
        ∙ (values_spread o h k small).sending (went w q e (i + 1) k).value (from.value k)
        ∙ ap (sending_over o h) {x = k + 1} {y = suc k} (omega arith)

    pub word_so : (k : ℕ) → word_in w q e i k ≡ word_over o h k
    word_so k =
        ap₂ (λ x a. word_sent x a (went w q e (i + 1) k).value) (sending_so k) (from.does k)
        ∙ (values_spread o h k small).word (went w q e (i + 1) k).value (from.value k)

    pub sending_kept : (k : ℕ) → h < k → sending_in w q e i (suc k) ≡ sending_in w q e i k
    sending_kept k late =
        sending_so (suc k) ∙ ap (sending_over o h) {x = suc k} {y = k + 1} (omega arith) ∙ sending_stays o h k late ∙ sym (sending_so k)

  module _ (p : ℕ) (d : Side) (i : ℕ) (o : Option ℕ) (h : ℕ) (small : IsSmall o) (there : p < n) (few : i < n_of s.rate)
      (from : IsFrom (went w (neighbour n p d) (opposite d) (i + 1)) o h) where
    takes : (k : ℕ) → Takes w p d i (suc k) (word_over o h k)
    takes k =
        subst (λ c. Takes w p d i (suc k) (word_behind (is_cut c) (word_over o h k))) (clear_begin s ids circuits f may p d)
        (subst (λ u. Takes w p d i (suc k) (word_behind (is_cut (condition_to w p d)) u))
        (word_so (neighbour n p d) (opposite d) i o h small (near p d) few from k)
        (interpreter_goes w whole p d i k (inside p there) few))

    pub reading_so : (k : ℕ) → reading_in w p d i k ≡ reading_over o (h + 1) k
    reading_so zero = reading_zero p d i there ∙ sym (reading_start o (h + 1) 0 (omega arith))
    reading_so (suc zero) = reading_one p d i there ∙ sym (reading_start o (h + 1) 1 (omega arith))
    reading_so (suc (suc k)) =
        (takes k).reading ∙ ap (λ r. after_word r (word_over o h k))
        (reading_so (suc k) ∙ ap (reading_over o (h + 1)) {x = suc k} {y = k + 1} (omega arith))
        ∙ (values_spread o h k small).reading ∙ ap (reading_over o (h + 1)) {x = k + 2} {y = suc (suc k)} (omega arith)

    pub reading_kept : (k : ℕ) → h + 5 ≤ k → reading_in w p d i (suc k) ≡ reading_in w p d i k
    reading_kept k late =
        reading_so (suc k) ∙ ap (reading_over o (h + 1)) {x = suc k} {y = k + 1} (omega arith) ∙ reading_stays o (h + 1) k (omega arith)
        ∙ sym (reading_so k)

    came_does : (t : ℕ) → (brought_to w p d (i + 1) t).action ≡ action_over o (h + 1) t
    came_does zero = came_zero p d i there ∙ sym (action_start o (h + 1) 0 (omega arith))
    came_does (suc k) =
        (takes k).action ∙ ap (λ r. action_on r (word_over o h k))
        (reading_so (suc k) ∙ ap (reading_over o (h + 1)) {x = suc k} {y = k + 1} (omega arith))
        ∙ (values_spread o h k small).action ∙ ap (action_over o (h + 1)) {x = k + 1} {y = suc k} (omega arith)

    came_value : (v t : ℕ) → o ≡ Some v → h + 1 ≤ t → (brought_to w p d (i + 1) t).value ≡ v
    came_value v zero is late = absurd (omega arith)
    came_value v (suc k) is late =
        (takes k).value ∙ ap (λ (r : Reading). r.value) (reading_so (suc (suc k)))
        ∙ ap (λ o. (reading_over o (h + 1) (suc (suc k))).value) is ∙ reading_value v (h + 1) (suc (suc k)) (omega arith)

    value_by_source : (x : Option ℕ) (t : ℕ) → o ≡ x → IsValueOver x (h + 1) t (brought_to w p d (i + 1) t).value
    value_by_source None t is = tt
    value_by_source (Some v) t is = λ late. came_value v t is late

    pub comes_from : IsFrom (brought_to w p d (i + 1)) o (h + 1)
    comes_from = record { does = came_does; value = λ t. value_by_source o t refl }

  -- ---- a walk

  module _ (form : HasCircuits (layout_of w)) where
    abbrev source : Stand → Option ℕ
    source y = source_at w y.at y.origin

    small_at : (y : Stand) → y.at < n → IsSmall (source y)
    small_at y h = source_small w whole form.offsets y.at y.origin (inside y.at h)

    starts : (q m : ℕ) (o : Origin) → q < n → IsOver o → IsFrom (brought_in_slot w q m o) (source_at w q o) 0
    starts q m o h over =
        from_source (brought_in_slot w q m o) (source_at w q o) (λ t. sources_send w whole (new_unslipped s ids circuits f may) t q m o h over)

    module _ (m : ℕ) (low : 1 ≤ m) (high : m ≤ half) where
      went_working : (q j : ℕ) (e : Side) → q < n → went w q e m j ≡ brought_in_slot w q m (working_in n cs q Idle e m) j
      went_working q j e h = working_goes w whole q m j e Idle h high (idle_after (suc j) q h)

      went_protection : (q j : ℕ) (e : Side) → q < n → went w q e (half + m) j ≡ brought_in_slot w q m (protection_in n cs q Idle e m) j
      went_protection q j e h = protection_goes w whole q m j e Idle h low (idle_after (suc j) q h)

      over_span : (p : ℕ) (o : Origin) (src : Option ℕ) (h : ℕ) → IsSmall src → p < n → IsArrival o
          → (let b = back_from n all_idle cs m p o in IsFrom (brought_in_slot w b.at m b.origin) src h → IsFrom (brought_in_slot w p m o) src (h + 1))
      over_span p Ais src h small there arrives from = absurd arrives
      over_span p (Add id) src h small there arrives from = absurd arrives
      over_span p (Working d) src h small there arrives from =
          let q = neighbour n p d in
          let i = m - 1 in
          let back : i + 1 ≡ m = omega arith in
          let went_so : IsFrom (went w q (opposite d) m) src h =
          from_as _ (went w q (opposite d) m) src h (λ j. went_working q j (opposite d) (near p d)) from in
          subst (λ au. IsFrom (brought_to w p d au) src (h + 1)) back
          (comes_from p d i src h small there (omega (arith, two_halves s.rate))
          (subst (λ au. IsFrom (went w q (opposite d) au) src h) (sym back) went_so))
      over_span p (Protection d) src h small there arrives from =
          let q = neighbour n p d in
          let i = half + m - 1 in
          let back : i + 1 ≡ half + m = omega arith in
          let went_so : IsFrom (went w q (opposite d) (half + m)) src h =
          from_as _ (went w q (opposite d) (half + m)) src h (λ j. went_protection q j (opposite d) (near p d)) from in
          from_as (brought_to w p d (half + m)) (brought_in_slot w p m (Protection d)) src (h + 1) (λ j. protection_comes w whole p m j d there)
          (subst (λ au. IsFrom (brought_to w p d au) src (h + 1)) back
          (comes_from p d i src h small there (omega (arith, two_halves s.rate))
          (subst (λ au. IsFrom (went w q (opposite d) au) src h) (sym back) went_so)))

      back_inside : (p : ℕ) (o : Origin) → p < n → (back_from n all_idle cs m p o).at < n
      back_inside p Ais h = h
      back_inside p (Add id) h = h
      back_inside p (Working d) h = near p d
      back_inside p (Protection d) h = near p d

      leads_inside : (h : ℕ) (a y : Stand) → a.at < n → Leads n all_idle cs m h a y → y.at < n
      leads_inside zero a y there leads = subst (λ (z : Stand). z.at < n) leads there
      leads_inside (suc h) a y there leads =
          leads_inside h (back_from n all_idle cs m a.at a.origin) y (back_inside a.at a.origin there) leads.1

      along : (h : ℕ) (a y : Stand) → a.at < n → Leads n all_idle cs m h a y → IsOver y.origin
          → IsFrom (brought_in_slot w a.at m a.origin) (source y) h
      along zero a y there leads over =
          subst (λ (z : Stand). IsFrom (brought_in_slot w z.at m z.origin) (source y) 0) (sym leads)
          (starts y.at m y.origin (subst (λ (z : Stand). z.at < n) leads there) over)
      along (suc h) a y there leads over =
          let b = back_from n all_idle cs m a.at a.origin in
          subst (IsFrom (brought_in_slot w a.at m a.origin) (source y)) (let e : h + 1 ≡ suc h = omega arith in e)
          (over_span a.at a.origin (source y) h (small_at y (leads_inside (suc h) a y there leads)) there leads.0
          (along h b y (back_inside a.at a.origin there) leads.1 over))

    -- ---- each AU-4

    -- what goes into it comes from a source, over fewer spans than the ring has
    record Traced (q : ℕ) (e : Side) (i : ℕ) : Type 0 where
      pub source : Option ℕ
      pub spans : ℕ
      pub near : spans + 1 ≤ n
      pub small : IsSmall source
      pub from : IsFrom (went w q e (i + 1)) source spans

    traced_working : (q : ℕ) (e : Side) (i : ℕ) → q < n → i + 1 ≤ half → Traced q e i
    traced_working q e i there high =
        let m = i + 1 in
        let o = working_in n cs q Idle e m in
        let t : Ends n all_idle cs m (n - 1) (stand q o) = idle_walks_are_short n half cs form e q m there in
        record {
          source = source t.last;
          spans = t.spans;
          near = let z = t.within in omega arith;
          small = small_at t.last (leads_inside m (omega arith) high t.spans (stand q o) t.last there t.leads);
          from =
              from_as (brought_in_slot w q m o) (went w q e m) (source t.last) t.spans (λ j. went_working m (omega arith) high q j e there)
              (along m (omega arith) high t.spans (stand q o) t.last there t.leads t.over);
        }

    traced_protection : (q : ℕ) (e : Side) (i : ℕ) → q < n → half < i + 1 → i < n_of s.rate → Traced q e i
    traced_protection q e i there high few =
        let m = i + 1 - half in
        let at : half + m ≡ i + 1 = omega arith in
        record {
          source = None;
          spans = 0;
          near = omega arith;
          small = tt;
          from = subst (λ au. IsFrom (went w q e au) None 0) at
              (from_as (brought_in_slot w q m Ais) (went w q e (half + m)) None 0
              (λ j. went_protection m (omega arith) (omega (arith, two_halves s.rate)) q j e there
              ∙ ap (λ o. brought_in_slot w q m o j) (idle-leaves n cs q e m)) (starts q m Ais there tt));
        }

    traced : (q : ℕ) (e : Side) (i : ℕ) → q < n → i < n_of s.rate → Traced q e i
    traced q e i there few = elim
        (cases_lt half (i + 1)) [ inr low ↦ traced_working q e i there low | inl high ↦ traced_protection q e i there high few ]

    -- no pointer moves from round number n + 4 on
    pub still_pointers : (j : ℕ) → n + 4 ≤ j → HasStillPointers w j
    still_pointers j late = record {
      generators = λ p d h. ext_get_or None _ _ (generators_many w whole (suc j) p d h ∙ sym (generators_many w whole j p d h)) (λ i small.
          (let there : p < n = omega (arith, size s ids circuits f may) in
          let few : i < n_of s.rate = omega (arith, generators_many w whole (suc j) p d h) in
          let t = traced p d i there few in
          sending_kept p d i t.source t.spans t.small there few t.from j (let z = t.near in omega arith)));
      readings =
          λ p d h. ext_get_or interpreter.start _ _ (readings_many w whole (suc j) p d h ∙ sym (readings_many w whole j p d h)) (λ i small.
          (let there : p < n = omega (arith, size s ids circuits f may) in
          let few : i < n_of s.rate = omega (arith, readings_many w whole (suc j) p d h) in
          let t = traced (neighbour n p d) (opposite d) i (near p d) few in
          reading_kept p d i t.source t.spans t.small there few t.from j (let z = t.near in omega arith)));
    }
