-- A ring in settled states, in which no slip waits and no controller misses a turn: what its ports deliver, and from
-- which round on.
use Rattle.std.proofs.Common.{◌≡◌, ℕ, suc, ◌+◌, ◌-◌, ◌*◌, ◌<◌, ◌≤◌, Bool, true, false, Some, List, length, refl, ap, sym, ◌∙◌, subst, arith}
use Rattle.std.proofs.Common.{inl, inr}
use Rattle.std.specs.Prelude.{slice_get, if◌then◌else◌}
use Rattle.std.proofs.lemmas.Bool.{cases_Bool}
use Rattle.sdh_ringmap.specs.Rates.{n_of}
use Rattle.sdh_ringmap.specs.Arcs.{is_joined, is_clear}
use Rattle.sdh_ringmap.specs.Places.{neighbour, opposite, span_at}
use Rattle.sdh_ringmap.specs.declared.Side.{Side}
use Rattle.sdh_circuits.specs.Provisioned.{Provisioned, arc_of, customer_at}
use Rattle.sdh_circuits.specs.Provisioning.{AreCircuits, IsInSlots}
use Rattle.sdh_circuits.specs.declared.End.{End}
use Rattle.sdh_circuits.specs.declared.PortId.{PortId}
use Rattle.sdh_payload.specs.Clock.{Clock, waiting}
use Rattle.sdh_payload.specs.Stream.{stream_from}
use Rattle.sdh_payload.specs.Outlet.{Outlet, silent, delivering}
use Rattle.sdh_payload.proofs.Clocking.{goes_on}
use Rattle.sdh_pointer.specs.Laws.{is_ais_action}
use Rattle.sdh_bridge.specs.declared.Origin.{Origin}
use Rattle.sdh_bridge.specs.declared.Origin.TheVariants.{Add, Working, Protection, Ais}
use Rattle.sdh_restoration.specs.Applied.{is_applied}
use Rattle.sdh_signal.specs.Settled.{settled}
use Rattle.sdh_restoration.specs.Routes.{hops}
use Rattle.sdh_restoration.specs.Due.{due}
use Rattle.sdh_circuits.specs.Ends.{other_end, port_id}
use Rattle.sdh_laws.specs.Carrying.Laws.{due_by_clocks}
use Rattle.sdh_signal.specs.Walks.{IsArrival, back_from, working_in, protection_in, port, port_at, delivery}
use Rattle.sdh_signal.specs.Law as routes
use Rattle.sdh_signal.proofs.Ways.{IsKeptOver, end_inside, short}
use Rattle.sdh_ringmap.specs.Fibres.{is_cut}
use Rattle.sdh_terminal.specs.Passing.{Input}
use Rattle.sdh_node.specs.Rings.Held.{outlet_at}
use Rattle.sdh_node.specs.Rings.Clocks.{clock_at}
use Rattle.sdh_node.specs.Rings.Rounds.{World}
use Rattle.sdh_node.specs.Rings.Runs.{run}
use Rattle.sdh_node.specs.Rings.Sides.{condition_to}
use Rattle.sdh_node.proofs.RingLaws.Clocks.{goes_run}
use Rattle.sdh_laws.specs.Hearing.Laws.{IsWhole}
use Rattle.sdh_laws.proofs.hearing.Changes.{whole_run}
use Rattle.sdh_laws.proofs.hearing.Nodes.{count}
use Rattle.sdh_laws.proofs.hearing.Steady.{none_waits_later}
use Rattle.sdh_spans.specs.Brought.{BringsDelivery, HasValue}
use Rattle.sdh_laws.specs.Carrying.Windows.{Layout, layout_of, positions_of, slots_of, HasCircuits, value_at}
use Rattle.sdh_spans.specs.Brought.{plainly}
use Rattle.sdh_laws.proofs.carrying.Owed.{Arrives, port_sends, port_small, port_is_there, none_here, plain_here, arrives, offset_small}
use Rattle.sdh_laws.proofs.carrying.Owed.{slot_inside}
use Rattle.sdh_laws.proofs.carrying.Ways.{layout_run}
use Rattle.sdh_laws.specs.Converging.Steady.{went, brought_to, brought_in_slot}
use Rattle.sdh_laws.specs.Converging.Steady.{StaysSettled}
use Rattle.sdh_laws.proofs.converging.Runs.{length_run}
use Rattle.sdh_laws.proofs.converging.Spreading.{two_halves, working_goes, protection_goes, protection_comes, inside_of, beside}
use Rattle.sdh_laws.specs.Restoring.Flowing.{FlowsBehind, IsAisFrom}
use Rattle.sdh_laws.proofs.restoring.Flowing.{flows_behind, silent_on}
use Rattle.sdh_laws.proofs.restoring.Walking.{joined_walk, parted_walk}
use Rattle.sdh_rounds.specs.Runs as any_run
use Rattle.sdh_rounds.proofs.Terms.{terms}

-- ---- what flows, for equal inputs and equal bytes

flows_as : (f g : ℕ → Input) (spans v : ℕ) (x y : ℕ → List ℕ) → ((j : ℕ) → g j ≡ f j) → ((j : ℕ) → x j ≡ y j) → FlowsBehind f spans v x
    → FlowsBehind g spans v y
flows_as f g spans v x y same also is = record {
  first = is.first;
  flows = record {
    taken = λ j h. ap (λ (i : Input). is_ais_action i.action) (same j) ∙ is.flows.taken j h;
    value = λ j h. ap (λ (i : Input). i.value) (same j) ∙ is.flows.value j h;
    plain = λ j h. ap (λ (i : Input). i.action) (same j) ∙ is.flows.plain j h;
    payload = λ j h. ap (λ (i : Input). i.au.payload) (same j) ∙ is.flows.payload j h ∙ also j;
  };
  soon = elim is.soon [ inl early ↦ inl early | inr late ↦ inr (late.0, ap (λ (i : Input). i.action) (same is.first) ∙ late.1) ];
}

silent_as : (f g : ℕ → Input) (t : ℕ) → ((j : ℕ) → g j ≡ f j) → IsAisFrom f t → IsAisFrom g t
silent_as f g t same is j h = ap (λ (i : Input). i.action) (same j) ∙ is j h

-- no fibre is cut on a span that isn't applied
abbrev pub AreUncut : World → List ℕ → Type 0
AreUncut w rs =
    (p : ℕ) (d : Side) → p < length w.ring.ids → is_applied rs (span_at (length w.ring.ids) p d) ≡ false
    → is_cut (condition_to w p d) ≡ false

module _ (w : World) (whole : IsWhole w) (form : HasCircuits (layout_of w)) (rs : List ℕ) (rest : StaysSettled w rs)
    (uncut : AreUncut w rs) where
  open terms w use {n, cs}

  abbrev half : ℕ
  half = slots_of (layout_of w)

  abbrev applied : ℕ → Bool
  applied = is_applied rs

  -- ---- one span

  span_flows : (p : ℕ) (d : Side) (au s v : ℕ) (bytes : ℕ → List ℕ) → p < n → 1 ≤ au → au ≤ n_of w.ring.settings.rate → v ≤ 782
      → applied (span_at n p d) ≡ false
      → FlowsBehind (went w (neighbour n p d) (opposite d) au) s v bytes → FlowsBehind (brought_to w p d au) (s + 1) v (λ j. bytes (j - 1))
  span_flows p d au s v bytes h low high small free f =
      let i = au - 1 in
      let back : i + 1 ≡ au = omega arith in
      subst (λ a. FlowsBehind (brought_to w p d a) (s + 1) v (λ j. bytes (j - 1))) back
      (flows_behind w whole p d i (inside_of w whole p h) (omega arith) s v bytes small (uncut p d h free)
      (subst (λ a. FlowsBehind (went w (neighbour n p d) (opposite d) a) s v bytes) (sym back) f))

  span_silent : (p : ℕ) (d : Side) (au t : ℕ) → p < n → 1 ≤ au → au ≤ n_of w.ring.settings.rate
      → IsAisFrom (went w (neighbour n p d) (opposite d) au) t → IsAisFrom (brought_to w p d au) (t + 3)
  span_silent p d au t h low high s =
      let i = au - 1 in
      let back : i + 1 ≡ au = omega arith in
      subst (λ a. IsAisFrom (brought_to w p d a) (t + 3)) back
      (silent_on w whole p d i (inside_of w whole p h) (omega arith) t
      (subst (λ a. IsAisFrom (went w (neighbour n p d) (opposite d) a) t) (sym back) s))

  module _ (m : ℕ) (low : 1 ≤ m) (high : m ≤ half) where
    pub went_working : (q j : ℕ) (e : Side) → q < n → went w q e m j ≡ brought_in_slot w q m (working_in n cs q (settled rs q) e m) j
    went_working q j e h = working_goes w whole q m j e (settled rs q) h high (rest.settled_are (suc j) (omega arith) q h)

    pub went_protection : (q j : ℕ) (e : Side) → q < n → went w q e (half + m) j ≡ brought_in_slot w q m (protection_in n cs q (settled rs q) e m) j
    went_protection q j e h = protection_goes w whole q m j e (settled rs q) h low (rest.settled_are (suc j) (omega arith) q h)

    over_free : (s v : ℕ) (bytes : ℕ → List ℕ) → v ≤ 782 → (p : ℕ) (o : Origin) → p < n → IsArrival o → routes.IsFree n applied p o
        → (let b = back_from n (settled rs) cs m p o in FlowsBehind (brought_in_slot w b.at m b.origin) s v bytes
        → FlowsBehind (brought_in_slot w p m o) (s + 1) v (λ j. bytes (j - 1)))
    over_free s v bytes small p Ais h arrives f c = absurd arrives
    over_free s v bytes small p (Add id) h arrives f c = absurd arrives
    over_free s v bytes small p (Working d) h arrives f c =
        let q = neighbour n p d in
        span_flows p d m s v bytes h low (omega (arith, two_halves w.ring.settings.rate)) small f
        (flows_as _ (went w q (opposite d) m) s v bytes bytes (λ j. went_working q j (opposite d) (beside w whole p d)) (λ j. refl) c)
    over_free s v bytes small p (Protection d) h arrives f c =
        let q = neighbour n p d in
        flows_as (brought_to w p d (half + m)) (brought_in_slot w p m (Protection d)) (s + 1) v (λ j. bytes (j - 1)) (λ j. bytes (j - 1))
        (λ j. protection_comes w whole p m j d h) (λ j. refl)
        (span_flows p d (half + m) s v bytes h (omega arith) (omega (arith, two_halves w.ring.settings.rate)) small f
        (flows_as _ (went w q (opposite d) (half + m)) s v bytes bytes (λ j. went_protection q j (opposite d) (beside w whole p d)) (λ j. refl) c))

    over_silent : (t p : ℕ) (o : Origin) → p < n → IsArrival o
        → (let b = back_from n (settled rs) cs m p o in IsAisFrom (brought_in_slot w b.at m b.origin) t → IsAisFrom (brought_in_slot w p m o) (t + 3))
    over_silent t p Ais h arrives c = absurd arrives
    over_silent t p (Add id) h arrives c = absurd arrives
    over_silent t p (Working d) h arrives c =
        let q = neighbour n p d in
        span_silent p d m t h low (omega (arith, two_halves w.ring.settings.rate))
        (silent_as _ (went w q (opposite d) m) t (λ j. went_working q j (opposite d) (beside w whole p d)) c)
    over_silent t p (Protection d) h arrives c =
        let q = neighbour n p d in
        silent_as (brought_to w p d (half + m)) (brought_in_slot w p m (Protection d)) (t + 3) (λ j. protection_comes w whole p m j d h)
        (span_silent p d (half + m) t h (omega arith) (omega (arith, two_halves w.ring.settings.rate))
        (silent_as _ (went w q (opposite d) (half + m)) t (λ j. went_protection q j (opposite d) (beside w whole p d)) c))

    -- ---- walks, counted by spans

    abbrev Bytes : (ℕ → List ℕ) → ℕ → ℕ → ℕ → Origin → Type 0
    Bytes b v s p o = FlowsBehind (brought_in_slot w p m o) s v (λ j. b (j - s))

    abbrev Silence : ℕ → ℕ → Origin → Type 0
    Silence s p o = IsAisFrom (brought_in_slot w p m o) (3 * s)

    bytes_kept : (b : ℕ → List ℕ) (v last : ℕ) → v ≤ 782 → IsKeptOver n applied (settled rs) cs m (Bytes b v) 0 last
    bytes_kept b v last small t p o lt a f early late is =
        flows_as (brought_in_slot w p m o) (brought_in_slot w p m o) (t + 1) v (λ j. b (j - 1 - t)) (λ j. b (j - (t + 1))) (λ j. refl)
        (λ j. let same : j - 1 - t ≡ j - (t + 1) = omega arith in ap b same)
        (over_free t v (λ j. b (j - t)) small p o lt a f is)

    silence_kept : (last : ℕ) → IsKeptOver n applied (settled rs) cs m Silence 0 last
    silence_kept last t p o lt a f early late is =
        let now : 3 * t + 3 ≡ 3 * (t + 1) = omega arith in
        subst (IsAisFrom (brought_in_slot w p m o)) now (over_silent (3 * t) p o lt a is)

  -- ---- a port

  module _ (index : ℕ) (c : Provisioned) (get : slice_get cs index ≡ Some c) (e : End) where
    abbrev pub far : End
    far = other_end e

    abbrev pub id : PortId
    id = port_id index far

    abbrev pub h : ℕ
    h = hops n applied (arc_of n c)

    pub inside : (e : End) → port_at c e < n
    inside e = end_inside n half cs form index c get e

    pub slot_is : IsInSlots half c
    slot_is = slot_inside half cs form.in_slots index c get

    pub form_rs : AreCircuits (length rs) half cs
    form_rs = subst (λ k. AreCircuits k half cs) (sym rest.spans) form

    -- the clock of the port at the other end, in round i
    abbrev pub clock : ℕ → Clock
    clock i = clock_at (run i w).ring id

    abbrev pub v : ℕ
    v = (clock 0).value

    abbrev pub bytes : ℕ → List ℕ
    bytes i = stream_from (customer_at c far) (clock i).sent 2349

    unslipped : (i : ℕ) → waiting (clock i) ≡ 0
    unslipped i =
        none_here (run i w) (whole_run w i whole) index c far (there i) (here i)
        (none_waits_later w whole rest.unslipped i (port_at c far) (omega (arith, inside far, count w whole.placed, length_run w i)))
      where
        there : (i : ℕ) → slice_get (run i w).ring.circuits.circuits index ≡ Some c
        there i = ap (λ (l : Layout). slice_get l.circuits index) (layout_run w i) ∙ get

        here : (i : ℕ) → port_at c far < length (run i w).ring.ids
        here i = let same : length (run i w).ring.ids ≡ n = ap positions_of (layout_run w i) in omega (arith, inside far)

    pub plain : (i : ℕ) → BringsDelivery (value_at (run i w) (port_at c far) c.slot.0 (port index far)) (plainly (customer_at c far) (clock i))
    plain i =
        let there : slice_get (run i w).ring.circuits.circuits index ≡ Some c =
        ap (λ (l : Layout). slice_get l.circuits index) (layout_run w i) ∙ get in
        let same : length (run i w).ring.ids ≡ n = ap positions_of (layout_run w i) in
        let here : port_at c far < length (run i w).ring.ids = omega (arith, inside far) in
        port_sends (run i w) (whole_run w i whole) c.slot.0 index c far there here
        (plain_here (run i w) (whole_run w i whole) index c far there here
        (none_waits_later w whole rest.unslipped i (port_at c far) (omega (arith, inside far, count w whole.placed, length_run w i))))

    pub keeps_value : (i : ℕ) → (clock i).value ≡ v
    unfolding any_run.run
    keeps_value i =
        ap (λ (k : Clock). k.value) (goes_run id i w (port_is_there w whole index c far get (inside far))).1
        ∙ (goes_on (clock 0) i (unslipped 0)).value

    pub small : v ≤ 782
    unfolding any_run.run
    small = port_small w whole index c far get (inside far) (offset_small cs form.offsets index c get far)

    sends : Bytes c.slot.0 slot_is.from_1 slot_is.small bytes v 0 (port_at c far) (port index far)
    sends = record {
      first = 0;
      flows = record {
        taken = λ j l. ap is_ais_action (plain j).0;
        value = λ j l. (plain j).1 ∙ keeps_value j;
        plain = λ j l. (plain j).0;
        payload = λ j l. (plain j).2 ∙ (let same : j ≡ j - 0 = omega arith in ap bytes same);
      };
      soon = inl (omega arith);
    }

    -- what the port delivers in round j
    pub delivered_so : (j : ℕ) (b : Outlet) → HasValue b → (let x = delivery n (settled rs) cs c e in BringsDelivery
        (value_at (run j w) x.at c.slot.0 x.origin) b) → outlet_at (run (suc j) w).ring (port_id index e) ≡ b
    unfolding any_run.run
    delivered_so j b has is =
        subst (λ l. Arrives l (run j w) rs b) (layout_run w j) (arrives (run j w) (whole_run w j whole) rs b) index c e get (inside e)
        (rest.settled_are (suc j) (omega arith)) has is

    abbrev Joined : ℕ → Type 0
    Joined k = is_joined k applied (arc_of k c) ≡ true
        → (let x = delivery k (settled rs) cs c e in Bytes c.slot.0 slot_is.from_1 slot_is.small bytes v
        (hops k applied (arc_of k c)) x.at x.origin)

    abbrev Parted : ℕ → Type 0
    Parted k = is_joined k applied (arc_of k c) ≡ false
        → (let x = delivery k (settled rs) cs c e in (i : ℕ) × (i < k) × Silence c.slot.0 slot_is.from_1 slot_is.small i x.at x.origin)

    joined_so : Joined n
    joined_so = subst Joined rest.spans (λ j.
        joined_walk rs half cs form_rs index c get e (Bytes c.slot.0 slot_is.from_1 slot_is.small bytes v)
        (hops (length rs) applied (arc_of (length rs) c))
        (subst (λ k. IsKeptOver k applied (settled rs) cs c.slot.0 (Bytes c.slot.0 slot_is.from_1 slot_is.small bytes v) 0
        (hops (length rs) applied (arc_of (length rs) c))) (sym rest.spans)
        (bytes_kept c.slot.0 slot_is.from_1 slot_is.small bytes v (hops (length rs) applied (arc_of (length rs) c)) small))
        j (omega arith) sends)

    parted_so : Parted n
    parted_so = subst Parted rest.spans (λ j.
        parted_walk rs half cs form_rs index c get e (Silence c.slot.0 slot_is.from_1 slot_is.small) (length rs)
        (subst (λ k. IsKeptOver k applied (settled rs) cs c.slot.0 (Silence c.slot.0 slot_is.from_1 slot_is.small) 0 (length rs))
        (sym rest.spans) (silence_kept c.slot.0 slot_is.from_1 slot_is.small (length rs)))
        j (omega arith) (λ q i l. refl))

    -- the same, where `clocks` gives the clock at the other end by the ring's round numbers
    module _ (clocks : ℕ → Clock) (tells : (i : ℕ) → clock i ≡ clocks (w.ring.rounds + i)) where
      pub joined_delivers : (j : ℕ) → 4 * h + 4 ≤ j → is_joined n applied (arc_of n c) ≡ true
          → outlet_at (run (suc j) w).ring (port_id index e) ≡ due_by_clocks n applied c e clocks (w.ring.rounds + j)
      unfolding due
      joined_delivers j late joined =
          let behind = joined_so joined in
          let f = behind.flows in
          let begun : behind.first + 1 ≤ j = elim behind.soon [
            | inl early ↦ omega arith
            | inr by_new ↦
                (let few = by_new.0 in omega arith)
          ] in
          let number : w.ring.rounds + (j - h) ≡ w.ring.rounds + j - h = omega arith in
          delivered_so j (delivering v (bytes (j - h))) small (f.plain j begun, f.value j (omega arith), f.payload j begun)
          ∙ ap (λ x. delivering x (bytes (j - h))) (sym (keeps_value (j - h)))
          ∙ ap (plainly (customer_at c far)) (tells (j - h) ∙ ap clocks number)
          ∙ ap (λ t. if t then plainly (customer_at c far) (clocks (w.ring.rounds + j - h)) else silent) (sym joined)

      pub parted_delivers : (j : ℕ) → 3 * n ≤ j + 3 → is_joined n applied (arc_of n c) ≡ false
          → outlet_at (run (suc j) w).ring (port_id index e) ≡ due_by_clocks n applied c e clocks (w.ring.rounds + j)
      unfolding due
      parted_delivers j late parted =
          let s = parted_so parted in
          let less : s.0 < n = s.1 in
          delivered_so j silent refl (s.2 j (omega arith))
          ∙ ap (λ t. if t then plainly (customer_at c far) (clocks (w.ring.rounds + j - h)) else silent) (sym parted)

      -- no route has more than 2n - 3 spans
      pub few_hops : h + 3 ≤ 2 * n
      few_hops =
          let s = short n applied half cs form index c get in
          let two = whole.placed.ids.enough in
          elim (cases_Bool (is_clear n applied (arc_of n c))) [
            | inl t ↦ (let a = s.straight t in omega arith)
            | inr t ↦ (let a = s.around t in omega arith)
          ]

      pub port_delivers : (j : ℕ) → 8 * n ≤ j + 8 → outlet_at (run (suc j) w).ring (port_id index e)
          ≡ due_by_clocks n applied c e clocks (w.ring.rounds + j)
      port_delivers j late =
          let few = few_hops in
          let two = whole.placed.ids.enough in
          elim (cases_Bool (is_joined n applied (arc_of n c))) [
            | inl t ↦ joined_delivers j (omega arith) t
            | inr t ↦ parted_delivers j (omega arith) t
          ]
