-- A ring in settled states whose interpreters follow: bytes go over one span a round.
use Rattle.std.proofs.Common.{◌≡◌, ℕ, suc, ◌+◌, ◌-◌, ◌<◌, ◌≤◌, Bool, true, false, Some, List, length, refl, ap, sym, ◌∙◌}
use Rattle.std.proofs.Common.{subst, arith}
use Rattle.std.specs.Prelude.{slice_get, if◌then◌else◌}
use Rattle.sdh_ringmap.specs.Rates.{n_of}
use Rattle.sdh_ringmap.specs.Arcs.{is_joined}
use Rattle.sdh_ringmap.specs.Fibres.{is_cut}
use Rattle.sdh_ringmap.specs.Places.{neighbour, opposite, span_at}
use Rattle.sdh_ringmap.specs.declared.Side.{Side}
use Rattle.sdh_circuits.specs.Provisioned.{Provisioned, arc_of, customer_at}
use Rattle.sdh_circuits.specs.declared.End.{End}
use Rattle.sdh_circuits.specs.Ends.{other_end, port_id}
use Rattle.sdh_payload.specs.Clock.{Clock}
use Rattle.sdh_payload.specs.Stream.{stream_from}
use Rattle.sdh_payload.specs.Outlet.{silent, delivering}
use Rattle.sdh_pointer.specs.declared.reading.Reading.{Reading}
use Rattle.sdh_pointer.specs.Laws.{is_ais_action}
use Rattle.sdh_pointer.proofs.Sent.{next_by_action}
use Rattle.sdh_bridge.specs.declared.Origin.{Origin}
use Rattle.sdh_bridge.specs.declared.Origin.TheVariants.{Add, Working, Protection, Ais}
use Rattle.sdh_restoration.specs.Applied.{is_applied}
use Rattle.sdh_restoration.specs.Due.{due}
use Rattle.sdh_restoration.specs.Routes.{hops}
use Rattle.sdh_signal.specs.Law as routes
use Rattle.sdh_signal.specs.Settled.{settled}
use Rattle.sdh_signal.specs.Walks.{IsArrival, back_from, port, port_at, delivery}
use Rattle.sdh_signal.proofs.Ways.{IsKeptOver}
use Rattle.sdh_terminal.specs.Passing.{Input}
use Rattle.sdh_spans.specs.Brought.{plainly}
use Rattle.sdh_spans.specs.Spans.{word_behind}
use Rattle.sdh_node.specs.Rings.Held.{outlet_at}
use Rattle.sdh_node.specs.Rings.Rounds.{World}
use Rattle.sdh_node.specs.Rings.Runs.{run}
use Rattle.sdh_node.specs.Rings.Sides.{condition_to}
use Rattle.sdh_laws.specs.Hearing.Laws.{IsWhole}
use Rattle.sdh_laws.proofs.hearing.Rounds.{neighbour_inside}
use Rattle.sdh_laws.specs.Carrying.Windows.{layout_of, slots_of, HasCircuits}
use Rattle.sdh_laws.specs.Carrying.Laws.{due_by_clocks}
use Rattle.sdh_laws.specs.Converging.Steady.{went, brought_to, brought_in_slot, StaysSettled}
use Rattle.sdh_laws.proofs.converging.Spans.{sending_in, reading_in, word_in, Takes, generator_goes}
use Rattle.sdh_laws.proofs.converging.Runs.{length_run, rate_run, condition_run}
use Rattle.sdh_laws.proofs.converging.Spreading.{two_halves, protection_comes, inside_of, beside}
use Rattle.sdh_laws.proofs.hearing.Staying.{left_run}
use Rattle.sdh_laws.proofs.hearing.Changes.{whole_run}
use Rattle.sdh_laws.specs.Restoring.Followed.{Follows, pointer_word_on}
use Rattle.sdh_laws.specs.Restoring.Flowing.{Flows}
use Rattle.sdh_laws.proofs.restoring.Flowing.{from_round, taking, state_of}
use Rattle.sdh_laws.proofs.restoring.Followed.{IsFollowing, AreNear, word_sent_on}
use Rattle.sdh_laws.proofs.restoring.Following.{Near, taken_at_once}
use Rattle.sdh_laws.proofs.restoring.Resting.{AreUncut, went_working, went_protection, delivered_so, keeps_value, small, plain}
use Rattle.sdh_laws.proofs.restoring.Resting.{clock, form_rs, slot_is}
use Rattle.sdh_laws.proofs.restoring.Walking.{joined_walk}
use Rattle.sdh_rounds.specs.Runs as any_run
use Rattle.sdh_rounds.proofs.Terms.{terms}

-- in each round interpreters follow, and are at the value of a normal word that comes, where their fibres aren't cut
pub record FollowAtOnce (w : World) : Type 0 where
  pub follow : (k : ℕ) → IsFollowing (run k w)
  pub near : (k : ℕ) → AreNear 3 (run k w)

-- ---- one span

module _ (w : World) (whole : IsWhole w) (is : FollowAtOnce w) (p : ℕ) (d : Side) (i : ℕ) (inside : p < length w.ring.nodes)
    (few : i < n_of w.ring.settings.rate) (kept : is_cut (condition_to w p d) ≡ false) where
  abbrev q : ℕ
  q = neighbour (length w.ring.ids) p d

  abbrev e : Side
  e = opposite d

  -- the word that comes in round j + 1 is the one that was sent in round j
  word_sent_in : (j : ℕ) → pointer_word_on (run (suc j) w) q e (i + 1) ≡ word_in w q e i j
  unfolding any_run.run
  word_sent_in j =
      word_sent_on (run j w) (whole_run w j whole) q e i (let h = neighbour_inside w whole p d in omega (arith, length_run w j))
      (omega (arith, rate_run w j))

  clear_in : (k : ℕ) → is_cut (condition_to (run k w) p d) ≡ false
  clear_in k = ap is_cut (condition_run w k p d) ∙ kept

  abbrev Followed : ℕ → ℕ → ℕ → Type 0
  Followed size k word = Follows (reading_in w p d i k) (sending_in w (neighbour size p d) e i k) word

  abbrev IsNear : ℕ → ℕ → ℕ → Type 0
  IsNear size k word = Near 3 (reading_in w p d i k) (sending_in w (neighbour size p d) e i k) word

  same_ids : (k : ℕ) → length (run k w).ring.ids ≡ length w.ring.ids
  same_ids k = ap length (left_run k w).ids

  follows_at : (j : ℕ) → Followed (length w.ring.ids) (suc j) (word_in w q e i j)
  follows_at j =
      subst (Followed (length w.ring.ids) (suc j)) (word_sent_in j)
      (subst (λ size. Followed size (suc j) (pointer_word_on (run (suc j) w) (neighbour size p d) e (i + 1))) (same_ids (suc j))
      ((is.follow (suc j) p d i (omega (arith, length_run w (suc j))) (omega (arith, rate_run w (suc j)))).follows (clear_in (suc j))))

  near_at : (j : ℕ) → IsNear (length w.ring.ids) (suc j) (word_in w q e i j)
  near_at j =
      subst (IsNear (length w.ring.ids) (suc j)) (word_sent_in j)
      (subst (λ size. IsNear size (suc j) (pointer_word_on (run (suc j) w) (neighbour size p d) e (i + 1))) (same_ids (suc j))
      (is.near (suc j) p d i (omega (arith, length_run w (suc j))) (omega (arith, rate_run w (suc j))) (clear_in (suc j))))

  module _ (t v : ℕ) (bytes : ℕ → List ℕ) (fits : v ≤ 782) (f : Flows (went w q e (i + 1)) t v bytes) where
    state_is : sending_in w q e i (suc t) ≡ Some v
    state_is =
        generator_goes w whole q e i t (neighbour_inside w whole p d) few
        ∙ next_by_action (sending_in w q e i t) (went w q e (i + 1) t).action (went w q e (i + 1) t).value
        ∙ state_of (went w q e (i + 1) t).action (went w q e (i + 1) t).value (f.taken t (omega arith))
        ∙ ap Some (f.value t (omega arith))

    abbrev word : ℕ
    word = word_in w q e i t

    takes : Takes w p d i (suc t) word
    takes =
        let before : suc t - 1 ≡ t = omega arith in
        subst (Takes w p d i (suc t)) (ap (λ b. word_behind b (word_in w q e i (suc t - 1))) kept ∙ ap (word_in w q e i) before)
        (taking w whole p d i inside few (suc t) (omega arith))

    -- bytes that flow into a span from round t on flow out of it from round t + 1 on
    pub flows_at_once : Flows (brought_to w p d (i + 1)) (t + 1) v (λ j. bytes (j - 1))
    flows_at_once =
        let taken = taken_at_once (reading_in w p d i (suc t)) (sending_in w q e i (suc t)) word v (follows_at t) (near_at t) state_is fits in
        let now : suc t ≡ t + 1 = omega arith in
        subst (λ u. Flows (brought_to w p d (i + 1)) u v (λ j. bytes (j - 1))) now
        (from_round w whole p d i inside few t v bytes fits kept f (suc t) (omega arith)
        (ap is_ais_action takes.action ∙ taken.1)
        (takes.value ∙ ap (λ (r : Reading). r.value) takes.reading ∙ taken.0.1)
        (ap (λ (r : Reading). r.mode) takes.reading ∙ taken.0.0, ap (λ (r : Reading). r.value) takes.reading ∙ taken.0.1))

-- ---- what flows, for equal inputs and equal bytes

flows_as : (f g : ℕ → Input) (t v : ℕ) (x y : ℕ → List ℕ) → ((j : ℕ) → g j ≡ f j) → ((j : ℕ) → x j ≡ y j) → Flows f t v x → Flows g t v y
flows_as f g t v x y same also is = record {
  taken = λ j h. ap (λ (i : Input). is_ais_action i.action) (same j) ∙ is.taken j h;
  value = λ j h. ap (λ (i : Input). i.value) (same j) ∙ is.value j h;
  plain = λ j h. ap (λ (i : Input). i.action) (same j) ∙ is.plain j h;
  payload = λ j h. ap (λ (i : Input). i.au.payload) (same j) ∙ is.payload j h ∙ also j;
}

module _ (w : World) (whole : IsWhole w) (form : HasCircuits (layout_of w)) (rs : List ℕ) (rest : StaysSettled w rs)
    (uncut : AreUncut w rs) (is : FollowAtOnce w) where
  open terms w use {n, cs}

  abbrev half : ℕ
  half = slots_of (layout_of w)

  abbrev applied : ℕ → Bool
  applied = is_applied rs

  span_flows : (p : ℕ) (d : Side) (au t v : ℕ) (bytes : ℕ → List ℕ) → p < n → 1 ≤ au → au ≤ n_of w.ring.settings.rate → v ≤ 782
      → applied (span_at n p d) ≡ false
      → Flows (went w (neighbour n p d) (opposite d) au) t v bytes → Flows (brought_to w p d au) (t + 1) v (λ j. bytes (j - 1))
  span_flows p d au t v bytes h low high small free f =
      let i = au - 1 in
      let back : i + 1 ≡ au = omega arith in
      subst (λ a. Flows (brought_to w p d a) (t + 1) v (λ j. bytes (j - 1))) back
      (flows_at_once w whole is p d i (inside_of w whole p h) (omega arith) (uncut p d h free) t v bytes small
      (subst (λ a. Flows (went w (neighbour n p d) (opposite d) a) t v bytes) (sym back) f))

  module _ (m : ℕ) (low : 1 ≤ m) (high : m ≤ half) where
    over_free : (s v : ℕ) (bytes : ℕ → List ℕ) → v ≤ 782 → (p : ℕ) (o : Origin) → p < n → IsArrival o → routes.IsFree n applied p o
        → (let b = back_from n (settled rs) cs m p o in Flows (brought_in_slot w b.at m b.origin) s v bytes
        → Flows (brought_in_slot w p m o) (s + 1) v (λ j. bytes (j - 1)))
    over_free s v bytes small p Ais h arrives f c = absurd arrives
    over_free s v bytes small p (Add id) h arrives f c = absurd arrives
    over_free s v bytes small p (Working d) h arrives f c =
        let q = neighbour n p d in
        span_flows p d m s v bytes h low (omega (arith, two_halves w.ring.settings.rate)) small f
        (flows_as _ (went w q (opposite d) m) s v bytes bytes
        (λ j. went_working w whole form rs rest uncut m low high q j (opposite d) (beside w whole p d)) (λ j. refl) c)
    over_free s v bytes small p (Protection d) h arrives f c =
        let q = neighbour n p d in
        flows_as (brought_to w p d (half + m)) (brought_in_slot w p m (Protection d)) (s + 1) v (λ j. bytes (j - 1)) (λ j. bytes (j - 1))
        (λ j. protection_comes w whole p m j d h) (λ j. refl)
        (span_flows p d (half + m) s v bytes h (omega arith) (omega (arith, two_halves w.ring.settings.rate)) small f
        (flows_as _ (went w q (opposite d) (half + m)) s v bytes bytes
        (λ j. went_protection w whole form rs rest uncut m low high q j (opposite d) (beside w whole p d)) (λ j. refl) c))

    abbrev Bytes : (ℕ → List ℕ) → ℕ → ℕ → ℕ → Origin → Type 0
    Bytes b v s p o = Flows (brought_in_slot w p m o) s v (λ j. b (j - s))

    bytes_kept : (b : ℕ → List ℕ) (v last : ℕ) → v ≤ 782 → IsKeptOver n applied (settled rs) cs m (Bytes b v) 0 last
    bytes_kept b v last small t p o lt a f early late is =
        flows_as (brought_in_slot w p m o) (brought_in_slot w p m o) (t + 1) v (λ j. b (j - 1 - t)) (λ j. b (j - (t + 1))) (λ j. refl)
        (λ j. let same : j - 1 - t ≡ j - (t + 1) = omega arith in ap b same)
        (over_free t v (λ j. b (j - t)) small p o lt a f is)

  -- ---- a port

  module _ (index : ℕ) (c : Provisioned) (get : slice_get cs index ≡ Some c) (e : End) where
    abbrev far : End
    far = other_end e

    abbrev h : ℕ
    h = hops n applied (arc_of n c)

    abbrev m : ℕ
    m = c.slot.0

    slot_low : 1 ≤ m
    slot_low = (slot_is w whole form rs rest uncut index c get e).from_1

    slot_high : m ≤ half
    slot_high = (slot_is w whole form rs rest uncut index c get e).small

    abbrev hears : ℕ → Clock
    hears i = clock w whole form rs rest uncut index c get e i

    abbrev v : ℕ
    v = (hears 0).value

    abbrev bytes : ℕ → List ℕ
    bytes i = stream_from (customer_at c far) (hears i).sent 2349

    sends : Bytes m slot_low slot_high bytes v 0 (port_at c far) (port index far)
    sends = record {
      taken = λ j l. ap is_ais_action (plain w whole form rs rest uncut index c get e j).0;
      value = λ j l. (plain w whole form rs rest uncut index c get e j).1 ∙ keeps_value w whole form rs rest uncut index c get e j;
      plain = λ j l. (plain w whole form rs rest uncut index c get e j).0;
      payload = λ j l. (plain w whole form rs rest uncut index c get e j).2 ∙ (let same : j ≡ j - 0 = omega arith in ap bytes same);
    }

    abbrev Joined : ℕ → Type 0
    Joined k = is_joined k applied (arc_of k c) ≡ true
        → (let x = delivery k (settled rs) cs c e in Bytes m slot_low slot_high bytes v (hops k applied (arc_of k c)) x.at x.origin)

    joined_so : Joined n
    joined_so = subst Joined rest.spans (λ j.
        joined_walk rs half cs (form_rs w whole form rs rest uncut index c get e) index c get e (Bytes m slot_low slot_high bytes v)
        (hops (length rs) applied (arc_of (length rs) c))
        (subst (λ k. IsKeptOver k applied (settled rs) cs m (Bytes m slot_low slot_high bytes v) 0
        (hops (length rs) applied (arc_of (length rs) c))) (sym rest.spans)
        (bytes_kept m slot_low slot_high bytes v (hops (length rs) applied (arc_of (length rs) c))
        (small w whole form rs rest uncut index c get e)))
        j (omega arith) sends)

    module _ (clocks : ℕ → Clock) (tells : (i : ℕ) → hears i ≡ clocks (w.ring.rounds + i)) where
      pub joined_at_once : (j : ℕ) → h + 1 ≤ j → is_joined n applied (arc_of n c) ≡ true
          → outlet_at (run (suc j) w).ring (port_id index e) ≡ due_by_clocks n applied c e clocks (w.ring.rounds + j)
      unfolding due
      joined_at_once j late joined =
          let f = joined_so joined in
          let number : w.ring.rounds + (j - h) ≡ w.ring.rounds + j - h = omega arith in
          delivered_so w whole form rs rest uncut index c get e j (delivering v (bytes (j - h)))
          (small w whole form rs rest uncut index c get e) (f.plain j (omega arith), f.value j (omega arith), f.payload j (omega arith))
          ∙ ap (λ x. delivering x (bytes (j - h))) (sym (keeps_value w whole form rs rest uncut index c get e (j - h)))
          ∙ ap (plainly (customer_at c far)) (tells (j - h) ∙ ap clocks number)
          ∙ ap (λ t. if t then plainly (customer_at c far) (clocks (w.ring.rounds + j - h)) else silent) (sym joined)
