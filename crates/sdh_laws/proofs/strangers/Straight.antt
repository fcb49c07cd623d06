-- A circuit on whose arc nothing is asked, from a new ring on: its ports deliver straight over the arc.
use Rattle.std.proofs.Common.{◌≡◌, ◌≢◌, ℕ, zero, suc, ◌+◌, ◌-◌, ◌<◌, ◌≤◌, Bool, true, false, List, [], ◌∷◌, length, get_or, Some}
use Rattle.std.proofs.Common.{None, refl, ap, ap₂, sym, ◌∙◌, subst, arith, inl, inr}
use Rattle.std.specs.Prelude.{◌/◌, if◌then◌else◌, slice_get, nat_lt, drop}
use Rattle.std.specs.Option.{option_map_or}
use Rattle.std.proofs.lemmas.Bool.{cases_lt, lt-ltb, le-ltb, cond-true, cond-false}
use Rattle.std.proofs.lemmas.List.{length-take-le, length-drop}
use Rattle.std.proofs.lemmas.Option.{get_or_from_slice_get, slice_get_within}
use Rattle.sdh_ringmap.specs.Rates.{n_of}
use Rattle.sdh_ringmap.specs.Requests.{code_number}
use Rattle.sdh_ringmap.specs.declared.terms.Code.TheVariants.{Nr}
use Rattle.sdh_kbytes.specs.declared.Path.TheVariants.{Short}
use Rattle.sdh_ringmap.specs.Places.{opposite, span_at, position_of}
use Rattle.sdh_ringmap.specs.declared.Side.{Side}
use Rattle.sdh_ringmap.specs.declared.Side.TheVariants.{West, East}
use Rattle.sdh_ringmap.specs.Steps.{going}
use Rattle.sdh_circuits.specs.Provisioned.{Provisioned, customer_at, same_port}
use Rattle.sdh_circuits.specs.Provisioning.{Provisioning, AreCircuits, IsInSlots, HasOffsets}
use Rattle.sdh_circuits.specs.declared.End.{End}
use Rattle.sdh_circuits.specs.declared.End.TheVariants.{A, B}
use Rattle.sdh_circuits.specs.declared.PortId.{PortId}
use Rattle.sdh_payload.specs.declared.chunk.ChunkForm.TheVariants.{Plain, Short, Long}
use Rattle.sdh_payload.specs.declared.chunk.ChunkForm.{ChunkForm}
use Rattle.sdh_pointer.specs.declared.reading.Action.{Action}
use Rattle.sdh_payload.specs.declared.clock.Turn.{Turn}
use Rattle.sdh_payload.specs.declared.clock.Turn.TheVariants.{Up, Down}
use Rattle.sdh_payload.specs.Customer.{Customer}
use Rattle.sdh_payload.specs.Chunk.{taken, taken_len, laid_payload, laid_h3}
use Rattle.sdh_payload.proofs.Chunks.{length-stream_from, what_is_laid_is_taken}
use Rattle.sdh_pointer.specs.declared.reading.Reading.{Reading}
use Rattle.sdh_payload.specs.Clock.{Clock, with_waiting, after_form, ticked, ticks, next_form, last_from}
use Rattle.sdh_payload.specs.Outlet.{Outlet, silent, delivering}
use Rattle.sdh_payload.specs.Stream.{stream_from}
use Rattle.sdh_payload.proofs.Clocking.{form_ticked}
use Rattle.sdh_pointer.specs.declared.reading.Action.TheVariants as action
use Rattle.sdh_pointer.specs.Reading.{start}
use Rattle.sdh_plant.specs.Fibres.{Fibres}
use Rattle.sdh_circuits.specs.Ends.{other_end, port_id}
use Rattle.sdh_request.specs.declared.settings.Settings.{Settings}
use Rattle.sdh_terminal.specs.Passing.{Input, no_input, h3_of}
use Rattle.sdh_terminal.specs.Outlets.{chunk_form, chunk_from, delivered_by, delivered_from}
use Rattle.sdh_node.specs.Receiving.{Receiving, commanded_by}
use Rattle.sdh_terminal.specs.Tributaries.{Tributary, action_of, sent_by, sent_in, input_by}
use Rattle.sdh_node.specs.Node.{Node, new_node, at_receiving, held_for, slips_at, receiving_on, sending_on, last_word_on}
use Rattle.sdh_node.specs.Rings.Held.{node_at, outlet_at, place_of_port}
use Rattle.sdh_node.specs.Rings.Rounds.{World, round}
use Rattle.sdh_rounds.specs.Rounds as any_round
use Rattle.sdh_rounds.specs.Runs as any_run
use Rattle.sdh_rounds.proofs.Terms.{terms}
use Rattle.sdh_node.specs.Rings.Runs.{run}
use Rattle.sdh_restoration.specs.Changes.{Change, Stretch, rounds_in}
use Rattle.sdh_restoration.specs.Changes.{Fibre, Order, Hold, Slip, Now}
use Rattle.sdh_node.specs.Rings.Changes.{changed, all_changed, after_stretch, new_world}
use Rattle.sdh_node.specs.Rings.Clocks.{clock_after, clock_changed, clocks_by, clock_in, first_clock, offset_of}
use Rattle.sdh_node.specs.Rings.Clocks.{HasPortIn, clock_at}
use Rattle.sdh_node.specs.Rings.Laws.{IsChangeOf, AreChangesOf, MayHappen}
use Rattle.sdh_node.specs.Rings.Sides.{world_in}
use Rattle.sdh_node.proofs.RingLaws.Clocks.{clocks_go_on}
use Rattle.sdh_laws.specs.Hearing.Laws.{IsWhole, MayStart}
use Rattle.sdh_laws.proofs.hearing.Nodes.{count}
use Rattle.sdh_laws.proofs.hearing.Changes.{each_new, each_at_place, new_worlds_are_whole, readings_commanded, sending_commanded, held_leaves, slips_leave}
use Rattle.sdh_laws.proofs.hearing.Changes.{with_node, whole_changed}
use Rattle.sdh_laws.proofs.hearing.Staying.{left_in, world_low, world_high, world_later}
use Rattle.sdh_laws.proofs.hearing.Stretches.{requests_are_the_historys, ran_at}
use Rattle.sdh_laws.specs.Carrying.Windows.{value_at}
use Rattle.sdh_laws.proofs.carrying.Owed.{found, clock_is, drops_so, port_is_there}
use Rattle.sdh_signal.specs.Walks.{port, port_at, stands_in}
use Rattle.sdh_circuits.specs.Ends.{inward}
use Rattle.sdh_signal.proofs.Views.{AreOnRing, arc_length, holds, on-ring}
use Rattle.sdh_signal.proofs.OnArcs.{near_at, near_end, seen-on}
use Rattle.sdh_laws.specs.Strangers.Undisturbed.{NoneAsks, straight, UndisturbedPortsDeliver}
use Rattle.sdh_laws.proofs.strangers.Slipping.{IsSource, value_in_round, state, Follows, does_before, state_before, does_zero, long_down}
use Rattle.sdh_laws.proofs.strangers.Slipping.{chunk_is, not_ais}
use Rattle.sdh_laws.proofs.strangers.Arc.{first_at, sent, HasCome, IsTuned, IsUndisturbed, undisturbed_round, arrives}
use Rattle.sdh_laws.specs.Strangers.Untouched.{AsksNothingOnArc}
use Rattle.sdh_laws.proofs.strangers.Unasked.{IsUntroubled, AllUntroubled, untroubled_changed}
use Rattle.sdh_laws.proofs.converging.HealthyPointers.{same_all}

-- ---- a clock by its history

pub small_by : (f : ChunkForm) (c : Clock) → c.value ≤ 782 → (after_form f c).value ≤ 782
small_by Plain c h = h
small_by Short c h = omega arith
small_by Long c h = omega arith

pub small_ticked : (c : Clock) → c.value ≤ 782 → (ticked c).value ≤ 782
unfolding ticked
small_ticked c h = small_by (next_form c) c h

module _ (q : PortId) where
  -- two clocks have the same pointer value, and may justify after the same number of rounds
  record IsAlike (a b : Clock) : Type 0 where
    rest : b.rest ≡ a.rest
    value : b.value ≡ a.value

  alike_on : (a b c : Clock) → IsAlike a b → IsAlike b c → IsAlike a c
  alike_on a b c x y = record { rest = y.rest ∙ x.rest; value = y.value ∙ x.value }

  waits_alike : (turn : Turn) (count : ℕ) (c : Clock) → IsAlike c (with_waiting turn count c)
  waits_alike Up k c = record { rest = refl; value = refl }
  waits_alike Down k c = record { rest = refl; value = refl }

  if_alike : (b : Bool) (a x y : Clock) → IsAlike a x → IsAlike a y → IsAlike a (if b then x else y)
  if_alike true a x y h g = h
  if_alike false a x y h g = g

  change_alike : (x : Change) (c : Clock) → IsAlike c (clock_after q x c)
  change_alike (Fibre p d condition) c = record { rest = refl; value = refl }
  change_alike (Order p d command) c = record { rest = refl; value = refl }
  change_alike (Hold p turns) c = record { rest = refl; value = refl }
  change_alike (Slip other turn count) c =
      if_alike (same_port q other) c (with_waiting turn count c) c (waits_alike turn count c) (record { rest = refl; value = refl })
  change_alike (Now t) c = record { rest = refl; value = refl }

  changes_alike : (xs : List Change) (c : Clock) → IsAlike c (clock_changed q xs c)
  changes_alike [] c = record { rest = refl; value = refl }
  changes_alike (x ∷ xs) c =
      alike_on c (clock_after q x c) (clock_changed q xs (clock_after q x c)) (change_alike x c) (changes_alike xs (clock_after q x c))

  no_ticks : (c : Clock) → ticks 0 c ≡ c
  unfolding ticks
  no_ticks c = refl

  one_tick : (k : ℕ) (c : Clock) → ticks (k + 1) c ≡ ticked (ticks k c)
  unfolding ticks
  one_tick k c = ap (λ j. ticks j c) {x = k + 1} {y = suc k} (omega arith)

  clock_low : (s : Stretch) (ss : List Stretch) (c : Clock) (t : ℕ) → t < s.rounds
      → clock_in q (s ∷ ss) c t ≡ ticks t (clock_changed q s.changes c)
  clock_low s ss c t h = cond-true (nat_lt t s.rounds) _ _ (lt-ltb t s.rounds h)

  clock_high : (s : Stretch) (ss : List Stretch) (c : Clock) (t : ℕ) → s.rounds ≤ t
      → clock_in q (s ∷ ss) c t ≡ clock_in q ss (ticks s.rounds (clock_changed q s.changes c)) (t - s.rounds)
  clock_high s ss c t h = cond-false (nat_lt t s.rounds) _ _ (le-ltb t s.rounds h)

  begins_alike : (ss : List Stretch) (c : Clock) → IsAlike c (clock_in q ss c 0)
  begins_alike [] c = subst (IsAlike c) (sym (no_ticks c)) (record { rest = refl; value = refl })
  begins_alike (s ∷ ss) c = elim (cases_lt 0 s.rounds) [
    | inl some ↦ subst (IsAlike c) (sym (clock_low s ss c 0 some ∙ no_ticks (clock_changed q s.changes c))) (changes_alike s.changes c)
    | inr none ↦ (
        let a = clock_changed q s.changes c in
        let zero_rounds : s.rounds ≡ 0 = omega arith in
        let same : clock_in q (s ∷ ss) c 0 ≡ clock_in q ss a 0 =
        clock_high s ss c 0 none ∙ ap₂ (λ x y. clock_in q ss x y) (ap (λ k. ticks k a) zero_rounds ∙ no_ticks a)
        (let z : 0 - s.rounds ≡ 0 = omega arith in z) in
        subst (IsAlike c) (sym same) (alike_on c a (clock_in q ss a 0) (changes_alike s.changes c) (begins_alike ss a)))
  ]

  goes_alike : (ss : List Stretch) (c : Clock) (t : ℕ) → IsAlike (ticked (clock_in q ss c t)) (clock_in q ss c (t + 1))
  goes_alike [] c t = subst (IsAlike (ticked (ticks t c))) (sym (one_tick t c)) (record { rest = refl; value = refl })
  goes_alike (s ∷ ss) c t =
      let a = clock_changed q s.changes c in
      elim (cases_lt t s.rounds) [
        | inl low ↦ subst (λ x. IsAlike (ticked x) (clock_in q (s ∷ ss) c (t + 1))) (sym (clock_low s ss c t low))
            (elim (cases_lt (t + 1) s.rounds) [
              | inl more ↦ subst (IsAlike (ticked (ticks t a))) (sym (clock_low s ss c (t + 1) more ∙ one_tick t a))
                  (record { rest = refl; value = refl })
              | inr last ↦ (
                  let now : s.rounds ≡ t + 1 = omega arith in
                  let there : ticks s.rounds a ≡ ticked (ticks t a) = ap (λ k. ticks k a) now ∙ one_tick t a in
                  let same : clock_in q (s ∷ ss) c (t + 1) ≡ clock_in q ss (ticked (ticks t a)) 0 =
                  clock_high s ss c (t + 1) last ∙ ap₂ (λ x y. clock_in q ss x y) there (let z : t + 1 - s.rounds ≡ 0 = omega arith in z) in
                  subst (IsAlike (ticked (ticks t a))) (sym same) (begins_alike ss (ticked (ticks t a))))
            ])
        | inr high ↦ (
            let b = ticks s.rounds a in
            let later : clock_in q (s ∷ ss) c (t + 1) ≡ clock_in q ss b (t - s.rounds + 1) =
            clock_high s ss c (t + 1) (omega arith) ∙ ap (clock_in q ss b) {x = t + 1 - s.rounds} {y = t - s.rounds + 1}
            (omega arith) in
            subst (λ x. IsAlike (ticked x) (clock_in q (s ∷ ss) c (t + 1))) (sym (clock_high s ss c t high))
            (subst (IsAlike (ticked (clock_in q ss b (t - s.rounds)))) (sym later) (goes_alike ss b (t - s.rounds))))
      ]

  module _ (ss : List Stretch) (c : Clock) (first : c.rest ≡ 4) (small : c.value ≤ 782) where
    small_in : (r : ℕ) → (clock_in q ss c r).value ≤ 782
    small_in zero = subst (λ x. x ≤ 782) (sym (begins_alike ss c).value) small
    small_in (suc r) =
        subst (λ k. (clock_in q ss c k).value ≤ 782) {x = r + 1} {y = suc r} (omega arith)
        (subst (λ x. x ≤ 782) (sym (goes_alike ss c r).value) (small_ticked (clock_in q ss c r) (small_in r)))

    source_in : IsSource (λ r. clock_in q ss c r)
    source_in = record {
      first = (begins_alike ss c).rest ∙ first;
      small = small_in;
      value = λ r. (goes_alike ss c r).value;
      rest = λ r. (goes_alike ss c r).rest;
    }

-- ---- what is laid is taken

three : (l : List ℕ) → length l ≡ 3 → get_or l 0 0 ∷ get_or l 1 0 ∷ get_or l 2 0 ∷ [] ≡ l
three [] h = absurd (omega arith)
three (a ∷ []) h = absurd (omega arith)
three (a ∷ b ∷ []) h = absurd (omega arith)
three (a ∷ b ∷ c ∷ []) h = refl
three (a ∷ b ∷ c ∷ e ∷ l) h = absurd (omega arith)

long_h3 : (l : List ℕ) → length l ≡ 2352 → length (laid_h3 Long l) ≡ 3
long_h3 l h = length-take-le 3 (drop 783 l) (omega (arith, length-drop 783 l))

taken_by : (f : ChunkForm) (b payload h3 : List ℕ) → length b ≡ taken_len f → payload ≡ laid_payload f b → (f ≡ Long → h3 ≡ laid_h3 f b)
    → taken f payload h3 ≡ b
taken_by Plain b payload h3 len e g = e
taken_by Short b payload h3 len e g = ap (λ p. taken Short p h3) e ∙ what_is_laid_is_taken Short b len
taken_by Long b payload h3 len e g = ap₂ (λ p h. taken Long p h) e (g refl) ∙ what_is_laid_is_taken Long b len

laid_by : (p : Customer) (c : Clock) (f : ChunkForm) → (let k = after_form f c in laid_payload k.form
    (stream_from p (last_from k) (taken_len k.form))) ≡ laid_payload f (stream_from p c.sent (taken_len f))
laid_by p c Plain = ap (λ x. stream_from p x 2349) {x = c.sent + 2349 - 2349} {y = c.sent} (omega arith)
laid_by p c Short = ap (λ x. laid_payload Short (stream_from p x 2346)) {x = c.sent + 2346 - 2346} {y = c.sent} (omega arith)
laid_by p c Long = ap (λ x. laid_payload Long (stream_from p x 2352)) {x = c.sent + 2352 - 2352} {y = c.sent} (omega arith)

h3_by : (p : Customer) (c : Clock) (f : ChunkForm) → f ≡ Long
    → (let k = after_form f c in let l = laid_h3 k.form (stream_from p (last_from k) (taken_len k.form)) in get_or l 0 0 ∷ get_or l 1 0
    ∷ get_or l 2 0 ∷ []) ≡ laid_h3 f (stream_from p c.sent (taken_len f))
h3_by p c Plain e = absurd (apart e)
  where
    apart : Plain ≡ Long → ⊥
    apart z = cc
h3_by p c Short e = absurd (apart e)
  where
    apart : Short ≡ Long → ⊥
    apart z = cc
h3_by p c Long e =
    ap (λ x. let l = laid_h3 Long (stream_from p x 2352) in get_or l 0 0 ∷ get_or l 1 0 ∷ get_or l 2 0
    ∷ []) {x = c.sent + 2352 - 2352} {y = c.sent} (omega arith)
    ∙ three (laid_h3 Long (stream_from p c.sent 2352)) (long_h3 (stream_from p c.sent 2352) (length-stream_from p c.sent 2352))

sent_payload : (p : Customer) (c : Clock) → (sent_in (record { port = p; clock = c })).payload
    ≡ laid_payload (next_form c) (stream_from p c.sent (taken_len (next_form c)))
unfolding sent_by ticked
sent_payload p c = laid_by p c (next_form c)

sent_h3 : (p : Customer) (c : Clock) → next_form c ≡ Long → h3_of (input_by (sent_in (record { port = p; clock = c }))).au.pointers
    ≡ laid_h3 (next_form c) (stream_from p c.sent (taken_len (next_form c)))
unfolding sent_by ticked
sent_h3 p c e = h3_by p c (next_form c) e

sent_action : (p : Customer) (c : Clock) → (input_by (sent_in (record { port = p; clock = c }))).action ≡ action_of (next_form c)
unfolding sent_by
sent_action p c = ap action_of (form_ticked c)

sent_value : (p : Customer) (c : Clock) → (input_by (sent_in (record { port = p; clock = c }))).value ≡ (ticked c).value
unfolding sent_by
sent_value p c = refl

not_silent : (a : Action) (x : Input) → a ≢ action.Ais → delivered_by a x ≡ chunk_from x
not_silent action.Ais x h = absurd (h refl)
not_silent action.Normal x h = refl
not_silent action.New x h = refl
not_silent action.Up x h = refl
not_silent action.Down x h = refl

-- ---- a world on its way

module _ (i : ℕ) (c : Provisioned) (d : Side) (clock : ℕ → Clock) (source : IsSource clock) where
  abbrev U : World → Type 0
  U w = IsUndisturbed i c d clock source w

  abbrev Tuned : World → ℕ → Node → Type 0
  Tuned w = IsTuned i c d clock source (length w.ring.ids) w.ring.rounds

  tuned_left : (f : Node → Node) → ((e : Side) (y : Node) → (receiving_on e (f y)).readings ≡ (receiving_on e y).readings)
      → ((e : Side) (y : Node) → sending_on e (f y) ≡ sending_on e y) → (w : World) (q : ℕ) (y : Node) → Tuned w q y → Tuned w q (f y)
  tuned_left f readings sendings w q y h = record {
    sends = λ k few is. ap (λ x. get_or x.generators (c.slot.0 - 1) None) (sendings d y) ∙ h.sends k few is;
    reads =
        λ k few is. subst (λ l. Follows clock source (k + 1) w.ring.rounds (get_or l (c.slot.0 - 1) start)) (sym (readings (opposite d) y))
        (h.reads k few is);
  }

  with_change : (f : Node → Node) → ((e : Side) (y : Node) → (receiving_on e (f y)).readings ≡ (receiving_on e y).readings)
      → ((e : Side) (y : Node) → sending_on e (f y) ≡ sending_on e y) → (p : ℕ) (w : World) → IsWhole (with_node p f w)
      → AllUntroubled c (with_node p f w) → U w → U (with_node p f w)
  with_change f readings sendings p w whole calm u = record {
    whole = whole;
    get = u.get;
    ring = u.ring;
    slot = u.slot;
    tuned = each_at_place (Tuned w) f (λ q y h. tuned_left f readings sendings w q y h) p w.ring.nodes u.tuned;
    untroubled = calm;
    frames = u.frames;
  }

  changed_u : (x : Change) (w : World) → IsChangeOf w x → U w → U (changed x w)
  unfolding changed
  changed_u (Fibre p e condition) w may u = record {
    whole = whole_changed (Fibre p e condition) w may u.whole;
    get = u.get;
    ring = u.ring;
    slot = u.slot;
    tuned = u.tuned;
    untroubled = u.untroubled;
    frames = u.frames;
  }
  changed_u (Order p e x) w may u =
      with_change (at_receiving e (commanded_by x)) (λ g y. readings_commanded e g x y) (λ g y. sending_commanded e g x y) p w
      (whole_changed (Order p e x) w may u.whole) (untroubled_changed c (Order p e x) w u.untroubled) u
  changed_u (Hold p turns) w may u =
      with_change (held_for turns) (λ g y. ap (λ (r : Receiving). r.readings) ((held_leaves turns).receiving g y))
      (λ g y. (held_leaves turns).sending g y) p w (whole_changed (Hold p turns) w may u.whole)
      (untroubled_changed c (Hold p turns) w u.untroubled) u
  changed_u (Slip id turn count) w may u =
      with_change (slips_at id turn count) (λ g y. ap (λ (r : Receiving). r.readings) ((slips_leave id turn count).receiving g y))
      (λ g y. (slips_leave id turn count).sending g y) (place_of_port w.ring id) w
      (whole_changed (Slip id turn count) w may u.whole) (untroubled_changed c (Slip id turn count) w u.untroubled) u
  changed_u (Now t) w may u = record {
    whole = whole_changed (Now t) w may u.whole;
    get = u.get;
    ring = u.ring;
    slot = u.slot;
    tuned = u.tuned;
    untroubled = u.untroubled;
    frames = u.frames;
  }

  all_u : (xs : List Change) (w : World) → AreChangesOf w xs → U w → U (all_changed xs w)
  all_u [] w may u = u
  all_u (x ∷ xs) w may u = all_u xs (changed x w) may.1 (changed_u x w may.0 u)

  -- ---- rounds, by what is known of each

  record Tells (w : World) : Type 0 where
    asks : AsksNothingOnArc (round w) c
    times : clock_at w.ring (port_id i (near_end d)) ≡ clock w.ring.rounds

  module _ (w : World) (u : U w) (tells : Tells w) where
    open terms w use {n}

    end_low : (e : End) → port_at c e < n
    end_low A = (u.ring.inside i c u.get).0
    end_low B = (u.ring.inside i c u.get).1

    own : HasCome i c d clock source 0 w.ring.rounds (value_at w (going n d (near_at n c d) 0) c.slot.0 (port i (near_end d)))
    own =
        let x = near_end d in
        let t = w.ring.rounds in
        let lt = end_low x in
        let f = found w u.whole i c x u.get lt in
        let now : f.it.feed.clock ≡ clock t = sym (clock_is w u.whole i c x u.get lt) ∙ tells.times in
        let is : value_at w (port_at c x) c.slot.0 (port i x) ≡ input_by (sent_in (record { port = customer_at c x; clock = clock t })) =
        ap (λ o. option_map_or (λ (y : Tributary). input_by (sent_in y.feed)) o no_input) f.is
        ∙ λ j. input_by (sent_in (record { port = f.sender j; clock = now j })) in
        let back : t ≡ t - 0 = omega arith in
        subst (λ p. HasCome i c d clock source 0 t (value_at w p c.slot.0 (port i x))) (first_at n w.ring.circuits.circuits u.ring i c u.get d) (record {
          acts = ap (λ (y : Input). y.action) is ∙ sent_action (customer_at c x) (clock t) ∙ sym (does_zero clock source t);
          value = λ late. ap (λ (y : Input). y.value) is ∙ sent_value (customer_at c x) (clock t) ∙ ap (value_in_round clock source) back;
          payload = λ late. ap (λ (y : Input). y.au.payload) is ∙ ap (λ r. (sent i c d clock source r).payload) back;
          h3 = λ late down. ap (λ (y : Input). h3_of y.au.pointers) is ∙ ap (λ r. h3_of (sent i c d clock source r).pointers) back;
        })

    -- ---- what is delivered

    abbrev owed : ℕ → Outlet
    owed r = delivering (ticked (clock r)).value (stream_from (customer_at c (near_end d)) (clock r).sent (taken_len (next_form (clock r))))

    delivered_late : (x : Input) (k t : ℕ) → HasCome i c d clock source k t x → k ≤ t → delivered_by x.action x ≡ owed (t - k)
    delivered_late x k t h late =
        let r = t - k in
        let p = customer_at c (near_end d) in
        let f = next_form (clock r) in
        let b = stream_from p (clock r).sent (taken_len f) in
        let form : chunk_form x.action ≡ f = ap chunk_form h.acts ∙ chunk_is clock source k t late in
        let bytes : taken f x.au.payload (h3_of x.au.pointers) ≡ b =
        taken_by f b x.au.payload (h3_of x.au.pointers) (length-stream_from p (clock r).sent (taken_len f))
        (h.payload late ∙ sent_payload p (clock r))
        (λ long. h.h3 late (h.acts ∙ long_down clock source k t late long) ∙ sent_h3 p (clock r) long) in
        not_silent x.action x (λ z. not_ais clock source k t late (sym h.acts ∙ z))
        ∙ ap (λ g. delivering x.value (taken g x.au.payload (h3_of x.au.pointers))) form
        ∙ λ j. delivering (h.value late j) (bytes j)

    delivers_by : (k t : ℕ) (x : Input) → HasCome i c d clock source k t x
        → delivered_from x ≡ (if nat_lt t k then silent else owed (t - k))
    unfolding delivered_from
    delivers_by k t x h = elim (cases_lt t k) [
      | inl early ↦ ap (λ b. delivered_by b x) (h.acts ∙ does_before clock source k t early)
          ∙ sym (cond-true (nat_lt t k) silent (owed (t - k)) (lt-ltb t k early))
      | inr late ↦ delivered_late x k t h late ∙ sym (cond-false (nat_lt t k) silent (owed (t - k)) (le-ltb t k late))
    ]

    abbrev e : End
    e = other_end (near_end d)

    -- the port at the other end
    delivers : outlet_at (round w).ring (port_id i e) ≡ (if nat_lt w.ring.rounds (arc_length n c)
        then silent else owed (w.ring.rounds - arc_length n c))
    delivers =
        let p = port_at c e in
        let xs = w.ring.circuits.circuits in
        let st = (node_at (round w).ring.nodes p).state in
        let seen = seen-on n xs u.ring i c u.get d in
        let many = arc_length n c in
        let place : going n d (near_at n c d) many ≡ p = sym seen.distant_at in
        let input = value_at w p c.slot.0 (stands_in n xs p st (inward e) c.slot.0) in
        let come : HasCome i c d clock source many w.ring.rounds input =
        subst (λ y. HasCome i c d clock source many w.ring.rounds (value_at w p c.slot.0 (stands_in n xs p st y c.slot.0)))
        (sym seen.distant_faces)
        (subst (λ q. HasCome i c d clock source many w.ring.rounds
        (value_at w q c.slot.0 (stands_in n xs q (node_at (round w).ring.nodes q).state (opposite d) c.slot.0))) place
        (arrives i c d clock source w u tells.asks own)) in
        drops_so w u.whole i c e u.get (end_low e) ∙ delivers_by many w.ring.rounds input come

    next_u : U (round w)
    next_u = undisturbed_round i c d clock source w u tells.asks own

  -- ---- stretches

  run_u : (j : ℕ) (w : World) → U w → ((k : ℕ) → k < j → Tells (run k w)) → U (run j w)
  unfolding any_run.run
  run_u zero w u tells = u
  run_u (suc j) w u tells = next_u (run j w) (run_u j w u (λ k h. tells k (omega arith))) (tells j (omega arith))

  in_u : (rest : List Stretch) (w : World) (t : ℕ) → U w → MayHappen w rest → ((j : ℕ) → j < rounds_in rest → Tells (world_in rest w j))
      → t ≤ rounds_in rest → U (world_in rest w t)
  in_u [] w t u may tells h = u
  in_u (x ∷ rest) w t u may tells h =
      let begin : U (all_changed x.changes w) = all_u x.changes w may.0 u in
      let within : (j : ℕ) → j < x.rounds → Tells (run j (all_changed x.changes w)) =
      λ j low. subst Tells (world_low x rest w j low) (tells j (omega arith)) in
      elim (cases_lt t x.rounds) [
        | inl low ↦ subst U (sym (world_low x rest w t low)) (run_u t (all_changed x.changes w) begin (λ j less. within j (omega arith)))
        | inr high ↦ subst U (sym (world_high x rest w t high))
            (in_u rest (after_stretch x w) (t - x.rounds) (run_u x.rounds (all_changed x.changes w) begin within) may.1
            (λ j low. subst Tells (world_later x rest w j) (tells (x.rounds + j) (omega arith))) (omega arith))
      ]

-- ---- from a new ring on

module _ (s : Settings) (ids : List ℕ) (circuits : Provisioning) (f : Fibres) (ss : List Stretch) (start_is : MayStart s ids f)
    (happen : MayHappen (new_world s ids circuits f) ss)
    (form : AreCircuits (length ids) (n_of s.rate / 2) circuits.circuits) (i : ℕ) (c : Provisioned)
    (get : slice_get circuits.circuits i ≡ Some c) (d : Side) (asks : NoneAsks s (length ids) ss c) where
  abbrev w : World
  w = new_world s ids circuits f

  abbrev cs : List Provisioned
  cs = circuits.circuits

  abbrev size : ℕ
  size = length ids

  abbrev id : PortId
  id = port_id i (near_end d)

  abbrev far : End
  far = other_end (near_end d)

  whole : IsWhole w
  whole = new_worlds_are_whole s ids circuits f start_is.ids_ok start_is.honest

  ring : AreOnRing size cs
  ring = on-ring size (n_of s.rate / 2) cs form

  abbrev v : ℕ
  v = (customer_at c (near_end d)).offset

  small : v ≤ 782
  small = by (subst HasOffsets (get_or_from_slice_get cs i c c get) (form.offsets i c (slice_get_within cs i c get))) (near_end d)
    where
      by : HasOffsets c → (e : End) → (customer_at c e).offset ≤ 782
      by h A = h.a
      by h B = h.b

  first_value : offset_of cs id ≡ v
  first_value = ap (λ o. option_map_or (λ (c : Provisioned). (customer_at c (near_end d)).offset) o 0) get

  first_rest : (first_clock cs id).rest ≡ 4
  unfolding first_clock
  first_rest = refl

  first_small : (first_clock cs id).value ≤ 782
  unfolding first_clock
  first_small = subst (λ x. x ≤ 782) (sym first_value) small

  abbrev clock : ℕ → Clock
  clock t = clocks_by cs ss id t

  source : IsSource clock
  source = source_in id ss (first_clock cs id) first_rest first_small

  abbrev Good : World → Type 0
  Good = IsUndisturbed i c d clock source

  low_end : (e : End) → port_at c e < size
  low_end A = (ring.inside i c get).0
  low_end B = (ring.inside i c get).1

  -- a new node
  tuned_new : (p : ℕ) → IsTuned i c d clock source size 0 p (new_node s ids cs (position_of p))
  unfolding new_node
  tuned_new p = record {
    sends = λ k few is. sends_new d k;
    reads = λ k few is. reads_new (opposite d) k;
  }
    where
      sends_new : (e : Side) (k : ℕ) → get_or (sending_on e (new_node s ids cs (position_of p))).generators (c.slot.0 - 1) None
          ≡ state clock source k 0
      sends_new West k = same_all (n_of s.rate) (c.slot.0 - 1) None ∙ sym (state_before clock source k 0 (omega arith))
      sends_new East k = same_all (n_of s.rate) (c.slot.0 - 1) None ∙ sym (state_before clock source k 0 (omega arith))

      start_follows : (k : ℕ) (r : Reading) → r ≡ start → Follows clock source (k + 1) 0 r
      start_follows k r is = record {
        before = λ z. is;
        mode_is = λ z. absurd (omega arith);
        value_is = λ z. absurd (omega arith);
        since_is = λ z. absurd (omega arith);
      }

      reads_new : (e : Side) (k : ℕ) → Follows clock source (k + 1) 0
          (get_or (receiving_on e (new_node s ids cs (position_of p))).readings (c.slot.0 - 1) start)
      reads_new West k = start_follows k _ (same_all (n_of s.rate) (c.slot.0 - 1) start)
      reads_new East k = start_follows k _ (same_all (n_of s.rate) (c.slot.0 - 1) start)

  untroubled_new : (p : ℕ) → IsUntroubled c size p (new_node s ids cs (position_of p))
  unfolding new_node
  untroubled_new p = record { words = λ e held. words_new e; open_sides = λ e held. refl }
    where
      words_new : (e : Side) → (last_word_on e (new_node s ids cs (position_of p))).path ≡ Short
          → code_number (last_word_on e (new_node s ids cs (position_of p))).code < 5
      words_new West = λ z. omega arith
      words_new East = λ z. omega arith

  good_new : Good w
  good_new = record {
    whole = whole;
    get = get;
    ring = ring;
    slot = subst (IsInSlots (n_of s.rate / 2)) (get_or_from_slice_get cs i c c get) (form.in_slots i c (slice_get_within cs i c get));
    tuned = each_new (IsTuned i c d clock source size 0) s ids cs (λ p low. tuned_new p);
    untroubled = each_new (IsUntroubled c size) s ids cs (λ p low. untroubled_new p);
    frames = λ k r line few ran there. absurd (omega arith);
  }

  clock_then : (t : ℕ) → t < rounds_in ss → clock_at (world_in ss w t).ring id ≡ clock t
  clock_then t h =
      let has : HasPortIn w.ring id = port_is_there w whole i c (near_end d) get (low_end (near_end d)) in
      clocks_go_on.history ss w id t has h ∙ ap (λ k. clock_in id ss k t) (clocks_go_on.new s ids circuits id has)

  tells : (t : ℕ) → t < rounds_in ss → Tells i c d clock source (world_in ss w t)
  unfolding any_round.round any_round.round_with
  tells t h =
      let x = world_in ss w t in
      let same = (left_in ss w t (omega arith)).ids in
      let is = clock_then t h in
      record {
        asks =
            subst (λ (l : List ℕ). (p : ℕ) (e : Side) → p < length l → holds (length l) c (span_at (length l) p e) ≡ true
            → (receiving_on e (node_at (round x).ring.nodes p)).request ≡ Nr) (sym same)
            (λ p e low held. (requests_are_the_historys s ids circuits f ss start_is happen).each p e t low h ∙ asks t p e h low held);
        times = is ∙ ap clock (sym (ran_at s ids circuits f ss t (omega arith)));
      }

  good_at : (t : ℕ) → t ≤ rounds_in ss → Good (world_in ss w t)
  good_at t h = in_u i c d clock source ss w t good_new happen tells h

  abbrev owed_then : ℕ → Outlet
  owed_then r =
      delivering (ticked (clock r)).value (stream_from (customer_at c (near_end d)) (clock r).sent (taken_len (next_form (clock r))))

  pub far_delivers : (t : ℕ) → t < rounds_in ss → outlet_at (round (world_in ss w t)).ring (port_id i far)
      ≡ (if nat_lt t (arc_length size c) then silent else owed_then (t - arc_length size c))
  far_delivers t h =
      let x = world_in ss w t in
      let same = (left_in ss w t (omega arith)).ids in
      let ran = ran_at s ids circuits f ss t (omega arith) in
      delivers i c d clock source x (good_at t (omega arith)) (tells t h)
      ∙ ap₂ (λ r l. if nat_lt r (arc_length (length l) c) then silent else owed_then (r - arc_length (length l) c)) ran same

by_end : (s : Settings) (ids : List ℕ) (circuits : Provisioning) (f : Fibres) (ss : List Stretch) → MayStart s ids f
    → MayHappen (new_world s ids circuits f) ss → AreCircuits (length ids) (n_of s.rate / 2) circuits.circuits
    → (i : ℕ) (c : Provisioned) → slice_get circuits.circuits i ≡ Some c → NoneAsks s (length ids) ss c → (t : ℕ) → t < rounds_in ss
    → (e : End) → outlet_at (round (world_in ss (new_world s ids circuits f) t)).ring (port_id i e)
    ≡ straight (length ids) circuits.circuits ss i c e t
unfolding arc_length
by_end s ids circuits f ss may happen form i c get asks t h A = far_delivers s ids circuits f ss may happen form i c get West asks t h
by_end s ids circuits f ss may happen form i c get asks t h B = far_delivers s ids circuits f ss may happen form i c get East asks t h

pub undisturbed_ports_deliver : UndisturbedPortsDeliver
undisturbed_ports_deliver s ids circuits f ss may happen form i c get e asks t h =
    by_end s ids circuits f ss may happen form i c get asks t h e
