-- A circuit on whose arc nothing is asked: what its port sends comes over its spans, one after the other, from round 0
-- on.
use Rattle.std.proofs.Common.{◌≡◌, ◌≢◌, ℕ, zero, suc, ◌+◌, ◌-◌, ◌*◌, ◌<◌, ◌≤◌, true, false, List, length, get_or, Option, Some, None}
use Rattle.std.proofs.Common.{refl, ap, ap₂, sym, ◌∙◌, subst, arith, inl, inr}
use Rattle.std.specs.Prelude.{◌==◌, slice_get}
use Rattle.std.proofs.lemmas.Bool.{cases_lt, and_parts}
use Rattle.sdh_ringmap.specs.Rates.{n_of}
use Rattle.sdh_frame.specs.Aus.{Au, au_of}
use Rattle.sdh_parity.specs.Scrambling.{scrambled}
use Rattle.sdh_ringmap.specs.Places.{opposite, neighbour, span_at}
use Rattle.sdh_ringmap.specs.declared.Side.{Side}
use Rattle.sdh_ringmap.specs.declared.Side.TheVariants.{West, East}
use Rattle.sdh_ringmap.specs.Steps.{going}
use Rattle.sdh_ringmap.proofs.Sides.{opposite_twice}
use Rattle.sdh_ringmap.proofs.Going.{going-back, going-inside, way-behind}
use Rattle.sdh_circuits.specs.Provisioned.{Provisioned, customer_at}
use Rattle.sdh_circuits.specs.Provisioning.{IsInSlots}
use Rattle.sdh_squelch.specs.declared.Row.{Row}
use Rattle.sdh_squelch.specs.Table.{circuit_from}
use Rattle.sdh_squelch.proofs.LookUps.{entry}
use Rattle.sdh_nodestate.specs.declared.NodeState.{NodeState}
use Rattle.sdh_bridge.specs.declared.Origin.TheVariants.{Working}
use Rattle.sdh_pointer.specs.declared.reading.Action.{Action}
use Rattle.sdh_pointer.specs.declared.reading.Action.TheVariants as action
use Rattle.sdh_pointer.specs.declared.reading.Reading.{Reading}
use Rattle.sdh_pointer.specs.declared.word.Form.{Form}
use Rattle.sdh_pointer.specs.declared.word.Form.TheVariants as form
use Rattle.sdh_payload.specs.Clock.{Clock}
use Rattle.sdh_terminal.specs.Tributaries.{sent_in, input_by}
use Rattle.sdh_pointer.specs.Reading.{start, after_word, action_on}
use Rattle.sdh_pointer.specs.Sending.{form_sent, word_sent, next_sending}
use Rattle.sdh_ringmap.specs.Fibres.{fibre}
use Rattle.sdh_plant.specs.Arrivals.{carried_on}
use Rattle.sdh_circuits.specs.Ends.{other_end}
use Rattle.sdh_circuits.specs.declared.End.TheVariants.{A, B}
use Rattle.sdh_terminal.specs.Passing.{Input, h3_of, au_for, au_sent}
use Rattle.sdh_terminal.specs.Receiving.{pointer_word, pointer_word_at}
use Rattle.sdh_terminal.specs.Lines.{line_on, received}
use Rattle.sdh_node.specs.Node.{Node, receiving_on, sending_on}
use Rattle.sdh_node.specs.Rings.Held.{node_at, AtEach}
use Rattle.sdh_node.specs.Rings.Rounds.{World, round}
use Rattle.sdh_rounds.specs.Rounds as any_round
use Rattle.sdh_rounds.proofs.Terms.{terms}
use Rattle.sdh_laws.specs.Hearing.Signalling.{lines_at}
use Rattle.sdh_laws.specs.Hearing.Laws.{IsWhole}
use Rattle.sdh_laws.proofs.hearing.Nodes.{count}
use Rattle.sdh_laws.proofs.hearing.Rounds.{reads, neighbour_inside, whole_round}
use Rattle.sdh_laws.specs.Carrying.Windows.{layout_of, slots_of, value_at, sent_at}
use Rattle.sdh_spans.specs.Spans.{TakesWord}
use Rattle.sdh_laws.proofs.carrying.Spans.{state_at, au_left, generator_step, takes_read}
use Rattle.sdh_spans.proofs.Sends.{word_in_au}
use Rattle.sdh_laws.proofs.carrying.Connections.{sends_working}
use Rattle.sdh_signal.specs.Walks.{port, port_at, stands_in}
use Rattle.sdh_signal.proofs.Views.{AreOnRing, arc_length, holds}
use Rattle.sdh_signal.proofs.Seen.{Seen}
use Rattle.sdh_signal.proofs.Sights.{found-gives}
use Rattle.sdh_signal.proofs.OnArcs.{near_at, near_end, seen-on}
use Rattle.sdh_signal.proofs.Passing.{open-stands, leaves-on, leaves-own}
use Rattle.sdh_signal.specs.Law.{is_open}
use Rattle.sdh_laws.proofs.strangers.Nodes.{starts_at}
use Rattle.sdh_laws.specs.Strangers.Untouched.{AsksNothingOnArc}
use Rattle.sdh_laws.proofs.strangers.Unasked as unasked
use Rattle.sdh_laws.proofs.strangers.Unasked.{AllUntroubled, untroubled_round}
use Rattle.sdh_laws.proofs.strangers.Slipping.{IsSource, value_in_round, does, state, said, Follows, spreads, does_before, down_back}
use Rattle.sdh_laws.proofs.strangers.Slipping.{down_form, not_ais}
use Rattle.sdh_laws.proofs.strangers.Arrivals.{lost, silent_first, au_received}

-- ---- the spans of an arc

same_row : (i j : ℕ) (c b : Provisioned) → ◌≡◌ {A = Option Row} (Some (entry i c)) (Some (entry j b)) → i ≡ j
same_row i j c b e = let r : entry i c ≡ entry j b = cc in ap (λ (x : Row). x.circuit) r

same_some : (b c : Provisioned) → Some b ≡ Some c → b ≡ c
same_some b c e = cc

pub held_by : (n s m i : ℕ) (cs : List Provisioned) (c : Provisioned) → slice_get cs i ≡ Some c → circuit_from n s m 0 cs ≡ Some (entry i c)
    → holds n c s ≡ true
held_by n s m i cs c get e =
    let f = found-gives n s m 0 cs (entry i c) e in
    let place : i ≡ 0 + f.place = same_row i (0 + f.place) c f.circuit (ap Some f.row) in
    let at : slice_get cs f.place ≡ Some c = ap (slice_get cs) {x = f.place} {y = i} (omega arith) ∙ get in
    let same : f.circuit ≡ c = same_some f.circuit c (sym f.is ∙ at) in
    ap (λ (x : Provisioned). holds n x s) (sym same) ∙ (and_parts (f.circuit.slot.0 == m) (holds n f.circuit s) f.on).1

-- the port from which a circuit leads on side d
pub first_at : (n : ℕ) (cs : List Provisioned) → AreOnRing n cs → (i : ℕ) (c : Provisioned) → slice_get cs i ≡ Some c → (d : Side)
    → port_at c (near_end d) ≡ going n d (near_at n c d) 0
first_at n cs ring i c get East = starts_at n cs ring i c get A
first_at n cs ring i c get West = starts_at n cs ring i c get B

-- ---- what comes over k spans

payload_for : (x : Action) (f : Form) (w : ℕ) (a : Au) → x ≢ action.Ais → (au_for x f w a).payload ≡ a.payload
payload_for action.Ais f w a h = absurd (h refl)
payload_for action.Normal f w a h = refl
payload_for action.New f w a h = refl
payload_for action.Up f w a h = refl
payload_for action.Down f w a h = refl

payload_sent : (s : Option ℕ) (i : Input) → i.action ≢ action.Ais → (au_sent s i).payload ≡ i.au.payload
unfolding au_sent
payload_sent s i h = payload_for i.action (form_sent s i.action i.value) (word_sent s i.action i.value) i.au h

h3_by : (x : Action) (f : Form) (w : ℕ) (a : Au) → x ≡ action.Down → f ≡ form.Down → h3_of (au_for x f w a).pointers ≡ h3_of a.pointers
h3_by x f w a e g = ap₂ (λ y h. h3_of (au_for y h w a).pointers) e g

h3_kept : (s : Option ℕ) (i : Input) → i.action ≡ action.Down → form_sent s i.action i.value ≡ form.Down
    → h3_of (au_sent s i).pointers ≡ h3_of i.au.pointers
unfolding au_sent
h3_kept s i e g = h3_by i.action (form_sent s i.action i.value) (word_sent s i.action i.value) i.au e g

module _ (i : ℕ) (c : Provisioned) (d : Side) (clock : ℕ → Clock) (source : IsSource clock) where
  abbrev m : ℕ
  m = c.slot.0

  -- what the port sends in round r
  abbrev pub sent : ℕ → Au
  sent r = (input_by (sent_in (record { port = customer_at c (near_end d); clock = clock r }))).au

  -- k spans on, in round t: AIS until the stream has come there, and then what was sent k rounds before
  pub record HasCome (k t : ℕ) (x : Input) : Type 0 where
    pub acts : x.action ≡ does clock source k t
    pub value : k ≤ t → x.value ≡ value_in_round clock source (t - k)
    pub payload : k ≤ t → x.au.payload ≡ (sent (t - k)).payload
    pub h3 : k ≤ t → x.action ≡ action.Down → h3_of x.au.pointers ≡ h3_of (sent (t - k)).pointers

  -- a node of a ring of n after t rounds
  pub record IsTuned (n t p : ℕ) (y : Node) : Type 0 where
    pub sends : (k : ℕ) → k < arc_length n c → p ≡ going n d (near_at n c d) k
        → get_or (sending_on d y).generators (m - 1) None ≡ state clock source k t
    pub reads : (k : ℕ) → k < arc_length n c → p ≡ going n d (near_at n c d) (suc k)
        → Follows clock source (k + 1) t (get_or (receiving_on (opposite d) y).readings (m - 1) start)

  -- the frame that was sent in round r over the span of step k
  pub record IsOnWay (n r k : ℕ) (a : Au) : Type 0 where
    pub word : pointer_word a.pointers ≡ said clock source k r
    pub payload : k ≤ r → a.payload ≡ (sent (r - k)).payload
    pub h3 : k ≤ r → does clock source k r ≡ action.Down → h3_of a.pointers ≡ h3_of (sent (r - k)).pointers

  pub record IsUndisturbed (w : World) : Type 0 where
    pub whole : IsWhole w
    pub get : slice_get w.ring.circuits.circuits i ≡ Some c
    pub ring : AreOnRing (length w.ring.ids) w.ring.circuits.circuits
    pub slot : IsInSlots (slots_of (layout_of w)) c
    pub tuned : AtEach (IsTuned (length w.ring.ids) w.ring.rounds) w.ring.nodes
    pub untroubled : AllUntroubled c w
    pub frames : (k r : ℕ) (line : List ℕ) → k < arc_length (length w.ring.ids) c → w.ring.rounds ≡ r + 1
        → carried_on w.fibres (fibre (going (length w.ring.ids) d (near_at (length w.ring.ids) c d) k) d) ≡ Some line
        → IsOnWay (length w.ring.ids) r k (au_of (n_of w.ring.settings.rate) m (scrambled (9 * n_of w.ring.settings.rate) line))

  module _ (w : World) (u : IsUndisturbed w) (asks : AsksNothingOnArc (round w) c)
      (own : HasCome 0 w.ring.rounds (value_at w (going (length w.ring.ids) d (near_at (length w.ring.ids) c d) 0) m
      (port i (near_end d)))) where
    open terms w use {n, t, cs, rate}

    abbrev many : ℕ
    many = arc_length n c

    abbrev at : ℕ → ℕ
    at k = going n d (near_at n c d) k

    whole : IsWhole w
    whole = u.whole

    seen : Seen n cs i c d (near_at n c d) (near_end d) (other_end (near_end d))
    seen = seen-on n cs u.ring i c u.get d

    some : 0 < n
    some = let s = seen.short in omega arith

    inside : (k : ℕ) → at k < n
    inside k = going-inside n some d (near_at n c d) k

    there : (k : ℕ) → at k < length w.ring.nodes
    there k = omega (arith, count w whole.placed, inside k)

    -- the spans of both sides
    ahead : (k : ℕ) → k < many → circuit_from n (span_at n (at k) d) m 0 cs ≡ Some (entry i c)
    ahead k h = seen.on_arc k h

    held_ahead : (k : ℕ) → k < many → holds n c (span_at n (at k) d) ≡ true
    held_ahead k h = held_by n (span_at n (at k) d) m i cs c u.get (ahead k h)

    held_behind : (k : ℕ) → k < many → holds n c (span_at n (at (suc k)) (opposite d)) ≡ true
    held_behind k h = ap (holds n c) (way-behind n some d (near_at n c d) k) ∙ held_ahead k h

    -- ---- signalling at a side of the arc

    open_here : (p : ℕ) (e : Side) → p < length w.ring.nodes → holds n c (span_at n p e) ≡ true
        → is_open (node_at (round w).ring.nodes p).state e ≡ true
    open_here p e h held = unasked.open_here c w whole u.untroubled asks p e h held

    kept_here : (p : ℕ) (e : Side) (h : p < length w.ring.nodes) → holds n c (span_at n p e) ≡ true → 0 < t → lost w whole p h e ≡ false
    kept_here p e h held ran = unasked.kept_here c w whole u.untroubled asks p e h held ran

    -- ---- what comes

    au_low : 1 ≤ m
    au_low = u.slot.from_1

    au_high : m ≤ n_of rate
    au_high = let s = u.slot.small in omega arith

    back_is : m - 1 + 1 ≡ m
    back_is = omega arith

    -- the frame that comes to step k + 1 in a later round
    on_way : (k r : ℕ) → k < many → t ≡ r + 1 → IsOnWay n r k
        (au_of (n_of rate) m (line_on (lines_at w (at (suc k))) (opposite d)).intake.frame.bytes)
    on_way k r h ran =
        let p = at (suc k) in
        let e = opposite d in
        let q = neighbour n p e in
        let from : q ≡ at k = going-back n some d (near_at n c d) k in
        let side : opposite e ≡ d = opposite_twice d in
        let later : 0 < t = omega arith in
        let kept = kept_here p e (there (suc k)) (held_behind k h) later in
        let carried = (whole.paired.carried q (neighbour_inside w whole p e)).frames (opposite e) later in
        let line = carried.line in
        let here : carried_on w.fibres (fibre (at k) d) ≡ Some line =
        ap₂ (λ x y. carried_on w.fibres (fibre x y)) (sym from) (sym side) ∙ carried.there in
        subst (IsOnWay n r k) (sym ((reads w whole p e (there (suc k))).aus later kept line carried.there m au_low au_high))
        (u.frames k r line h ran here)

    came_first : (k : ℕ) → t ≡ 0 → HasCome (k + 1) t (received (lines_at w (at (suc k))) (opposite d) m)
    came_first k e = record {
      acts =
          silent_first w whole (at (suc k)) (there (suc k)) (opposite d) m au_low au_high e
          ∙ sym (does_before clock source (k + 1) t (omega arith));
      value = λ late. absurd (omega arith);
      payload = λ late. absurd (omega arith);
      h3 = λ late. absurd (omega arith);
    }

    module _ (k r : ℕ) (h : k < many) (ran : t ≡ r + 1) where
      later : 0 < t
      later = omega arith

      abbrev here : ℕ
      here = at (suc k)

      abbrev side : Side
      side = opposite d

      takes : TakesWord (get_or (receiving_on side (node_at w.ring.nodes here)).readings (m - 1) start)
          (get_or (receiving_on side (node_at (round w).ring.nodes here)).readings (m - 1) start)
          (received (lines_at w here) side (m - 1 + 1))
          (pointer_word_at (n_of rate) (line_on (lines_at w here) side).intake.frame.bytes (m - 1 + 1))
      takes = takes_read w whole later here side (there (suc k)) (m - 1) (omega (arith, au_high, au_low))

      word_taken : pointer_word_at (n_of rate) (line_on (lines_at w here) side).intake.frame.bytes (m - 1 + 1) ≡ said clock source k r
      word_taken = ap (pointer_word_at (n_of rate) (line_on (lines_at w here) side).intake.frame.bytes) back_is ∙ (on_way k r h ran).word

      abbrev old : Reading
      old = get_or (receiving_on side (node_at w.ring.nodes here)).readings (m - 1) start

      old_follows : Follows clock source (k + 1) (r + 1) old
      old_follows = subst (λ x. Follows clock source (k + 1) x old) ran ((u.tuned here (there (suc k))).reads k h refl)

      new_follows : Follows clock source (k + 1) (r + 2) (get_or (receiving_on side (node_at (round w).ring.nodes here)).readings
          (m - 1) start)
      new_follows =
          subst (Follows clock source (k + 1) (r + 2)) (sym (takes.reading ∙ ap (after_word old) word_taken))
          ((spreads clock source k r).reading old old_follows)

      acts_later : (received (lines_at w here) side m).action ≡ does clock source (k + 1) t
      acts_later =
          ap (λ a. (received (lines_at w here) side a).action) (sym back_is) ∙ takes.action ∙ ap (action_on old) word_taken
          ∙ (spreads clock source k r).action old old_follows ∙ ap (does clock source (k + 1)) (sym ran)

      came_later : HasCome (k + 1) t (received (lines_at w here) side m)
      came_later = record {
        acts = acts_later;
        value =
            λ late. ap (λ a. (received (lines_at w here) side a).value) (sym back_is) ∙ takes.value ∙ new_follows.value_is (omega arith)
            ∙ ap (value_in_round clock source) {x = r + 2 - 1 - (k + 1)} {y = t - (k + 1)} (omega arith);
        payload =
            λ late. ap (λ (a : Au). a.payload) (au_received w whole here (there (suc k)) side m later)
            ∙ (on_way k r h ran).payload (omega arith) ∙ ap (λ x. (sent x).payload) {x = r - k} {y = t - (k + 1)} (omega arith);
        h3 = λ late down. ap (λ (a : Au). h3_of a.pointers) (au_received w whole here (there (suc k)) side m later)
            ∙ (on_way k r h ran).h3 (omega arith) (down_back clock source k r
            (ap (does clock source (k + 1)) (sym ran) ∙ sym acts_later ∙ down)) ∙ ap (λ x. h3_of (sent x).pointers) {x = r - k} {y =
            t - (k + 1)} (omega arith);
      }

    came : (k : ℕ) → k < many → HasCome (k + 1) t (received (lines_at w (at (suc k))) (opposite d) m)
    came k h = elim (cases_lt 0 t) [
      | inr none ↦ came_first k (omega arith)
      | inl some ↦ came_later k (t - 1) h (omega arith)
    ]

    reading_next : (k : ℕ) → k < many → Follows clock source (k + 1) (t + 1)
        (get_or (receiving_on (opposite d) (node_at (round w).ring.nodes (at (suc k)))).readings (m - 1) start)
    reading_next k h = elim (cases_lt 0 t) [
      | inr none ↦ (
          let zero_rounds : t ≡ 0 = omega arith in
          record {
            before =
                λ z. ap (λ l. get_or l (m - 1) start) ((reads w whole (at (suc k)) (opposite d) (there (suc k))).idle zero_rounds)
                ∙ ((u.tuned (at (suc k)) (there (suc k))).reads k h refl).before (omega arith);
            mode_is = λ z. absurd (omega arith);
            value_is = λ z. absurd (omega arith);
            since_is = λ z. absurd (omega arith);
          })
      | inl some ↦ subst (λ x. Follows clock source (k + 1) x
          (get_or (receiving_on (opposite d) (node_at (round w).ring.nodes (at (suc k)))).readings (m - 1) start)) {x = t - 1 + 2} {y =
          t + 1} (omega arith) (new_follows k (t - 1) h (omega arith))
    ]

    -- ---- what goes

    small_slot : m ≤ slots_of (layout_of w)
    small_slot = u.slot.small

    abbrev st : ℕ → NodeState
    st k = (node_at (round w).ring.nodes (at k)).state

    goes : (k : ℕ) → k < many → HasCome k t (sent_at w (at k) d m)
    goes zero h =
        let o =
        leaves-own n cs (at 0) (st 0) i c (near_end d) d d m (ahead 0 h) (open_here (at 0) d (there 0) (held_ahead 0 h)) seen.starts in
        subst (HasCome 0 t) (sym (sends_working w whole (at 0) m d (st 0) (inside 0) small_slot refl ∙ ap (value_at w (at 0) m) o)) own
    goes (suc k) h =
        let p = at (suc k) in
        let o = leaves-on n cs p (st (suc k)) i c d m (ahead (suc k) h) (seen.passes_by (suc k) (omega arith) h)
        ∙ open-stands n cs p (st (suc k)) (opposite d) m (open_here p (opposite d) (there (suc k)) (held_behind k (omega arith))) in
        subst (HasCome (suc k) t) (sym (sends_working w whole p m d (st (suc k)) (inside (suc k)) small_slot refl ∙ ap (value_at w p m) o))
        (subst (λ j. HasCome j t (received (lines_at w p) (opposite d) m)) {x = k + 1} {y = suc k} (omega arith) (came k (omega arith)))

    goes_at : (k : ℕ) → k < many → HasCome k t (sent_at w (at k) d (m - 1 + 1))
    goes_at k h = subst (λ a. HasCome k t (sent_at w (at k) d a)) (sym back_is) (goes k h)

    sending_next : (k : ℕ) → k < many → get_or (sending_on d (node_at (round w).ring.nodes (at k))).generators (m - 1) None
        ≡ state clock source k (t + 1)
    sending_next k h =
        let g = goes_at k h in
        generator_step w whole (at k) d (there k) (m - 1) (omega (arith, au_high, au_low))
        ∙ ap₂ (λ s a. next_sending s a (sent_at w (at k) d (m - 1 + 1)).value) ((u.tuned (at k) (there k)).sends k h refl) g.acts
        ∙ (spreads clock source k t).sending (sent_at w (at k) d (m - 1 + 1)).value g.value

    frame_next : (k : ℕ) (line : List ℕ) → k < many → carried_on (round w).fibres (fibre (at k) d) ≡ Some line
        → IsOnWay n t k (au_of (n_of rate) m (scrambled (9 * n_of rate) line))
    frame_next k line h there_line =
        let g = goes_at k h in
        let x = sent_at w (at k) d (m - 1 + 1) in
        let gen = state_at w whole (at k) d (there k) (m - 1) in
        let now : gen ≡ state clock source k t = (u.tuned (at k) (there k)).sends k h refl in
        let au : au_of (n_of rate) m (scrambled (9 * n_of rate) line) ≡ au_sent gen x =
        ap (λ a. au_of (n_of rate) a (scrambled (9 * n_of rate) line)) (sym back_is)
        ∙ au_left w whole (at k) d (there k) line there_line (m - 1) (omega (arith, au_high, au_low)) in
        subst (IsOnWay n t k) (sym au) (record {
          word = word_in_au gen x ∙ ap₂ (λ s a. word_sent s a x.value) now g.acts ∙ (spreads clock source k t).word x.value g.value;
          payload = λ late. payload_sent gen x (λ z. not_ais clock source k t late (sym g.acts ∙ z)) ∙ g.payload late;
          h3 =
              λ late down. h3_kept gen x (g.acts ∙ down) (ap₂ (λ s a. form_sent s a x.value) now g.acts
              ∙ down_form clock source k t x.value down (g.value late)) ∙ g.h3 late (g.acts ∙ down);
        })

    -- ---- what the port at the other end is given

    pub arrives : HasCome many t (value_at w (at many) m (stands_in n cs (at many) (st many) (opposite d) m))
    arrives =
        let last = many - 1 in
        let long = seen.long in
        let one : suc last ≡ many = omega arith in
        let more : last + 1 ≡ many = omega arith in
        let o : stands_in n cs (at (suc last)) (st (suc last)) (opposite d) m ≡ Working (opposite d) =
        open-stands n cs (at (suc last)) (st (suc last)) (opposite d) m
        (open_here (at (suc last)) (opposite d) (there (suc last)) (held_behind last (omega arith))) in
        subst (λ k. HasCome many t (value_at w (at k) m (stands_in n cs (at k) (st k) (opposite d) m))) one
        (subst (HasCome many t) (sym (ap (value_at w (at (suc last)) m) o))
        (subst (λ j. HasCome j t (received (lines_at w (at (suc last))) (opposite d) m)) more (came last (omega arith))))

    -- ---- after the round

    pub undisturbed_round : IsUndisturbed (round w)
    unfolding any_round.round any_round.round_with
    undisturbed_round = record {
      whole = whole_round w whole;
      get = u.get;
      ring = u.ring;
      slot = u.slot;
      tuned = λ p h. record {
        sends =
            λ k few is. ap (λ q. get_or (sending_on d (node_at (round w).ring.nodes q)).generators (m - 1) None) is ∙ sending_next k few;
        reads =
            λ k few is. subst (λ q. Follows clock source (k + 1) (t + 1)
            (get_or (receiving_on (opposite d) (node_at (round w).ring.nodes q)).readings (m - 1) start)) (sym is) (reading_next k few);
      };
      untroubled = untroubled_round c w whole u.untroubled asks;
      frames = λ k r line few ran is. (let now : t ≡ r = omega arith in
          subst (λ j. IsOnWay n j k (au_of (n_of rate) m (scrambled (9 * n_of rate) line))) now (frame_next k line few is));
    }
