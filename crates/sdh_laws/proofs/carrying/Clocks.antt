-- In calm rounds a port sends 2349 bytes, wherever it fills an AU-4: a justification would move its generator.
use Rattle.std.proofs.Common.{◌≡◌, ℕ, ◌+◌, ◌-◌, ◌<◌, ◌≤◌, true, length, get_or, Option, Some, None, refl, ap, sym, ◌∙◌, subst, arith}
use Rattle.std.specs.Option.{option_map_or}
use Rattle.sdh_ringmap.specs.Rates.{n_of}
use Rattle.sdh_ringmap.specs.declared.Side.{Side}
use Rattle.sdh_circuits.specs.declared.PortId.{PortId}
use Rattle.sdh_payload.specs.declared.chunk.ChunkForm.{ChunkForm}
use Rattle.sdh_payload.specs.declared.chunk.ChunkForm.TheVariants.{Plain, Short, Long}
use Rattle.sdh_payload.specs.Clock.{Clock, next_form, after_form, ticked}
use Rattle.sdh_pointer.specs.Laws.{lasting_state}
use Rattle.sdh_pointer.specs.Sending.{next_sending}
use Rattle.sdh_pointer.proofs.Sent.{next_by_action}
use Rattle.sdh_bridge.specs.declared.Origin.TheVariants.{Add}
use Rattle.sdh_terminal.specs.Passing.{Input, no_input}
use Rattle.sdh_terminal.specs.Tributaries.{Tributary, action_of, sent_by, sent_in, input_by, port_of}
use Rattle.sdh_node.specs.Node.{Node, sending_on}
use Rattle.sdh_node.specs.Rings.Held.{node_at}
use Rattle.sdh_node.specs.Rings.Rounds.{World, round}
use Rattle.sdh_node.specs.Rings.Quiet.{is_calm}
use Rattle.sdh_node.proofs.RingLaws.Clocks.{clock_of, Follows, node_next}
use Rattle.sdh_laws.specs.Hearing.Laws.{IsWhole}
use Rattle.sdh_laws.proofs.hearing.Nodes.{informed, nodes_after, length-after}
use Rattle.sdh_laws.proofs.hearing.Rounds.{whole_round}
use Rattle.sdh_laws.proofs.hearing.Signalling.{same_there}
use Rattle.sdh_laws.specs.Carrying.Windows.{value_at, sent_at}
use Rattle.sdh_laws.proofs.carrying.Spans.{generator_step, generators_on}
use Rattle.sdh_rounds.specs.Rounds as any_round

-- ---- a clock

value_moves : (f : ChunkForm) (c : Clock) → (after_form f c).value ≡ c.value → f ≡ Plain
value_moves Plain c same = refl
value_moves Short c same = absurd (omega (arith, same))
value_moves Long c same = absurd (omega (arith, same))

-- a clock that keeps its value sends 2349 bytes
plain_by_value : (c : Clock) → (ticked c).value ≡ c.value → next_form c ≡ Plain
unfolding ticked
plain_by_value c same = value_moves (next_form c) c same

-- ---- a generator

pub lasts : (f : ChunkForm) (v : ℕ) → lasting_state (action_of f) v ≡ Some v
lasts Plain v = refl
lasts Short v = refl
lasts Long v = refl

-- a port leads its generator to the pointer value after the round
leads_to : (s : Option ℕ) (t : Tributary) → next_sending s (input_by (sent_in t.feed)).action (input_by (sent_in t.feed)).value
    ≡ Some (ticked t.feed.clock).value
unfolding sent_by
leads_to s t = let c = ticked t.feed.clock in next_by_action s (action_of c.form) c.value ∙ lasts c.form c.value

-- a generator that no port feeds goes to AIS
ends_silent : (s : Option ℕ) → next_sending s no_input.action no_input.value ≡ None
ends_silent s = next_by_action s no_input.action no_input.value

apart : (v : ℕ) → None ≡ Some v → ⊥
apart v e = cc

same_some : (v x : ℕ) → Some v ≡ Some x → v ≡ x
same_some v x e = cc

-- ---- a port at a node

-- the port of this name at position q, if it is there
abbrev pub port_there : World → ℕ → PortId → Option Tributary
port_there v q id = port_of id (node_at v.ring.nodes q).ports

-- the form of the chunk that a port at position q sends in the round that begins with v
abbrev pub form_there : World → ℕ → PortId → ChunkForm
form_there v q id = next_form (clock_of (port_there v q id))

abbrev brings_port : Option Tributary → Input
brings_port o = option_map_or (λ (t : Tributary). input_by (sent_in t.feed)) o no_input

-- a port that fills an AU-4 in two rounds, the second of them calm
module _ (v : World) (whole : IsWhole v) (q : ℕ) (d : Side) (au m : ℕ) (id : PortId) (h : q < length v.ring.nodes) (low : 1 ≤ au)
    (high : au ≤ n_of v.ring.settings.rate)
    (first : sent_at v q d au ≡ value_at v q m (Add id)) (second : sent_at (round v) q d au ≡ value_at (round v) q m (Add id))
    (calm : is_calm (round (round v)).ring.nodes ≡ true) where
  abbrev k : ℕ
  k = au - 1

  back : k + 1 ≡ au
  back = omega arith

  abbrev u : World
  u = round v

  inside : q < length u.ring.nodes
  inside = omega (arith, length-after v)

  same_rate : n_of u.ring.settings.rate ≡ n_of v.ring.settings.rate
  unfolding any_round.round any_round.round_with
  same_rate = refl

  abbrev state_of : World → Option ℕ
  state_of w = get_or (sending_on d (node_at w.ring.nodes q)).generators k None

  first_step : state_of u ≡ next_sending (state_of v) (brings_port (port_there v q id)).action (brings_port (port_there v q id)).value
  first_step =
      generator_step v whole q d h k (omega arith) ∙ ap (λ a. next_sending (state_of v) (sent_at v q d a).action
      (sent_at v q d a).value) back ∙ ap (λ (i : Input). next_sending (state_of v) i.action i.value) first

  second_step : state_of (round u) ≡ next_sending (state_of u) (brings_port (port_there u q id)).action
      (brings_port (port_there u q id)).value
  second_step =
      generator_step u (whole_round v whole) q d inside k (omega (arith, same_rate))
      ∙ ap (λ a. next_sending (state_of u) (sent_at u q d a).action (sent_at u q d a).value) back
      ∙ ap (λ (i : Input). next_sending (state_of u) i.action i.value) second

  stays : state_of (round u) ≡ state_of u
  stays =
      ap (λ l. get_or l k None) (generators_on d (node_at (round u).ring.nodes q) (node_at u.ring.nodes q)
      (same_there u (whole_round v whole) calm q inside))

  follows : Follows ticked (port_there v q id) (port_there u q id)
  follows =
      subst (λ (y : Node). Follows ticked (port_there v q id) (port_of id y.ports)) (sym (nodes_after v whole.placed q h))
      (node_next id v.ring.moment (informed v q))

  by_found : (a b : Option Tributary) → port_there v q id ≡ a → port_there u q id ≡ b → Follows ticked a b → next_form (clock_of b) ≡ Plain
  by_found a None ea eb goes = refl
  by_found None (Some t) ea eb goes =
      let was : state_of u ≡ None =
      first_step ∙ ap (λ o. next_sending (state_of v) (brings_port o).action (brings_port o).value) ea ∙ ends_silent (state_of v) in
      let is : state_of (round u) ≡ Some (ticked t.feed.clock).value =
      second_step ∙ ap (λ o. next_sending (state_of u) (brings_port o).action (brings_port o).value) eb ∙ leads_to (state_of u) t in
      absurd (apart (ticked t.feed.clock).value (sym was ∙ sym stays ∙ is))
  by_found (Some s) (Some t) ea eb goes =
      let was : state_of u ≡ Some (ticked s.feed.clock).value =
      first_step ∙ ap (λ o. next_sending (state_of v) (brings_port o).action (brings_port o).value) ea ∙ leads_to (state_of v) s in
      let is : state_of (round u) ≡ Some (ticked t.feed.clock).value =
      second_step ∙ ap (λ o. next_sending (state_of u) (brings_port o).action (brings_port o).value) eb ∙ leads_to (state_of u) t in
      let on : t.feed.clock ≡ ticked s.feed.clock = (goes refl).1 in
      let same : (ticked t.feed.clock).value ≡ (ticked s.feed.clock).value = same_some _ _ (sym is ∙ stays ∙ was) in
      plain_by_value t.feed.clock (same ∙ ap (λ (c : Clock). c.value) (sym on))

  pub goes_plain : form_there u q id ≡ Plain
  goes_plain = by_found (port_there v q id) (port_there u q id) refl refl follows
