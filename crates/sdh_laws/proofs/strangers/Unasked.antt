-- A circuit on whose arc nothing is asked: no side is switched there, and no word asks for a switch over these spans.
use Rattle.std.proofs.Common.{◌≡◌, ℕ, ◌<◌, Bool, true, false, length, Some, refl, ap, sym, ◌∙◌, subst, arith}
use Rattle.std.specs.Prelude.{if◌then◌else◌}
use Rattle.sdh_kbytes.specs.declared.K.{K}
use Rattle.sdh_ringmap.specs.declared.terms.Code.TheVariants.{Nr}
use Rattle.sdh_ringmap.specs.Places.{opposite, neighbour, span_at}
use Rattle.sdh_ringmap.specs.declared.Side.{Side}
use Rattle.sdh_ringmap.specs.declared.Side.TheVariants.{West, East}
use Rattle.sdh_circuits.specs.Provisioned.{Provisioned}
use Rattle.sdh_nodestate.specs.Rules.{Scene, word_on, local, word, state_after}
use Rattle.sdh_restoration.specs.Changes.{Change, Fibre, Order, Hold, Slip, Now}
use Rattle.sdh_node.specs.Node.{Node, receiving_on, sending_on, is_held, last_word_on, at_receiving, held_for, slips_at}
use Rattle.sdh_node.specs.Receiving.{commanded_by}
use Rattle.sdh_node.proofs.Decided.{scene_in, state_is, word_is}
use Rattle.sdh_node.specs.Rings.Changes.{changed}
use Rattle.sdh_node.specs.Rings.Held.{node_at, AtEach, place_of_port}
use Rattle.sdh_node.specs.Rings.Rounds.{World, round}
use Rattle.sdh_rounds.specs.Rounds as any_round
use Rattle.sdh_signal.specs.Law.{is_open}
use Rattle.sdh_signal.proofs.Views.{holds}
use Rattle.sdh_laws.specs.Hearing.Laws.{IsWhole}
use Rattle.sdh_laws.specs.Strangers.Untouched.{AsksNothingOnArc}
use Rattle.sdh_laws.proofs.hearing.Changes.{each_at_place, sending_commanded, held_leaves, slips_leave}
use Rattle.sdh_laws.proofs.hearing.Nodes.{informed, informed_out, count, nodes_after, length-after}
use Rattle.sdh_laws.proofs.hearing.Rounds.{neighbour_inside, next_node, clear_where_it_works}
use Rattle.sdh_laws.proofs.carrying.Applied.{node_asks}
use Rattle.sdh_laws.proofs.strangers.Asking.{Harmless, stays_open, word_harmless, none_asked}
use Rattle.sdh_laws.proofs.strangers.Arrivals.{span_across, lost, heard_came}

local_is : (y : Node) (e : Side) → local (scene_in y) e ≡ (receiving_on e y).request
unfolding scene_in
local_is y West = refl
local_is y East = refl

-- a free node whose side asks for nothing says nothing that asks there
pub says_nothing : (w : World) (whole : IsWhole w) (p : ℕ) (e : Side) → p < length w.ring.nodes → is_held (node_at w.ring.nodes p) ≡ false
    → (receiving_on e (node_at (round w).ring.nodes p)).request ≡ Nr → Harmless (last_word_on e (node_at (round w).ring.nodes p))
says_nothing w whole p e h free none =
    let s = scene_in (next_node w whole p) in
    subst Harmless
    (sym (ap (last_word_on e) (nodes_after w whole.placed p h) ∙ word_is w.ring.moment (informed w p) e
    ∙ ap (λ b. if b then last_word_on e (informed w p) else word s e) free))
    (word_harmless s e (local_is (next_node w whole p) e ∙ ap (λ y. (receiving_on e y).request) (sym (nodes_after w whole.placed p h)) ∙ none))

module _ (c : Provisioned) where
  -- at place p of a ring of n, on the sides towards the spans of the arc
  pub record IsUntroubled (n p : ℕ) (y : Node) : Type 0 where
    pub words : (e : Side) → holds n c (span_at n p e) ≡ true → Harmless (last_word_on e y)
    pub open_sides : (e : Side) → holds n c (span_at n p e) ≡ true → is_open y.state e ≡ true

  abbrev pub AllUntroubled : World → Type 0
  AllUntroubled w = AtEach (IsUntroubled (length w.ring.ids)) w.ring.nodes

  module _ (w : World) (whole : IsWhole w) (u : AllUntroubled w) (asks : AsksNothingOnArc (round w) c) where
    abbrev n : ℕ
    n = length w.ring.ids

    module _ (p : ℕ) (e : Side) (h : p < length w.ring.nodes) (held : holds n c (span_at n p e) ≡ true) where
      low : p < n
      low = omega (arith, count w whole.placed)

      abbrev next : Node
      next = next_node w whole p

      abbrev s : Scene
      s = scene_in next

      -- the side asks for nothing in the round
      asked_here : (receiving_on e (node_at (round w).ring.nodes p)).request ≡ Nr
      unfolding any_round.round any_round.round_with
      asked_here = asks p e low held

      none : local s e ≡ Nr
      none = local_is next e ∙ ap (λ y. (receiving_on e y).request) (sym (nodes_after w whole.placed p h)) ∙ asked_here

      abbrev back : ℕ
      back = neighbour n p e

      heard : (k : K) → word_on s e ≡ Some k → Harmless k
      heard k f =
          subst Harmless (heard_came w whole p h e k f).is
          ((u back (neighbour_inside w whole p e)).words (opposite e) (ap (holds n c) (span_across n p e low) ∙ held))

      -- a node whose turn is held keeps its state and its words
      open_by_turn : (b : Bool) → is_open (if b then (informed w p).state else state_after s) e ≡ true
      open_by_turn true = (u p h).open_sides e held
      open_by_turn false = stays_open s e none heard

      word_by_turn : (b : Bool) → Harmless (if b then last_word_on e (informed w p) else word s e)
      word_by_turn true = subst (λ x. Harmless x.word) (sym (informed_out w p e)) ((u p h).words e held)
      word_by_turn false = word_harmless s e none

      pub open_here : is_open (node_at (round w).ring.nodes p).state e ≡ true
      open_here =
          ap (λ (y : Node). is_open y.state e) (nodes_after w whole.placed p h)
          ∙ ap (λ y. is_open y e) (state_is w.ring.moment (informed w p))
          ∙ open_by_turn (is_held (node_at w.ring.nodes p))

      pub word_here : Harmless (last_word_on e (node_at (round w).ring.nodes p))
      word_here =
          subst Harmless (sym (ap (last_word_on e) (nodes_after w whole.placed p h) ∙ word_is w.ring.moment (informed w p) e))
          (word_by_turn (is_held (node_at w.ring.nodes p)))

      pub kept_here : 0 < w.ring.rounds → lost w whole p h e ≡ false
      kept_here ran = clear_where_it_works w whole p e ran h (none_asked _ _ asked_here (node_asks w whole p e h))

    pub untroubled_round : AllUntroubled (round w)
    unfolding any_round.round any_round.round_with
    untroubled_round = λ p h. record {
      words = λ e held. word_here p e (omega (arith, length-after w)) held;
      open_sides = λ e held. open_here p e (omega (arith, length-after w)) held;
    }

  -- ---- changes

  untroubled_left : (f : Node → Node) → ((e : Side) (y : Node) → sending_on e (f y) ≡ sending_on e y) → ((y : Node) → (f y).state ≡ y.state)
      → (n q : ℕ) (y : Node) → IsUntroubled n q y → IsUntroubled n q (f y)
  untroubled_left f sendings states n q y h = record {
    words = λ e held. subst (λ x. Harmless x.word) (sym (sendings e y)) (h.words e held);
    open_sides = λ e held. ap (λ z. is_open z e) (states y) ∙ h.open_sides e held;
  }

  pub untroubled_changed : (x : Change) (w : World) → AllUntroubled w → AllUntroubled (changed x w)
  unfolding changed
  untroubled_changed (Fibre p e condition) w u = u
  untroubled_changed (Order p e x) w u =
      each_at_place (IsUntroubled (length w.ring.ids)) (at_receiving e (commanded_by x))
      (λ q y h. untroubled_left (at_receiving e (commanded_by x)) (λ g z. sending_commanded e g x z) (λ z. refl) (length w.ring.ids) q y h) p
      w.ring.nodes u
  untroubled_changed (Hold p turns) w u =
      each_at_place (IsUntroubled (length w.ring.ids)) (held_for turns)
      (λ q y h. untroubled_left (held_for turns) (held_leaves turns).sending (λ z. refl) (length w.ring.ids) q y h) p w.ring.nodes u
  untroubled_changed (Slip id turn count) w u =
      each_at_place (IsUntroubled (length w.ring.ids)) (slips_at id turn count)
      (λ q y h. untroubled_left (slips_at id turn count) (slips_leave id turn count).sending (λ z. refl) (length w.ring.ids) q y h)
      (place_of_port w.ring id) w.ring.nodes u
  untroubled_changed (Now t) w u = u
