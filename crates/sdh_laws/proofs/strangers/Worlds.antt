-- A round of a whole world: what its frames hold is what the words in them speak of.
use Rattle.std.proofs.Common.{◌≡◌, ℕ, ◌+◌, ◌-◌, ◌<◌, ◌≤◌, Bool, true, false, List, length, Option, Some, refl, ap, sym, ◌∙◌, subst, arith}
use Rattle.std.proofs.Common.{inl, inr}
use Rattle.std.specs.Prelude.{if◌then◌else◌, slice_get}
use Rattle.std.proofs.lemmas.Bool.{cases_Bool, cases_lt}
use Rattle.sdh_ringmap.specs.Rates.{n_of}
use Rattle.sdh_frame.specs.Aus.{Au}
use Rattle.sdh_kbytes.specs.declared.K.{K}
use Rattle.sdh_ringmap.specs.Places.{opposite, neighbour}
use Rattle.sdh_ringmap.specs.declared.Pos.{Pos}
use Rattle.sdh_ringmap.specs.declared.Side.{Side}
use Rattle.sdh_ringmap.proofs.Sides.{opposite_twice}
use Rattle.sdh_circuits.specs.Provisioned.{Provisioned}
use Rattle.sdh_circuits.specs.declared.End.{End}
use Rattle.sdh_circuits.specs.declared.PortId.{PortId}
use Rattle.sdh_circuits.specs.Ends.{port_id}
use Rattle.sdh_squelch.specs.Table.{OnSpan, circuits_at, circuit_on}
use Rattle.sdh_nodestate.specs.declared.NodeState.{NodeState}
use Rattle.sdh_nodestate.specs.Words.{IsMember}
use Rattle.sdh_nodestate.specs.Rules.{Scene, long, word, state_after}
use Rattle.sdh_bridge.specs.declared.Origin.TheVariants.{Working, Protection, Ais}
use Rattle.sdh_pointer.specs.declared.reading.Action.TheVariants as action
use Rattle.sdh_ringmap.specs.Fibres.{fibre}
use Rattle.sdh_plant.specs.Arrivals.{carried_on}
use Rattle.sdh_terminal.specs.Lines.{Lines, received}
use Rattle.sdh_terminal.specs.Passing.{Input}
use Rattle.sdh_terminal.specs.Tributaries.{added_by}
use Rattle.sdh_node.specs.Node.{Node, is_held, last_word_on}
use Rattle.sdh_node.proofs.Decided.{scene_in, state_is, word_is}
use Rattle.sdh_node.specs.Rings.Held.{node_at, AtEach}
use Rattle.sdh_node.specs.Rings.Rounds.{World, round}
use Rattle.sdh_laws.specs.Hearing.Signalling.{word_to, lines_at}
use Rattle.sdh_laws.specs.Hearing.Laws.{IsWhole}
use Rattle.sdh_laws.proofs.hearing.Nodes.{informed, informed_out, count, nodes_after, length-after}
use Rattle.sdh_laws.proofs.hearing.Rounds.{reads, neighbour_inside, scene_ids, scene_place, next_node}
use Rattle.sdh_laws.specs.Carrying.Windows.{layout_of, slots_of, value_at, sent_at}
use Rattle.sdh_laws.proofs.carrying.Spans.{state_at, au_left}
use Rattle.sdh_laws.proofs.carrying.Connections.{sends_working, sends_protection, brings_protection}
use Rattle.sdh_signal.specs.Walks.{port, port_at, stands_in, working_in, protection_in}
use Rattle.sdh_signal.proofs.Views.{AreOnRing}
use Rattle.sdh_laws.specs.Strangers.Vouched.{streams_to, spoken_of, au_in, IsAside}
use Rattle.sdh_laws.proofs.strangers.Content.{IsCarried, Bears, Fine, bears_sent}
use Rattle.sdh_laws.proofs.strangers.Lags.{Lag, exactly, working_lag, stand_lag, source_in, spoken_lag, AreLags}
use Rattle.sdh_signal.proofs.OneNode.{long_from}
use Rattle.sdh_rounds.specs.Rounds as any_round
use Rattle.sdh_rounds.proofs.Terms.{terms}
use Rattle.sdh_laws.proofs.strangers.Arrivals.{span_across, lost, silent_first, au_received, ones_received, heard_came}
use Rattle.sdh_laws.proofs.strangers.Nodes.{stands_fine, working_fine, protection_fine, aside_stands, aside_protection, working_anyhow}

-- ---- what is fine at a node in a state, of what comes in and by its word

module _ (Own : Lag → Option PortId → Au → Type 0) (w : World) (p m : ℕ) (d : Side) where
  abbrev pub StandsAt : NodeState → Type 0
  StandsAt x =
      (let n = length w.ring.ids in let cs = w.ring.circuits.circuits in
      Fine (Own (stand_lag n d (circuits_at n cs p m d) (source_in w.ring.ids (word_to w p d)) (neighbour n p d) x)) (circuits_at n cs p m d)
      (opposite d) (value_at w p m (stands_in n cs p x d m)))

  abbrev pub WorksAt : K → NodeState → Type 0
  WorksAt k x =
      (let n = length w.ring.ids in let cs = w.ring.circuits.circuits in
      Fine (Own (working_lag n d (circuits_at n cs p m d) (source_in w.ring.ids k) p)) (circuits_at n cs p m d) d
      (value_at w p m (working_in n cs p x d m)))

  abbrev pub SaysAt : K → NodeState → Type 0
  SaysAt k x =
      (let n = length w.ring.ids in let cs = w.ring.circuits.circuits in
      Fine (Own (spoken_lag w.ring.ids cs m (opposite d) k p)) (spoken_of w.ring.ids cs m (opposite d) k) (opposite d)
      (value_at w p m (protection_in n cs p x d m)))

-- at the nodes whose controllers miss the turn
abbrev pub HeldStand : (Lag → Option PortId → Au → Type 0) → World → Type 0
HeldStand Own w = (p m : ℕ) (d : Side) → p < length w.ring.nodes → 1 ≤ m → m ≤ slots_of (layout_of w)
    → is_held (node_at w.ring.nodes p) ≡ true → StandsAt Own w p m d (node_at w.ring.nodes p).state

abbrev pub HeldWork : (Lag → Option PortId → Au → Type 0) → World → Type 0
HeldWork Own w = (p m : ℕ) (d : Side) → p < length w.ring.nodes → 1 ≤ m → m ≤ slots_of (layout_of w)
    → is_held (node_at w.ring.nodes p) ≡ true
    → WorksAt Own w p m d (last_word_on d (node_at w.ring.nodes p)) (node_at w.ring.nodes p).state

abbrev pub HeldSay : (Lag → Option PortId → Au → Type 0) → World → Type 0
HeldSay Own w = (p m : ℕ) (d : Side) → p < length w.ring.nodes → 1 ≤ m → m ≤ slots_of (layout_of w)
    → is_held (node_at w.ring.nodes p) ≡ true
    → SaysAt Own w p m d (last_word_on d (node_at w.ring.nodes p)) (node_at w.ring.nodes p).state

-- ---- the invariant

-- each frame that is under way holds at most what it vouches for, by its lag
module _ (Own : Lag → Option PortId → Au → Type 0) where
  abbrev pub WorksOn : World → ℕ → Node → Type 0
  WorksOn w p node = (m : ℕ) (d : Side) (line : List ℕ) → carried_on w.fibres (fibre p d) ≡ Some line → 1 ≤ m → m ≤ slots_of (layout_of w)
      → (let o = circuits_at (length w.ring.ids) w.ring.circuits.circuits p m d in
      Bears (Own (working_lag (length w.ring.ids) d o (source_in w.ring.ids (last_word_on d node)) p)) o d (au_in w m line))

  abbrev pub SpeaksOf : World → ℕ → Node → Type 0
  SpeaksOf w p node = (m : ℕ) (d : Side) (line : List ℕ) → carried_on w.fibres (fibre p d) ≡ Some line → 1 ≤ m → m ≤ slots_of (layout_of w)
      → Bears (Own (spoken_lag w.ring.ids w.ring.circuits.circuits m (opposite d) (last_word_on d node) p))
      (spoken_of w.ring.ids w.ring.circuits.circuits m (opposite d) (last_word_on d node)) (opposite d)
      (au_in w (slots_of (layout_of w) + m) line)

  pub record Vouches (w : World) : Type 0 where
    pub working : AtEach (WorksOn w) w.ring.nodes
    pub protection : AtEach (SpeaksOf w) w.ring.nodes

-- an AU-4 of a frame that was sent
pub sent_bears : (Own : Option PortId → Au → Type 0) → IsCarried Own → (w : World) → IsWhole w → (o : Option OnSpan) (y : Side) (p au : ℕ)
    (d : Side) (line : List ℕ) → p < length w.ring.nodes → 1 ≤ au → au ≤ n_of w.ring.settings.rate
    → carried_on (round w).fibres (fibre p d) ≡ Some line
    → Fine Own o y (sent_at w p d au) → Bears Own o y (au_in w au line)
sent_bears Own own w whole o y p au d line h low high there fine =
    let k = au - 1 in
    let back : k + 1 ≡ au = omega arith in
    subst (λ a. Bears Own o y (au_in w a line)) back
    (subst (Bears Own o y) (sym (au_left w whole p d h line there k (omega arith)))
    (bears_sent Own own o y (state_at w whole p d h k) (sent_at w p d (k + 1))
    (subst (λ a. Fine Own o y (sent_at w p d a)) (sym back) fine)))

module _ (Was Own : Lag → Option PortId → Au → Type 0) (lags : AreLags Was Own) where
  -- ---- what comes in

  module _ (w : World) (whole : IsWhole w) (p : ℕ) (h : p < length w.ring.nodes) where
    open terms w use {ids, n, cs, rate, slots}

    abbrev l : Lines
    l = lines_at w p

    abbrev back : Side → ℕ
    back d = neighbour n p d

    pub received_fine : (i : Lag) (o : Option OnSpan) (y d : Side) (au : ℕ) → 1 ≤ au → au ≤ n_of rate
        → ((line : List ℕ) → lost w whole p h d ≡ false → carried_on w.fibres (fibre (back d) (opposite d)) ≡ Some line
        → Bears (Was i) o y (au_in w au line))
        → Fine (Was i) o y (received l d au)
    received_fine i o y d au low high sent = elim (cases_lt 0 w.ring.rounds) [
      | inr none ↦ inl (silent_first w whole p h d au low high (omega arith))
      | inl ran ↦ elim (cases_Bool (lost w whole p h d)) [
        | inl cut ↦ inr (subst (Bears (Was i) o y) (sym (ones_received w whole p h d au low high ran cut))
            ((lags.was i).blank (streams_to y o)))
        | inr kept ↦ (
            let c = (whole.paired.carried (back d) (neighbour_inside w whole p d)).frames (opposite d) ran in
            inr (subst (Bears (Was i) o y) (sym (au_received w whole p h d au ran
            ∙ (reads w whole p d h).aus ran kept c.line c.there au low high)) (sent c.line kept c.there)))
      ]
    ]

    -- ---- the node's scene

    abbrev pub s : Scene
    s = scene_in (next_node w whole p)

    pub sourced_words : (d : Side) (k : K) → long s d ≡ Some k → IsMember ids k.from
    sourced_words d k e =
        subst (λ (j : K). IsMember ids j.from) (heard_came w whole p h d k (long_from s d k e).heard).is
        (whole.paired.sourced (back d) (neighbour_inside w whole p d) (opposite d))

    -- the source of the word that comes in
    abbrev pub came : Side → Option Pos
    came d = source_in ids (word_to w p d)

    pub heard : (d : Side) (k : K) → long s d ≡ Some k → came d ≡ source_in ids k
    heard d k e = ap (source_in ids) (heard_came w whole p h d k (long_from s d k e).heard).is

    -- ---- both arrivals

    module _ (vouched : Vouches Was w) (m : ℕ) (low : 1 ≤ m) (high : m ≤ slots) where
      pub inside : p < n
      inside = omega (arith, count w whole.placed)

      pub working_comes : (d : Side) → Fine (Was (working_lag n (opposite d) (circuits_at n cs p m d) (came d) (back d)))
          (circuits_at n cs p m d) (opposite d) (value_at w p m (Working d))
      working_comes d =
          received_fine (working_lag n (opposite d) (circuits_at n cs p m d) (came d) (back d)) (circuits_at n cs p m d) (opposite d) d m low
          (omega arith) (λ line kept there.
          subst (λ o. Bears (Was (working_lag n (opposite d) o (came d) (back d))) o (opposite d) (au_in w m line))
          (ap (λ z. circuit_on n cs z m) (span_across n p d inside))
          (vouched.working (back d) (neighbour_inside w whole p d) m (opposite d) line there low high))

      pub protection_comes : (d : Side) (k : K) → long s d ≡ Some k
          → Fine (Was (spoken_lag ids cs m d k (back d))) (spoken_of ids cs m d k) d (value_at w p m (Protection d))
      protection_comes d k e =
          let came = heard_came w whole p h d k (long_from s d k e).heard in
          subst (Fine (Was (spoken_lag ids cs m d k (back d))) (spoken_of ids cs m d k) d) (sym (brings_protection w whole p m d inside))
          (received_fine (spoken_lag ids cs m d k (back d)) (spoken_of ids cs m d k) d d (slots + m) (omega arith) (omega arith)
          (λ line kept there.
          subst (λ j. Bears (Was (spoken_lag ids cs m d j (back d))) (spoken_of ids cs m d j) d (au_in w (slots + m) line)) came.is
          (subst (λ y. Bears (Was (spoken_lag ids cs m y (word_to w p d) (back d))) (spoken_of ids cs m y (word_to w p d)) y
          (au_in w (slots + m) line)) (opposite_twice d)
          (vouched.protection (back d) (neighbour_inside w whole p d) m (opposite d) line there low high))))

      silence : (value_at w p m Ais).action ≡ action.Ais
      silence = refl

      -- ---- what the node makes of it

      abbrev before : Node
      before = node_at w.ring.nodes p

      abbrev st : NodeState
      st = (node_at (round w).ring.nodes p).state

      pub state_by_turn : (b : Bool) → is_held before ≡ b → st ≡ (if b then before.state else state_after s)
      state_by_turn b turn =
          ap (λ (y : Node). y.state) (nodes_after w whole.placed p h) ∙ state_is w.ring.moment (informed w p)
          ∙ ap (λ (b : Bool). if b then before.state else state_after s) turn

      pub word_by_turn : (b : Bool) → is_held before ≡ b → (d : Side)
          → last_word_on d (node_at (round w).ring.nodes p) ≡ (if b then last_word_on d before else word s d)
      word_by_turn b turn d =
          ap (last_word_on d) (nodes_after w whole.placed p h) ∙ word_is w.ring.moment (informed w p) d
          ∙ ap (λ k. if is_held before then k else word s d) (ap (λ x. x.word) (informed_out w p d))
          ∙ ap (λ (b : Bool). if b then last_word_on d before else word s d) turn

      module _ (ring : AreOnRing n cs) where
        -- a node that stands aside
        pub aside_delivers : (x : NodeState) → IsAside x → (d : Side) → StandsAt Own w p m d x
        aside_delivers x a d =
            aside_stands Was Own lags ids cs whole.placed.ids ring s (scene_ids w whole p h) p (scene_place w whole p h) inside m
            (value_at w p m) came working_comes protection_comes sourced_words heard silence x a d

        pub aside_says : (x : NodeState) → IsAside x → (d : Side) (k : K) → SaysAt Own w p m d k x
        aside_says x a d k =
            aside_protection Was Own lags ids cs whole.placed.ids ring s (scene_ids w whole p h) p (scene_place w whole p h) inside m
            (value_at w p m) came working_comes protection_comes sourced_words heard silence x a (spoken_lag ids cs m (opposite d) k p)
            (spoken_of ids cs m (opposite d) k) d

        module _ (held_stands : is_held before ≡ true → (d : Side) → StandsAt Own w p m d before.state) where
          pub delivers_fine : (d : Side) → StandsAt Own w p m d st
          delivers_fine d = elim (cases_Bool (is_held before)) [
            | inl held ↦ subst (StandsAt Own w p m d) (sym (state_by_turn true held)) (held_stands held d)
            | inr turn ↦ subst (StandsAt Own w p m d) (sym (state_by_turn false turn))
                (stands_fine Was Own lags ids cs whole.placed.ids ring s (scene_ids w whole p h) p (scene_place w whole p h) inside m
                (value_at w p m) came working_comes protection_comes sourced_words heard silence d)
          ]

        module _ (added : (i : ℕ) (c : Provisioned) (e : End) → slice_get cs i ≡ Some c → port_at c e ≡ p
            → Own (exactly 0) (Some (port_id i e)) (value_at w p m (port i e)).au) where
          -- what leaves in the working slot of a node in any state, where what stands for its arrival is fine, and where it
          -- doesn't matter how far AU-4s lag
          pub works_from : (x : NodeState) (d : Side)
              → Fine (Own (exactly 0)) (circuits_at n cs p m (opposite d)) (opposite (opposite d))
              (value_at w p m (stands_in n cs p x (opposite d) m))
              → Fine (Own (exactly 0)) (circuits_at n cs p m d) d (value_at w p m (working_in n cs p x d m))
          works_from x d stands =
              working_anyhow Was Own lags ids cs whole.placed.ids ring s (scene_ids w whole p h) p (scene_place w whole p h) inside m
              (value_at w p m) came working_comes protection_comes sourced_words heard silence added x d stands

          abbrev Works : Side → K → Input → Type 0
          Works d k i = Fine (Own (working_lag n d (circuits_at n cs p m d) (source_in ids k) p)) (circuits_at n cs p m d) d i

          pub working_goes : (is_held before ≡ true → (d : Side) → WorksAt Own w p m d (last_word_on d before) before.state) → (d : Side)
              → Works d (last_word_on d (node_at (round w).ring.nodes p)) (sent_at w p d m)
          working_goes held_works d = elim (cases_Bool (is_held before)) [
            | inl held ↦ subst (λ k. Works d k (sent_at w p d m)) (sym (word_by_turn true held d))
                (subst (Works d (last_word_on d before)) (sym (sends_working w whole p m d before.state inside high (state_by_turn true held)))
                (held_works held d))
            | inr turn ↦ subst (λ k. Works d k (sent_at w p d m)) (sym (word_by_turn false turn d))
                (subst (Works d (word s d)) (sym (sends_working w whole p m d (state_after s) inside high (state_by_turn false turn)))
                (working_fine Was Own lags ids cs whole.placed.ids ring s (scene_ids w whole p h) p (scene_place w whole p h) inside
                m (value_at w p m) came working_comes protection_comes sourced_words heard silence added d))
          ]

          abbrev Said : Side → K → Input → Type 0
          Said d k i = Fine (Own (spoken_lag ids cs m (opposite d) k p)) (spoken_of ids cs m (opposite d) k) (opposite d) i

          pub protection_goes : (is_held before ≡ true → (d : Side) → SaysAt Own w p m d (last_word_on d before) before.state) → (d : Side)
              → Said d (last_word_on d (node_at (round w).ring.nodes p)) (sent_at w p d (slots + m))
          protection_goes held_says d = elim (cases_Bool (is_held before)) [
            | inl held ↦ subst (λ k. Said d k (sent_at w p d (slots + m))) (sym (word_by_turn true held d))
                (subst (Said d (last_word_on d before)) (sym (sends_protection w whole p m d before.state inside low (state_by_turn true held)))
                (held_says held d))
            | inr turn ↦ subst (λ k. Said d k (sent_at w p d (slots + m))) (sym (word_by_turn false turn d))
                (subst (Said d (word s d)) (sym (sends_protection w whole p m d (state_after s) inside low (state_by_turn false turn)))
                (protection_fine Was Own lags ids cs whole.placed.ids ring s (scene_ids w whole p h) p (scene_place w whole p h) inside
                m (value_at w p m) came working_comes protection_comes sourced_words heard silence added d))
          ]

  -- ---- the round

  -- the ports add what is their own
  abbrev pub AddOwn : World → Type 0
  AddOwn w =
      (i : ℕ) (c : Provisioned) (e : End) → slice_get w.ring.circuits.circuits i ≡ Some c
      → Own (exactly 0) (Some (port_id i e)) (added_by (node_at w.ring.nodes (port_at c e)).ports (port_id i e)).au

  module _ (w : World) (whole : IsWhole w) (ring : AreOnRing (length w.ring.ids) w.ring.circuits.circuits)
      (held_work : HeldWork Own w) (held_say : HeldSay Own w) (vouched : Vouches Was w) (add : AddOwn w) where
    pub added_at : (p m i : ℕ) (c : Provisioned) (e : End) → slice_get w.ring.circuits.circuits i ≡ Some c → port_at c e ≡ p
        → Own (exactly 0) (Some (port_id i e)) (value_at w p m (port i e)).au
    added_at p m i c e get at =
        subst (λ q. Own (exactly 0) (Some (port_id i e)) (added_by (node_at w.ring.nodes q).ports (port_id i e)).au) at (add i c e get)

    pub vouched_round : Vouches Own (round w)
    unfolding any_round.round any_round.round_with
    vouched_round = record {
      working = λ p h m d line there low high. (let ph : p < length w.ring.nodes = omega (arith, length-after w) in
          sent_bears _ (lags.own _) w whole _ d p m d line ph low (omega arith) there
          (working_goes w whole p ph vouched m low high ring (added_at p m) (λ held e. held_work p m e ph low high held) d));
      protection = λ p h m d line there low high. (let ph : p < length w.ring.nodes = omega (arith, length-after w) in
          sent_bears _ (lags.own _) w whole _ (opposite d) p (slots_of (layout_of w) + m) d line ph (omega arith) (omega arith) there
          (protection_goes w whole p ph vouched m low high ring (added_at p m) (λ held e. held_say p m e ph low high held) d));
    }
