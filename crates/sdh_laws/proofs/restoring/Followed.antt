-- A ring whose interpreters follow: in the next round, in a run, and from a new ring on.
use Rattle.std.proofs.Common.{◌≡◌, ℕ, zero, suc, ◌+◌, ◌-◌, ◌*◌, ◌<◌, ◌≤◌, inl, inr, Bool, true, false, List, [], ◌∷◌, length, get_or}
use Rattle.std.proofs.Common.{Option, Some, None, refl, ap, sym, ◌∙◌, subst, arith, replicate}
use Rattle.std.specs.Option.{option_map_or}
use Rattle.std.proofs.lemmas.Bool.{cases_Bool, cases_lt}
use Rattle.std.proofs.lemmas.List.{get_or_past, get_or-replicate, length-replicate}
use Rattle.sdh_basics.specs.Indexed.{map_from}
use Rattle.sdh_ringmap.specs.Rates.{n_of}
use Rattle.sdh_ringmap.specs.Fibres.{fibre, is_cut}
use Rattle.sdh_ringmap.specs.Places.{neighbour, opposite}
use Rattle.sdh_ringmap.specs.declared.Side.{Side}
use Rattle.sdh_frame.specs.Aus.{Au}
use Rattle.sdh_parity.specs.Scrambling.{scrambled}
use Rattle.sdh_plant.specs.Arrivals.{carried_on}
use Rattle.sdh_pointer.specs.declared.reading.Reading.{Reading}
use Rattle.sdh_pointer.specs.declared.reading.Action.{Action}
use Rattle.sdh_pointer.specs.declared.reading.Action.TheVariants as action
use Rattle.sdh_pointer.specs.declared.reading.Mode.TheVariants as mode
use Rattle.sdh_pointer.specs.Reading.{start, after_word, action_on}
use Rattle.sdh_pointer.specs.Repeated.{after_rounds}
use Rattle.sdh_pointer.specs.Sending.{word_sent, next_sending}
use Rattle.sdh_pointer.specs.Words.{word_of}
use Rattle.sdh_pointer.specs.Spreading.{IsSmall}
use Rattle.sdh_pointer.proofs.Settling.{ais_settles}
use Rattle.sdh_terminal.specs.Passing.{Input, no_input}
use Rattle.sdh_terminal.specs.Receiving.{pointer_word, pointer_word_at, actions_in}
use Rattle.sdh_terminal.specs.Lines.{line_on, received}
use Rattle.sdh_terminal.specs.declared.matrix.Feeder.{Feeder}
use Rattle.sdh_terminal.specs.declared.matrix.Feeder.TheVariants as feeder
use Rattle.sdh_bridge.specs.declared.Origin.TheVariants.{Add}
use Rattle.sdh_spans.specs.Spans.{TakesWord, word_behind}
use Rattle.sdh_spans.proofs.Reading.{word_of_ones}
use Rattle.sdh_spans.proofs.Sends.{word_in_au}
use Rattle.sdh_node.specs.Crossing.{leads}
use Rattle.sdh_node.specs.Node.{receiving_on, sending_on}
use Rattle.sdh_node.specs.Rings.Held.{node_at}
use Rattle.sdh_node.specs.Rings.Rounds.{World, round, arrivals_of}
use Rattle.sdh_node.specs.Rings.Runs.{run}
use Rattle.sdh_node.specs.Rings.Sides.{condition_to}
use Rattle.sdh_laws.specs.Hearing.Signalling.{lines_at, crossing_at}
use Rattle.sdh_laws.specs.Hearing.Laws.{IsWhole}
use Rattle.sdh_laws.proofs.hearing.Changes.{whole_run}
use Rattle.sdh_laws.proofs.hearing.Follows.{condition_after}
use Rattle.sdh_laws.proofs.hearing.Nodes.{count, length-after}
use Rattle.sdh_laws.proofs.hearing.Rounds.{neighbour_inside, reads, sent_to, carried_after}
use Rattle.sdh_laws.proofs.hearing.Steady.{none_waits_later}
use Rattle.sdh_laws.specs.Carrying.Windows.{layout_of, HasCircuits, fed_at, sent_at}
use Rattle.sdh_laws.proofs.carrying.Spans.{generator_step, takes_read, au_left}
use Rattle.sdh_laws.proofs.carrying.Ways.{layout_run}
use Rattle.sdh_laws.specs.Converging.Steady.{IsUnslipped}
use Rattle.sdh_laws.proofs.converging.Ports.{IsSent, source_at, source_small, sources_send}
use Rattle.sdh_laws.proofs.converging.Runs.{length_run, rate_run, condition_run}
use Rattle.sdh_laws.proofs.converging.Spans.{reading_in, word_in, interpreter_goes, Takes}
use Rattle.sdh_laws.specs.Restoring.Followed.{pointer_word_on, IsWordOf, IsSoundReading, Follows, IsFollowed, RoundsStayFollowed}
use Rattle.sdh_laws.proofs.restoring.Following.{IsPlainAction, GoesOn, over_ones, CountsOnes, ones_counted, made, plain_comes, sound_cut}
use Rattle.sdh_laws.proofs.restoring.Following.{follows_next, word_next, was_sent, Near, near_first, near_next}
use Rattle.sdh_rounds.specs.Rounds as any_round
use Rattle.sdh_rounds.specs.Runs as any_run

-- ---- what is read and sent in a round

-- what an interpreter keeps and the state of a generator between rounds
abbrev pub reading_at : World → ℕ → Side → ℕ → Reading
reading_at w p d i = get_or (receiving_on d (node_at w.ring.nodes p)).readings i start

abbrev pub state_on : World → ℕ → Side → ℕ → Option ℕ
state_on w q e i = get_or (sending_on e (node_at w.ring.nodes q)).generators i None

word_there : (w : World) (q : ℕ) (e : Side) (au : ℕ) (line : List ℕ) → carried_on w.fibres (fibre q e) ≡ Some line
    → pointer_word_on w q e au ≡ pointer_word_at (n_of w.ring.settings.rate) (scrambled (9 * n_of w.ring.settings.rate) line) au
word_there w q e au line there =
    ap (λ o. option_map_or (λ l. pointer_word_at (n_of w.ring.settings.rate) (scrambled (9 * n_of w.ring.settings.rate) l) au) o 65535) there

module _ (w : World) (whole : IsWhole w) where
  -- the word that a fibre carries after a round is the one that its generator sent
  pub word_sent_on : (q : ℕ) (e : Side) (i : ℕ) → q < length w.ring.nodes → i < n_of w.ring.settings.rate
      → pointer_word_on (round w) q e (i + 1) ≡ word_sent (state_on w q e i) (sent_at w q e (i + 1)).action (sent_at w q e (i + 1)).value
  unfolding any_round.round any_round.round_with
  word_sent_on q e i h few =
      let there = carried_after w whole q e h in
      word_there (round w) q e (i + 1) _ there
      ∙ ap (λ (a : Au). pointer_word a.pointers) (au_left w whole q e h _ there i (omega arith))
      ∙ word_in_au (state_on w q e i) (sent_at w q e (i + 1))

  module _ (p : ℕ) (d : Side) (h : p < length w.ring.nodes) where
    abbrev q : ℕ
    q = neighbour (length w.ring.ids) p d

    abbrev e : Side
    e = opposite d

    -- not in round 0 an interpreter takes the word that its fibre carries
    pub takes_carried : 0 < w.ring.rounds → (i : ℕ) → i < n_of w.ring.settings.rate
        → TakesWord (reading_at w p d i) (reading_at (round w) p d i) (received (lines_at w p) d (i + 1))
        (word_behind (is_cut (condition_to w p d)) (pointer_word_on w q e (i + 1)))
    takes_carried ran i few =
        let n = n_of w.ring.settings.rate in
        let r = reads w whole p d h in
        let bytes = (line_on (lines_at w p) d).intake.frame.bytes in
        let sent = sent_to w whole p d ran in
        let word : pointer_word_at n bytes (i + 1) ≡ word_behind (is_cut (condition_to w p d)) (pointer_word_on w q e (i + 1)) =
        elim (cases_Bool (is_cut (condition_to w p d))) [
          | inl cut ↦ ap (λ b. pointer_word_at n b (i + 1)) (r.ones ran cut) ∙ word_of_ones w.ring.settings.rate (i + 1) (omega arith) (omega arith)
              ∙ sym (ap (λ b. word_behind b (pointer_word_on w q e (i + 1))) cut)
          | inr clear ↦ ap (λ (a : Au). pointer_word a.pointers) (r.aus ran clear sent.line sent.there (i + 1) (omega arith) (omega arith))
              ∙ sym (word_there w q e (i + 1) sent.line sent.there)
              ∙ sym (ap (λ b. word_behind b (pointer_word_on w q e (i + 1))) clear)
        ] in
        subst (TakesWord (reading_at w p d i) (reading_at (round w) p d i) (received (lines_at w p) d (i + 1))) word
        (takes_read w whole ran p d h i (omega arith))

    -- in round 0 nothing is read, and no fibre carries a word
    pub keeps_first : w.ring.rounds ≡ 0 → (i : ℕ) → reading_at (round w) p d i ≡ reading_at w p d i
    keeps_first none i = ap (λ rs. get_or rs i start) ((reads w whole p d h).idle none)

    pub ones_first : w.ring.rounds ≡ 0 → (au : ℕ) → pointer_word_on w q e au ≡ 65535
    ones_first none au =
        ap (λ o. option_map_or (λ l. pointer_word_at (n_of w.ring.settings.rate) (scrambled (9 * n_of w.ring.settings.rate) l) au) o 65535)
        ((whole.paired.carried q (neighbour_inside w whole p d)).dark e none)

-- ---- what comes in is plain

abbrev pub IsPlainInput : Input → Type 0
IsPlainInput i = IsPlainAction i.action i.value

pub plain_as : (a b : Action) (v u : ℕ) → a ≡ b → v ≡ u → IsPlainAction b u → IsPlainAction a v
plain_as a b v u e f is = subst (λ x. IsPlainAction x v) (sym e) (subst (IsPlainAction b) (sym f) is)

pub plain_ais : (v : ℕ) → IsPlainAction action.Ais v
plain_ais v = record { justifies = tt; small = λ f. absurd (cc) }

silent_plain : (i : Input) → i.action ≡ action.Ais → IsPlainInput i
silent_plain i e = plain_as i.action action.Ais i.value i.value e refl (plain_ais i.value)

source_plain : (i : Input) (o : Option ℕ) → IsSent i o → IsSmall o → IsPlainInput i
source_plain i None is small = silent_plain i is.does
source_plain i (Some v) is small =
    plain_as i.action action.Normal i.value v is.does is.value (record { justifies = tt; small = λ e. small })

ais_in : (n k : ℕ) → get_or (replicate n action.Ais) k action.Ais ≡ action.Ais
ais_in n k = elim (cases_lt k n) [
  | inl few ↦ get_or-replicate n k action.Ais action.Ais few
  | inr past ↦ get_or_past (replicate n action.Ais) k action.Ais (omega (arith, length-replicate {A = Action} n action.Ais))
]

none_past : {X Y : Type 0} (f : ℕ → X → Y) (i : ℕ) (xs : List X) (k : ℕ) (y : Y) → length xs ≤ k → get_or (map_from f i xs) k y ≡ y
none_past f i [] k y past = get_or_past [] k y past
none_past f i (x ∷ xs) zero y past = absurd (omega arith)
none_past f i (x ∷ xs) (suc k) y past = none_past f (i + 1) xs k y (omega arith)

actions_past : (n : ℕ) (bytes : List ℕ) (rs : List Reading) (k : ℕ) → length rs ≤ k → get_or (actions_in n bytes rs) k action.Ais ≡ action.Ais
unfolding actions_in
actions_past n bytes rs k past = none_past (λ k r. action_on r (pointer_word_at n bytes (k + 1))) 0 rs k action.Ais past

-- ---- rings whose interpreters follow where their fibres aren't cut

-- an interpreter hasn't lost its pointer, and follows where its fibre isn't cut
pub record FollowsOver (cut : Bool) (r : Reading) (s : Option ℕ) (word : ℕ) : Type 0 where
  pub sound : IsSoundReading r s word
  pub follows : cut ≡ false → Follows r s word

abbrev pub HoldsOfAll : World → (Bool → Reading → Option ℕ → ℕ → Type 0) → Type 0
HoldsOfAll w P =
    (p : ℕ) (d : Side) (i : ℕ) → p < length w.ring.nodes → i < n_of w.ring.settings.rate
    → P (is_cut (condition_to w p d)) (reading_at w p d i) (state_on w (neighbour (length w.ring.ids) p d) (opposite d) i)
    (pointer_word_on w (neighbour (length w.ring.ids) p d) (opposite d) (i + 1))

abbrev pub IsFollowing : World → Type 0
IsFollowing w = HoldsOfAll w FollowsOver

-- those that read normal words in Ais have counted at least j of them
abbrev pub AreNear : ℕ → World → Type 0
AreNear j w = HoldsOfAll w (λ cut r s word. cut ≡ false → Near j r s word)

pub followed_is : (w : World) → IsFollowed w → IsFollowing w
followed_is w f p d i h few = let is = f p d i h few in record { sound = is.sound; follows = λ clear. is }

-- those behind fibres that are cut have read at least j words of ones
abbrev pub AreCounting : ℕ → World → Type 0
AreCounting j w = HoldsOfAll w (λ cut r s word. cut ≡ true → CountsOnes j r)

pub counting_none : (w : World) → AreCounting 0 w
counting_none w p d i h few cut = inr (omega arith, omega arith)

-- where those behind fibres that are cut have read three, all follow, whether their fibres are cut or not
pub followed_from : (j : ℕ) (w : World) → 3 ≤ j → IsFollowing w → AreCounting j w → IsFollowed w
followed_from j w many is counting p d i h few =
    elim (cases_Bool (is_cut (condition_to w p d))) [
      | inr clear ↦ (is p d i h few).follows clear
      | inl cut ↦ record {
        sound = (is p d i h few).sound;
        value = λ v e n norm. elim (counting p d i h few cut) [
          | inl ais ↦ absurd (let x : mode.Ais ≡ mode.Norm = sym ais ∙ norm in cc)
          | inr both ↦ absurd (let two = both.1 in omega arith)
        ];
      }
    ]

-- ones are no word of a value
not_ones : (s : Option ℕ) → IsWordOf s 65535 → (u : ℕ) → s ≡ Some u → ⊥
unfolding word_of
not_ones None is u e = cc
not_ones (Some v) is u e =
    let small = is.0 in
    elim is.1 [
      | inl enabled ↦ (let x : 65535 ≡ 0x9800 + v = enabled in omega arith)
      | inr normal ↦ (let x : 65535 ≡ 0x6800 + v = normal in omega arith)
    ]

pub moved : (P : Reading → Option ℕ → ℕ → Type 0) (r t : Reading) (s u : Option ℕ) (x y : ℕ) → r ≡ t → s ≡ u → x ≡ y → P t u y → P r s x
moved P r t s u x y e f g is = subst (λ z. P z s x) (sym e) (subst (λ z. P t z x) (sym f) (subst (P t u) (sym g) is))

-- ---- one round

-- where no slip waits
module _ (w : World) (whole : IsWhole w) (form : HasCircuits (layout_of w)) (unslipped : IsUnslipped w) (f : IsFollowing w) where
  -- an interpreter reads a word, or nothing in round 0
  goes_over : (p : ℕ) (d : Side) (i : ℕ) → p < length w.ring.nodes → i < n_of w.ring.settings.rate
      → GoesOn (reading_at w p d i)
      (word_behind (is_cut (condition_to w p d)) (pointer_word_on w (neighbour (length w.ring.ids) p d) (opposite d) (i + 1)))
  goes_over p d i h few =
      let is = f p d i h few in
      let word = pointer_word_on w (neighbour (length w.ring.ids) p d) (opposite d) (i + 1) in
      elim (cases_Bool (is_cut (condition_to w p d))) [
        | inl cut ↦ subst (λ b. GoesOn (reading_at w p d i) (word_behind b word)) (sym cut) (over_ones (reading_at w p d i) is.sound.kept is.sound.small)
        | inr clear ↦ subst (λ b. GoesOn (reading_at w p d i) (word_behind b word)) (sym clear)
            (made (reading_at w p d i) _ word (is.follows clear)).goes
      ]

  comes_plain : (p : ℕ) (d : Side) (i : ℕ) → 0 < w.ring.rounds → p < length w.ring.nodes → i < n_of w.ring.settings.rate
      → IsPlainInput (received (lines_at w p) d (i + 1))
  comes_plain p d i ran h few =
      let word = word_behind (is_cut (condition_to w p d)) (pointer_word_on w (neighbour (length w.ring.ids) p d) (opposite d) (i + 1)) in
      let r = reading_at w p d i in
      let t = takes_carried w whole p d h ran i few in
      plain_as _ (action_on r word) _ (after_word r word).value t.action (t.value ∙ ap (λ (x : Reading). x.value) t.reading)
      (plain_comes r word (goes_over p d i h few))

  received_plain : (p : ℕ) (d : Side) (au : ℕ) → p < length w.ring.nodes → IsPlainInput (received (lines_at w p) d au)
  received_plain p d au h = elim (cases_lt 0 w.ring.rounds) [
    | inr none ↦ silent_plain (received (lines_at w p) d au) (ap (λ xs. get_or xs (au - 1) action.Ais) ((reads w whole p d h).none (omega arith))
        ∙ ais_in (n_of w.ring.settings.rate) (au - 1))
    | inl ran ↦ elim (cases_lt (au - 1) (n_of w.ring.settings.rate)) [
      | inl few ↦ (let i = au - 1 in
          let same : i ≡ i + 1 - 1 = omega arith in
          plain_as _ _ _ _ (ap (λ k. get_or (line_on (lines_at w p) d).intake.actions k action.Ais) same)
          (ap (λ k. (get_or (line_on (lines_at w p) d).readings k start).value) same) (comes_plain p d i ran h few))
      | inr past ↦ (let many = ((whole.placed.sides p h).receives d).readings in
          silent_plain (received (lines_at w p) d au) (ap (λ xs. get_or xs (au - 1) action.Ais) ((reads w whole p d h).acts ran)
          ∙ actions_past (n_of w.ring.settings.rate) _ _ (au - 1) (omega arith)))
    ]
  ]

  fed_plain : (q : ℕ) (g : Feeder) → q < length w.ring.nodes → IsPlainInput (fed_at w q g)
  unfolding any_run.run
  fed_plain q (feeder.Port id) h =
      source_plain _ (source_at w q (Add id)) (sources_send w whole unslipped 0 q 0 (Add id) (omega (arith, count w whole.placed)) tt)
      (source_small w whole form.offsets q (Add id) h)
  fed_plain q (feeder.Received d au) h = received_plain q d au h
  fed_plain q feeder.Ais h = silent_plain no_input refl

  sent_plain : (q : ℕ) (e : Side) (au : ℕ) → q < length w.ring.nodes → IsPlainInput (sent_at w q e au)
  sent_plain q e au h = fed_plain q (leads (crossing_at w q) e au) h

  -- what an interpreter, its generator and the word between them are after the round
  module _ (p : ℕ) (d : Side) (i : ℕ) (h : p < length w.ring.nodes) (few : i < n_of w.ring.settings.rate) where
    abbrev far : ℕ
    far = neighbour (length w.ring.ids) p d

    abbrev r : Reading
    r = reading_at w p d i

    abbrev s : Option ℕ
    s = state_on w far (opposite d) i

    abbrev word : ℕ
    word = pointer_word_on w far (opposite d) (i + 1)

    abbrev input : Input
    input = sent_at w far (opposite d) (i + 1)

    abbrev cut_now : Bool
    cut_now = is_cut (condition_to w p d)

    abbrev t : Reading
    t = reading_at (round w) p d i

    abbrev u : Option ℕ
    u = state_on (round w) far (opposite d) i

    abbrev later : ℕ
    later = pointer_word_on (round w) far (opposite d) (i + 1)

    far_inside : far < length w.ring.nodes
    far_inside = neighbour_inside w whole p d

    plain : IsPlainAction input.action input.value
    plain = sent_plain far (opposite d) (i + 1) far_inside

    abbrev pub Next : (Reading → Option ℕ → ℕ → Type 0) → Reading → Type 0
    Next P x = P x (next_sending s input.action input.value) (word_sent s input.action input.value)

    to_next : (P : Reading → Option ℕ → ℕ → Type 0) (x : Reading) → t ≡ x → Next P x → P t u later
    to_next P x e is =
        moved P t x u _ later _ e (generator_step w whole far (opposite d) far_inside i (omega arith))
        (word_sent_on w whole far (opposite d) i far_inside few) is

    is_now : FollowsOver cut_now r s word
    is_now = f p d i h few

    -- in round 0
    module _ (none : w.ring.rounds ≡ 0) where
      no_value : (v : ℕ) → s ≡ Some v → ⊥
      no_value = not_ones s (subst (IsWordOf s) (ones_first w whole p d h none (i + 1)) is_now.sound.sent)

      first_sound : Next IsSoundReading r
      first_sound = record {
        small = is_now.sound.small;
        few = is_now.sound.few;
        kept = is_now.sound.kept;
        sent = word_next s input.action input.value plain;
      }

      first_follows : Next Follows r
      first_follows = record {
        sound = first_sound;
        value = λ v e n norm. absurd (no_value v (was_sent s input.action input.value v plain e n));
      }

      first_near : (j : ℕ) → Next (Near j) r
      first_near j v small e n = absurd (no_value v (was_sent s input.action input.value v plain e n))

    read_as : 0 < w.ring.rounds → (b : Bool) → cut_now ≡ b → t ≡ after_word r (word_behind b word)
    read_as ran b e = (takes_carried w whole p d h ran i few).reading ∙ ap (λ c. after_word r (word_behind c word)) e

    next_sound : IsSoundReading t u later
    next_sound = elim (cases_lt 0 w.ring.rounds) [
      | inr none ↦ to_next IsSoundReading r (keeps_first w whole p d h (omega arith) i) (first_sound (omega arith))
      | inl ran ↦ elim (cases_Bool cut_now) [
        | inl cut ↦ to_next IsSoundReading (after_word r 65535) (read_as ran true cut)
            (sound_cut r s word input.action input.value plain is_now.sound)
        | inr clear ↦ to_next IsSoundReading (after_word r word) (read_as ran false clear)
            (follows_next r s word input.action input.value plain (is_now.follows clear)).sound
      ]
    ]

    next_follows : cut_now ≡ false → Follows t u later
    next_follows clear = elim (cases_lt 0 w.ring.rounds) [
      | inr none ↦ to_next Follows r (keeps_first w whole p d h (omega arith) i) (first_follows (omega arith))
      | inl ran ↦ to_next Follows (after_word r word) (read_as ran false clear)
          (follows_next r s word input.action input.value plain (is_now.follows clear))
    ]

    next_near : (j : ℕ) → (cut_now ≡ false → Near j r s word) → cut_now ≡ false → Near (suc j) t u later
    next_near j near clear = elim (cases_lt 0 w.ring.rounds) [
      | inr none ↦ to_next (Near (suc j)) r (keeps_first w whole p d h (omega arith) i) (first_near (omega arith) (suc j))
      | inl ran ↦ to_next (Near (suc j)) (after_word r word) (read_as ran false clear)
          (near_next j r s word input.action input.value plain (is_now.follows clear) (near clear))
    ]

  condition_kept : (p : ℕ) (d : Side) → is_cut (condition_to (round w) p d) ≡ is_cut (condition_to w p d)
  unfolding any_round.round
  condition_kept p d = ap is_cut (condition_after (arrivals_of w) w p d)

  pub round_following : IsFollowing (round w)
  unfolding any_round.round any_round.round_with
  round_following p d i h few =
      let low : p < length w.ring.nodes = omega (arith, length-after w) in
      record {
        sound = next_sound p d i low few;
        follows = λ clear. next_follows p d i low few (sym (condition_kept p d) ∙ clear);
      }

  pub round_counting : (j : ℕ) → 0 < w.ring.rounds → AreCounting j w → AreCounting (suc j) (round w)
  unfolding any_round.round any_round.round_with
  round_counting j ran counting p d i h few cut =
      let low : p < length w.ring.nodes = omega (arith, length-after w) in
      let cut_now = sym (condition_kept p d) ∙ cut in
      subst (CountsOnes (suc j)) (sym (read_as p d i low few ran true cut_now))
      (ones_counted j (reading_at w p d i) (f p d i low few).sound.kept (counting p d i low few cut_now))

  pub round_near : (j : ℕ) → AreNear j w → AreNear (suc j) (round w)
  unfolding any_round.round any_round.round_with
  round_near j near p d i h few clear =
      let low : p < length w.ring.nodes = omega (arith, length-after w) in
      next_near p d i low few j (near p d i low few) (sym (condition_kept p d) ∙ clear)

-- ---- a run

module _ (w : World) (whole : IsWhole w) (form : HasCircuits (layout_of w)) (unslipped : IsUnslipped w) where
  form_run : (k : ℕ) → HasCircuits (layout_of (run k w))
  form_run k = subst HasCircuits (sym (layout_run w k)) form

  module _ (f : IsFollowing w) where
    pub run_following : (k : ℕ) → IsFollowing (run k w)
    unfolding any_run.run
    run_following zero = f
    run_following (suc k) =
        round_following (run k w) (whole_run w k whole) (form_run k) (none_waits_later w whole unslipped k) (run_following k)

    near_run : (j k : ℕ) → AreNear j (run k w) → AreNear (suc j) (run (suc k) w)
    unfolding any_run.run
    near_run j k near =
        round_near (run k w) (whole_run w k whole) (form_run k) (none_waits_later w whole unslipped k) (run_following k) j near

    near_none : (k : ℕ) → AreNear 0 (run k w)
    near_none k p d i h few clear = near_first _ _ _ ((run_following k p d i h few).follows clear)

    -- from the third round on
    pub near_later : (k : ℕ) → 3 ≤ k → AreNear 3 (run k w)
    near_later k late =
        let j = k - 3 in
        let now : suc (suc (suc j)) ≡ k = omega arith in
        subst (λ m. AreNear 3 (run m w)) now (near_run 2 (suc (suc j)) (near_run 1 (suc j) (near_run 0 j (near_none j))))

  -- behind a fibre that is cut an interpreter is in Ais from the fourth round on
  module _ (p : ℕ) (d : Side) (i : ℕ) (h : p < length w.ring.nodes) (few : i < n_of w.ring.settings.rate)
      (cut : is_cut (condition_to w p d) ≡ true) where
    ones_read : (m : ℕ) → Takes w p d i (suc m) 65535
    ones_read m =
        subst (λ b. Takes w p d i (suc m) (word_behind b (word_in w (neighbour (length w.ring.ids) p d) (opposite d) i m))) cut
        (interpreter_goes w whole p d i m h few)

    reads_on : (n m : ℕ) → after_rounds n 65535 (reading_in w p d i (suc m)) ≡ reading_in w p d i (suc m + n)
    reads_on zero m = ap (reading_in w p d i) {x = suc m} {y = suc m + zero} (omega arith)
    reads_on (suc n) m =
        ap (after_rounds n 65535) (sym (ones_read m).reading) ∙ reads_on n (suc m)
        ∙ ap (reading_in w p d i) {x = suc (suc m) + n} {y = suc m + suc n} (omega arith)

    in_ais : (k : ℕ) → 4 ≤ k → (reading_in w p d i k).mode ≡ mode.Ais
    in_ais k late =
        let j = k - 1 in
        ap (λ m. (reading_in w p d i m).mode) {x = k} {y = suc zero + j} (omega arith)
        ∙ ap (λ (x : Reading). x.mode) (sym (reads_on j zero) ∙ ais_settles (reading_in w p d i 1) j (omega arith))

  pub run_followed : IsFollowed w → (k : ℕ) → 4 ≤ k → IsFollowed (run k w)
  run_followed f k late p d i h few =
      let is = run_following (followed_is w f) k p d i h few in
      elim (cases_Bool (is_cut (condition_to (run k w) p d))) [
        | inr clear ↦ is.follows clear
        | inl cut ↦ record {
          sound = is.sound;
          value = λ v e n norm. absurd (let ais = in_ais p d i (omega (arith, length_run w k)) (omega (arith, rate_run w k))
              (sym (ap is_cut (condition_run w k p d)) ∙ cut) k late in
              let x : mode.Ais ≡ mode.Norm = sym ais ∙ norm in cc);
        }
      ]

pub rounds_stay_followed : RoundsStayFollowed
rounds_stay_followed w whole form unslipped f k late = run_followed w whole form unslipped f k late
