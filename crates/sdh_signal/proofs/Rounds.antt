-- One round, from the lists that it was made of, and the rounds before that left the words as they were.
use Rattle.std.proofs.Common.{◌≡◌, ℕ, zero, suc, ◌+◌, ◌-◌, ◌^◌, ◌<◌, ◌≤◌, min, Bool, true, false, IsTrue, List, [], length, get_or, refl}
use Rattle.std.proofs.Common.{ap, sym, subst, ◌∙◌, arith, ◌⊎◌, inl, inr}
use Rattle.std.specs.Prelude.{All, nat_lt, if◌then◌else◌}
use Rattle.std.proofs.lemmas.Bool.{cases_lt, lt-ltb}
use Rattle.sdh_basics.specs.Cells.{cells}
use Rattle.sdh_basics.specs.Indexed.{map_from}
use Rattle.sdh_basics.proofs.CellsLaws.{length-cells, get_or-cells, length-map_from}
use Rattle.sdh_nodestate.specs.declared.Needs.{Needs}
use Rattle.sdh_nodestate.specs.declared.Sent.{Sent}
use Rattle.sdh_nodestate.specs.declared.NodeState.{NodeState}
use Rattle.sdh_nodestate.specs.Conditions.{MayNeed}
use Rattle.sdh_nodestate.specs.Words.{first_words, IsSourced}
use Rattle.sdh_nodestate.specs.Rules.{state_after, sent_after}
use Rattle.sdh_signal.specs.Settled.{settled_states}
use Rattle.sdh_signal.specs.Signals.{Signals, Filters, no_filters, no_needs, filters_after, is_held, state_in, words_in, scene_at, round}
use Rattle.sdh_signal.specs.Signals.{free_round, MaySignal, requests_in}
use Rattle.sdh_signal.specs.Laws.{ChangesNoWord}
use Rattle.sdh_signal.proofs.Placewise.{map_from-same}
use Rattle.sdh_signal.proofs.RunRounds.{filters_in}
use Rattle.sdh_signal.proofs.StillRings.{may_go_on}
use Rattle.sdh_signal.proofs.Fixpoint.{still_rings_are_settled, free_rounds}
use Rattle.sdh_signal.specs.SignalRing.{ring_of, NoneHeld, LeavesWords, WereUnchanged, IsRing}
use Rattle.sdh_signal.specs.Nodes.{filters_with, scene_through, next_state, next_sent}

-- a round has run
pub ran : (rounds later : ℕ) → later ≡ min (rounds + 1) (2 ^ 64 - 1) → nat_lt 0 later ≡ true
ran rounds later e = lt-ltb 0 later (omega arith)

-- what a round made of the lists of a ring
pub record Made (ids : List ℕ) (needs : List Needs) (held : List Bool) (states : List NodeState) (words : List Sent)
    (filters : List Filters) (rounds : ℕ)
    (now_states : List NodeState) (now_words : List Sent) (now_filters : List Filters) (later : ℕ) : Type 0 where
  pub filters_are : now_filters ≡ map_from (λ p x. filters_with (if nat_lt 0 rounds then words else []) (length ids) p x
      (get_or filters p no_filters)) 0 needs
  pub states_are : now_states ≡ map_from (next_state ids now_filters held states) 0 needs
  pub words_are : now_words ≡ map_from (next_sent ids now_filters held words) 0 needs
  pub count : later ≡ min (rounds + 1) (2 ^ 64 - 1)

-- what a round made, put together from what each of its calls made
pub made_by : {ids : List ℕ} {needs : List Needs} {held : List Bool} {states : List NodeState} {words way : List Sent} {filters through : List Filters} {rounds : ℕ}
    {now_states : List NodeState} {now_words : List Sent} {now_filters : List Filters} {later : ℕ}
    → way ≡ (if nat_lt 0 rounds then words else []) → through ≡ now_filters
    → now_filters ≡ map_from (λ p x. filters_with way (length ids) p x (get_or filters p no_filters)) 0 needs
    → now_states ≡ map_from (next_state ids through held states) 0 needs → now_words ≡ map_from (next_sent ids through held words) 0 needs
    → later ≡ min (rounds + 1) (2 ^ 64 - 1)
    → Made ids needs held states words filters rounds now_states now_words now_filters later
made_by {ids} {needs} {held} {states} {words} {way} {filters} {through} found read fs ss ws count = record {
  filters_are = fs ∙ ap (λ out. map_from (λ p x. filters_with out (length ids) p x (get_or filters p no_filters)) 0 needs) found;
  states_are = ss ∙ ap (λ gs. map_from (next_state ids gs held states) 0 needs) read;
  words_are = ws ∙ ap (λ gs. map_from (next_sent ids gs held words) 0 needs) read;
  count = count;
}

module _ {ids : List ℕ} {needs : List Needs} {held : List Bool} {states : List NodeState} {words : List Sent} {filters : List Filters} {rounds : ℕ}
    {now_states : List NodeState} {now_words : List Sent} {now_filters : List Filters} {later : ℕ}
    (made : Made ids needs held states words filters rounds now_states now_words now_filters later) where
  abbrev old : Signals
  old = ring_of ids states words filters rounds

  abbrev now : Signals
  now = ring_of ids now_states now_words now_filters later

  new_filters : now_filters ≡ (round needs held old).filters
  unfolding round filters_after
  new_filters = made.filters_are

  -- the filters of a position after the round
  filters_at : (p : ℕ) → p < length needs → get_or now_filters p no_filters ≡ filters_after old p (get_or needs p no_needs)
  filters_at p h = ap (λ (fs : List Filters). get_or fs p no_filters) new_filters ∙ filters_in needs held old p h

  new_states : now_states ≡ (round needs held old).states
  unfolding round scene_at
  new_states =
      made.states_are
      ∙ map_from-same (next_state ids now_filters held states)
      (λ p x. if is_held held p then state_in old p else state_after (scene_at old p x)) needs no_needs
      (λ k h. ap (λ f. if is_held held k then state_in old k else state_after (scene_through ids k (get_or needs k no_needs) f))
      (filters_at k h))

  new_words : now_words ≡ (round needs held old).words
  unfolding round scene_at
  new_words =
      made.words_are
      ∙ map_from-same (next_sent ids now_filters held words)
      (λ p x. if is_held held p then words_in old p else sent_after (scene_at old p x)) needs no_needs
      (λ k h. ap (λ f. if is_held held k then words_in old k else sent_after (scene_through ids k (get_or needs k no_needs) f))
      (filters_at k h))

  -- what was made of the lists is a round
  pub is_round : now ≡ round needs held old
  unfolding round
  is_round =
      ap (λ ss. record { ids = ids; states = ss; words = now_words; filters = now_filters; running = nat_lt 0 later }) new_states
      ∙ ap (λ ws. record {
        ids = ids;
        states = (round needs held old).states;
        words = ws;
        filters = now_filters;
        running = nat_lt 0 later;
      }) new_words
      ∙ ap (λ fs. record {
        ids = ids;
        states = (round needs held old).states;
        words = (round needs held old).words;
        filters = fs;
        running = nat_lt 0 later;
      }) new_filters
      ∙ ap (λ b. record {
        ids = ids;
        states = (round needs held old).states;
        words = (round needs held old).words;
        filters = (round needs held old).filters;
        running = b;
      }) (ran rounds later made.count)

  -- a round leaves the words as they were, where no node is held and its words are equal to those before
  pub words_left : (0 < rounds) × NoneHeld held × (now_words ≡ words) → LeavesWords held old (round needs held old)
  words_left (some, free, same) = record {
    later = lt-ltb 0 rounds some;
    free = free;
    words = ap (λ (s : Signals). s.words) (sym is_round)
        ∙ same;
  }

-- the words of new nodes have their sources in the ring
pub first_sourced : (ids : List ℕ) (words : List Sent) → words ≡ cells (first_words ids) (length ids) → All (IsSourced ids) words
first_sourced ids words is = λ k d h.
    let few : k < length ids = omega (arith, ap length is, length-cells (first_words ids) (length ids)) in
    subst (IsSourced ids) (sym (ap (λ (ws : List Sent). get_or ws k d) is ∙ get_or-cells (first_words ids) (length ids) k d few))
    (record { west = (k, few, refl); east = (k, few, refl) })

-- what a ring keeps is enough for a round
pub may_go : {s : Signals} {rounds unchanged : ℕ} (needs : List Needs) → IsRing s rounds unchanged → length needs ≡ length s.ids
    → All MayNeed needs → MaySignal needs s
may_go needs ring size sound = record { ids_ok = ring.ids_ok; size = size; sound = sound; said = ring.words_len; sourced = ring.sourced }

-- the rounds before

fewer : (k : ℕ) (s : Signals) → WereUnchanged (suc k) s → WereUnchanged k s
fewer zero s w = tt
fewer (suc k) s (before, needs, c, is, w) = (before, needs, c, is, fewer k before w)

module _ (needs : List Needs) (held : List Bool) (s : Signals) (may : MaySignal needs s) where
  -- a round that leaves the words is one without held nodes that changes none
  leaves : LeavesWords held s (round needs held s) → ChangesNoWord needs s
  leaves l = record {
    running = l.later;
    may = may;
    words = ap (λ (r : Signals). r.words) (sym (free_rounds needs held s l.free))
        ∙ l.words;
  }

  one_more : (k : ℕ) → LeavesWords held s (round needs held s) → WereUnchanged k s → WereUnchanged (suc k) (round needs held s)
  one_more k l w = (s, needs, leaves l, free_rounds needs held s l.free, w)

  up_to_three : (u : ℕ) → u ≤ 3 → (u < 3) ⊎ (3 ≤ u) → LeavesWords held s (round needs held s) → WereUnchanged u s
      → WereUnchanged (min (u + 1) 3) (round needs held s)
  up_to_three u few (inl below) l w =
      let e : suc u ≡ min (u + 1) 3 = omega arith in
      subst (λ k. WereUnchanged k (round needs held s)) e (one_more u l w)
  up_to_three u few (inr three) l w =
      let e : 3 ≡ min (u + 1) 3 = omega arith in
      let is : u ≡ 3 = omega arith in
      subst (λ k. WereUnchanged k (round needs held s)) e (one_more 2 l (fewer 2 s (subst (λ k. WereUnchanged k s) is w)))

  pub were_unchanged : (goes_on : Bool) (u : ℕ) → u ≤ 3 → (IsTrue goes_on → LeavesWords held s (round needs held s)) → WereUnchanged u s
      → WereUnchanged (if goes_on then min (u + 1) 3 else 0) (round needs held s)
  were_unchanged true u few l w = up_to_three u few (cases_lt u 3) (l refl) w
  were_unchanged false u few l w = tt

  settled_by : WereUnchanged 2 s → LeavesWords held s (round needs held s)
      → (round needs held s).states ≡ settled_states (requests_in needs)
  settled_by (b, second, c2, is2, (a, first, c1, is1, w)) l =
      let third = leaves l in
      ap (λ (r : Signals). r.states) (free_rounds needs held s l.free)
      ∙ ap (λ (r : Signals). (free_round needs r).states) (is2 ∙ ap (free_round second) is1)
      ∙ still_rings_are_settled first second needs a c1 (subst (λ r. ChangesNoWord second r) is1 c2)
      (subst (λ r. ChangesNoWord needs r) (is2 ∙ ap (free_round second) is1) third)

  -- the law
  pub is_settled : (goes_on : Bool) (u : ℕ) → u ≤ 3 → (IsTrue goes_on → LeavesWords held s (round needs held s)) → WereUnchanged u s
      → (if goes_on then min (u + 1) 3 else 0) ≡ 3
      → (round needs held s).states ≡ settled_states (requests_in needs)
  is_settled true u few l w three = settled_by (two u few (cases_lt u 3) w three) (l refl)
    where
      two : (u : ℕ) → u ≤ 3 → (u < 3) ⊎ (3 ≤ u) → WereUnchanged u s → min (u + 1) 3 ≡ 3 → WereUnchanged 2 s
      two u few (inl below) w three = let e : u ≡ 2 = omega arith in subst (λ k. WereUnchanged k s) e w
      two u few (inr above) w three = let e : u ≡ 3 = omega arith in fewer 2 s (subst (λ k. WereUnchanged k s) e w)
  is_settled false u few l w three = cc

  counted_few : (goes_on : Bool) (u : ℕ) → (if goes_on then min (u + 1) 3 else 0) ≤ 3
  counted_few true u = omega arith
  counted_few false u = omega arith

  counted_ran : (goes_on : Bool) (u rounds later : ℕ) → (IsTrue goes_on → 0 < rounds) → u ≤ rounds - 1
      → later ≡ min (rounds + 1) (2 ^ 64 - 1) → (if goes_on then min (u + 1) 3 else 0) ≤ later - 1
  counted_ran true u rounds later some h count = let g = some refl in omega arith
  counted_ran false u rounds later some h count = omega arith

  -- what is true of every ring stays true over a round
  pub ring_after : (goes_on : Bool) (u rounds later : ℕ) → IsRing s rounds u → later ≡ min (rounds + 1) (2 ^ 64 - 1)
      → (IsTrue goes_on → 0 < rounds) → (IsTrue goes_on → LeavesWords held s (round needs held s))
      → IsRing (round needs held s) later (if goes_on then min (u + 1) 3 else 0)
  unfolding round
  ring_after goes_on u rounds later ring count some leave =
      let next = may_go_on needs held s may in
      record {
        ids_ok = may.ids_ok;
        states_len = length-map_from (λ p x. if is_held held p then state_in s p else state_after (scene_at s p x)) 0 needs ∙ may.size;
        words_len = next.said;
        filters_len = length-map_from (λ p x. filters_after s p x) 0 needs ∙ may.size;
        sourced = next.sourced;
        few = counted_few goes_on u;
        ran = counted_ran goes_on u rounds later some ring.ran count;
        were = were_unchanged goes_on u ring.few leave ring.were;
      }
