-- A ring of signals after three rounds, one after the other, that held no node and changed no word. The same sides
-- failed in all three, so that each round brought the same words, and the filters are full of them. One more round with
-- the needs of the third leaves the ring as it is, and so do all later ones.
use Rattle.std.proofs.Common.{◌≡◌, ℕ, zero, suc, ◌<◌, Bool, true, Option, None, List, [], length, get_or, refl, ap, sym, subst, ◌∙◌, arith}
use Rattle.std.specs.Prelude.{slice_get, option_map, if◌then◌else◌}
use Rattle.std.proofs.lemmas.List.Elements.{All-get_or}
use Rattle.sdh_basics.proofs.CellsLaws.{get_or-placed}
use Rattle.sdh_kbytes.specs.declared.K.{K}
use Rattle.sdh_ringmap.specs.Places.{neighbour, opposite}
use Rattle.sdh_ringmap.specs.declared.Side.{Side}
use Rattle.sdh_ringmap.specs.declared.Side.TheVariants.{West, East}
use Rattle.sdh_nodestate.specs.declared.Needs.{Needs}
use Rattle.sdh_nodestate.specs.declared.Sent.{Sent}
use Rattle.sdh_nodestate.specs.Conditions.{MayNeed}
use Rattle.sdh_nodestate.specs.Filtering.{Brought, with_brought}
use Rattle.sdh_nodestate.specs.Rules.{scene, own_id, fails, word, state_after, sent_after}
use Rattle.sdh_signal.specs.Signals.{Signals, Filters, fails_on, sent_on, incoming, on_their_way, filters_after, heard_through, is_held}
use Rattle.sdh_signal.specs.Signals.{state_in, words_in, unsaid, scene_at, round, free_round, unheld_rounds, MaySignal, no_needs}
use Rattle.sdh_signal.specs.Laws.{ChangesNoWord}
use Rattle.sdh_signal.proofs.Placewise.{map_from-same}
use Rattle.sdh_signal.proofs.Marks.{same_failing}
use Rattle.sdh_signal.proofs.RunRounds.{brought_on, brought_after, filters_in, round_sourced, round_said, round_ids, sent_is}

abbrev need_in : List Needs → ℕ → Needs
need_in needs p = get_or needs p no_needs

-- what comes in on side d of p in a round with these needs
abbrev came : List Needs → Signals → ℕ → Side → Option K
came needs s p d = incoming (on_their_way s) (length s.ids) p (get_or needs p no_needs) d

-- a ring may go on with the needs of the round before
pub may_go_on : (needs : List Needs) (held : List Bool) (s : Signals) → MaySignal needs s → MaySignal needs (round needs held s)
unfolding round
may_go_on needs held s may = record {
  ids_ok = may.ids_ok;
  size = may.size;
  sound = may.sound;
  said = round_said needs held s ∙ may.size;
  sourced = round_sourced needs held s may.size may.said may.sourced;
}

module _ (needs : List Needs) (s : Signals) (c : ChangesNoWord needs s) where
  way_is : on_their_way s ≡ s.words
  way_is = ap (λ b. if b then s.words else []) c.running

  sent_now : (p : ℕ) → p < length s.ids → sent_after (scene_at s p (need_in needs p)) ≡ words_in s p
  unfolding round
  sent_now p h =
      let size = c.may.size in
      sym (get_or-placed (λ p x. if is_held [] p then words_in s p else sent_after (scene_at s p x)) needs p no_needs
      (record { west = unsaid; east = unsaid }) (omega arith))
      ∙ ap (λ (ws : List Sent). get_or ws p (record { west = unsaid; east = unsaid })) c.words

  -- each node sends the word that it sent before
  word_now : (p : ℕ) (d : Side) → p < length s.ids → word (scene_at s p (need_in needs p)) d ≡ sent_on (words_in s p) d
  word_now p d h = sym (sent_is (scene_at s p (need_in needs p)) d) ∙ ap (λ w. sent_on w d) (sent_now p h)

  may_need : (p : ℕ) → p < length s.ids → MayNeed (need_in needs p)
  may_need p h = All-get_or MayNeed needs p no_needs (let size = c.may.size in omega arith) c.may.sound

fails_is : (s : Signals) (p : ℕ) (x : Needs) (d : Side) → fails (scene_at s p x) d ≡ fails_on x d
unfolding scene_at
fails_is s p x West = refl
fails_is s p x East = refl

id_is : (r s : Signals) (p : ℕ) (x y : Needs) → r.ids ≡ s.ids → own_id (scene_at r p x) ≡ own_id (scene_at s p y)
unfolding scene_at
id_is r s p x y ids = ap (λ (is : List ℕ). get_or is p 0) ids

needs_is : (s : Signals) (p : ℕ) (x : Needs) → (scene_at s p x).needs ≡ x
unfolding scene_at
needs_is s p x = refl

-- two rounds that change no word, of rings with equal words
module _ (a b : List Needs) (r s : Signals) (ca : ChangesNoWord a r) (cb : ChangesNoWord b s) (ids : r.ids ≡ s.ids)
    (words : r.words ≡ s.words) where
  same_fails : (p : ℕ) (d : Side) → p < length r.ids → fails_on (need_in a p) d ≡ fails_on (need_in b p) d
  same_fails p d h =
      let x = need_in a p in
      let y = need_in b p in
      let few : p < length s.ids = subst (λ (is : List ℕ). p < length is) ids h in
      sym (fails_is r p x d)
      ∙ same_failing (scene_at r p x) (scene_at s p y) d
      (subst MayNeed (sym (needs_is r p x)) (may_need a r ca p h)) (subst MayNeed (sym (needs_is s p y)) (may_need b s cb p few))
      (id_is r s p x y ids)
      (word_now a r ca p d h ∙ ap (λ (ws : List Sent). sent_on (get_or ws p (record { west = unsaid; east = unsaid })) d) words
      ∙ sym (word_now b s cb p d few))
      ∙ fails_is s p y d

  same_came : (p : ℕ) (d : Side) → p < length r.ids → came a r p d ≡ came b s p d
  same_came p d h =
      ap (λ t. if t then None else option_map (λ w. sent_on w (opposite d)) (slice_get (on_their_way r) (neighbour (length r.ids) p d)))
      (same_fails p d h)
      ∙ ap (λ (ws : List Sent). incoming ws (length r.ids) p (need_in b p) d) (way_is a r ca ∙ words ∙ sym (way_is b s cb))
      ∙ ap (λ (is : List ℕ). incoming (on_their_way s) (length is) p (need_in b p) d) ids

both_sides : (f g : Filters) → ((d : Side) → brought_on f d ≡ brought_on g d) → f ≡ g
both_sides f g h = ap (λ w. record { west = w; east = f.east }) (h West) ∙ ap (λ e. record { west = g.west; east = e }) (h East)

module _ (first second third : List Needs) (s : Signals)
    (c1 : ChangesNoWord first s) (c2 : ChangesNoWord second (free_round first s))
    (c3 : ChangesNoWord third (free_round second (free_round first s))) where
  abbrev s1 : Signals
  s1 = free_round first s

  abbrev s2 : Signals
  s2 = free_round second (free_round first s)

  abbrev s3 : Signals
  s3 = free_round third (free_round second (free_round first s))

  ids1 : s1.ids ≡ s.ids
  ids1 = round_ids first [] s

  ids2 : s2.ids ≡ s1.ids
  ids2 = round_ids second [] s1

  ids3 : s3.ids ≡ s2.ids
  ids3 = round_ids third [] s2

  -- the first and the second round bring on each side what the third brings
  same_second : (p : ℕ) (d : Side) → p < length s2.ids → came second s1 p d ≡ came third s2 p d
  same_second p d h = same_came second third s1 s2 c2 c3 (sym ids2) (sym c2.words) p d (subst (λ (is : List ℕ). p < length is) ids2 h)

  same_first : (p : ℕ) (d : Side) → p < length s2.ids → came first s p d ≡ came third s2 p d
  same_first p d h =
      same_came first third s s2 c1 c3 (sym (ids2 ∙ ids1)) (sym (c2.words ∙ c1.words)) p d
      (subst (λ (is : List ℕ). p < length is) (ids2 ∙ ids1) h)

  same_fourth : (p : ℕ) (d : Side) → came third s3 p d ≡ came third s2 p d
  unfolding round
  same_fourth p d = ap (λ (ws : List Sent). incoming ws (length s2.ids) p (need_in third p) d) (c3.words ∙ sym (way_is third s2 c3))

  abbrev full : Option K → Brought
  full o = record { last = o; second = o; third = o }

  few1 : (p : ℕ) → p < length s2.ids → p < length first
  few1 p h = let size = c1.may.size in let e = ap length (ids2 ∙ ids1) in omega arith

  few2 : (p : ℕ) → p < length s2.ids → p < length second
  few2 p h = let size = c2.may.size in let e = ap length ids2 in omega arith

  few3 : (p : ℕ) → p < length s2.ids → p < length third
  few3 p h = let size = c3.may.size in omega arith

  -- the filters are full
  filled : (p : ℕ) (d : Side) → p < length s2.ids → brought_on (filters_after s2 p (need_in third p)) d ≡ full (came third s2 p d)
  filled p d h =
      let o = came third s2 p d in
      brought_after s2 p (need_in third p) d
      ∙ ap (λ f. with_brought o (brought_on f d)) (filters_in second [] s1 p (few2 p h))
      ∙ ap (λ b. with_brought o b) (brought_after s1 p (need_in second p) d)
      ∙ ap (λ f. with_brought o (with_brought (came second s1 p d) (brought_on f d))) (filters_in first [] s p (few1 p h))
      ∙ ap (λ b. with_brought o (with_brought (came second s1 p d) b)) (brought_after s p (need_in first p) d)
      ∙ ap (λ x. record { last = o; second = x; third = came first s p d }) (same_second p d h)
      ∙ ap (λ x. record { last = o; second = o; third = x }) (same_first p d h)

  -- what the filters have brought stays
  filled_on : (p : ℕ) (d : Side) → p < length s2.ids → brought_on (filters_after s3 p (need_in third p)) d
      ≡ brought_on (filters_after s2 p (need_in third p)) d
  filled_on p d h =
      brought_after s3 p (need_in third p) d
      ∙ ap (λ f. with_brought (came third s3 p d) (brought_on f d)) (filters_in third [] s2 p (few3 p h))
      ∙ ap (λ o. with_brought o (brought_on (filters_after s2 p (need_in third p)) d)) (same_fourth p d)
      ∙ ap (λ b. with_brought (came third s2 p d) b) (filled p d h)
      ∙ sym (filled p d h)

  same_filters : (p : ℕ) → p < length s2.ids → filters_after s3 p (need_in third p) ≡ filters_after s2 p (need_in third p)
  same_filters p h = both_sides (filters_after s3 p (need_in third p)) (filters_after s2 p (need_in third p)) (λ d. filled_on p d h)

  same_scene : (p : ℕ) → p < length s2.ids → scene_at s3 p (need_in third p) ≡ scene_at s2 p (need_in third p)
  unfolding scene_at
  same_scene p h =
      ap (λ ids. scene ids p (need_in third p) (heard_through (filters_after s3 p (need_in third p)))) ids3
      ∙ ap (λ f. scene s2.ids p (need_in third p) (heard_through f)) (same_filters p h)

  inside : (p : ℕ) → p < length third → p < length s2.ids
  inside p h = let size = c3.may.size in omega arith

  states_stay : (free_round third s3).states ≡ s3.states
  unfolding round
  states_stay =
      map_from-same (λ p x. if is_held [] p then state_in s3 p else state_after (scene_at s3 p x))
      (λ p x. if is_held [] p then state_in s2 p else state_after (scene_at s2 p x)) third no_needs
      (λ k h. ap state_after (same_scene k (inside k h)))

  words_stay : (free_round third s3).words ≡ s3.words
  unfolding round
  words_stay =
      map_from-same (λ p x. if is_held [] p then words_in s3 p else sent_after (scene_at s3 p x))
      (λ p x. if is_held [] p then words_in s2 p else sent_after (scene_at s2 p x)) third no_needs
      (λ k h. ap sent_after (same_scene k (inside k h)))

  filters_stay : (free_round third s3).filters ≡ s3.filters
  unfolding round
  filters_stay =
      map_from-same (λ p x. filters_after s3 p x) (λ p x. filters_after s2 p x) third no_needs (λ k h. same_filters k (inside k h))

  -- one more round changes nothing
  pub stays : free_round third s3 ≡ s3
  unfolding round
  stays =
      ap (λ x. record {
        ids = s2.ids;
        states = x;
        words = (free_round third s3).words;
        filters = (free_round third s3).filters;
        running = true;
      }) states_stay
      ∙ ap (λ x. record { ids = s2.ids; states = s3.states; words = x; filters = (free_round third s3).filters; running = true }) words_stay
      ∙ ap (λ x. record { ids = s2.ids; states = s3.states; words = s3.words; filters = x; running = true }) filters_stay

  pub stays_on : (t : ℕ) → unheld_rounds third t s3 ≡ s3
  stays_on zero = refl
  stays_on (suc t) = ap (free_round third) (stays_on t) ∙ stays
