-- The rounds of a ring of signals whose needs stay the same and in which no node is held are a run: a word is heard in
-- the round in which it comes in, where it is the third in a row, and it comes in one round after it was sent.
use Rattle.std.proofs.Common.{◌≡◌, ℕ, zero, suc, ◌<◌, Bool, true, false, Option, Some, None, List, [], length, get_or, refl, ap, sym, subst}
use Rattle.std.proofs.Common.{◌∙◌, arith, inl, inr}
use Rattle.std.specs.Prelude.{slice_get, slice_index, option_map, if◌then◌else◌, ◌&&◌, All}
use Rattle.std.proofs.lemmas.Bool.{eq-eqb}
use Rattle.std.proofs.lemmas.List.Elements.{All-get_or}
use Rattle.std.proofs.lemmas.Option.{get_or_from_slice_get, slice_get-get_or, slice_get_within}
use Rattle.sdh_basics.specs.Indexed.{map_from}
use Rattle.sdh_basics.proofs.CellsLaws.{length-map_from, get_or-placed}
use Rattle.sdh_kbytes.specs.KBytes.{path_number}
use Rattle.sdh_ringmap.specs.Requests.{code_number}
use Rattle.sdh_kbytes.specs.Same.{agrees}
use Rattle.sdh_kbytes.specs.declared.K.{K}
use Rattle.sdh_ringmap.specs.Places.{neighbour, opposite}
use Rattle.sdh_ringmap.specs.declared.Side.{Side}
use Rattle.sdh_ringmap.specs.declared.Side.TheVariants.{West, East}
use Rattle.sdh_nodestate.specs.declared.Needs.{Needs}
use Rattle.sdh_nodestate.specs.declared.Sent.{Sent}
use Rattle.sdh_nodestate.specs.Filtering.{Brought, with_brought, heard_of, hears}
use Rattle.sdh_nodestate.specs.Rules.{Scene, scene, own_id, word, word_on, sent_after, state_after}
use Rattle.sdh_nodestate.specs.declared.NodeState.TheVariants as state
use Rattle.sdh_nodestate.specs.Conditions.{MayNeed}
use Rattle.sdh_nodestate.specs.Words.{IsMember, IsSourced}
use Rattle.sdh_nodestate.proofs.Filtering.{heard_last}
use Rattle.sdh_signal.specs.Signals.{Signals, Filters, no_filters, fails_on, sent_on, incoming, on_their_way, filters_after}
use Rattle.sdh_signal.specs.Signals.{heard_through, is_held, state_in, words_in, unsaid, scene_at, round, unheld_rounds, MaySignal, no_needs}
use Rattle.sdh_signal.specs.Runs.{Run, at_round, sent_here, bare, IsRun}
use Rattle.sdh_ringmap.proofs.Sides.{neighbour_below}
use Rattle.sdh_signal.proofs.OneNode.{if_not_some}
use Rattle.sdh_signal.proofs.Sources.{word_source, IsOwnOrRelayed}

-- what is kept of each side

pub sent_is : (s : Scene) (d : Side) → sent_on (sent_after s) d ≡ word s d
sent_is s West = refl
sent_is s East = refl

sourced_on : (ids : List ℕ) (s : Sent) (d : Side) → IsSourced ids s → IsMember ids (sent_on s d).from
sourced_on ids s West h = h.west
sourced_on ids s East h = h.east

abbrev pub brought_on : Filters → Side → Brought
brought_on f West = f.west
brought_on f East = f.east

pub brought_after : (s : Signals) (p : ℕ) (x : Needs) (d : Side)
    → brought_on (filters_after s p x) d ≡ with_brought (incoming (on_their_way s) (length s.ids) p x d)
    (brought_on (get_or s.filters p no_filters) d)
unfolding filters_after
brought_after s p x West = refl
brought_after s p x East = refl

heard_on : (ids : List ℕ) (p : ℕ) (x : Needs) (f : Filters) (d : Side)
    → word_on (scene ids p x (heard_through f)) d ≡ hears (brought_on f d)
heard_on ids p x f West = refl
heard_on ids p x f East = refl

-- words that differ in their marks alone agree
same_agree : (a b : K) → bare a ≡ bare b → agrees a b ≡ true
unfolding agrees
same_agree a b e =
    rw (
      eq-eqb (code_number a.code) (code_number b.code) (ap (λ (w : K). code_number w.code) e),
      eq-eqb a.to b.to (ap (λ (w : K). w.to) e),
      eq-eqb a.from b.from (ap (λ (w : K). w.from) e),
      eq-eqb (path_number a.path) (path_number b.path) (ap (λ (w : K). path_number w.path) e),
    )

-- three words in a row that differ in their marks alone are heard
heard_bare : (a b c k : K) → bare a ≡ k → bare b ≡ k → bare c ≡ k → option_map bare (heard_of (Some a) (Some b) (Some c)) ≡ Some k
heard_bare a b c k ea eb ec =
    ap (λ t. option_map bare (if t && agrees a c then Some a else None)) (same_agree a b (ea ∙ sym eb))
    ∙ ap (λ t. option_map bare (if true && t then Some a else None)) (same_agree a c (ea ∙ sym ec))
    ∙ ap (λ (w : K). Some w) ea

-- each word that a node sends has a source in the ring, if each word before it has

pub way_sourced : (s : Signals) → All (IsSourced s.ids) s.words → All (IsSourced s.ids) (on_their_way s)
way_sourced s sourced = by_running s.running
  where
    by_running : (b : Bool) → All (IsSourced s.ids) (if b then s.words else [])
    by_running true = sourced
    by_running false = λ k d h. absurd (omega arith)

module _ (s : Signals) (sourced : All (IsSourced s.ids) s.words) where
  came : (b : Bool) (o : Option Sent) (d : Side) (k : K) → ((w : Sent) → o ≡ Some w → IsSourced s.ids w)
      → (if b then None else option_map (λ w. sent_on w d) o) ≡ Some k → IsMember s.ids k.from
  came true o d k h e = cc
  came false None d k h e = cc
  came false (Some w) d k h e = let is : sent_on w d ≡ k =
      cc in subst (λ (x : K). IsMember s.ids x.from) is (sourced_on s.ids w d (h w refl))

  at_place : (q : ℕ) (w : Sent) → slice_get (on_their_way s) q ≡ Some w → IsSourced s.ids w
  at_place q w e =
      subst (IsSourced s.ids) (get_or_from_slice_get (on_their_way s) q w w e)
      (All-get_or (IsSourced s.ids) (on_their_way s) q w (slice_get_within (on_their_way s) q w e) (way_sourced s sourced))

  heard_sourced : (p : ℕ) (x : Needs) (d : Side) (k : K) → word_on (scene_at s p x) d ≡ Some k → IsMember s.ids k.from
  unfolding scene_at
  heard_sourced p x d k e =
      let q = neighbour (length s.ids) p d in
      let f = filters_after s p x in
      let last = heard_last (brought_on f d) k (sym (heard_on s.ids p x f d) ∙ e) in
      came (fails_on x d) (slice_get (on_their_way s) q) (opposite d) k (at_place q)
      (sym (ap (λ (b : Brought). b.last) (brought_after s p x d)) ∙ last)

  own_is : (p : ℕ) (x : Needs) → own_id (scene_at s p x) ≡ slice_index s.ids p
  unfolding scene_at
  own_is p x = refl

  by_kind : (p : ℕ) (x : Needs) (d : Side) → p < length s.ids → IsOwnOrRelayed (scene_at s p x) d (word (scene_at s p x) d)
      → IsMember s.ids (word (scene_at s p x) d).from
  by_kind p x d h (inl own) = (p, h, sym (own ∙ own_is p x))
  by_kind p x d h (inr r) = heard_sourced p x (opposite d) (word (scene_at s p x) d) r.heard

  pub words_sourced : (p : ℕ) (x : Needs) → p < length s.ids → IsSourced s.ids (sent_after (scene_at s p x))
  words_sourced p x h = record {
    west = by_kind p x West h (word_source (scene_at s p x) West);
    east = by_kind p x East h (word_source (scene_at s p x) East);
  }

  by_hold : (b : Bool) (p : ℕ) (x : Needs) → length s.words ≡ length s.ids → p < length s.ids
      → IsSourced s.ids (if b then words_in s p else sent_after (scene_at s p x))
  by_hold true p x said h = All-get_or (IsSourced s.ids) s.words p (record { west = unsaid; east = unsaid }) (omega arith) sourced
  by_hold false p x said h = words_sourced p x h

-- after a round each word has a source in the ring, if each word before it has
pub round_sourced : (needs : List Needs) (held : List Bool) (s : Signals) → length needs ≡ length s.ids → length s.words ≡ length s.ids
    → All (IsSourced s.ids) s.words → All (IsSourced s.ids) (round needs held s).words
unfolding round
round_sourced needs held s size said sourced = λ k d h.
    let f = λ (p : ℕ) (x : Needs). if is_held held p then words_in s p else sent_after (scene_at s p x) in
    let l = length-map_from f 0 needs in
    subst (IsSourced s.ids) (sym (get_or-placed f needs k no_needs d (omega arith)))
    (by_hold s sourced (is_held held k) k (get_or needs k no_needs) said (omega arith))

-- each node has its words after a round
pub round_said : (needs : List Needs) (held : List Bool) (s : Signals) → length (round needs held s).words ≡ length needs
unfolding round
round_said needs held s = length-map_from (λ p x. if is_held held p then words_in s p else sent_after (scene_at s p x)) 0 needs

pub round_ids : (needs : List Needs) (held : List Bool) (s : Signals) → (round needs held s).ids ≡ s.ids
unfolding round
round_ids needs held s = refl

-- the filters of a position after a round
pub filters_in : (needs : List Needs) (held : List Bool) (s : Signals) (p : ℕ) → p < length needs
    → get_or (round needs held s).filters p no_filters ≡ filters_after s p (get_or needs p no_needs)
unfolding round
filters_in needs held s p h = get_or-placed (λ p x. filters_after s p x) needs p no_needs no_filters h

module _ (needs : List Needs) (s : Signals) (may : MaySignal needs s) where
  abbrev n : ℕ
  n = length s.ids

  abbrev ring : ℕ → Signals
  ring t = unheld_rounds needs t s

  abbrev need : ℕ → Needs
  need p = get_or needs p no_needs

  -- the run
  abbrev pub run_of : Run
  run_of = record {
    ids = s.ids;
    need = λ p. get_or needs p no_needs;
    heard = λ t p. heard_through (filters_after (unheld_rounds needs t s) p (get_or needs p no_needs));
  }

  abbrev at : ℕ → ℕ → Scene
  at t p = at_round run_of t p

  ids_is : (t : ℕ) → (ring t).ids ≡ s.ids
  unfolding round
  ids_is zero = refl
  ids_is (suc t) = ids_is t

  length_is : (t : ℕ) → length (ring t).words ≡ n
  length_is zero = may.said
  length_is (suc t) = round_said needs [] (ring t) ∙ may.size

  sourced : (t : ℕ) → All (IsSourced s.ids) (ring t).words
  sourced zero = may.sourced
  sourced (suc t) =
      let same = ap length (sym (ids_is t)) in
      subst (λ ids. All (IsSourced ids) (ring (suc t)).words) (ids_is t)
      (round_sourced needs [] (ring t) (may.size ∙ same) (length_is t ∙ same)
      (subst (λ ids. All (IsSourced ids) (ring t).words) (sym (ids_is t)) (sourced t)))

  pub scene_is : (t p : ℕ) → scene_at (ring t) p (need p) ≡ at t p
  unfolding scene_at
  scene_is t p = ap (λ ids. scene ids p (need p) (heard_through (filters_after (ring t) p (need p)))) (ids_is t)

  words_are : (t p : ℕ) → p < n → slice_get (ring (suc t)).words p ≡ Some (sent_after (at t p))
  unfolding round
  words_are t p h =
      let f = λ (p : ℕ) (x : Needs). if is_held [] p then words_in (ring t) p else sent_after (scene_at (ring t) p x) in
      let size = may.size in
      let few : p < length (map_from f 0 needs) = omega (arith, length-map_from f 0 needs) in
      let z : Sent = sent_after (at t p) in
      slice_get-get_or (map_from f 0 needs) p z few
      ∙ ap (λ (w : Sent). Some w) (get_or-placed f needs p no_needs z (omega arith) ∙ ap sent_after (scene_is t p))

  -- the states after a round
  pub states_are : (t p : ℕ) → p < n → state_in (ring (suc t)) p ≡ state_after (at t p)
  unfolding round
  states_are t p h =
      get_or-placed (λ (p : ℕ) (x : Needs). if is_held [] p then state_in (ring t) p else state_after (scene_at (ring t) p x)) needs p no_needs
      (state.Idle tt) (let size = may.size in omega arith)
      ∙ ap state_after (scene_is t p)

  next_below : (p : ℕ) (d : Side) → neighbour n p d < n
  next_below p d = neighbour_below n p d (let e = may.ids_ok.enough in omega arith)

  -- what is on its way to p on side d
  abbrev coming : ℕ → ℕ → Side → Option K
  coming t p d = incoming (on_their_way (ring t)) (length (ring t).ids) p (need p) d

  -- what comes in is what the neighbour sent in the round before
  comes : (t p : ℕ) (d : Side) → coming (suc t) p d ≡ (if fails_on (need p) d then None else Some (sent_here run_of t p d))
  unfolding round
  comes t p d =
      ap (λ ids. incoming (ring (suc t)).words (length ids) p (need p) d) (ids_is t)
      ∙ ap (λ o. if fails_on (need p) d then None else option_map (λ w. sent_on w (opposite d)) o)
      (words_are t (neighbour n p d) (next_below p d))
      ∙ ap (λ w. if fails_on (need p) d then None else Some w) (sent_is (at t (neighbour n p d)) (opposite d))

  -- what the last three rounds brought
  abbrev brings : ℕ → ℕ → Side → Brought
  brings t p d = brought_on (filters_after (ring t) p (need p)) d

  heard_is : (t p : ℕ) (d : Side) → word_on (at t p) d ≡ hears (brings t p d)
  heard_is t p d = heard_on s.ids p (need p) (filters_after (ring t) p (need p)) d

  brings_first : (t p : ℕ) (d : Side) → (brings t p d).last ≡ coming t p d
  brings_first t p d = ap (λ (b : Brought). b.last) (brought_after (ring t) p (need p) d)

  brings_next : (t p : ℕ) (d : Side) → p < n → brings (suc t) p d ≡ with_brought (coming (suc t) p d) (brings t p d)
  brings_next t p d h =
      brought_after (ring (suc t)) p (need p) d
      ∙ ap (λ f. with_brought (coming (suc t) p d) (brought_on f d)) (filters_in needs [] (ring t) p (let size = may.size in omega arith))

  -- where the side doesn't fail, the word that comes in is the neighbour's
  comes_free : (t p : ℕ) (d : Side) → fails_on (need p) d ≡ false → coming (suc t) p d ≡ Some (sent_here run_of t p d)
  comes_free t p d e = comes t p d ∙ ap (λ b. if b then None else Some (sent_here run_of t p d)) e

  comes_silent : (t p : ℕ) (d : Side) → fails_on (need p) d ≡ true → coming (suc t) p d ≡ None
  comes_silent t p d e = comes t p d ∙ ap (λ b. if b then None else Some (sent_here run_of t p d)) e

  past_is : (t p : ℕ) (d : Side) (k : K) → word_on (at (suc t) p) d ≡ Some k → k ≡ sent_here run_of t p d
  past_is t p d k e =
      let b = brings (suc t) p d in
      let last = heard_last b k (sym (heard_is (suc t) p d) ∙ e) in
      sym (if_not_some (fails_on (need p) d) (sent_here run_of t p d) k (sym (comes t p d) ∙ sym (brings_first (suc t) p d) ∙ last)).1

  silent_is : (t p : ℕ) (d : Side) → fails_on (need p) d ≡ true → word_on (at (suc t) p) d ≡ None
  silent_is t p d e =
      let b = brings (suc t) p d in
      heard_is (suc t) p d ∙ ap (λ o. heard_of o b.second b.third) (brings_first (suc t) p d ∙ comes_silent t p d e)

  -- the last three rounds' words, where the side doesn't fail
  brings_three : (t p : ℕ) (d : Side) → p < n → fails_on (need p) d ≡ false
      → hears (brings (suc (suc (suc t))) p d) ≡ heard_of (Some (sent_here run_of (suc (suc t)) p d)) (Some (sent_here run_of (suc t) p d))
      (Some (sent_here run_of t p d))
  brings_three t p d h e =
      ap hears (brings_next (suc (suc t)) p d h)
      ∙ ap (λ b. hears (with_brought (coming (suc (suc (suc t))) p d) b)) (brings_next (suc t) p d h)
      ∙ ap (λ b. hears (with_brought (coming (suc (suc (suc t))) p d) (with_brought (coming (suc (suc t)) p d) b))) (brings_next t p d h)
      ∙ ap (λ o. heard_of o (coming (suc (suc t)) p d) (coming (suc t) p d)) (comes_free (suc (suc t)) p d e)
      ∙ ap (λ o. heard_of (Some (sent_here run_of (suc (suc t)) p d)) o (coming (suc t) p d)) (comes_free (suc t) p d e)
      ∙ ap (λ o. heard_of (Some (sent_here run_of (suc (suc t)) p d)) (Some (sent_here run_of (suc t) p d)) o) (comes_free t p d e)

  future_is : (t p : ℕ) (d : Side) (k : K) → p < n → fails_on (need p) d ≡ false
      → bare (sent_here run_of t p d) ≡ k → bare (sent_here run_of (suc t) p d) ≡ k → bare (sent_here run_of (suc (suc t)) p d) ≡ k
      → option_map bare (word_on (at (suc (suc (suc t))) p) d) ≡ Some k
  future_is t p d k h e x y z =
      ap (option_map bare) (heard_is (suc (suc (suc t))) p d ∙ brings_three t p d h e)
      ∙ heard_bare (sent_here run_of (suc (suc t)) p d) (sent_here run_of (suc t) p d) (sent_here run_of t p d) k z y x

  -- each word of a round has a source in the ring
  sends_sourced : (t p : ℕ) (d : Side) → p < n → IsMember s.ids (word (at t p) d).from
  sends_sourced t p d h =
      subst (λ (w : K). IsMember s.ids w.from) (sent_is (at t p) d)
      (sourced_on s.ids (sent_after (at t p)) d
      (subst (IsSourced s.ids) (get_or_from_slice_get (ring (suc t)).words p (sent_after (at t p)) (sent_after (at t p)) (words_are t p h))
      (All-get_or (IsSourced s.ids) (ring (suc t)).words p (sent_after (at t p)) (let l = length_is (suc t) in omega arith)
      (sourced (suc t)))))

  pub is_run : IsRun run_of
  is_run = record {
    ids_ok = may.ids_ok;
    sound = λ p h. All-get_or MayNeed needs p no_needs (let size = may.size in omega arith) may.sound;
    past = λ t p d k h e. past_is t p d k e;
    silent = λ t p d h e. silent_is t p d e;
    future = future_is;
    sources = sends_sourced;
  }
