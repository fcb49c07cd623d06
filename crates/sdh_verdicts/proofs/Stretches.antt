-- The request of a side in the last round of stretches that have at least three rounds each.
use Rattle.std.proofs.Common.{◌≡◌, ℕ, suc, ◌+◌, ◌-◌, ◌<◌, ◌≤◌, true, false, List, [], ◌∷◌, refl, sym, ap, ◌∙◌, subst, arith}
use Rattle.std.specs.Prelude.{if◌then◌else◌, nat_lt}
use Rattle.std.proofs.lemmas.Bool.Decides.{nat_tests}
use Rattle.sdh_ringmap.specs.declared.Side.{Side}
use Rattle.sdh_restoration.specs.History.{SideHistory}
use Rattle.sdh_restoration.specs.Changes.{Stretch, rounds_in}
use Rattle.sdh_restoration.specs.Sides.{Holding, new_holding, all_holding, holding_in, side_history}
use Rattle.sdh_promise.specs.Owed.{Ring}
use Rattle.sdh_restoration.specs.Sides.{asked_in}
use Rattle.sdh_verdicts.specs.Resting.{Resting, fresh, rest_after_changes, rest_in, asks}
use Rattle.sdh_verdicts.specs.Foretold.{AreLong, changes_in, RequestsRest}
use Rattle.sdh_verdicts.proofs.Spans.{spans_same}
use Rattle.sdh_verdicts.proofs.Rounds.{Same, At, begins, enters, keeps, request_is}

module _ (threshold : ℕ) (least : 1 ≤ threshold) (n p : ℕ) (d : Side) (g : SideHistory) where
  abbrev Is : ℕ → Resting → Type 0
  Is t r = At threshold least g t r

  abbrev So : ℕ → Holding → Type 0
  So t h = Same threshold least g t h

  abbrev next : Stretch → Resting → Resting
  next s r = rest_after_changes threshold n p d s.changes r

  -- in a stretch, and after it
  inside : (s : Stretch) (ss : List Stretch) (h : Holding) (i : ℕ) → i < s.rounds
      → holding_in n p d (s ∷ ss) h i ≡ all_holding n p d s.changes h
  inside s ss h i low =
      let b : nat_lt i s.rounds ≡ true = grind (arith, nat_tests) in
      ap (λ c. if c then all_holding n p d s.changes h else holding_in n p d ss (all_holding n p d s.changes h) (i - s.rounds)) b

  behind : (s : Stretch) (ss : List Stretch) (h : Holding) (i : ℕ)
      → holding_in n p d (s ∷ ss) h (s.rounds + i) ≡ holding_in n p d ss (all_holding n p d s.changes h) i
  behind s ss h i =
      let b : nat_lt (s.rounds + i) s.rounds ≡ false = grind (arith, nat_tests) in
      let left : s.rounds + i - s.rounds ≡ i = omega arith in
      ap (λ c. if c then all_holding n p d s.changes h else holding_in n p d ss (all_holding n p d s.changes h) (s.rounds + i - s.rounds)) b
      ∙ ap (holding_in n p d ss (all_holding n p d s.changes h)) left

  -- from round u on this holds, by stretches
  abbrev Follows : ℕ → List Stretch → Holding → Type 0
  Follows u ss h = (i : ℕ) → i < rounds_in ss → So (u + i) (holding_in n p d ss h i)

  here : (u : ℕ) (s : Stretch) (ss : List Stretch) (h : Holding) (i : ℕ) → Follows u (s ∷ ss) h → i < s.rounds
      → So (u + i) (all_holding n p d s.changes h)
  here u s ss h i all low = subst (So (u + i)) (inside s ss h i low) (all i (omega arith))

  later : (u v : ℕ) (s : Stretch) (ss : List Stretch) (h : Holding) → v ≡ u + s.rounds → Follows u (s ∷ ss) h
      → Follows v ss (all_holding n p d s.changes h)
  later u v s ss h there all i low =
      let place : u + (s.rounds + i) ≡ v + i = omega arith in
      subst (λ x. So x (holding_in n p d ss (all_holding n p d s.changes h) i)) place
      (subst (So (u + (s.rounds + i))) (behind s ss h i) (all (s.rounds + i) (omega arith)))

  walk : (ss : List Stretch) (t : ℕ) (r : Resting) → Is t r → AreLong ss → Follows (suc t) ss r.holding
      → Is (t + rounds_in ss) (rest_in threshold n p d (changes_in ss) r)
  walk [] t r x long all = subst (λ u. Is u r) (omega arith) x
  walk (s ∷ ss) t r x long all =
      let h = all_holding n p d s.changes r.holding in
      let three : 3 ≤ s.rounds = long.0 in
      let at = λ (i : ℕ) (low : i < s.rounds). here (suc t) s ss r.holding i all low in
      let first : So (suc t) h = subst (λ u. So u h) (omega arith) (at 0 (omega arith)) in
      let second : So (suc (suc t)) h = subst (λ u. So u h) (omega arith) (at 1 (omega arith)) in
      let two : Is (suc (suc t)) (next s r) = enters threshold least g t r h x first second in
      let end : suc (suc t) + (s.rounds - 2) ≡ t + s.rounds = omega arith in
      let whole : Is (t + s.rounds) (next s r) =
      subst (λ u. Is u (next s r)) end (keeps threshold least g (s.rounds - 2) (suc (suc t)) (next s r) two
      (λ i low. (let place : suc t + (i + 2) ≡ suc (suc (suc t)) + i = omega arith in subst (λ u. So u h) place
      (at (i + 2) (omega arith))))) in
      let last : t + s.rounds + rounds_in ss ≡ t + (s.rounds + rounds_in ss) = omega arith in
      subst (λ u. Is u (rest_in threshold n p d (changes_in ss) (next s r))) last
      (walk ss (t + s.rounds) (next s r) whole long.1 (later (suc t) (suc (t + s.rounds)) s ss r.holding (omega arith) all))

  pub from_new : (s : Stretch) (ss : List Stretch) (t : ℕ) → AreLong (s ∷ ss) → Follows 0 (s ∷ ss) new_holding → rounds_in (s ∷ ss) ≡ t + 1
      → Is t (rest_in threshold n p d (changes_in (s ∷ ss)) fresh)
  from_new s ss t long all many =
      let h = all_holding n p d s.changes new_holding in
      let three : 3 ≤ s.rounds = long.0 in
      let at = λ (i : ℕ) (low : i < s.rounds). here 0 s ss new_holding i all low in
      let zero_is : So 0 h = subst (λ u. So u h) (omega arith) (at 0 (omega arith)) in
      let one : So 1 h = subst (λ u. So u h) (omega arith) (at 1 (omega arith)) in
      let two : So 2 h = subst (λ u. So u h) (omega arith) (at 2 (omega arith)) in
      let begun : Is 2 (next s fresh) = begins threshold least g h zero_is one two in
      let end : 2 + (s.rounds - 3) ≡ s.rounds - 1 = omega arith in
      let whole : Is (s.rounds - 1) (next s fresh) =
      subst (λ u. Is u (next s fresh)) end (keeps threshold least g (s.rounds - 3) 2 (next s fresh) begun
      (λ i low. (let place : 0 + (i + 3) ≡ suc 2 + i = omega arith in subst (λ u. So u h) place (at (i + 3) (omega arith))))) in
      let last : s.rounds - 1 + rounds_in ss ≡ t = omega arith in
      subst (λ u. Is u (rest_in threshold n p d (changes_in ss) (next s fresh))) last
      (walk ss (s.rounds - 1) (next s fresh) whole long.1 (later 0 (suc (s.rounds - 1)) s ss new_holding (omega arith) all))

-- the request of a side in the last round of such stretches
asks_rest : (ring : Ring) (ss : List Stretch) (t p : ℕ) (d : Side) → 1 ≤ ring.threshold → AreLong ss → rounds_in ss ≡ t + 1
    → asked_in ring.threshold ring.wait ring.nodes ss t p d ≡ asks ring.wait (rest_in ring.threshold ring.nodes p d (changes_in ss) fresh)
asks_rest ring [] t p d least long many = absurd (omega arith)
asks_rest ring (first ∷ ss) t p d least long many =
    let n = ring.nodes in
    let g = side_history n p d (first ∷ ss) in
    request_is ring.threshold least g ring.wait t (rest_in ring.threshold n p d (changes_in (first ∷ ss)) fresh)
    (from_new ring.threshold least n p d g first ss t long
    (λ i low. (let same : 0 + i ≡ i = omega arith in subst (λ u. Same ring.threshold least g u
    (holding_in n p d (first ∷ ss) new_holding i)) (sym same)
    (record { cut = refl; degraded = refl; command = refl; moment = refl }))) many)

pub requests_rest : RequestsRest
requests_rest ring ss t least long many =
    spans_same ring.nodes (asked_in ring.threshold ring.wait ring.nodes ss t)
    (λ p d. asks ring.wait (rest_in ring.threshold ring.nodes p d (changes_in ss) fresh))
    (λ p d low. asks_rest ring ss t p d least long many)
