-- Convergence: from round 4n + 7 on nodes hear the same words in each round, but for marks, and from round 5n + 7 on
-- they send the same words. An own word is fixed by what is heard; a relayed one follows its source round by round.
use Rattle.std.proofs.Common.{◌≡◌, ℕ, ◌+◌, ◌-◌, ◌*◌, ◌<◌, ◌≤◌, suc, zero, Bool, true, false, Some, None, length, refl, ap, sym, subst, ◌∙◌}
use Rattle.std.proofs.Common.{arith, inl, inr}
use Rattle.std.specs.Prelude.{option_map, slice_index}
use Rattle.std.proofs.lemmas.Bool.{cases_lt}
use Rattle.sdh_kbytes.specs.declared.K.{K}
use Rattle.sdh_ringmap.specs.declared.terms.Code.TheVariants.{Nr}
use Rattle.sdh_kbytes.specs.declared.Path.TheVariants.{Short}
use Rattle.sdh_ringmap.specs.Places.{opposite, span_at}
use Rattle.sdh_ringmap.specs.declared.Side.{Side}
use Rattle.sdh_ringmap.specs.declared.Side.TheVariants.{West, East}
use Rattle.sdh_nodestate.specs.Rules.{Scene, scene, word_on, relayed, weight, weight_of, chosen, word, word_by, rest, rest_word}
use Rattle.sdh_nodestate.specs.Words.{IsMember}
use Rattle.sdh_signal.specs.Signals.{fails_on}
use Rattle.sdh_signal.proofs.Sources.{relayed_across}
use Rattle.sdh_restoration.specs.Applied.{highest}
use Rattle.sdh_signal.proofs.Terms.{terms}
use Rattle.sdh_signal.specs.Runs.{Run, at_round, IsRun, bare, run_requests}
use Rattle.sdh_ringmap.specs.Steps.{going}
use Rattle.sdh_ringmap.proofs.Going.{going-none, going-first, reached, IsReached}
use Rattle.sdh_ringmap.proofs.Sides.{span_below}
use Rattle.sdh_signal.proofs.OneNode.{choose_rest}
use Rattle.sdh_signal.proofs.Bare.{bare_scene, IsSameOrRelayed, same_words}
use Rattle.sdh_signal.proofs.Firsts.{first_any}
use Rattle.sdh_signal.proofs.Runs.{some_nodes, next_below, request_back, weight_le, at_least_waiting}
use Rattle.sdh_signal.proofs.Spans.{size, spans}
use Rattle.sdh_restoration.proofs.Highest.{top_of}
use Rattle.sdh_restoration.proofs.Asked.{highest_from}
use Rattle.sdh_signal.proofs.Backward.{relays_le}
use Rattle.sdh_signal.proofs.Levels.{IsLevel}
use Rattle.sdh_signal.proofs.Agreement.{short_said}
use Rattle.sdh_signal.proofs.Reach.{reach}

word_rest : (s : Scene) (d : Side) → chosen s d ≡ rest → word s d ≡ rest_word s d
unfolding word
word_rest s d e = ap (word_by s d) e

module _ (run : Run) (R : IsRun run) where
  open terms run use {n, next as nx, request as asked, plain, answer_code}

  abbrev node : ℕ → ℕ → Scene
  node t p = at_round run t p

  -- what is heard doesn't change any more, but for marks
  abbrev pub IsHeardSame : ℕ → Type 0
  IsHeardSame m =
      (t u p : ℕ) (e : Side) → m ≤ t → m ≤ u → p < n → option_map bare (word_on (node t p) e) ≡ option_map bare (word_on (node u p) e)

  -- an answer that is the same at all times
  fixed_word : (m p : ℕ) (e : Side) (k : K) → p < n → m + 4 ≤ 4 * n + 7 → ((t : ℕ) → m ≤ t → bare (word (node t (nx p e)) (opposite e)) ≡ k)
      → (b : Bool) → fails_on (run.need p) e ≡ b → (t u : ℕ) → 4 * n + 7 ≤ t → 4 * n + 7 ≤ u
      → option_map bare (word_on (node t p) e) ≡ option_map bare (word_on (node u p) e)
  fixed_word m p e k h f says true g t u a b =
      let none =
      λ (v : ℕ) (w : 4 * n + 7 ≤ v). (let when : suc (v - 1)
      ≡ v = omega arith in subst (λ x. word_on (node x p) e ≡ None) when (R.silent (v - 1) p e h g)) in
      ap (option_map bare) (none t a) ∙ ap (option_map bare) (sym (none u b))
  fixed_word m p e k h f says false g t u a b =
      let some = λ (v : ℕ) (w : 4 * n + 7 ≤ v). (
      let when : suc (suc (suc (v - 3))) ≡ v = omega arith in
      subst (λ x. option_map bare (word_on (node x p) e) ≡ Some k) when
      (R.future (v - 3) p e k h g (says (v - 3) (omega arith)) (says (suc (v - 3)) (omega arith))
      (says (suc (suc (v - 3))) (omega arith)))) in
      some t a ∙ sym (some u b)

  -- with a level

  module _ (c : ℕ) (level : IsLevel run R c) (x : ℕ) (y : Side) (inside : x < length run.ids) (there : c ≤ asked x y) where
    heard_same : IsHeardSame (4 * n + 7)
    heard_same t u p e a b h = elim (cases_lt (asked p e) c) [
      | inl less ↦ (
          let f = first_any run R c level p e x y h inside less there in
          let few = f.1 in
          reach run R c level f.0 t p e h few f.2 (omega arith) ∙ sym (reach run R c level f.0 u p e h few f.2 (omega arith)))
      | inr more ↦ (
          let z = nx p e in
          let o = opposite e in
          let across = request_back run R p e h in
          let many = R.ids_ok.enough in
          fixed_word (n + 4) p e (plain z o (answer_code z o) Short) h (omega arith)
          (λ v w. short_said run R c level v z o w (next_below run R p e) (omega arith)) (fails_on (run.need p) e) refl t u a b)
    ]

  -- without requests

  module _ (none : (p : ℕ) (d : Side) → p < length run.ids → asked p d ≤ 0) where
    chosen_rest : (t p : ℕ) (d : Side) → n < t → p < n → chosen (node t p) d ≡ rest
    unfolding chosen
    chosen_rest t p d g h =
        let a = weight_le run R t p d (omega arith) h in
        let b = weight_le run R t p (opposite d) (omega arith) h in
        let c = relays_le run R 0 none t p d g h in
        let e = none p d h in
        let f = none p (opposite d) h in
        choose_rest (weight (node t p) d) (weight (node t p) (opposite d)) (weight_of (relayed (node t p) d)) (omega arith) (omega arith)
        (omega arith)

    rest_same : IsHeardSame (4 * n + 7)
    rest_same t u p e a b h =
        let z = nx p e in
        let o = opposite e in
        let many = R.ids_ok.enough in
        fixed_word (n + 1) p e (plain z o Nr Short) h (omega arith)
        (λ v w. ap bare (word_rest (node v z) o (chosen_rest v z o (omega arith) (next_below run R p e))))
        (fails_on (run.need p) e) refl t u a b

  -- what follows

  module _ (m : ℕ) (same : IsHeardSame m) where
    scenes : (t u p : ℕ) → m ≤ t → m ≤ u → p < n → bare_scene (node t p) ≡ bare_scene (node u p)
    scenes t u p a b h =
        ap (λ o. scene run.ids p (run.need p) (record { west = o; east = option_map bare (run.heard t p).east })) (same t u p West a b h)
        ∙ ap (λ o. scene run.ids p (run.need p) (record { west = option_map bare (run.heard u p).west; east = o })) (same t u p East a b h)

    abbrev away : ℕ → ℕ → Side → K
    away t p e = word (node t p) (opposite e)

    -- a word k steps from its source no longer changes k rounds later
    words_by : (k t p : ℕ) (e : Side) → p < n → (away t p e).from ≡ slice_index run.ids (going n e p k) → m + k ≤ t
        → IsSameOrRelayed (node (suc t) p) (node t p) (opposite e) (away (suc t) p e) (away t p e) → 0 < m → away (suc t) p e ≡ away t p e
    words_by k t p e h f l (inl is) some = is
    words_by zero t p e h f l (inr two) some =
        absurd ((relayed_across (node t p) e (away t p e) two.other).1
        (f ∙ ap (slice_index run.ids) (going-none n (some_nodes run R) e p h)))
    words_by (suc k) zero p e h f l (inr two) some = absurd (omega arith)
    words_by (suc k) (suc t) p e h f l (inr two) some =
        let now =
        R.past (suc t) p e (away (suc (suc t)) p e) h (relayed_across (node (suc (suc t)) p) e (away (suc (suc t)) p e) two.one).0 in
        let old = R.past t p e (away (suc t) p e) h (relayed_across (node (suc t) p) e (away (suc t) p e) two.other).0 in
        let z = nx p e in
        now ∙ words_by k t z e (next_below run R p e) (ap (λ (w : K). w.from) (sym old) ∙ f
        ∙ ap (slice_index run.ids) (sym (going-first n (some_nodes run R) e p k))) (omega arith)
        (same_words (node (suc t) z) (node t z) (opposite e)
        (scenes (suc t) t z (omega arith) (omega arith) (next_below run R p e))) some ∙ sym old

    words_at : (t p : ℕ) (e : Side) (z : ℕ) → p < n → (away t p e).from ≡ slice_index run.ids z → m + n ≤ t → 0 < m → IsReached n e p z
        → away (suc t) p e ≡ away t p e
    words_at t p e z h f l some walk =
        let few = walk.few in
        words_by walk.steps t p e h (f ∙ ap (slice_index run.ids) (sym walk.there)) (omega arith)
        (same_words (node (suc t) p) (node t p) (opposite e) (scenes (suc t) t p (omega arith) (omega arith) h)) some

    words_from : (t p : ℕ) (e : Side) → p < n → m + n ≤ t → 0 < m → IsMember run.ids (away t p e).from → away (suc t) p e ≡ away t p e
    words_from t p e h l some from = words_at t p e from.0 h (sym from.2) l some (reached n (some_nodes run R) e p from.0 h from.1)

    pub words : (t p : ℕ) (d : Side) → p < n → m + n ≤ t → 0 < m → word (node (suc t) p) d ≡ word (node t p) d
    words t p West h l some = words_from t p East h l some (R.sources t p West h)
    words t p East h l some = words_from t p West h l some (R.sources t p East h)

  -- the highest request of all, and who has it
  pub record IsTop (top : ℕ) : Type 0 where
    pub above : (p : ℕ) (d : Side) → p < n → asked p d ≤ top
    pub at_node : ℕ
    pub on_side : Side
    pub inside : at_node < n
    pub is : asked at_node on_side ≡ top

  heard_settles : (top : ℕ) → IsTop top → IsHeardSame (4 * n + 7)
  heard_settles top T =
      let i = T.at_node in
      let d = T.on_side in
      let g = T.inside in
      let is = T.is in
      elim (cases_lt top 11) [
        | inr high ↦ heard_same 11 (record { low = omega arith; high = omega arith; light = inl refl }) i d g (omega arith)
        | inl low ↦ elim (cases_lt 0 top) [
          | inl some ↦ heard_same top (record {
            low = (let f = at_least_waiting run R i d g (omega arith) in omega arith);
            high = omega arith;
            light = inr T.above;
          }) i d g (omega arith)
          | inr none ↦ rest_same (λ p e h. (let a = T.above p e h in omega arith))
        ]
      ]

  top : IsTop (highest (run_requests run))
  top =
      let rs = run_requests run in
      let many = R.ids_ok.enough in
      let long = size run R in
      let first = top_of rs (omega arith) in
      let inside : first.place < n = let x = first.inside in omega arith in
      record {
        above =
            λ p d h. (let x = spans run R p d h in let b = span_below n p d h in let y = highest_from rs (span_at n p d)
            (omega arith) in omega arith);
        at_node = first.place;
        on_side = East;
        inside = inside;
        is = sym (spans run R first.place East inside) ∙ first.top;
      }

  -- the words stay the same
  pub converges : (t p : ℕ) (d : Side) → p < n → 5 * n + 7 ≤ t → word (node (suc t) p) d ≡ word (node t p) d
  converges t p d h l = words (4 * n + 7) (heard_settles (highest (run_requests run)) top) t p d h (omega arith) (omega arith)
