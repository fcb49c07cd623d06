-- The fixpoint law for runs, the end of the chain: in round 4n + 7 or later each node is in its settled state. By the
-- highest request of all spans: it is at least 11, and each span with such a request is applied; there is none at all;
-- one span alone has it; or several have it, and then no side is switched.
use Rattle.std.proofs.Common.{◌≡◌, ◌≢◌, ℕ, ◌+◌, ◌-◌, ◌*◌, ◌<◌, ◌≤◌, suc, Bool, true, false, Some, None, List, length, get_or, refl, ap, sym}
use Rattle.std.proofs.Common.{subst, ◌∙◌, arith, inl, inr}
use Rattle.std.specs.Prelude.{◌==◌, ◌&&◌, ◌||◌, nat_lt, slice_index, option_map, count_by}
use Rattle.std.proofs.lemmas.Bool.{cases_lt, cases_eq, le-leb, lt-leb, lt-ltb, le-ltb, eq-eqb, ne_eqb, eqb-true, and_from, and_left}
use Rattle.std.proofs.lemmas.Bool.{and_right}
use Rattle.std.proofs.lemmas.List.Folds.{list_any_at, list_any_none}
use Rattle.std.proofs.lemmas.List.Elements.{All-from_get_or}
use Rattle.sdh_kbytes.specs.declared.K.{K}
use Rattle.sdh_kbytes.specs.declared.Path.TheVariants.{Long}
use Rattle.sdh_ringmap.specs.Requests.{code_number}
use Rattle.sdh_ringmap.specs.Places.{opposite, span_at}
use Rattle.sdh_ringmap.specs.declared.Side.{Side}
use Rattle.sdh_ringmap.specs.declared.Side.TheVariants.{West, East}
use Rattle.sdh_nodestate.specs.declared.NodeState.TheVariants as state
use Rattle.sdh_nodestate.specs.Rules.{Scene, word_on, weight, long, relayed, stronger, weight_of, chosen, rest, switches, is_below}
use Rattle.sdh_nodestate.specs.Rules.{is_relay, state_after}
use Rattle.sdh_restoration.specs.Applied.{highest, has_one_leader, applies, is_applied, is_any_applied}
use Rattle.sdh_signal.specs.Settled.{settled}
use Rattle.sdh_signal.proofs.FarEnds.{first_position}
use Rattle.sdh_restoration.proofs.Highest.{top_of}
use Rattle.sdh_restoration.proofs.Asked.{highest_from}
use Rattle.sdh_signal.proofs.Terms.{terms}
use Rattle.sdh_signal.specs.Runs.{Run, at_round, IsRun}
use Rattle.sdh_ringmap.specs.Steps.{going}
use Rattle.sdh_ringmap.proofs.Going.{going-inside, going-last, met, IsMet}
use Rattle.sdh_ringmap.proofs.Sides.{neighbour_back, span_below, sides_apart, across_span, span_back}
use Rattle.sdh_signal.proofs.Standing.{far_n, outranked_n, settled_n, settled_is, is_isolated, is_west, is_east, is_pass, is_idle}
use Rattle.sdh_signal.proofs.OneNode.{switch_top, switch_none, switch_lighter, switch_alone, choose_rest, below_eleven, long_none}
use Rattle.sdh_signal.proofs.OneNode.{below_none, below_about, about_of}
use Rattle.sdh_signal.proofs.Runs.{some_nodes, next_below, request_back, weight_le, at_least_waiting}
use Rattle.sdh_signal.proofs.Backward.{relays_le}
use Rattle.sdh_signal.proofs.Levels.{IsLevel, sends_short}
use Rattle.sdh_signal.proofs.Agreement.{short_said}
use Rattle.sdh_signal.proofs.Firsts.{first_any, first_within}
use Rattle.sdh_signal.proofs.Ends.{HearsFirst, hears, heavy, light, pass, blocked, switch_west, switch_east, state_isolated, state_idle}
use Rattle.sdh_signal.proofs.Requests.{applies_top, applies_low}
use Rattle.sdh_signal.proofs.Counting.{count_one, count_more, Another}

both_below : (s : Scene) (d : Side) → is_below s d d ≡ true → is_below s d (opposite d) ≡ true
    → (is_below s d West ≡ true) × (is_below s d East ≡ true)
both_below s West a b = (a, b)
both_below s East a b = (b, a)

module _ (run : Run) (R : IsRun run) (rs : List ℕ) (size : length rs ≡ length run.ids)
    (spans : (p : ℕ) (d : Side) → p < length run.ids → slice_index rs (span_at (length run.ids) p d) ≡ (terms run).request p d) (t : ℕ)
    (late : 4 * length run.ids + 7 ≤ t) where
  open terms run use {n, request as asked, next as nx}

  abbrev node : ℕ → Scene
  node p = at_round run t p

  abbrev w : ℕ → Side → ℕ
  w p d = weight (node p) d

  abbrev applied : ℕ → Side → Bool
  applied p d = is_applied rs (span_at (length run.ids) p d)

  abbrev IsLaw : ℕ → Type 0
  IsLaw p = state_after (node p) ≡ settled_n rs n p

  -- the applied spans are those at the level c
  pub record IsApplied (c : ℕ) : Type 0 where
    pub yes : (p : ℕ) (d : Side) → p < n → c ≤ asked p d → applied p d ≡ true
    pub no : (p : ℕ) (d : Side) → p < n → asked p d < c → applied p d ≡ false
    pub switched : (p : ℕ) (d : Side) → p < n → c ≤ asked p d → switches (node p) d ≡ true

  module _ (c : ℕ) (level : IsLevel run R c) (A : IsApplied c) (x : ℕ) (y : Side) (inside : x < length run.ids)
      (there : c ≤ asked x y) where
    abbrev Hears : ℕ → Side → ℕ → Type 0
    Hears p e k = HearsFirst run R c level t late p e k

    any_applied : is_any_applied rs ≡ true
    any_applied = list_any_at (applies rs) rs (span_at n x y) 0 (let s = span_below n x y inside in omega arith) (A.yes x y inside there)

    far_on : (p k : ℕ) (d : Side) → Hears p (opposite d) k → far_n rs n p d ≡ Some (record { 0 = going n (opposite d) p (suc k) })
    far_on p k d f =
        let few = f.few in
        let e = opposite d in
        ap (λ o. option_map (λ i. record { 0 = i }) o)
        (first_position n e p (n - 1) k (λ i. applied i e) (omega arith)
        (λ j i. A.no (going n e p (suc j)) e (going-inside n (some_nodes run R) e p (suc j)) (f.first.near (suc j) (omega arith)))
        (A.yes (going n e p (suc k)) e (going-inside n (some_nodes run R) e p (suc k)) f.first.there))

    near : (p : ℕ) (e : Side) → p < n → asked p e < c → (k : ℕ) × Hears p e k
    near p e h l = let f = first_any run R c level p e x y h inside l there in (f.0, hears run R c level t late f.0 p e h f.1 f.2)

    both : (p : ℕ) → p < n → c ≤ asked p West → c ≤ asked p East → IsLaw p
    both p h g f =
        state_isolated (node p) (A.switched p West h g) (A.switched p East h f)
        ∙ sym (is_isolated rs n p (A.yes p West h g) (A.yes p East h f))

    west : (p : ℕ) → p < n → c ≤ asked p West → asked p East < c → IsLaw p
    west p h g l =
        let f = near p East h l in
        switch_west run R c level t late p f.0 h (A.switched p West h g) g l f.1
        ∙ sym (is_west rs n p (Some (record { 0 = going n East p (suc f.0) })) (A.yes p West h g) (A.no p East h l)
        (far_on p f.0 West f.1))

    east : (p : ℕ) → p < n → asked p West < c → c ≤ asked p East → IsLaw p
    east p h l g =
        let f = near p West h l in
        switch_east run R c level t late p f.0 h (A.switched p East h g) g l f.1
        ∙ sym (is_east rs n p (Some (record { 0 = going n West p (suc f.0) })) (A.no p West h l) (A.yes p East h g)
        (far_on p f.0 East f.1))

    none : (p : ℕ) → p < n → asked p West < c → asked p East < c → IsLaw p
    none p h l m =
        let f = near p West h l in
        let g = near p East h m in
        pass run R c level t late p f.0 g.0 h l m f.1 g.1
        ∙ sym (is_pass rs n p (A.no p West h l) (A.no p East h m) (ap (λ b. b || outranked_n rs n p) any_applied))

    pub by_level : (p : ℕ) → p < n → IsLaw p
    by_level p h = elim (cases_lt (asked p West) c) [
      | inl lw ↦ elim (cases_lt (asked p East) c) [
        | inl le ↦ none p h lw le
        | inr ge ↦ east p h lw ge
      ]
      | inr gw ↦ elim (cases_lt (asked p East) c) [
        | inl le ↦ west p h gw le
        | inr ge ↦ both p h gw ge
      ]
    ]

  -- some span has the highest request
  leader : (i : ℕ) × (i < n) × (asked i East ≡ highest rs)
  leader =
      let e = R.ids_ok.enough in
      let l = top_of rs (omega arith) in
      let inside : l.place < n = let x = l.inside in omega arith in
      (l.place, inside, sym (spans l.place East inside) ∙ l.top)

  -- requests of at least 11
  top : 11 ≤ highest rs → (p : ℕ) → p < n → IsLaw p
  top high p h =
      let is = leader.2 in
      by_level 11 level (record {
        yes =
            λ i d g f. applies_top rs (slice_index rs (span_at n i d)) high
            ∙ le-leb 11 (slice_index rs (span_at n i d)) (let s = spans i d g in omega arith);
        no =
            λ i d g f. applies_top rs (slice_index rs (span_at n i d)) high
            ∙ lt-leb 11 (slice_index rs (span_at n i d)) (let s = spans i d g in omega arith);
        switched = λ i d g f. switch_top (node i) d (heavy run R 11 level t late i d g f);
      }) leader.0 East leader.1 (omega arith) p h
    where
      level : IsLevel run R 11
      level = record { low = omega arith; high = omega arith; light = inl refl }

  -- no request of at least 11

  module _ (low : highest rs < 11) where
    v : (p : ℕ) (d : Side) → p < n → asked p d ≤ highest rs
    v p d g = let s = spans p d g in let b = span_below n p d g in let x = highest_from rs (span_at n p d) (omega arith) in omega arith

    weights : (p : ℕ) (d : Side) → p < n → w p d ≤ highest rs
    weights p d g = let x = weight_le run R t p d (omega arith) g in let y = v p d g in omega arith

    none_applied : ((x : ℕ) → applies rs x ≡ false) → is_any_applied rs ≡ false
    none_applied f = list_any_none (applies rs) rs (All-from_get_or (λ x. applies rs x ≡ false) rs 0 (λ i _. f (get_or rs i 0)))

    -- nobody asks for anything

    chosen_rest : (p : ℕ) (d : Side) → p < n → highest rs ≡ 0 → chosen (node p) d ≡ rest
    unfolding chosen
    chosen_rest p d g z =
        let a = weights p d g in
        let b = weights p (opposite d) g in
        let c = relays_le run R (highest rs) v t p d (omega arith) g in
        choose_rest (w p d) (w p (opposite d)) (weight_of (relayed (node p) d)) (omega arith) (omega arith) (omega arith)

    never : (x : ℕ) → highest rs ≡ 0 → applies rs x ≡ false
    never x z = applies_low rs x low ∙ ap (λ k. (nat_lt 0 k && has_one_leader rs) && (x == highest rs)) z

    at_rest : highest rs ≡ 0 → (p : ℕ) → p < n → IsLaw p
    at_rest z p g =
        let a = weights p West g in
        let b = weights p East g in
        state_idle (node p) (switch_none (node p) West (omega arith)) (switch_none (node p) East (omega arith))
        (inl (ap is_relay (chosen_rest p West g z)))
        ∙ sym (is_idle rs n p (never (slice_index rs (span_at n p West)) z) (never (slice_index rs (span_at n p East)) z)
        (ap (λ b. b || outranked_n rs n p) (none_applied (λ x. never x z))
        ∙ ap (λ k. nat_lt 0 k && (nat_lt (slice_index rs (span_at n p West)) (highest rs)
        && nat_lt (slice_index rs (span_at n p East)) (highest rs))) z))

    module _ (some_h : 0 < highest rs) where
      level : IsLevel run R (highest rs)
      level = record {
        low = (let is = leader.2 in let f = at_least_waiting run R leader.0 East leader.1 (omega arith) in omega arith);
        high = omega arith;
        light = inr v;
      }

      abbrev HearsTop : ℕ → Side → ℕ → Type 0
      HearsTop p e k = HearsFirst run R (highest rs) level t late p e k

      hears_one : (p : ℕ) (e : Side) → p < n → asked p e < highest rs → (k : ℕ) × HearsTop p e k
      hears_one p e g l =
          let is = leader.2 in
          let f = first_any run R (highest rs) level p e leader.0 East g leader.1 l (omega arith) in
          (f.0, hears run R (highest rs) level t late f.0 p e g f.1 f.2)

      strong : (p : ℕ) (d : Side) → p < n → highest rs ≤ asked p d → highest rs ≤ w p d
      strong p d g a = heavy run R (highest rs) level t late p d g a

      weak : (p : ℕ) (d : Side) → p < n → asked p d < highest rs → w p d < highest rs
      weak p d g a = light run R (highest rs) level t late p d g a

      request_high : (p : ℕ) (d : Side) → p < n → highest rs ≤ asked p d → slice_index rs (span_at n p d) ≡ highest rs
      request_high p d g a = let s = spans p d g in let y = v p d g in omega arith

      request_less : (p : ℕ) (d : Side) → p < n → asked p d < highest rs → slice_index rs (span_at n p d) < highest rs
      request_less p d g a = let s = spans p d g in omega arith

      -- one span alone has the highest request

      module _ (alone : count_by (λ x. x == highest rs) rs ≡ 1) where
        same_span : (p : ℕ) (d : Side) (z : ℕ) (e : Side) → p < n → z < n → highest rs ≤ asked p d → highest rs ≤ asked z e
            → span_at n p d ≡ span_at n z e
        same_span p d z e g i a b =
            let x = span_below n p d g in
            let y = span_below n z e i in
            count_one (λ x. x == highest rs) rs (span_at n p d) (span_at n z e) 0 alone (omega arith) (omega arith)
            (eq-eqb (slice_index rs (span_at n p d)) (highest rs) (request_high p d g a))
            (eq-eqb (slice_index rs (span_at n z e)) (highest rs) (request_high z e i b))

        other_less : (p : ℕ) (d : Side) → p < n → highest rs ≤ asked p d → asked p (opposite d) < highest rs
        other_less p d g a = elim (cases_lt (asked p (opposite d)) (highest rs)) [
          | inl less ↦ less
          | inr more ↦ absurd (sides_apart n p d R.ids_ok.enough g (same_span p d p (opposite d) g g a more))
        ]

        -- the word on the span itself is short
        short_there : (p : ℕ) (d : Side) → p < n → highest rs ≤ asked p d → long (node p) d ≡ None
        short_there p d g a = long_none (node p) d (λ k at_p l. short_by p d k g a at_p l)
          where
            short_by : (p : ℕ) (d : Side) (k : K) → p < n → highest rs ≤ asked p d → word_on (node p) d ≡ Some k → k.path ≡ Long
                → code_number k.code < 5
            short_by p d k g a at_p l =
                let b = request_back run R p d g in
                let when : suc (t - 1) ≡ t = omega arith in
                let was = R.past (t - 1) p d k g (subst (λ u. word_on (at_round run u p) d ≡ Some k) (sym when) at_p) in
                let said =
                short_said run R (highest rs) level (t - 1) (nx p d) (opposite d) (omega arith) (next_below run R p d) (omega arith) in
                let path = ap (λ (k : K). k.path) said in
                cc (l, was, path)

        about_there : (p : ℕ) (d : Side) → p < n → highest rs ≤ asked p d → is_below (node p) d (opposite d) ≡ true
        about_there p d g a =
            let h = hears_one p (opposite d) g (other_less p d g a) in
            let f = h.1 in
            let x = going n (opposite d) p (suc h.0) in
            let below = going-inside n (some_nodes run R) (opposite d) p (suc h.0) in
            let is : x ≡ nx p d = across_span n p x d g below (same_span x (opposite d) p d below g f.first.there a) in
            below_about (node p) d (opposite d) f.heard_word f.is
            (about_of (node p) d f.heard_word (f.to ∙ ap (λ i. slice_index run.ids (nx i (opposite d))) is
            ∙ ap (λ i. slice_index run.ids i) (neighbour_back n p d g)) (f.from ∙ ap (λ i. slice_index run.ids i) is))

        switched_alone : (p : ℕ) (d : Side) → p < n → highest rs ≤ asked p d → switches (node p) d ≡ true
        switched_alone p d g a =
            let l = level.low in
            let x = weights p d g in
            let s = strong p d g a in
            let o = weak p (opposite d) g (other_less p d g a) in
            let b = both_below (node p) d (below_none (node p) d d (short_there p d g a)) (about_there p d g a) in
            switch_alone (node p) d (omega arith) (below_eleven (stronger (node p) d) (omega arith)) (omega arith) b.0 b.1

        applied_alone : IsApplied (highest rs)
        applied_alone = record {
          yes = λ p d g a. applies_low rs (slice_index rs (span_at n p d)) low
              ∙ and_from (nat_lt 0 (highest rs) && has_one_leader rs) (slice_index rs (span_at n p d) == highest rs)
              (and_from (nat_lt 0 (highest rs)) (has_one_leader rs) (lt-ltb 0 (highest rs) some_h)
              (eq-eqb (count_by (λ x. x == highest rs) rs) 1 alone))
              (eq-eqb (slice_index rs (span_at n p d)) (highest rs) (request_high p d g a));
          no = λ p d g l. applies_low rs (slice_index rs (span_at n p d)) low
              ∙ and_right (nat_lt 0 (highest rs) && has_one_leader rs) (slice_index rs (span_at n p d) == highest rs)
              (ne_eqb (slice_index rs (span_at n p d)) (highest rs) (λ e. (let x = request_less p d g l in omega arith)));
          switched = switched_alone;
        }

        with_one : (p : ℕ) → p < n → IsLaw p
        with_one p g = let is = leader.2 in by_level (highest rs) level applied_alone leader.0 East leader.1 (omega arith) p g

      -- several spans have the highest request

      module _ (several : count_by (λ x. x == highest rs) rs ≢ 1) where
        tied : (x : ℕ) → applies rs x ≡ false
        tied x =
            applies_low rs x low ∙ and_left (nat_lt 0 (highest rs) && has_one_leader rs) (x == highest rs)
            (and_right (nat_lt 0 (highest rs)) (has_one_leader rs) (ne_eqb (count_by (λ x. x == highest rs) rs) 1 several))

        abbrev Near : ℕ → Side → Type 0
        Near p e = (j : ℕ) × (suc (suc j) < n) × HearsTop p e j

        -- from an end of such a span the next one is met before the way round leads back
        near_by : (p : ℕ) (e : Side) (s : ℕ) → p < n → asked p e < highest rs → s ≢ span_at n p (opposite e) → (walk : IsMet n e p s)
            → highest rs ≤ asked (going n e p walk.steps) e → Near p e
        near_by p e s g l other walk there = let m = walk.steps in let few = walk.few in elim (cases_lt (suc m) n) [
          | inl less ↦ (
              let f = first_within run R (highest rs) level m p e g l there in
              let le = f.1 in
              (f.0, omega arith, hears run R (highest rs) level t late f.0 p e g (omega arith) f.2))
          | inr last ↦ absurd (other (sym walk.there ∙ ap (λ y. span_at n y e) (going-last n (some_nodes run R) e p m g (omega arith))
              ∙ span_back n p e g))
        ]

        near_other : (p : ℕ) (e : Side) → p < n → asked p e < highest rs → Another (λ x. x == highest rs) rs (span_at n p (opposite e)) 0
            → Near p e
        near_other p e g l (j, inside, other, is) =
            let walk = met n (some_nodes run R) e p j g (omega arith) in
            let x = going n e p walk.steps in
            let s = spans x e (going-inside n (some_nodes run R) e p walk.steps) in
            let same : slice_index rs (span_at n x e) ≡ slice_index rs j = ap (slice_index rs) walk.there in
            let high = eqb-true (slice_index rs j) (highest rs) is in
            near_by p e j g l other walk (omega arith)

        held_far : (p : ℕ) (e : Side) → p < n → highest rs ≤ asked p (opposite e) → asked p e < highest rs
            → switches (node p) (opposite e) ≡ false
        held_far p e g a l =
            let b = span_below n p (opposite e) g in
            let x = weights p (opposite e) g in
            let f =
            near_other p e g l (count_more (λ x. x == highest rs) rs (span_at n p (opposite e)) 0 several (omega arith)
            (eq-eqb (slice_index rs (span_at n p (opposite e))) (highest rs) (request_high p (opposite e) g a))) in
            blocked run R (highest rs) level t late p (opposite e) e f.0 g x (omega arith) f.1 f.2

        held_low : (p : ℕ) (d : Side) → p < n → highest rs ≤ asked p d → asked p (opposite d) < highest rs → switches (node p) d ≡ false
        held_low p West g a l = held_far p East g a l
        held_low p East g a l = held_far p West g a l

        held_high : (p : ℕ) (d : Side) → p < n → highest rs ≤ asked p (opposite d) → switches (node p) d ≡ false
        held_high p d g a = let x = weights p d g in let y =
            strong p (opposite d) g a in switch_lighter (node p) d (omega arith) (omega arith)

        held : (p : ℕ) (d : Side) → p < n → highest rs ≤ asked p d → switches (node p) d ≡ false
        held p d g a = elim (cases_lt (asked p (opposite d)) (highest rs)) [
          | inl less ↦ held_low p d g a less
          | inr more ↦ held_high p d g more
        ]

        rests : (p : ℕ) (d : Side) → p < n → highest rs ≤ asked p d → is_relay (chosen (node p) d) ≡ false
        rests p d g a = ap is_relay (sends_short run R (highest rs) level t p d (omega arith) g (strong p d g a))

        loud : (p : ℕ) (d : Side) → p < n → highest rs ≤ asked p d → nat_lt (slice_index rs (span_at n p d)) (highest rs) ≡ false
        loud p d g a = let x = request_high p d g a in le-ltb (slice_index rs (span_at n p d)) (highest rs) (omega arith)

        quiet : (p : ℕ) (d : Side) → p < n → asked p d < highest rs → nat_lt (slice_index rs (span_at n p d)) (highest rs) ≡ true
        quiet p d g l = lt-ltb (slice_index rs (span_at n p d)) (highest rs) (request_less p d g l)

        idles : (p : ℕ) → (nat_lt (slice_index rs (span_at n p West)) (highest rs)
            && nat_lt (slice_index rs (span_at n p East)) (highest rs)) ≡ false → settled_n rs n p ≡ state.Idle tt
        idles p e = is_idle rs n p (tied (slice_index rs (span_at n p West))) (tied (slice_index rs (span_at n p East)))
            (ap (λ b. b || outranked_n rs n p) (none_applied tied)
            ∙ and_right (nat_lt 0 (highest rs)) (nat_lt (slice_index rs (span_at n p West)) (highest rs)
            && nat_lt (slice_index rs (span_at n p East)) (highest rs)) e)

        west_idle : (p : ℕ) → p < n → highest rs ≤ asked p West → IsLaw p
        west_idle p g a =
            state_idle (node p) (held p West g a) (held_high p East g a) (inl (rests p West g a))
            ∙ sym (idles p (and_left (nat_lt (slice_index rs (span_at n p West)) (highest rs))
            (nat_lt (slice_index rs (span_at n p East)) (highest rs)) (loud p West g a)))

        east_idle : (p : ℕ) → p < n → highest rs ≤ asked p East → IsLaw p
        east_idle p g a =
            state_idle (node p) (held_high p West g a) (held p East g a) (inr (rests p East g a))
            ∙ sym (idles p (and_right (nat_lt (slice_index rs (span_at n p West)) (highest rs))
            (nat_lt (slice_index rs (span_at n p East)) (highest rs)) (loud p East g a)))

        neither_idle : (p : ℕ) → p < n → asked p West < highest rs → asked p East < highest rs → IsLaw p
        neither_idle p g lw le =
            let f = hears_one p West g lw in
            let h = hears_one p East g le in
            pass run R (highest rs) level t late p f.0 h.0 g lw le f.1 h.1
            ∙ sym (is_pass rs n p (tied (slice_index rs (span_at n p West))) (tied (slice_index rs (span_at n p East)))
            (ap (λ b. b || outranked_n rs n p) (none_applied tied)
            ∙ and_from (nat_lt 0 (highest rs)) (nat_lt (slice_index rs (span_at n p West)) (highest rs)
            && nat_lt (slice_index rs (span_at n p East)) (highest rs)) (lt-ltb 0 (highest rs) some_h)
            (and_from (nat_lt (slice_index rs (span_at n p West)) (highest rs)) (nat_lt (slice_index rs (span_at n p East)) (highest rs))
            (quiet p West g lw) (quiet p East g le))))

        with_several : (p : ℕ) → p < n → IsLaw p
        with_several p g = elim (cases_lt (asked p West) (highest rs)) [
          | inr gw ↦ west_idle p g gw
          | inl lw ↦ elim (cases_lt (asked p East) (highest rs)) [
            | inr ge ↦ east_idle p g ge
            | inl le ↦ neither_idle p g lw le
          ]
        ]

      lower : (p : ℕ) → p < n → IsLaw p
      lower p g = elim (cases_eq (count_by (λ x. x == highest rs) rs) 1) [
        | inl one ↦ with_one one p g
        | inr other ↦ with_several other p g
      ]

    below_eleven_law : (p : ℕ) → p < n → IsLaw p
    below_eleven_law p g = elim (cases_lt 0 (highest rs)) [
      | inl some_h ↦ lower some_h p g
      | inr none_h ↦ at_rest (omega arith) p g
    ]

  -- the states are the settled states
  pub run_law : (p : ℕ) → p < n → state_after (node p) ≡ settled rs p
  run_law p g = elim (cases_lt (highest rs) 11) [
    | inl low ↦ below_eleven_law low p g ∙ sym (settled_is rs n p size)
    | inr high ↦ top high p g ∙ sym (settled_is rs n p size)
  ]
