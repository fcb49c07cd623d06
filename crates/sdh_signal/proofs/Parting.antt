-- How soon a port whose circuit's ends are parted is cut off, long before all nodes are in their settled states. The node
-- after the last applied span of its arc switches away from it early. Whichever far end it has from round 2n + 3 on lies
-- on the way to the next applied span, and so the circuit is not in the chain between them. The nodes between that node
-- and the port hear its long word, three rounds a node, and from then on none of them switches the side behind.
use Rattle.std.proofs.Common.{◌≡◌, ◌≢◌, ℕ, ◌+◌, ◌-◌, ◌*◌, ◌<◌, ◌≤◌, suc, zero, Bool, true, false, Option, Some, None, List, length, refl, ap}
use Rattle.std.proofs.Common.{sym, subst, ◌∙◌, arith, inl, inr, ◌⊎◌}
use Rattle.std.specs.Prelude.{if◌then◌else◌, ◌==◌, ◌&&◌, nat_le, nat_lt, slice_get, slice_index, count_by}
use Rattle.std.specs.Option.{option_map_or}
use Rattle.std.proofs.lemmas.Bool.{cases_lt, cases_Bool, and_left, and_parts, eqb-true, le-leb, leb-true, lt-leb, or_parts}
use Rattle.sdh_kbytes.specs.declared.K.{K}
use Rattle.sdh_kbytes.specs.declared.Path.TheVariants.{Long}
use Rattle.sdh_ringmap.specs.Arcs.{is_joined}
use Rattle.sdh_ringmap.specs.Places.{opposite, neighbour, span_at, found_at}
use Rattle.sdh_ringmap.specs.Requests.{code_number}
use Rattle.sdh_ringmap.specs.Steps.{going, way}
use Rattle.sdh_ringmap.specs.declared.Side.{Side}
use Rattle.sdh_ringmap.specs.declared.Side.TheVariants.{West, East}
use Rattle.sdh_ringmap.proofs.Going.{going-add, going-apart, going-first, going-inside, going-next, going-none, going-once, mirror, way-inside}
use Rattle.sdh_ringmap.proofs.Sides.{neighbour_back, opposite_twice}
use Rattle.sdh_bridge.specs.Connections.{may_carry}
use Rattle.sdh_bridge.specs.declared.Origin.TheVariants.{Ais}
use Rattle.sdh_circuits.specs.Provisioned.{Provisioned, arc_of}
use Rattle.sdh_circuits.specs.Ends.{other_end}
use Rattle.sdh_circuits.specs.declared.End.{End}
use Rattle.sdh_nodestate.specs.declared.NodeState.{NodeState}
use Rattle.sdh_nodestate.specs.Rules.{Scene, far, is_about, long, own_id, state_after, switches, word, word_on}
use Rattle.sdh_restoration.specs.Applied.{has_one_leader, highest, is_applied}
use Rattle.sdh_signal.specs.Law.{is_open}
use Rattle.sdh_signal.specs.Runs.{Run, at_round, IsRun, run_requests}
use Rattle.sdh_signal.specs.Walks.{carries_in, stands_in}
use Rattle.sdh_signal.proofs.Agreement.{knows, long_said, short_said}
use Rattle.sdh_signal.proofs.Backward.{step}
use Rattle.sdh_signal.proofs.Bare.{unbare}
use Rattle.sdh_signal.proofs.Counting.{count_one}
use Rattle.sdh_signal.proofs.Ends.{found, open_by, state_east, state_isolated, state_west}
use Rattle.sdh_signal.proofs.Idle.{at_ease}
use Rattle.sdh_signal.proofs.Levels.{IsLevel}
use Rattle.sdh_signal.proofs.OnArcs.{near_at, near_end, seen-on}
use Rattle.sdh_signal.proofs.OneNode.{far_of, long_from, long_of, switch_blocked, switch_top}
use Rattle.sdh_signal.proofs.Passing.{isolated-stands, switched-stands}
use Rattle.sdh_signal.proofs.Reach.{IsFirst, ahead, below_here, reach}
use Rattle.sdh_signal.proofs.Requests.{applies_low, applies_top}
use Rattle.sdh_signal.proofs.Inhabited.{some-nodes}
use Rattle.sdh_signal.proofs.Rest.{resting}
use Rattle.sdh_signal.proofs.Routes.{clear, joined-is, opposite_clear, parted_east, parted_west}
use Rattle.sdh_signal.proofs.Spans.{size, spans}
use Rattle.sdh_signal.proofs.Runs.{id_apart, next_below, request_back, some_nodes, weight_le}
use Rattle.sdh_signal.proofs.Terms.{terms}
use Rattle.sdh_signal.proofs.Seen.{Seen}
use Rattle.sdh_signal.proofs.Switched.{carry-behind}
use Rattle.sdh_signal.proofs.Views.{AreOnRing, arc_length, far_at}

-- ---- one node

not_about : (s : Scene) (d : Side) (k : K) → is_about s d d k ≡ false
unfolding is_about
not_about s West k = refl
not_about s East k = refl

far_none : (s : Scene) (d : Side) → long s (opposite d) ≡ None → far s d ≡ None
unfolding far
far_none s d e = ap (λ o. option_map_or (λ k. if k.from == own_id s then None else found_at s.ids k.from) o None) e

none_carries : (n : ℕ) (cs : List Provisioned) (q m : ℕ) (d : Side) → carries_in n cs q d m None ≡ false
unfolding may_carry
none_carries n cs q m West = refl
none_carries n cs q m East = refl

-- a node that switches a side gives AIS for it where it is isolated, or where the circuit may not be carried
stands_cut : (n : ℕ) (cs : List Provisioned) (q m : ℕ) (s : Scene) (d : Side) → switches s d ≡ true
    → (switches s (opposite d) ≡ false → carries_in n cs q d m (far s d) ≡ false) → stands_in n cs q (state_after s) d m ≡ Ais
stands_cut n cs q m s West on carried = elim (cases_Bool (switches s East)) [
  | inl both ↦ ap (λ st. stands_in n cs q st West m) (state_isolated s on both) ∙ isolated-stands n cs q West m
  | inr one ↦ ap (λ st. stands_in n cs q st West m) (state_west s (far s West) on one refl)
      ∙ switched-stands n cs q West m (far s West) false (carried one)
]
stands_cut n cs q m s East on carried = elim (cases_Bool (switches s West)) [
  | inl both ↦ ap (λ st. stands_in n cs q st East m) (state_isolated s both on) ∙ isolated-stands n cs q East m
  | inr one ↦ ap (λ st. stands_in n cs q st East m) (state_east s (far s East) one on refl)
      ∙ switched-stands n cs q East m (far s East) false (carried one)
]

-- ---- the words of a way

module _ (run : Run) (R : IsRun run) where
  open terms run use {n, id as name, at as node, next, request as asked, away, plain, top_code}

  pub level : IsLevel run R 11
  level = record { low = omega arith; high = omega arith; light = inl refl }

  abbrev pub First : ℕ → Side → ℕ → Type 0
  First p e k = IsFirst run R 11 level p e k

  -- the node at the first applied span says its own word from round n + 4 on
  first_says : (t q : ℕ) (e : Side) → q < n → 11 ≤ asked q e → n + 4 ≤ t → (away t q e).from ≡ name q
  first_says t q e h there late = elim (cases_lt (asked q (opposite e)) 11) [
    | inl less ↦ ap (λ (k : K). k.from) (long_said run R 11 level t q e late h less there)
    | inr more ↦ ap (λ (k : K). k.from) (short_said run R 11 level t q (opposite e) late h more)
  ]

  -- what a node sends away from a side has its source on the way to the first applied span there
  sent_within : (k t q : ℕ) (e : Side) → q < n → First q e k → n + 4 + k ≤ t
      → (i : ℕ) × (i ≤ k) × ((away t q e).from ≡ name (going n e q i))
  sent_within zero t q e h first late =
      let here : going n e q 0 ≡ q = going-none n (some_nodes run R) e q h in
      (0, omega arith, first_says t q e h (subst (λ x. 11 ≤ asked x e) here first.there) (omega arith) ∙ ap name (sym here))
  sent_within (suc k) t q e h first late =
      let u = t - 1 in
      let when : suc u ≡ t = omega arith in
      subst (λ v. (i : ℕ) × (i ≤ suc k) × ((away v q e).from ≡ name (going n e q i))) when
      (elim (step run R u q e h) [
        | inl own ↦ (0, omega arith, own ∙ ap name (sym (going-none n (some_nodes run R) e q h)))
        | inr same ↦ (
            let more = sent_within k u (next q e) e (next_below run R q e) (ahead run R 11 level q e k first) (omega arith) in
            let few = more.1 in
            (suc more.0, omega arith, ap (λ (w : K). w.from) same ∙ more.2 ∙ ap name (going-first n (some_nodes run R) e q more.0)))
      ])

  -- and so has what a node hears
  heard_within : (k t p : ℕ) (e : Side) (w : K) → p < n → First p e (suc k) → n + 5 + k ≤ t → word_on (node t p) e ≡ Some w
      → (i : ℕ) × (1 ≤ i) × (i ≤ suc k) × (w.from ≡ name (going n e p i))
  heard_within k t p e w h first late heard =
      let u = t - 1 in
      let when : suc u ≡ t = omega arith in
      let was = R.past u p e w h (subst (λ v. word_on (node v p) e ≡ Some w) (sym when) heard) in
      let more = sent_within k u (next p e) e (next_below run R p e) (ahead run R 11 level p e k first) (omega arith) in
      let few = more.1 in
      (suc more.0, omega arith, omega arith, ap (λ (k : K). k.from) was ∙ more.2 ∙ ap name (going-first n (some_nodes run R) e p more.0))

  -- the far end of a node that switches the other side is none, or lies on that way
  abbrev IsFarWithin : ℕ → ℕ → ℕ → Side → Type 0
  IsFarWithin k t p e =
      (far (node t p) (opposite e) ≡ None)
      ⊎ ((i : ℕ) × (1 ≤ i) × (i ≤ suc k) × (far (node t p) (opposite e) ≡ Some (record { 0 = going n e p i })))

  far_by : (k t p : ℕ) (e : Side) (o : Option K) → p < n → suc k < n → First p e (suc k) → n + 5 + k ≤ t
      → long (node t p) (opposite (opposite e)) ≡ o → IsFarWithin k t p e
  far_by k t p e None h few first late is = inl (far_none (node t p) (opposite e) is)
  far_by k t p e (Some w) h few first late is =
      let heard : word_on (node t p) e ≡ Some w =
      subst (λ x. word_on (node t p) x ≡ Some w) (opposite_twice e) (long_from (node t p) (opposite (opposite e)) w is).heard in
      let f = heard_within k t p e w h first late heard in
      let some = f.1 in
      let most = f.2 in
      let from = f.3 in
      let x = going n e p f.0 in
      let inside = going-inside n (some_nodes run R) e p f.0 in
      let foreign : w.from ≢ name p = λ own. id_apart run R x p inside h
      (going-apart n (some_nodes run R) e p f.0 h (omega arith) (omega arith)) (sym from ∙ own) in
      inr (f.0, some, most, far_of (node t p) (opposite e) w is foreign ∙ ap (found_at run.ids) from ∙ found run.ids x R.ids_ok inside)

  pub far_within : (k t p : ℕ) (e : Side) → p < n → suc k < n → First p e (suc k) → n + 5 + k ≤ t → IsFarWithin k t p e
  far_within k t p e h few first late = far_by k t p e (long (node t p) (opposite (opposite e))) h few first late refl

  -- a node whose side isn't at an applied span doesn't switch it once it hears the node at the first applied span there
  pub stays_open : (k t p : ℕ) (e : Side) → p < n → suc k < n → First p e (suc k) → n + 7 + 3 * k ≤ t
      → is_open (state_after (node t p)) e ≡ true
  stays_open k t p e h few first late =
      let x = going n e p (suc k) in
      let inside = going-inside n (some_nodes run R) e p (suc k) in
      let f = unbare (word_on (node t p) e) (plain x e (top_code x e) Long) (reach run R 11 level k t p e h few first late) in
      let strong = (knows run R 11 level t x e (omega arith) inside first.there).strong in
      let code = ap (λ (k : K). code_number k.code) f.2 in
      let light = weight_le run R t p e (omega arith) h in
      let less = below_here run R 11 level p e k h first in
      open_by (node t p) e (switch_blocked (node t p) e e f.0 (omega arith)
      (long_of (node t p) e f.0 f.1 (ap (λ (k : K). k.path) f.2) (omega arith)) (not_about (node t p) e f.0) (omega arith))

  -- ---- a port that is parted

  -- l is the last span of the arc at which a node asks for 11 or more, and g the first such span beyond the arc
  pub record IsPartedBy (d : Side) (p many l g : ℕ) : Type 0 where
    pub inside : l < many
    pub outside : many ≤ g
    pub few : g < n
    pub last : 11 ≤ asked (going n d p l) d
    pub next_one : 11 ≤ asked (going n d p g) d
    pub between : (j : ℕ) → l < j → j < g → asked (going n d p j) d < 11

  module _ (cs : List Provisioned) (d : Side) (p : ℕ) (index : ℕ) (c : Provisioned) (near distant : End)
      (seen : Seen (length run.ids) cs index c d p near distant) (l g : ℕ) (cut : IsPartedBy d p (arc_length (length run.ids) c) l g) where
    abbrev behind : Side
    behind = opposite d

    abbrev y : ℕ → ℕ
    y i = going n d p i

    below : (i : ℕ) → y i < n
    below i = going-inside n (some_nodes run R) d p i

    -- a span from both of its ends
    asked_behind : (i : ℕ) → asked (y (suc i)) behind ≡ asked (y i) d
    asked_behind i =
        ap (λ x. asked x behind) (sym (going-next n (some_nodes run R) d p i)) ∙ request_back run R (y i) d (below i)

    -- from a node of the arc back to the last applied span
    first_behind : (k : ℕ) → suc l + k ≤ g → First (y (suc l + k)) behind k
    first_behind k few = record {
      near = λ j h. (
          let i = l + k - j in
          let there : going n behind (y (suc l + k)) j ≡ y (suc i) = mirror n (some_nodes run R) d p j (suc i) (suc l + k) (omega arith) in
          subst (λ x. asked x behind < 11) (sym there)
          (let less = cut.between i (omega arith) (omega arith) in let same = asked_behind i in omega arith));
      there = (
          let there : going n behind (y (suc l + k)) k ≡ y (suc l) = mirror n (some_nodes run R) d p k (suc l) (suc l + k) (omega arith) in
          subst (λ x. 11 ≤ asked x behind) (sym there) (let last = cut.last in let same = asked_behind l in omega arith));
    }

    -- from the node at the last applied span on to the next one
    first_ahead : First (y (suc l)) d (g - suc l)
    first_ahead = record {
      near = λ j h. subst (λ x. asked x d < 11) (sym (going-add n (some_nodes run R) d p (suc l) j))
          (cut.between (suc l + j) (omega arith) (omega arith));
      there = subst (λ x. 11 ≤ asked x d) (sym (going-add n (some_nodes run R) d p (suc l) (g - suc l)
          ∙ ap y {x = suc l + (g - suc l)} {y = g} (let a = cut.inside in let b = cut.outside in omega arith))) cut.next_one;
    }

    -- a node between that and the port doesn't switch the side behind
    pub opens : (k t : ℕ) → suc l + suc k ≤ arc_length n c → n + 7 + 3 * k ≤ t → is_open (state_after (node t (y (suc l + suc k)))) behind ≡ true
    opens k t few late =
        let a = cut.outside in
        let b = cut.few in
        stays_open k t (y (suc l + suc k)) behind (below (suc l + suc k)) (omega arith) (first_behind (suc k) (omega arith)) late

    abbrev q : ℕ
    q = y (suc l)

    -- no far end to which the node at the last applied span may come has the circuit in its chain
    carries_none : (i : ℕ) → i ≤ g - suc l → carries_in n cs q behind c.slot.0 (far_at (going n d q i)) ≡ false
    carries_none i few =
        let a = cut.inside in
        let b = cut.outside in
        let top = cut.few in
        let r = at_ease n (some_nodes run R) in
        ap (λ x. carries_in n cs q behind c.slot.0 (far_at x)) (going-add n (some_nodes run R) d p (suc l) i)
        ∙ carry-behind n r cs (some_nodes run R) d p index c near distant seen l i a (omega arith)
        ∙ and_left (nat_le (n - suc l) i) (nat_le (arc_length n c - suc l) i) (lt-leb (n - suc l) i (omega arith))

    heavy : (t x : ℕ) (e : Side) → x < n → 11 ≤ asked x e → n + 4 ≤ t → switches (node t x) e ≡ true
    heavy t x e h there late =
        let k = knows run R 11 level t x e late h there in
        let strong = k.strong in
        let top = ap code_number k.top in
        switch_top (node t x) e (omega arith)

    not_carried : (t : ℕ) → 2 * n + 3 ≤ t → switches (node t q) (opposite behind) ≡ false
        → carries_in n cs q behind c.slot.0 (far (node t q) behind) ≡ false
    not_carried t late one = elim (cases_lt (suc l) g) [
      | inr here ↦ (
          let a = cut.inside in
          let b = cut.outside in
          let there : 11 ≤ asked q d = subst (λ i. 11 ≤ asked (y i) d) {x = g} {y = suc l} (omega arith) cut.next_one in
          absurd (let on : switches (node t q) (opposite behind) ≡ true =
          ap (switches (node t q)) (opposite_twice d) ∙ heavy t q d (below (suc l)) there (omega arith) in
          let z : true ≡ false = sym on ∙ one in cc))
      | inl more ↦ (
          let top = cut.few in
          let k = g - suc l - 1 in
          let steps : suc k ≡ g - suc l = omega arith in
          elim (far_within k t q d (below (suc l)) (omega arith) (subst (First q d) (sym steps) first_ahead) (omega arith)) [
            | inl none ↦ ap (carries_in n cs q behind c.slot.0) none ∙ none_carries n cs q c.slot.0 behind
            | inr some ↦ (let most = some.2 in ap (carries_in n cs q behind c.slot.0) some.3 ∙ carries_none some.0 (omega arith))
          ])
    ]

    -- the node at the last applied span gives AIS for what comes over it
    pub cuts_off : (t : ℕ) → 2 * n + 3 ≤ t → stands_in n cs q (state_after (node t q)) behind c.slot.0 ≡ Ais
    cuts_off t late =
        let last = cut.last in
        let same = asked_behind l in
        stands_cut n cs q c.slot.0 (node t q) behind (heavy t q behind (below (suc l)) (omega arith) (omega arith)) (not_carried t late)

-- ---- where the applied spans of an arc and of its opposite are

-- l is the arc's last applied span, seen from its start, and g the next applied one beyond the arc
record HasMarks (n : ℕ) (applied : ℕ → Bool) (d : Side) (p many l g : ℕ) : Type 0 where
  inside : l < many
  outside : many ≤ g
  few : g < n
  last : applied (way n d p l) ≡ true
  next_one : applied (way n d p g) ≡ true
  between : (j : ℕ) → l < j → j < g → applied (way n d p j) ≡ false

abbrev Marks : List ℕ → List Provisioned → Provisioned → ℕ → Type 0
Marks rs cs c n =
    AreOnRing n cs → is_joined n (is_applied rs) (arc_of n c) ≡ false → (d : Side)
    → (l : ℕ) × (g : ℕ) × HasMarks n (is_applied rs) d (near_at n c d) (arc_length n c) l g

marks_are : (rs : List ℕ) (cs : List Provisioned) (index : ℕ) (c : Provisioned) → slice_get cs index ≡ Some c → Marks rs cs c (length rs)
unfolding resting
marks_are rs cs index c get ring parted d =
    let some = some-nodes (length rs) cs ring index c get in
    let r = resting rs some in
    let t = or_parts (clear (length rs) r cs ring index c get) (opposite_clear (length rs) r cs ring index c get)
    (sym (joined-is (length rs) r cs ring index c get) ∙ parted) in
    by d t.0 t.1
  where
    by : (d : Side) → clear (length rs) (resting rs (some-nodes (length rs) cs ring index c get)) cs ring index c get ≡ false
        → opposite_clear (length rs) (resting rs (some-nodes (length rs) cs ring index c get)) cs ring index c get ≡ false
        → (l : ℕ) × (g : ℕ) × HasMarks (length rs) (is_applied rs) d (near_at (length rs) c d) (arc_length (length rs) c) l g
    by East a b =
        let m = parted_east (length rs) (resting rs (some-nodes (length rs) cs ring index c get)) cs ring index c get a b in
        (_, _, record { inside = m.inside; outside = m.outside; few = m.few; last = m.last; next_one = m.next; between = m.between })
    by West a b =
        let m = parted_west (length rs) (resting rs (some-nodes (length rs) cs ring index c get)) cs ring index c get a b in
        (_, _, record { inside = m.inside; outside = m.outside; few = m.few; last = m.last; next_one = m.next; between = m.between })

-- two spans are applied only where some request is at least 11
one_leader : (rs : List ℕ) (i j : ℕ) → highest rs < 11 → i < length rs → j < length rs → is_applied rs i ≡ true → is_applied rs j ≡ true
    → i ≡ j
one_leader rs i j low hi hj a b =
    let x = and_parts (nat_lt 0 (highest rs) && has_one_leader rs) (slice_index rs i == highest rs)
    (sym (applies_low rs (slice_index rs i) low) ∙ a) in
    let y = and_parts (nat_lt 0 (highest rs) && has_one_leader rs) (slice_index rs j == highest rs)
    (sym (applies_low rs (slice_index rs j) low) ∙ b) in
    let alone = eqb-true (count_by (λ r. r == highest rs) rs) 1 (and_parts (nat_lt 0 (highest rs)) (has_one_leader rs) x.0).1 in
    count_one (λ r. r == highest rs) rs i j 0 alone hi hj x.1 y.1

same_place : (n q r : ℕ) (d : Side) → q < n → r < n → span_at n q d ≡ span_at n r d → q ≡ r
same_place n q r East hq hr e = e
same_place n q r West hq hr e = sym (neighbour_back n q West hq) ∙ ap (λ i. neighbour n i East) e ∙ neighbour_back n r West hr

-- A port of a circuit whose ends are parted is cut off. Seen from the circuit's other end, `last` is the last applied
-- span of the arc. From round 2n + 3 on the node after it gives AIS for what comes over it. Each node between that one
-- and the port doesn't switch the side behind from some round on, three rounds a node.
pub record IsCutOff (n : ℕ) (cs : List Provisioned) (c : Provisioned) (d : Side) (state : ℕ → ℕ → NodeState) : Type 0 where
  pub last : ℕ
  pub inside : last < arc_length n c
  pub silent : (t : ℕ) → 2 * n + 3 ≤ t → (let q = going n d (near_at n c d) (suc last) in
      stands_in n cs q (state t q) (opposite d) c.slot.0 ≡ Ais)
  pub opens : (k t : ℕ) → suc last + suc k ≤ arc_length n c → n + 7 + 3 * k ≤ t
      → is_open (state t (going n d (near_at n c d) (suc last + suc k))) (opposite d) ≡ true

module _ (run : Run) (R : IsRun run) (cs : List Provisioned) (ring : AreOnRing (length run.ids) cs) (index : ℕ) (c : Provisioned)
    (get : slice_get cs index ≡ Some c)
    (parted : is_joined (length run.ids) (is_applied (run_requests run)) (arc_of (length run.ids) c) ≡ false) (d : Side) where
  open terms run use {request}

  abbrev many : ℕ
  many = length run.ids

  abbrev rs : List ℕ
  rs = run_requests run

  marks : (l : ℕ) × (g : ℕ) × HasMarks many (is_applied rs) d (near_at many c d) (arc_length many c) l g
  marks = subst (Marks rs cs c) (size run R) (marks_are rs cs index c get) ring parted d

  abbrev x : ℕ → ℕ
  x i = going many d (near_at many c d) i

  x_inside : (i : ℕ) → x i < many
  x_inside i = going-inside many (some_nodes run R) d (near_at many c d) i

  high : 11 ≤ highest rs
  high = elim (cases_lt (highest rs) 11) [
    | inr top ↦ top
    | inl low ↦ (
        let l = marks.0 in
        let g = marks.1 in
        let m = marks.2 in
        let a = m.inside in
        let b = m.outside in
        let few = m.few in
        let long = size run R in
        let one = one_leader rs (way many d (near_at many c d) l) (way many d (near_at many c d) g) low
        (let h = way-inside many (some_nodes run R) d (near_at many c d) l in omega arith)
        (let h = way-inside many (some_nodes run R) d (near_at many c d) g in omega arith) m.last m.next_one in
        let twice = going-once many (some_nodes run R) d (near_at many c d) l g (omega arith) (omega arith)
        (same_place many (x l) (x g) d (x_inside l) (x_inside g) one) in
        absurd (omega arith))
  ]

  applied_asks : (i : ℕ) → is_applied rs (way many d (near_at many c d) i) ≡ true → 11 ≤ request (x i) d
  applied_asks i e =
      let s = spans run R (x i) d (x_inside i) in
      let top = leb-true 11 (slice_index rs (way many d (near_at many c d) i))
      (sym (applies_top rs (slice_index rs (way many d (near_at many c d) i)) high) ∙ e) in
      omega arith

  free_asks : (i : ℕ) → is_applied rs (way many d (near_at many c d) i) ≡ false → request (x i) d < 11
  free_asks i e = elim (cases_lt (request (x i) d) 11) [
    | inl less ↦ less
    | inr more ↦ (
        let s = spans run R (x i) d (x_inside i) in
        let hit : is_applied rs (way many d (near_at many c d) i) ≡ true =
        applies_top rs (slice_index rs (way many d (near_at many c d) i)) high
        ∙ le-leb 11 (slice_index rs (way many d (near_at many c d) i)) (omega arith) in
        absurd (let z : true ≡ false = sym hit ∙ e in cc))
  ]

  pub port_is_cut_off : IsCutOff many cs c d (λ t p. state_after (at_round run t p))
  port_is_cut_off =
      let l = marks.0 in
      let g = marks.1 in
      let m = marks.2 in
      let seen = seen-on many cs ring index c get d in
      let cut : IsPartedBy run R d (near_at many c d) (arc_length many c) l g = record {
        inside = m.inside;
        outside = m.outside;
        few = m.few;
        last = applied_asks l m.last;
        next_one = applied_asks g m.next_one;
        between = λ j a b. free_asks j (m.between j a b);
      } in
      record {
        last = l;
        inside = m.inside;
        silent = cuts_off run R cs d (near_at many c d) index c (near_end d) (other_end (near_end d)) seen l g cut;
        opens = opens run R cs d (near_at many c d) index c (near_end d) (other_end (near_end d)) seen l g cut;
      }
