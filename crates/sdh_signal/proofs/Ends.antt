-- What a node hears, sends and does in round 4n + 7 or later, by which of its spans are at the level. On a side whose
-- span is not, it hears the long word of the first end that is met on the way round.
use Rattle.std.proofs.Common.{◌≡◌, ◌≢◌, ℕ, ◌+◌, ◌*◌, ◌<◌, ◌≤◌, suc, Bool, true, false, Option, Some, None, List, length, refl, ap, sym}
use Rattle.std.proofs.Common.{subst, ◌∙◌, arith, inl, inr, ◌⊎◌, ap₂}
use Rattle.std.specs.Prelude.{◌==◌, slice_index, cond, nat_lt, option_map}
use Rattle.std.proofs.lemmas.Bool.{cases_lt, ne_eqb, eq-eqb, lt-ltb}
use Rattle.std.proofs.lemmas.List.Sums.{position_or_len_is}
use Rattle.sdh_kbytes.specs.declared.K.{K}
use Rattle.sdh_kbytes.specs.declared.Path.TheVariants.{Long}
use Rattle.sdh_ringmap.specs.Requests.{code_number}
use Rattle.sdh_ringmap.specs.Ids.{AreIds}
use Rattle.sdh_ringmap.specs.Places.{opposite, found_at}
use Rattle.sdh_ringmap.specs.declared.Side.{Side}
use Rattle.sdh_ringmap.specs.declared.Side.TheVariants.{West, East}
use Rattle.sdh_ringmap.specs.declared.Pos.{Pos}
use Rattle.sdh_nodestate.specs.declared.NodeState.TheVariants as state
use Rattle.sdh_nodestate.specs.Rules.{Scene, word_on, long, weight, chosen, relay, switches, far, is_relay, state_after, state_by}
use Rattle.sdh_signal.specs.Law.{is_open}
use Rattle.sdh_signal.proofs.Terms.{terms}
use Rattle.sdh_signal.specs.Runs.{Run, at_round, IsRun, bare}
use Rattle.sdh_ringmap.specs.Steps.{going}
use Rattle.sdh_ringmap.proofs.Going.{going-inside, going-next, going-apart, going-last}
use Rattle.sdh_signal.proofs.OneNode.{long_of, far_of, switch_lighter, switch_blocked, not_about_to}
use Rattle.sdh_signal.proofs.Bare.{unbare}
use Rattle.sdh_signal.proofs.Runs.{some_nodes, next_below, id_apart, request_back, weight_le}
use Rattle.sdh_signal.proofs.Levels.{IsLevel, relays}
use Rattle.sdh_signal.proofs.Agreement.{knows}
use Rattle.sdh_signal.proofs.Reach.{IsFirst, reach}

-- a state by the switched sides

by_switches : (s : Scene) (a b : Bool) → switches s West ≡ a → switches s East ≡ b
    → state_after s ≡ state_by a b (is_relay (chosen s West)) (is_relay (chosen s East)) (far s West) (far s East)
unfolding state_after
by_switches s a b w e = ap₂ (λ a b. state_by a b (is_relay (chosen s West)) (is_relay (chosen s East)) (far s West) (far s East)) w e

pub state_isolated : (s : Scene) → switches s West ≡ true → switches s East ≡ true → state_after s ≡ state.Isolated tt
state_isolated s w e = by_switches s true true w e

pub state_west : (s : Scene) (o : Option Pos) → switches s West ≡ true → switches s East ≡ false → far s West ≡ o
    → state_after s ≡ state.SwitchWest o
state_west s o w e f = by_switches s true false w e ∙ ap (λ o. state.SwitchWest o) f

pub state_east : (s : Scene) (o : Option Pos) → switches s West ≡ false → switches s East ≡ true → far s East ≡ o
    → state_after s ≡ state.SwitchEast o
state_east s o w e f = by_switches s false true w e ∙ ap (λ o. state.SwitchEast o) f

pub state_pass : (s : Scene) → switches s West ≡ false → switches s East ≡ false → chosen s West ≡ relay → chosen s East ≡ relay
    → state_after s ≡ state.PassThrough tt
state_pass s w e p q =
    by_switches s false false w e ∙ ap₂ (λ c d. state_by false false (is_relay c) (is_relay d) (far s West) (far s East)) p q

idle_by : (a b : Bool) (v w : Option Pos) → (a ≡ false) ⊎ (b ≡ false) → state_by false false a b v w ≡ state.Idle tt
idle_by true true v w (inl e) = cc
idle_by true true v w (inr e) = cc
idle_by true false v w e = refl
idle_by false true v w e = refl
idle_by false false v w e = refl

pub state_idle : (s : Scene) → switches s West ≡ false → switches s East ≡ false
    → (is_relay (chosen s West) ≡ false) ⊎ (is_relay (chosen s East) ≡ false) → state_after s ≡ state.Idle tt
state_idle s w e f =
    by_switches s false false w e ∙ idle_by (is_relay (chosen s West)) (is_relay (chosen s East)) (far s West) (far s East) f

-- a side that isn't switched is open

open_west : (b r q : Bool) (w e : Option Pos) → is_open (state_by false b r q w e) West ≡ true
open_west true r q w e = refl
open_west false true true w e = refl
open_west false true false w e = refl
open_west false false true w e = refl
open_west false false false w e = refl

open_east : (a r q : Bool) (w e : Option Pos) → is_open (state_by a false r q w e) East ≡ true
open_east true r q w e = refl
open_east false true true w e = refl
open_east false true false w e = refl
open_east false false true w e = refl
open_east false false false w e = refl

pub open_by : (s : Scene) (e : Side) → switches s e ≡ false → is_open (state_after s) e ≡ true
unfolding state_after
open_by s West h =
    ap (λ a. is_open (state_by a (switches s East) (is_relay (chosen s West)) (is_relay (chosen s East)) (far s West) (far s East)) West) h
    ∙ open_west (switches s East) (is_relay (chosen s West)) (is_relay (chosen s East)) (far s West) (far s East)
open_by s East h =
    ap (λ b. is_open (state_by (switches s West) b (is_relay (chosen s West)) (is_relay (chosen s East)) (far s West) (far s East)) East) h
    ∙ open_east (switches s West) (is_relay (chosen s West)) (is_relay (chosen s East)) (far s West) (far s East)

-- the position of an identifier of the ring
pub found : (ids : List ℕ) (x : ℕ) → AreIds ids → x < length ids → found_at ids (slice_index ids x) ≡ Some (record { 0 = x })
found ids x ok h =
    let is =
    position_or_len_is (λ i. i == slice_index ids x) ids x 0 (omega arith)
    (λ k less. ne_eqb (slice_index ids k) (slice_index ids x) (λ e. (let same = ok.distinct k x (omega arith) h e in omega arith)))
    (λ i. eq-eqb (slice_index ids x) (slice_index ids x) refl) in
    ap (λ i. option_map (λ p. record { 0 = p }) (cond (nat_lt i (length ids)) (Some i) None)) is
    ∙ ap (λ b. option_map (λ p. record { 0 = p }) (cond b (Some x) None)) (lt-ltb x (length ids) h)

module _ (run : Run) (R : IsRun run) (c : ℕ) (level : IsLevel run R c) (t : ℕ) (late : 4 * length run.ids + 7 ≤ t) where
  open terms run use {n, next as nx, request as asked, plain, top_code}

  abbrev node : ℕ → Scene
  node p = at_round run t p

  abbrev w : ℕ → Side → ℕ
  w p d = weight (node p) d

  -- a span's request is at the level just where its weight is
  pub heavy : (p : ℕ) (d : Side) → p < n → c ≤ asked p d → c ≤ w p d
  heavy p d h g = let k = knows run R c level t p d (omega arith) h g in let top = ap code_number k.top in let strong =
      k.strong in omega arith

  pub light : (p : ℕ) (d : Side) → p < n → asked p d < c → w p d < c
  light p d h g = let x = weight_le run R t p d (omega arith) h in omega arith

  abbrev pub First : ℕ → Side → ℕ → Type 0
  First p e k = IsFirst run R c level p e k

  -- what p hears on e, where its span there isn't at the level: the long word of the first position whose span is
  pub record HearsFirst (p : ℕ) (e : Side) (k : ℕ) : Type 0 where
    pub few : suc k < n
    pub first : First p e (suc k)
    pub heard_word : K
    pub is : long (node p) e ≡ Some heard_word
    pub strong : c ≤ code_number heard_word.code
    pub from : heard_word.from ≡ slice_index run.ids (going n e p (suc k))
    pub to : heard_word.to ≡ slice_index run.ids (nx (going n e p (suc k)) e)
    pub foreign : heard_word.from ≢ slice_index run.ids p
    pub far_is : found_at run.ids heard_word.from ≡ Some (record { 0 = going n e p (suc k) })

  abbrev says : ℕ → Side → ℕ → K
  says p e k = plain (going n e p (suc k)) e (top_code (going n e p (suc k)) e) Long

  hears_by : (k p : ℕ) (e : Side) (word : K) → p < n → suc k < n → First p e (suc k) → long (node p) e ≡ Some word → bare word ≡ says p e k
      → HearsFirst p e k
  hears_by k p e word h few first is same =
      let x = going n e p (suc k) in
      let inside = going-inside n (some_nodes run R) e p (suc k) in
      let strong = (knows run R c level t x e (omega arith) inside first.there).strong in
      let code = ap (λ (k : K). code_number k.code) same in
      let from : word.from ≡ slice_index run.ids x = ap (λ (k : K). k.from) same in
      record {
        few = few;
        first = first;
        heard_word = word;
        is = is;
        strong = omega arith;
        from = from;
        to = ap (λ (k : K). k.to) same;
        foreign = λ e'. id_apart run R x p inside h (going-apart n (some_nodes run R) e p (suc k) h (omega arith) few) (sym from ∙ e');
        far_is = ap (found_at run.ids) from ∙ found run.ids x R.ids_ok inside;
      }

  pub hears : (k p : ℕ) (e : Side) → p < n → suc k < n → First p e (suc k) → HearsFirst p e k
  hears k p e h few first =
      let low = level.low in
      let x = going n e p (suc k) in
      let f = unbare (word_on (node p) e) (says p e k) (reach run R c level k t p e h few first (omega arith)) in
      let strong = (knows run R c level t x e (omega arith) (going-inside n (some_nodes run R) e p (suc k)) first.there).strong in
      let code = ap (λ (k : K). code_number k.code) f.2 in
      hears_by k p e f.0 h few first (long_of (node p) e f.0 f.1 (ap (λ (k : K). k.path) f.2) (omega arith)) f.2

  -- a word about a span of a node that has none at the level isn't heard
  other_way : (p : ℕ) (e : Side) → p < n → asked p (opposite e) < c → asked (nx p (opposite e)) e < c
  other_way p West h l = let b = request_back run R p East h in omega arith
  other_way p East h l = let b = request_back run R p West h in omega arith

  not_last : (p : ℕ) (e : Side) (k : ℕ) → p < n → asked p (opposite e) < c → HearsFirst p e k → suc (suc k) < n
  not_last p e k h less f = elim (cases_lt (suc (suc k)) n) [
    | inl below ↦ below
    | inr above ↦ (
        let few = f.few in
        let there : c ≤ asked (going n e p (suc k)) e = f.first.there in
        let at_last : going n e p (suc k) ≡ nx p (opposite e) = going-last n (some_nodes run R) e p (suc k) h (omega arith) in
        let seen_there : c ≤ asked (nx p (opposite e)) e = subst (λ x. c ≤ asked x e) at_last there in
        let x = other_way p e h less in
        absurd (omega arith))
  ]

  -- the word isn't for p where the first position isn't the last on the way round
  not_for : (p : ℕ) (e : Side) (k : ℕ) → p < n → suc (suc k) < n → (f : HearsFirst p e k) → f.heard_word.to ≢ slice_index run.ids p
  not_for p e k h few f =
      λ i. id_apart run R (nx (going n e p (suc k)) e) p (next_below run R (going n e p (suc k)) e) h
      (λ j. going-apart n (some_nodes run R) e p (suc (suc k)) h (omega arith) few
      (sym (going-next n (some_nodes run R) e p (suc k)) ∙ j)) (sym f.to ∙ i)

  pub blocked : (p : ℕ) (d e : Side) (k : ℕ) → p < n → w p d ≤ c → w p d < 11 → suc (suc k) < n → HearsFirst p e k
      → switches (node p) d ≡ false
  blocked p d e k h less few last f =
      let strong = f.strong in
      switch_blocked (node p) d e f.heard_word few f.is (not_about_to (node p) d e f.heard_word (not_for p e k h last f)) (omega arith)

  sends_on : (p : ℕ) (e : Side) (k : ℕ) → p < n → asked p (opposite e) < c → asked p e < c → HearsFirst p e k
      → chosen (node p) (opposite e) ≡ relay
  sends_on p e k h l m f =
      relays run R c level t p e f.heard_word (light p (opposite e) h l) (light p e h m) f.is f.strong
      (not_for p e k h (not_last p e k h l f) f) f.foreign

  -- a node with no span at the level passes on what comes from both sides
  pub pass : (p i j : ℕ) → p < n → asked p West < c → asked p East < c → HearsFirst p West i → HearsFirst p East j
      → state_after (node p) ≡ state.PassThrough tt
  pass p i j h lw le f g =
      let high = level.high in
      let a = light p West h lw in
      let b = light p East h le in
      let last = not_last p West i h le f in
      state_pass (node p) (blocked p West West i h (omega arith) (omega arith) last f)
      (blocked p East West i h (omega arith) (omega arith) last f) (sends_on p East j h lw le g) (sends_on p West i h le lw f)

  -- a side below the level beside one at it isn't switched
  beside : (p : ℕ) (d : Side) → w p d < c → c ≤ w p (opposite d) → switches (node p) d ≡ false
  beside p d less there = let high = level.high in switch_lighter (node p) d (omega arith) (omega arith)

  pub switch_west : (p k : ℕ) → p < n → switches (node p) West ≡ true → c ≤ asked p West → asked p East < c → HearsFirst p East k
      → state_after (node p) ≡ state.SwitchWest (Some (record { 0 = going n East p (suc k) }))
  switch_west p k h s g l f =
      state_west (node p) (Some (record { 0 = going n East p (suc k) })) s (beside p East (light p East h l) (heavy p West h g))
      (far_of (node p) West f.heard_word f.is f.foreign ∙ f.far_is)

  pub switch_east : (p k : ℕ) → p < n → switches (node p) East ≡ true → c ≤ asked p East → asked p West < c → HearsFirst p West k
      → state_after (node p) ≡ state.SwitchEast (Some (record { 0 = going n West p (suc k) }))
  switch_east p k h s g l f =
      state_east (node p) (Some (record { 0 = going n West p (suc k) })) (beside p West (light p West h l) (heavy p East h g)) s
      (far_of (node p) East f.heard_word f.is f.foreign ∙ f.far_is)
