-- The rules look at no mark of a word that is heard; only a relayed word carries its mark on. So a node that hears
-- words that differ in their marks alone is in one state, and sends equal words, or relays.
use Rattle.std.proofs.Common.{◌≡◌, ℕ, Bool, true, false, Option, Some, None, List, refl, ap, sym, subst, ◌∙◌, inl, inr, ◌⊎◌}
use Rattle.std.specs.Prelude.{◌==◌, ◌||◌, not, ◌&&◌, nat_le, nat_lt, option_map, if◌then◌else◌}
use Rattle.std.specs.Option.{option_map_or}
use Rattle.sdh_kbytes.specs.declared.K.{K}
use Rattle.sdh_ringmap.specs.declared.terms.Code.{Code}
use Rattle.sdh_ringmap.specs.declared.terms.Code.TheVariants.{Nr, Rr}
use Rattle.sdh_kbytes.specs.declared.Path.{Path}
use Rattle.sdh_kbytes.specs.declared.Path.TheVariants.{Short, Long}
use Rattle.sdh_ringmap.specs.Requests.{code_number}
use Rattle.sdh_ringmap.specs.Places.{opposite, found_at}
use Rattle.sdh_ringmap.specs.declared.Side.{Side}
use Rattle.sdh_ringmap.specs.declared.Side.TheVariants.{West, East}
use Rattle.sdh_nodestate.specs.Rules.{Scene, scene, own_id, local, fails, word_on, short, is_from_neighbour, larger, weight, stronger, long}
use Rattle.sdh_nodestate.specs.Rules.{long_word, relayed, word, word_by, own_word, rest_word, chosen, is_short, Choice, own_short, own_long}
use Rattle.sdh_nodestate.specs.Rules.{relay, rest, weight_of, switches, is_below, is_about, far, one_side, switched, mark_by, mark_on}
use Rattle.sdh_signal.specs.Runs.{bare}

abbrev pub bare_scene : Scene → Scene
bare_scene s = scene s.ids s.at s.needs (record { west = option_map bare s.heard.west; east = option_map bare s.heard.east })

bare_on : (s : Scene) (d : Side) → word_on (bare_scene s) d ≡ option_map bare (word_on s d)
bare_on s West = refl
bare_on s East = refl

pub bare_local : (s : Scene) (d : Side) → local (bare_scene s) d ≡ local s d
bare_local s West = refl
bare_local s East = refl

bare_fails : (s : Scene) (d : Side) → fails (bare_scene s) d ≡ fails s d
bare_fails s West = refl
bare_fails s East = refl

short_option : (s : Scene) (d : Side) (o : Option K) → option_map_or (λ k. if is_from_neighbour (bare_scene s) d k then k.code else Nr)
    (option_map bare o) Nr ≡ option_map_or (λ k. if is_from_neighbour s d k then k.code else Nr) o Nr
short_option s d None = refl
short_option s d (Some k) = refl

pub bare_short : (s : Scene) (d : Side) → short (bare_scene s) d ≡ short s d
unfolding short
bare_short s d =
    ap (λ o. option_map_or (λ k. if is_from_neighbour (bare_scene s) d k then k.code else Nr) o Nr) (bare_on s d)
    ∙ short_option s d (word_on s d)

if_bare : (t : Bool) (k : K) → (if t then Some (bare k) else None) ≡ option_map bare (if t then Some k else None)
if_bare true k = refl
if_bare false k = refl

long_option : (o : Option K) → option_map_or long_word (option_map bare o) None ≡ option_map bare (option_map_or long_word o None)
long_option None = refl
long_option (Some k) = if_bare (not (is_short k.path) && nat_le 5 (code_number k.code)) k

pub bare_long : (s : Scene) (d : Side) → long (bare_scene s) d ≡ option_map bare (long s d)
unfolding long
bare_long s d = ap (λ o. option_map_or long_word o None) (bare_on s d) ∙ long_option (word_on s d)

pub bare_stronger : (s : Scene) (d : Side) → stronger (bare_scene s) d ≡ stronger s d
unfolding stronger
bare_stronger s d = ap (λ c. larger c (short (bare_scene s) d)) (bare_local s d) ∙ ap (λ c. larger (local s d) c) (bare_short s d)

bare_weight : (s : Scene) (d : Side) → weight (bare_scene s) d ≡ weight s d
bare_weight s d = ap code_number (bare_stronger s d)

if_not_bare : (t : Bool) (k : K) → (if t then None else Some (bare k)) ≡ option_map bare (if t then None else Some k)
if_not_bare true k = refl
if_not_bare false k = refl

relayed_option : (id : ℕ) (o : Option K) → option_map_or (λ k. if (k.to == id) || (k.from == id) then None else Some k)
    (option_map bare o) None ≡ option_map bare (option_map_or (λ k. if (k.to == id) || (k.from == id) then None else Some k) o None)
relayed_option id None = refl
relayed_option id (Some k) = if_not_bare ((k.to == id) || (k.from == id)) k

pub bare_relayed : (s : Scene) (d : Side) → relayed (bare_scene s) d ≡ option_map bare (relayed s d)
unfolding relayed
bare_relayed s d =
    ap (λ o. option_map_or (λ k. if (k.to == own_id s) || (k.from == own_id s) then None else Some k) o None) (bare_long s (opposite d))
    ∙ relayed_option (own_id s) (long s (opposite d))

weight_option : (o : Option K) → weight_of (option_map bare o) ≡ weight_of o
weight_option None = refl
weight_option (Some k) = refl

pub bare_chosen : (s : Scene) (d : Side) → chosen (bare_scene s) d ≡ chosen s d
unfolding chosen
bare_chosen s d =
    let a = bare_weight s d in
    let b = bare_weight s (opposite d) in
    let c : weight_of (relayed (bare_scene s) d) ≡ weight_of (relayed s d) =
    ap weight_of (bare_relayed s d) ∙ weight_option (relayed s d) in
    cc

below_option : (s : Scene) (d x : Side) (w : ℕ) (o : Option K)
    → option_map_or (λ k. is_about (bare_scene s) d x k || nat_lt (code_number k.code) w) (option_map bare o) true
    ≡ option_map_or (λ k. is_about s d x k || nat_lt (code_number k.code) w) o true
unfolding is_about
below_option s d x w None = refl
below_option s d x w (Some k) = refl

bare_below : (s : Scene) (d x : Side) → is_below (bare_scene s) d x ≡ is_below s d x
bare_below s d x =
    ap (λ o. option_map_or (λ k. is_about (bare_scene s) d x k || nat_lt (code_number k.code) (weight (bare_scene s) d)) o true)
    (bare_long s x)
    ∙ ap (λ w. option_map_or (λ k. is_about (bare_scene s) d x k || nat_lt (code_number k.code) w) (option_map bare (long s x)) true)
    (bare_weight s d)
    ∙ below_option s d x (weight s d) (long s x)

abbrev switch_of : ℕ → ℕ → Bool → Bool → Bool
switch_of w v a b = nat_le 11 w || (nat_le 5 w && nat_le w 8 && nat_lt v w && (a && (b && true)))

switch_is : (s : Scene) (d : Side) → switches s d ≡ switch_of (weight s d) (weight s (opposite d)) (is_below s d West) (is_below s d East)
unfolding switches
switch_is s d = refl

pub bare_switches : (s : Scene) (d : Side) → switches (bare_scene s) d ≡ switches s d
bare_switches s d =
    switch_is (bare_scene s) d
    ∙ ap (λ w. switch_of w (weight (bare_scene s) (opposite d)) (is_below (bare_scene s) d West) (is_below (bare_scene s) d East))
    (bare_weight s d)
    ∙ ap (λ w. switch_of (weight s d) w (is_below (bare_scene s) d West) (is_below (bare_scene s) d East)) (bare_weight s (opposite d))
    ∙ ap (λ a. switch_of (weight s d) (weight s (opposite d)) a (is_below (bare_scene s) d East)) (bare_below s d West)
    ∙ ap (λ a. switch_of (weight s d) (weight s (opposite d)) (is_below s d West) a) (bare_below s d East)
    ∙ sym (switch_is s d)

far_option : (ids : List ℕ) (id : ℕ) (o : Option K) → option_map_or (λ k. if k.from == id then None else found_at ids k.from)
    (option_map bare o) None ≡ option_map_or (λ k. if k.from == id then None else found_at ids k.from) o None
far_option ids id None = refl
far_option ids id (Some k) = refl

pub bare_far : (s : Scene) (d : Side) → far (bare_scene s) d ≡ far s d
unfolding far
bare_far s d =
    ap (λ o. option_map_or (λ k. if k.from == own_id s then None else found_at s.ids k.from) o None) (bare_long s (opposite d))
    ∙ far_option s.ids (own_id s) (long s (opposite d))

bare_switched : (s : Scene) → switched (bare_scene s) ≡ switched s
bare_switched s =
    ap (λ a. one_side a (switches (bare_scene s) East)) (bare_switches s West)
    ∙ ap (λ a. one_side (switches s West) a) (bare_switches s East)

mark_option : (s : Scene) (b : Bool) (o : Option Side) → mark_by b (option_map (far (bare_scene s)) o) ≡ mark_by b (option_map (far s) o)
mark_option s b None = refl
mark_option s b (Some d) = ap (λ p. mark_by b (Some p)) (bare_far s d)

pub bare_mark : (s : Scene) (d : Side) → mark_on (bare_scene s) d ≡ mark_on s d
unfolding mark_on
bare_mark s d =
    ap (λ b. mark_by b (option_map (far (bare_scene s)) (switched (bare_scene s)))) (bare_fails s d)
    ∙ ap (λ o. mark_by (fails s d) (option_map (far (bare_scene s)) o)) (bare_switched s)
    ∙ mark_option s (fails s d) (switched s)

own_same : (s : Scene) (d : Side) (c c' : Code) (to : Side) (p : Path) → c ≡ c' → own_word (bare_scene s) d c to p ≡ own_word s d c' to p
own_same s d c c' to p e = let f = bare_mark s d in cc

own_short_same : (s : Scene) (d : Side) → word_by (bare_scene s) d own_short ≡ word_by s d own_short
own_short_same s d =
    own_same s d _ _ d Short (ap (λ x. if nat_le (code_number x) (code_number (local (bare_scene s) d)) then local (bare_scene s) d else Rr)
    (bare_short s d) ∙ ap (λ x. if nat_le (code_number (short s d)) (code_number x) then x else Rr) (bare_local s d))

own_long_same : (s : Scene) (d : Side) → word_by (bare_scene s) d own_long ≡ word_by s d own_long
own_long_same s d = own_same s d _ _ (opposite d) Long (bare_stronger s (opposite d))

rest_same : (s : Scene) (d : Side) → rest_word (bare_scene s) d ≡ rest_word s d
rest_same s d = own_same s d Nr Nr d Short refl

-- both words are relayed
pub record BothRelay (s s' : Scene) (d : Side) (w w' : K) : Type 0 where
  pub one : relayed s d ≡ Some w
  pub other : relayed s' d ≡ Some w'

abbrev pub IsSameOrRelayed : Scene → Scene → Side → K → K → Type 0
IsSameOrRelayed s s' d w w' = (w ≡ w') ⊎ BothRelay s s' d w w'

module _ (s s' : Scene) (d : Side) (e : bare_scene s ≡ bare_scene s') where
  by_relay : (o o' : Option K) → relayed s d ≡ o → relayed s' d ≡ o' → option_map bare o ≡ option_map bare o'
      → IsSameOrRelayed s s' d (option_map_or (λ k. k) o (rest_word s d)) (option_map_or (λ k. k) o' (rest_word s' d))
  by_relay None None p q f = inl (sym (rest_same s d) ∙ ap (λ x. rest_word x d) e ∙ rest_same s' d)
  by_relay None (Some k) p q f = cc
  by_relay (Some k) None p q f = cc
  by_relay (Some k) (Some k') p q f = inr (record { one = p; other = q })

  by_choice : (c : Choice) → IsSameOrRelayed s s' d (word_by s d c) (word_by s' d c)
  by_choice own_short = inl (sym (own_short_same s d) ∙ ap (λ x. word_by x d own_short) e ∙ own_short_same s' d)
  by_choice own_long = inl (sym (own_long_same s d) ∙ ap (λ x. word_by x d own_long) e ∙ own_long_same s' d)
  by_choice relay = by_relay (relayed s d) (relayed s' d) refl refl (sym (bare_relayed s d) ∙ ap (λ x. relayed x d) e ∙ bare_relayed s' d)
  by_choice rest = inl (sym (rest_same s d) ∙ ap (λ x. rest_word x d) e ∙ rest_same s' d)

  -- two scenes that differ in the marks of what is heard send equal words, or relay
  pub same_words : IsSameOrRelayed s s' d (word s d) (word s' d)
  unfolding word
  same_words =
      let c : chosen s d ≡ chosen s' d = sym (bare_chosen s d) ∙ ap (λ x. chosen x d) e ∙ bare_chosen s' d in
      subst (λ x. IsSameOrRelayed s s' d (word_by s d (chosen s d)) (word_by s' d x)) c (by_choice (chosen s d))

-- a word that is known but for its mark
pub unbare : (o : Option K) (k : K) → option_map bare o ≡ Some k → (w : K) × (o ≡ Some w) × (bare w ≡ k)
unbare None k e = cc
unbare (Some w) k e = (w, refl, cc)
