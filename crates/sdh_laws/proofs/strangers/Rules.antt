-- What the rules say of the node that switches one side, of its long word and of its far end.
use Rattle.std.proofs.Common.{◌≡◌, ℕ, ◌<◌, ◌≤◌, Bool, true, false, List, [], ◌∷◌, length, Option, Some, None, refl, ap, sym, ◌∙◌, subst}
use Rattle.std.proofs.Common.{arith, inl, inr, ◌⊎◌}
use Rattle.std.specs.Prelude.{◌==◌, ◌||◌, ◌&&◌, nat_le, nat_lt, if◌then◌else◌, option_map, position}
use Rattle.std.specs.Option.{option_map_or}
use Rattle.std.specs.List.{list_all}
use Rattle.std.proofs.lemmas.Bool.{leb-true, ltb-true, le-leb, cases_lt}
use Rattle.std.proofs.lemmas.List.Quantifiers.{position-Some}
use Rattle.sdh_kbytes.specs.declared.K.{K}
use Rattle.sdh_kbytes.specs.declared.Path.TheVariants.{Long}
use Rattle.sdh_ringmap.specs.Requests.{code_number}
use Rattle.sdh_ringmap.specs.Places.{opposite, found_at}
use Rattle.sdh_ringmap.specs.declared.Pos.{Pos}
use Rattle.sdh_ringmap.specs.declared.Side.{Side}
use Rattle.sdh_ringmap.specs.declared.Side.TheVariants.{West, East}
use Rattle.sdh_ringmap.proofs.Sides.{opposite_twice}
use Rattle.sdh_nodestate.specs.declared.NodeState.TheVariants as state
use Rattle.sdh_nodestate.specs.Rules.{Scene, own_id, weight, weight_of, long, long_word, relayed, far, chosen, own_long}
use Rattle.sdh_nodestate.specs.Rules.{relay, rest, is_relay, word, switches, is_below, is_about, state_by, state_after}
use Rattle.sdh_nodestate.specs.Urgency.{weight_on}
use Rattle.sdh_nodestate.proofs.Urgency.{first_words_are_sent}
use Rattle.sdh_signal.proofs.OneNode.{switch_top, relayed_from, long_from, word_relay, choose_long_top, choose_long}
use Rattle.sdh_signal.proofs.Views.{Switch}
use Rattle.sdh_signal.proofs.Tracing.{relay_of}

-- ---- the state by what is switched

-- one side is switched, its far end is that of the rules, and the other side isn't
pub record SwitchesOne (s : Scene) (d : Side) (f : Option Pos) : Type 0 where
  pub this : switches s d ≡ true
  pub other : switches s (opposite d) ≡ false
  pub end : f ≡ far s d

west_by : (a b r q : Bool) (w e f : Option Pos) → state_by a b r q w e ≡ state.SwitchWest f → (a ≡ true) × (b ≡ false) × (f ≡ w)
west_by true true r q w e f h = cc
west_by true false r q w e f h = (refl, refl, cc)
west_by false true r q w e f h = cc
west_by false false true true w e f h = cc
west_by false false true false w e f h = cc
west_by false false false true w e f h = cc
west_by false false false false w e f h = cc

east_by : (a b r q : Bool) (w e f : Option Pos) → state_by a b r q w e ≡ state.SwitchEast f → (a ≡ false) × (b ≡ true) × (f ≡ e)
east_by true true r q w e f h = cc
east_by true false r q w e f h = cc
east_by false true r q w e f h = (refl, refl, cc)
east_by false false true true w e f h = cc
east_by false false true false w e f h = cc
east_by false false false true w e f h = cc
east_by false false false false w e f h = cc

pass_by : (a b r q : Bool) (w e : Option Pos) → state_by a b r q w e ≡ state.PassThrough tt → (r ≡ true) × (q ≡ true)
pass_by true true r q w e h = cc
pass_by true false r q w e h = cc
pass_by false true r q w e h = cc
pass_by false false true true w e h = (refl, refl)
pass_by false false true false w e h = cc
pass_by false false false true w e h = cc
pass_by false false false false w e h = cc

pub switched_one : (s : Scene) (d : Side) (f : Option Pos) → state_after s ≡ Switch d f → SwitchesOne s d f
unfolding state_after
switched_one s West f h =
    let is =
    west_by (switches s West) (switches s East) (is_relay (chosen s West)) (is_relay (chosen s East)) (far s West) (far s East) f h in
    record { this = is.0; other = is.1; end = is.2 }
switched_one s East f h =
    let is =
    east_by (switches s West) (switches s East) (is_relay (chosen s West)) (is_relay (chosen s East)) (far s West) (far s East) f h in
    record { this = is.1; other = is.0; end = is.2 }

pub passes_relays : (s : Scene) (d : Side) → state_after s ≡ state.PassThrough tt → chosen s d ≡ relay
unfolding state_after
passes_relays s West h =
    relay_of (chosen s West) (pass_by (switches s West) (switches s East) (is_relay (chosen s West)) (is_relay (chosen s East)) (far s West)
    (far s East) h).0
passes_relays s East h =
    relay_of (chosen s East) (pass_by (switches s West) (switches s East) (is_relay (chosen s West)) (is_relay (chosen s East)) (far s West)
    (far s East) h).1

-- ---- a relayed word is the long word heard on the other side

pub record Relays (s : Scene) (d : Side) : Type 0 where
  pub k : K
  pub says : word s d ≡ k
  pub relayed_is : relayed s d ≡ Some k
  pub heard : long s (opposite d) ≡ Some k

pub relays : (s : Scene) (d : Side) → chosen s d ≡ relay → Relays s d
relays s d e = by (relayed s d) refl
  where
    by : (o : Option K) → relayed s d ≡ o → Relays s d
    by None h =
        let some = (first_words_are_sent s d).there (λ z. other (sym e ∙ z)) in
        let none : weight_on s d (chosen s d) ≡ 0 = ap (weight_on s d) e ∙ ap weight_of h in
        absurd (omega arith)
      where
        other : relay ≡ rest → ⊥
        other z = cc
    by (Some k) h = record { k = k; says = word_relay s d k e h; relayed_is = h; heard = (relayed_from s d k h).is_long }

-- ---- the node that switches one side says so the long way round

-- whether a switched side has a request of at least SF, or stands alone
switch_cases : (a b c d e : Bool) → (a || (b && c && d && e)) ≡ true → (a ≡ true) ⊎ ((b ≡ true) × (c ≡ true) × (d ≡ true) × (e ≡ true))
switch_cases true b c d e h = inl refl
switch_cases false true true true true h = inr (refl, refl, refl, refl)
switch_cases false true true true false h = cc
switch_cases false true true false e h = cc
switch_cases false true false d e h = cc
switch_cases false false c d e h = cc

both_below : (a b : Bool) → (a && (b && true)) ≡ true → (a ≡ true) × (b ≡ true)
both_below true true h = (refl, refl)
both_below true false h = cc
both_below false b h = cc

below_each : (s : Scene) (d x : Side) → list_all (is_below s d) (West ∷ East ∷ []) ≡ true → is_below s d x ≡ true
below_each s d West h = (both_below (is_below s d West) (is_below s d East) h).0
below_each s d East h = (both_below (is_below s d West) (is_below s d East) h).1

or_right : (a b : Bool) → (a || b) ≡ true → a ≡ false → b ≡ true
or_right true b h e = cc
or_right false b h e = h

-- a long word that is heard on the switched side itself isn't about its span
not_about : (s : Scene) (d : Side) (k : K) → is_about s d d k ≡ false
unfolding is_about
not_about s West k = refl
not_about s East k = refl

lighter : (s : Scene) (d : Side) (k : K) → long s d ≡ Some k → is_below s d d ≡ true → code_number k.code < weight s d
lighter s d k h b =
    let asks : (is_about s d d k || nat_lt (code_number k.code) (weight s d)) ≡ true =
    sym (ap (λ o. option_map_or (λ k. is_about s d d k || nat_lt (code_number k.code) (weight s d)) o true) h) ∙ b in
    ltb-true (code_number k.code) (weight s d) (or_right (is_about s d d k) (nat_lt (code_number k.code) (weight s d)) asks
    (not_about s d k))

-- what is relayed away from the switched side was heard on it
relay_lighter : (s : Scene) (e : Side) → is_below s e e ≡ true → weight_of (relayed s (opposite e)) ≤ weight s e
relay_lighter s e b = by (relayed s (opposite e)) refl
  where
    by : (o : Option K) → relayed s (opposite e) ≡ o → weight_of o ≤ weight s e
    by None h = omega arith
    by (Some k) h =
        let heard : long s e ≡ Some k = ap (long s) (sym (opposite_twice e)) ∙ (relayed_from s (opposite e) k h).is_long in
        let less = lighter s e k heard b in
        omega arith

-- the own long word is sent, and it asks
pub record SaysLong (s : Scene) (e : Side) : Type 0 where
  pub chosen_is : chosen s (opposite e) ≡ own_long
  pub strong : 5 ≤ weight s e

pub switched_says_long : (s : Scene) (e : Side) → switches s e ≡ true → switches s (opposite e) ≡ false → SaysLong s e
unfolding switches chosen
switched_says_long s e on off =
    let d = opposite e in
    let back : weight s (opposite d) ≡ weight s e = ap (weight s) (opposite_twice e) in
    let low : weight s d < 11 = elim (cases_lt (weight s d) 11) [
      | inl less ↦ less
      | inr high ↦ absurd (no (sym (switch_top s d high) ∙ off))
    ] in
    elim (switch_cases (nat_le 11 (weight s e)) (nat_le 5 (weight s e)) (nat_le (weight s e) 8) (nat_lt (weight s d) (weight s e))
    (list_all (is_below s e) (West ∷ East ∷ [])) on) [
      | inl top ↦ (
          let high = leb-true 11 (weight s e) top in
          record {
            chosen_is = choose_long_top (weight s d) (weight s (opposite d)) (weight_of (relayed s d)) low (omega arith);
            strong = omega arith;
          })
      | inr alone ↦ (
          let five = leb-true 5 (weight s e) alone.0 in
          let eight = leb-true (weight s e) 8 alone.1 in
          let less = ltb-true (weight s d) (weight s e) alone.2 in
          let relay_is = relay_lighter s e (below_each s e e alone.3) in
          record {
            chosen_is = choose_long (weight s d) (weight s (opposite d)) (weight_of (relayed s d)) (omega arith) (omega arith)
                (omega arith);
            strong = five;
          })
    ]
  where
    no : true ≡ false → ⊥
    no z = cc

-- ---- long words, and far ends

pub long_word_is : (k : K) → k.path ≡ Long → 5 ≤ code_number k.code → long_word k ≡ Some k
long_word_is k p c = rw (p, le-leb 5 (code_number k.code) c) refl

pub heard_is_long : (s : Scene) (d : Side) (k : K) → long s d ≡ Some k → long_word k ≡ Some k
heard_is_long s d k h = let is = long_from s d k h in long_word_is k is.path is.strong

-- the far end is where the source of the long word is that is heard on the other side
pub record IsFar (s : Scene) (d : Side) (f : Pos) : Type 0 where
  pub k : K
  pub heard : long s (opposite d) ≡ Some k
  pub found : found_at s.ids k.from ≡ Some f
  pub inside : f.0 < length s.ids

pub found_inside : (ids : List ℕ) (id : ℕ) (f : Pos) (o : Option ℕ) → position (λ x. x == id) ids ≡ o
    → option_map (λ p. record { 0 = p }) o ≡ Some f → f.0 < length ids
found_inside ids id f None e h = cc
found_inside ids id f (Some i) e h =
    let is = position-Some (λ x. x == id) ids i 0 e in
    let same : i ≡ f.0 =
    (let z : ◌≡◌ {A = Option Pos} (Some (record { 0 = i })) (Some f) = h in ap
    (λ (o : Option Pos). option_map_or (λ (p : Pos). p.0) o 0) z) in
    subst (λ x. x < length ids) same is.0

far_by : (b : Bool) (o : Option Pos) (f : Pos) → (if b then None else o) ≡ Some f → o ≡ Some f
far_by true o f h = cc
far_by false o f h = h

pub far_from : (s : Scene) (d : Side) (f : Pos) → far s d ≡ Some f → IsFar s d f
unfolding far
far_from s d f h = by (long s (opposite d)) refl h
  where
    by : (o : Option K) → long s (opposite d) ≡ o → option_map_or (λ k. if k.from == own_id s then None else found_at s.ids k.from) o None
        ≡ Some f → IsFar s d f
    by None e h = cc
    by (Some k) e h =
        let at = far_by (k.from == own_id s) (found_at s.ids k.from) f h in
        record { k = k; heard = e; found = at; inside = found_inside s.ids k.from f (position (λ x. x == k.from) s.ids) refl at }
