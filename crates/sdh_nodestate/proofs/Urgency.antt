-- The word that the rules choose is the first of all that may be sent.
use Rattle.std.proofs.Common.{◌≡◌, ℕ, zero, suc, ◌<◌, ◌≤◌, ◌⊎◌, inl, inr, Bool, true, false, refl, arith}
use Rattle.std.specs.Prelude.{nat_le, ◌==◌, ◌&&◌, if◌then◌else◌}
use Rattle.std.proofs.lemmas.Bool.{leb-true, leb-false, and_parts, eqb-true}
use Rattle.sdh_nodestate.specs.Rules.{Choice, own_short, own_long, relay, rest, choose, chosen}
use Rattle.sdh_nodestate.specs.Urgency.{weight_on, IsAsUrgent, place, IsFirst, FirstWordsAreSent}

not_0 : (n : ℕ) → (n == 0) ≡ false → 0 < n
not_0 zero e = absurd (cc)
not_0 (suc n) e = omega arith

module _ (w : Choice → ℕ) (none : w rest ≡ 0) where
  abbrev s : ℕ
  s = w own_short

  abbrev l : ℕ
  l = w own_long

  abbrev r : ℕ
  r = w relay

  short_first : 0 < s → IsAsUrgent s l → IsAsUrgent s r → IsFirst w own_short
  short_first some over_long over_relay = record {
    there = λ _. some;
    nothing = λ e. absurd (cc);
    urgent = all;
    before = λ _ _ _. omega arith;
  }
    where
      all : (other : Choice) → IsAsUrgent s (w other)
      all own_short = inr (omega arith)
      all own_long = over_long
      all relay = over_relay
      all rest = inr (omega arith)

  long_first : 0 < l → s < 11 → s < l → IsAsUrgent l r → IsFirst w own_long
  long_first some low less over_relay = record { there = λ _. some; nothing = λ e. absurd (cc); urgent = all; before = first }
    where
      all : (other : Choice) → IsAsUrgent l (w other)
      all own_short = inr (omega arith)
      all own_long = inr (omega arith)
      all relay = over_relay
      all rest = inr (omega arith)

      first : (other : Choice) → 0 < w other → IsAsUrgent (w other) l → 1 ≤ place other
      first own_short _ (inl high) = absurd (omega arith)
      first own_short _ (inr over) = absurd (omega arith)
      first own_long _ _ = omega arith
      first relay _ _ = omega arith
      first rest _ _ = omega arith

  relay_first : s < 11 → l < 11 → s < r → l < r → IsFirst w relay
  relay_first low_short low_long over_short over_long = record {
    there = λ _. omega arith;
    nothing = λ e. absurd (cc);
    urgent = all;
    before = first;
  }
    where
      all : (other : Choice) → IsAsUrgent r (w other)
      all own_short = inr (omega arith)
      all own_long = inr (omega arith)
      all relay = inr (omega arith)
      all rest = inr (omega arith)

      first : (other : Choice) → 0 < w other → IsAsUrgent (w other) r → 2 ≤ place other
      first own_short _ (inl high) = absurd (omega arith)
      first own_short _ (inr over) = absurd (omega arith)
      first own_long _ (inl high) = absurd (omega arith)
      first own_long _ (inr over) = absurd (omega arith)
      first relay _ _ = omega arith
      first rest _ _ = omega arith

  rest_first : s ≡ 0 → l ≡ 0 → r ≡ 0 → IsFirst w rest
  rest_first no_short no_long no_relay = record {
    there = λ other. absurd (other refl);
    nothing = λ _. all;
    urgent = λ other. inr (omega (arith, all other));
    before = λ other some _. absurd (omega (arith, all other));
  }
    where
      all : (other : Choice) → w other ≡ 0
      all own_short = no_short
      all own_long = no_long
      all relay = no_relay
      all rest = none

  abbrev by_weight : Choice
  by_weight = if nat_le l s && nat_le r s then own_short else if nat_le r l then own_long else relay

  -- an own short word that isn't the greatest is below another
  below : (a b : Bool) → nat_le l s ≡ a → nat_le r s ≡ b → (a && b) ≡ false → (s < l) ⊎ (s < r)
  below true true e f h = absurd (cc)
  below true false e f h = inr (leb-false r s f)
  below false b e f h = inl (leb-false l s e)

  lower : s < 11 → l < 11 → (s < l) ⊎ (s < r) → (b : Bool) → nat_le r l ≡ b → IsFirst w (if b then own_long else relay)
  lower low_short low_long (inl less) true e = long_first (omega arith) low_short less (inr (leb-true r l e))
  lower low_short low_long (inr less) true e = let over = leb-true r l e in long_first (omega arith) low_short (omega arith) (inr over)
  lower low_short low_long (inl less) false e = let over = leb-false r l e in relay_first low_short low_long (omega arith) over
  lower low_short low_long (inr less) false e = relay_first low_short low_long less (leb-false r l e)

  greatest : s < 11 → l < 11 → (0 < s) ⊎ (0 < l) ⊎ (0 < r) → (b : Bool) → (nat_le l s && nat_le r s) ≡ b
      → IsFirst w (if b then own_short else if nat_le r l then own_long else relay)
  greatest low_short low_long some false e = lower low_short low_long (below _ _ refl refl e) _ refl
  greatest low_short low_long some true e =
      let both = and_parts (nat_le l s) (nat_le r s) e in
      let long = leb-true l s both.0 in
      let relayed = leb-true r s both.1 in
      short_first (positive long relayed some) (inr long) (inr relayed)
    where
      positive : l ≤ s → r ≤ s → (0 < s) ⊎ (0 < l) ⊎ (0 < r) → 0 < s
      positive a b (inl x) = x
      positive a b (inr (inl x)) = omega arith
      positive a b (inr (inr x)) = omega arith

  -- by whether any word is there
  any : s < 11 → l < 11 → (a b c : Bool) → (s == 0) ≡ a → (l == 0) ≡ b → (r == 0) ≡ c → IsFirst w (if a && b && c then rest else by_weight)
  any low_short low_long true true true e f g = rest_first (eqb-true s 0 e) (eqb-true l 0 f) (eqb-true r 0 g)
  any low_short low_long false b c e f g = greatest low_short low_long (inl (not_0 s e)) _ refl
  any low_short low_long true false c e f g = greatest low_short low_long (inr (inl (not_0 l f))) _ refl
  any low_short low_long true true false e f g = greatest low_short low_long (inr (inr (not_0 r g))) _ refl

  by_long : s < 11 → (b : Bool) → nat_le 11 l ≡ b → IsFirst w
      (if b then own_long else if (s == 0) && (l == 0) && (r == 0) then rest else by_weight)
  by_long low true e = let high = leb-true 11 l e in long_first (omega arith) low (omega arith) (inl high)
  by_long low false e = any low (leb-false 11 l e) _ _ _ refl refl refl

  by_short : (b : Bool) → nat_le 11 s ≡ b → IsFirst w (if b then own_short else if nat_le 11 l
      then own_long else if (s == 0) && (l == 0) && (r == 0) then rest else by_weight)
  by_short true e = let high = leb-true 11 s e in short_first (omega arith) (inl high) (inl high)
  by_short false e = by_long (leb-false 11 s e) _ refl

  pub first_of : IsFirst w (choose s l r)
  first_of = by_short _ refl

pub first_words_are_sent : FirstWordsAreSent
unfolding chosen
first_words_are_sent s d = first_of (weight_on s d) refl
