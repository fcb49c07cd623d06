-- The rules of one node, case by case: which short and long words it hears, which word it sends, which side it
-- switches. The proofs on runs go by these laws, and look at the rules themselves no more.
use Rattle.std.proofs.Common.{◌≡◌, ◌≢◌, ℕ, ◌<◌, ◌≤◌, max, Bool, true, false, Option, Some, None, [], ◌∷◌, refl, ap, sym, ◌∙◌, arith, inl}
use Rattle.std.proofs.Common.{inr, ◌⊎◌}
use Rattle.std.specs.Prelude.{◌==◌, ◌||◌, not, ◌&&◌, nat_le, nat_lt, if◌then◌else◌}
use Rattle.std.specs.Option.{option_map_or}
use Rattle.std.specs.List.{list_all}
use Rattle.std.proofs.lemmas.Bool.{and_parts, and_left, and_right, or_parts, or_from, not-true, eq-eqb, ne_eqb, eqb-false, ltb-true}
use Rattle.std.proofs.lemmas.Bool.{ltb-false, leb-true, lt-ltb, le-ltb, le-leb, lt-leb}
use Rattle.std.proofs.lemmas.Bool.Decides.{nat_tests}
use Rattle.sdh_kbytes.specs.declared.K.{K}
use Rattle.sdh_ringmap.specs.declared.terms.Code.{Code}
use Rattle.sdh_ringmap.specs.declared.terms.Code.TheVariants.{Nr, Rr, Wtr, Ms, Sd, Sf, Fs}
use Rattle.sdh_kbytes.specs.declared.Path.{Path}
use Rattle.sdh_kbytes.specs.declared.Path.TheVariants.{Short, Long}
use Rattle.sdh_ringmap.specs.Requests.{code_number}
use Rattle.sdh_ringmap.specs.Places.{opposite, found_at}
use Rattle.sdh_ringmap.specs.declared.Side.{Side}
use Rattle.sdh_ringmap.specs.declared.Side.TheVariants.{West, East}
use Rattle.sdh_nodestate.specs.Rules.{Scene, own_id, id_on, local, word_on, short, is_from_neighbour, weight, stronger, long, long_word}
use Rattle.sdh_nodestate.specs.Rules.{relayed, word, word_by, own_word, rest_word, chosen, choose, is_short, Choice, own_short, own_long}
use Rattle.sdh_nodestate.specs.Rules.{relay, rest, switches, is_below, is_about, is_side, far}

larger_by : (t : Bool) (a b : Code) → (t ≡ true → code_number a < code_number b) → (t ≡ false → code_number b ≤ code_number a)
    → code_number (if t then b else a) ≡ max (code_number a) (code_number b)
larger_by true a b y n = let h = y refl in omega arith
larger_by false a b y n = let h = n refl in omega arith

pub weight_is : (s : Scene) (d : Side) → weight s d ≡ max (code_number (local s d)) (code_number (short s d))
unfolding stronger
weight_is s d =
    larger_by (nat_lt (code_number (local s d)) (code_number (short s d))) (local s d) (short s d) (ltb-true _ _) (ltb-false _ _)

pub below_eleven : (c : Code) → code_number c < 11 → code_number c ≤ 8
below_eleven Nr h = omega arith
below_eleven Rr h = omega arith
below_eleven Wtr h = omega arith
below_eleven Ms h = omega arith
below_eleven Sd h = omega arith
below_eleven Sf h = absurd (omega arith)
below_eleven Fs h = absurd (omega arith)

pub at_least_five : (c : Code) → c ≢ Rr → 0 < code_number c → 5 ≤ code_number c
at_least_five Nr s h = absurd (omega arith)
at_least_five Rr s h = absurd (s refl)
at_least_five Wtr s h = omega arith
at_least_five Ms s h = omega arith
at_least_five Sd s h = omega arith
at_least_five Sf s h = omega arith
at_least_five Fs s h = omega arith

-- words that were heard

four : (a b c d : Bool) → a ≡ true → b ≡ true → c ≡ true → d ≡ true → (a && b && c && d) ≡ true
four a b c d p q r s = rw (p, q, r, s)

first_of_four : (a b c d : Bool) → (a && b && c && d) ≡ true → (a ≡ true) × (d ≡ true)
first_of_four a b c d e = let last = and_parts (a && b && c) d e in ((and_parts a b (and_parts (a && b) c last.0).0).0, last.1)

is_short_of : (p : Path) → is_short p ≡ true → p ≡ Short
is_short_of Short e = refl
is_short_of Long e = cc

is_long_of : (p : Path) → is_short p ≡ false → p ≡ Long
is_long_of Short e = cc
is_long_of Long e = refl

-- a short word k of code c was heard
pub record IsShortHeard (o : Option K) (c : Code) (k : K) : Type 0 where
  pub heard : o ≡ Some k
  pub path : k.path ≡ Short
  pub code : c ≡ k.code
  pub strong : 5 ≤ code_number k.code

short_test : (s : Scene) (d : Side) (k : K) (t : Bool) → is_from_neighbour s d k ≡ t
    → (code_number (if t then k.code else Nr) ≡ 0) ⊎ IsShortHeard (Some k) (if t then k.code else Nr) k
short_test s d k false e = inl refl
short_test s d k true e =
    let f = first_of_four (is_short k.path) (k.to == own_id s) (k.from == id_on s d) (nat_le 5 (code_number k.code)) e in
    inr (record { heard = refl; path = is_short_of k.path f.0; code = refl; strong = leb-true 5 (code_number k.code) f.1 })

abbrev MayBeShort : Option K → Code → Type 0
MayBeShort o c = (code_number c ≡ 0) ⊎ ((k : K) × IsShortHeard o c k)

with_word : (o : Option K) (c : Code) (k : K) → (code_number c ≡ 0) ⊎ IsShortHeard o c k → MayBeShort o c
with_word o c k (inl z) = inl z
with_word o c k (inr h) = inr (k, h)

short_option : (s : Scene) (d : Side) (o : Option K) → MayBeShort o
    (option_map_or (λ k. if is_from_neighbour s d k then k.code else Nr) o Nr)
short_option s d None = inl refl
short_option s d (Some k) =
    with_word (Some k) (if is_from_neighbour s d k then k.code else Nr) k (short_test s d k (is_from_neighbour s d k) refl)

pub short_from : (s : Scene) (d : Side) → MayBeShort (word_on s d) (short s d)
unfolding short
short_from s d = short_option s d (word_on s d)

pub short_of : (s : Scene) (d : Side) (k : K) → word_on s d ≡ Some k → k.path ≡ Short → k.to ≡ own_id s → k.from ≡ id_on s d
    → 5 ≤ code_number k.code → short s d ≡ k.code
unfolding short
short_of s d k e p t f c =
    let test : is_from_neighbour s d k ≡ true = four _ _ _ _ (ap is_short p) (eq-eqb _ _ t) (eq-eqb _ _ f) (le-leb _ _ c) in
    ap (λ o. option_map_or (λ k. if is_from_neighbour s d k then k.code else Nr) o Nr) e ∙ ap (λ b. if b then k.code else Nr) test

-- a long word k was heard
pub record IsLongHeard (o m : Option K) (k : K) : Type 0 where
  pub heard : o ≡ Some k
  pub is : m ≡ Some k
  pub path : k.path ≡ Long
  pub strong : 5 ≤ code_number k.code

pub long_of : (s : Scene) (d : Side) (k : K) → word_on s d ≡ Some k → k.path ≡ Long → 5 ≤ code_number k.code → long s d ≡ Some k
unfolding long
long_of s d k e p c =
    ap (λ o. option_map_or long_word o None) e
    ∙ ap (λ b. if b then Some k else None) (ap (λ x. not (is_short x) && nat_le 5 (code_number k.code)) p ∙ le-leb 5 (code_number k.code) c)

if_some : (t : Bool) (w k : K) → (if t then Some w else None) ≡ Some k → (t ≡ true) × (w ≡ k)
if_some true w k e = (refl, cc)
if_some false w k e = cc

long_option : (o : Option K) (k : K) → option_map_or long_word o None ≡ Some k → IsLongHeard o (Some k) k
long_option None k e = cc
long_option (Some w) k e =
    let t = if_some (not (is_short w.path) && nat_le 5 (code_number w.code)) w k e in
    let b = and_parts (not (is_short w.path)) (nat_le 5 (code_number w.code)) t.0 in
    record {
      heard = ap Some t.1;
      is = refl;
      path = ap (λ (x : K). x.path) (sym t.1)
          ∙ is_long_of w.path (not-true (is_short w.path) b.0);
      strong = rw t.1 at (leb-true 5 (code_number w.code) b.1);
    }

pub long_from : (s : Scene) (d : Side) (k : K) → long s d ≡ Some k → IsLongHeard (word_on s d) (Some k) k
unfolding long
long_from s d k e = long_option (word_on s d) k e

pub long_none : (s : Scene) (d : Side) → ((k : K) → word_on s d ≡ Some k → (k.path ≡ Long) → code_number k.code < 5) → long s d ≡ None
long_none s d h = by_long (long s d) refl
  where
    by_long : (o : Option K) → long s d ≡ o → long s d ≡ None
    by_long None e = e
    by_long (Some k) e = let f = long_from s d k e in let g = h k f.heard f.path in let st = f.strong in absurd (omega arith)

pub relayed_of : (s : Scene) (d : Side) (k : K) → long s (opposite d) ≡ Some k → k.to ≢ own_id s → k.from ≢ own_id s → relayed s d ≡ Some k
unfolding relayed
relayed_of s d k e t f =
    ap (λ o. option_map_or (λ k. if (k.to == own_id s) || (k.from == own_id s) then None else Some k) o None) e
    ∙ ap (λ b. if b then None else Some k) (ap (λ b. b || (k.from == own_id s)) (ne_eqb _ _ t) ∙ ne_eqb _ _ f)

pub if_not_some : (t : Bool) (w k : K) → (if t then None else Some w) ≡ Some k → (t ≡ false) × (w ≡ k)
if_not_some true w k e = cc
if_not_some false w k e = (refl, cc)

-- the word k, heard as a long word on the other side, is sent on from there: it is neither from this node nor for it
pub record IsRelay (s : Scene) (d : Side) (k : K) : Type 0 where
  pub is_long : long s (opposite d) ≡ Some k
  pub for_others : k.to ≢ own_id s
  pub foreign : k.from ≢ own_id s

relayed_option : (s : Scene) (d : Side) (o : Option K) (k : K) → long s (opposite d) ≡ o
    → option_map_or (λ w. if (w.to == own_id s) || (w.from == own_id s) then None else Some w) o None ≡ Some k → IsRelay s d k
relayed_option s d None k l e = cc
relayed_option s d (Some w) k l e =
    let t = if_not_some ((w.to == own_id s) || (w.from == own_id s)) w k e in
    let b = or_parts (w.to == own_id s) (w.from == own_id s) t.0 in
    record {
      is_long = l ∙ ap Some t.1;
      for_others = λ f. eqb-false w.to (own_id s) b.0 (ap (λ (x : K). x.to) t.1 ∙ f);
      foreign = λ f. eqb-false w.from (own_id s) b.1 (ap (λ (x : K). x.from) t.1 ∙ f);
    }

pub relayed_from : (s : Scene) (d : Side) (k : K) → relayed s d ≡ Some k → IsRelay s d k
unfolding relayed
relayed_from s d k e = relayed_option s d (long s (opposite d)) k refl e

pub far_of : (s : Scene) (d : Side) (k : K) → long s (opposite d) ≡ Some k → k.from ≢ own_id s → far s d ≡ found_at s.ids k.from
unfolding far
far_of s d k e f =
    ap (λ o. option_map_or (λ k. if k.from == own_id s then None else found_at s.ids k.from) o None) e
    ∙ ap (λ b. if b then None else found_at s.ids k.from) (ne_eqb _ _ f)

-- words that are sent

abbrev pub short_code : Scene → Side → Code
short_code s d = if nat_le (code_number (short s d)) (code_number (local s d)) then local s d else Rr

pub word_short : (s : Scene) (d : Side) → chosen s d ≡ own_short → word s d ≡ own_word s d (short_code s d) d Short
unfolding word
word_short s d e = ap (word_by s d) e

pub word_long : (s : Scene) (d : Side) → chosen s d ≡ own_long → word s d ≡ own_word s d (stronger s (opposite d)) (opposite d) Long
unfolding word
word_long s d e = ap (word_by s d) e

pub word_relay : (s : Scene) (d : Side) (k : K) → chosen s d ≡ relay → relayed s d ≡ Some k → word s d ≡ k
unfolding word
word_relay s d k e r = ap (word_by s d) e ∙ ap (λ o. option_map_or (λ k. k) o (rest_word s d)) r

-- the kinds of words
pub data Kind (s : Scene) (d : Side) (w : K) : Type 0 where
  a_short : w.path ≡ Short → (code_number w.code ≤ 1) ⊎ (w.code ≡ local s d) → Kind s d w
  a_long : w.path ≡ Long → w.code ≡ stronger s (opposite d) → Kind s d w
  a_relay : relayed s d ≡ Some w → Kind s d w

short_kind : (s : Scene) (d : Side) (t : Bool) → (code_number (if t then local s d else Rr) ≤ 1)
    ⊎ ((if t then local s d else Rr) ≡ local s d)
short_kind s d true = inr refl
short_kind s d false = inl (omega arith)

relay_kind : (s : Scene) (d : Side) (o : Option K) → relayed s d ≡ o → Kind s d (option_map_or (λ k. k) o (rest_word s d))
relay_kind s d None e = a_short refl (inl (omega arith))
relay_kind s d (Some k) e = a_relay e

choice_kind : (s : Scene) (d : Side) (c : Choice) → Kind s d (word_by s d c)
choice_kind s d own_short = a_short refl (short_kind s d (nat_le (code_number (short s d)) (code_number (local s d))))
choice_kind s d own_long = a_long refl refl
choice_kind s d relay = relay_kind s d (relayed s d) refl
choice_kind s d rest = a_short refl (inl (omega arith))

pub kind : (s : Scene) (d : Side) → Kind s d (word s d)
unfolding word
kind s d = choice_kind s d (chosen s d)

-- which word is chosen

pub choose_short_top : (s l r : ℕ) → 11 ≤ s → choose s l r ≡ own_short
choose_short_top s l r h = grind (arith, nat_tests)

pub choose_short : (s l r : ℕ) → 0 < s → s < 11 → l ≤ s → r ≤ s → choose s l r ≡ own_short
choose_short s l r some few a b = grind (arith, nat_tests)

pub choose_long_top : (s l r : ℕ) → s < 11 → 11 ≤ l → choose s l r ≡ own_long
choose_long_top s l r few h = grind (arith, nat_tests)

pub choose_long : (s l r : ℕ) → s < l → l < 11 → r ≤ l → choose s l r ≡ own_long
choose_long s l r less few b = grind (arith, nat_tests)

pub choose_relay : (s l r : ℕ) → s < 11 → l < 11 → s < r → l < r → choose s l r ≡ relay
choose_relay s l r hs hl a b = grind (arith, nat_tests)

-- which side is switched

third : (b c d e : Bool) → d ≡ false → (b && c && d && e) ≡ false
third b c d e h = and_left (b && c && d) e (and_right (b && c) d h)

fourth : (b c d e : Bool) → e ≡ false → (b && c && d && e) ≡ false
fourth b c d e h = and_right (b && c && d) e h

pub switch_top : (s : Scene) (d : Side) → 11 ≤ weight s d → switches s d ≡ true
unfolding switches
switch_top s d h = rw (le-leb 11 (weight s d) h)

-- a side whose weight is below 5 isn't switched
pub switch_none : (s : Scene) (d : Side) → weight s d < 5 → switches s d ≡ false
unfolding switches
switch_none s d h = rw (lt-leb 11 (weight s d) (omega arith), lt-leb 5 (weight s d) h)

-- a side whose weight is below 11 isn't switched if it isn't heavier than the other side
pub switch_lighter : (s : Scene) (d : Side) → weight s d < 11 → weight s d ≤ weight s (opposite d) → switches s d ≡ false
unfolding switches
switch_lighter s d h l =
    or_from (nat_le 11 (weight s d)) _ (lt-leb 11 (weight s d) h)
    (third (nat_le 5 (weight s d)) (nat_le (weight s d) 8) (nat_lt (weight s (opposite d)) (weight s d))
    (list_all (is_below s d) (West ∷ East ∷ [])) (le-ltb _ _ l))

below_false : (s : Scene) (d x : Side) → is_below s d x ≡ false → list_all (is_below s d) (West ∷ East ∷ []) ≡ false
below_false s d West e = and_left (is_below s d West) (is_below s d East && true) e
below_false s d East e = and_right (is_below s d West) (is_below s d East && true) (and_left (is_below s d East) true e)

-- a side whose weight is below 11 isn't switched where a long word is heard that isn't about it and isn't lighter
pub switch_blocked : (s : Scene) (d x : Side) (k : K) → weight s d < 11 → long s x ≡ Some k → is_about s d x k ≡ false
    → weight s d ≤ code_number k.code → switches s d ≡ false
unfolding switches
switch_blocked s d x k h e f l =
    let b : is_below s d x ≡ false =
    ap (λ o. option_map_or (λ k. is_about s d x k || nat_lt (code_number k.code) (weight s d)) o true) e
    ∙ or_from (is_about s d x k) (nat_lt (code_number k.code) (weight s d)) f (le-ltb _ _ l) in
    or_from (nat_le 11 (weight s d)) _ (lt-leb 11 (weight s d) h)
    (fourth (nat_le 5 (weight s d)) (nat_le (weight s d) 8) (nat_lt (weight s (opposite d)) (weight s d))
    (list_all (is_below s d) (West ∷ East ∷ [])) (below_false s d x b))

pub below_none : (s : Scene) (d x : Side) → long s x ≡ None → is_below s d x ≡ true
below_none s d x e = ap (λ o. option_map_or (λ k. is_about s d x k || nat_lt (code_number k.code) (weight s d)) o true) e

pub below_about : (s : Scene) (d x : Side) (k : K) → long s x ≡ Some k → is_about s d x k ≡ true → is_below s d x ≡ true
below_about s d x k e a =
    ap (λ o. option_map_or (λ k. is_about s d x k || nat_lt (code_number k.code) (weight s d)) o true) e
    ∙ ap (λ b. b || nat_lt (code_number k.code) (weight s d)) a

-- a side whose weight is 5 to 8 is switched where the other side is lighter and no long word speaks against it
pub switch_alone : (s : Scene) (d : Side) → 5 ≤ weight s d → weight s d ≤ 8 → weight s (opposite d) < weight s d → is_below s d West ≡ true
    → is_below s d East ≡ true → switches s d ≡ true
unfolding switches
switch_alone s d a b l w e =
    rw (
      lt-leb 11 (weight s d) (omega arith),
      le-leb 5 (weight s d) a,
      le-leb (weight s d) 8 b,
      lt-ltb (weight s (opposite d)) (weight s d) l,
      w,
      e,
    )

pub not_about_to : (s : Scene) (d x : Side) (k : K) → k.to ≢ own_id s → is_about s d x k ≡ false
unfolding is_about
not_about_to s d x k h =
    and_left (is_side x (opposite d) && (k.to == own_id s)) (k.from == id_on s d)
    (and_right (is_side x (opposite d)) (k.to == own_id s) (ne_eqb _ _ h))

pub about_of : (s : Scene) (d : Side) (k : K) → k.to ≡ own_id s → k.from ≡ id_on s d → is_about s d (opposite d) k ≡ true
unfolding is_about
about_of s West k t f = rw (eq-eqb k.to (own_id s) t, eq-eqb k.from (id_on s West) f)
about_of s East k t f = rw (eq-eqb k.to (own_id s) t, eq-eqb k.from (id_on s East) f)

pub choose_rest : (s l r : ℕ) → s ≡ 0 → l ≡ 0 → r ≡ 0 → choose s l r ≡ rest
choose_rest s l r a b c = rw (a, b, c)
