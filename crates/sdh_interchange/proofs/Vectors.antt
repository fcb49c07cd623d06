-- Sixteen bytes of a frame by the lanes of two others.
use Rattle.std.proofs.Common.{◌≡◌, ℕ, ◌+◌, ◌*◌, ◌-◌, ◌/◌, ◌%◌, ◌<◌, ◌≤◌, ◌⊎◌, inl, inr, Bool, true, false, ◌||◌, T, w8, ltb, List, length}
use Rattle.std.proofs.Common.{get_or, bit_or, bit_and, refl, ap, sym, ◌∙◌, arith, subst}
use Rattle.std.specs.List.{list_any}
use Rattle.std.specs.Int.Bits.{or_zero_l, or_zero_r, or_add_and}
use Rattle.std.proofs.lemmas.Grind.{and_numeral}
use lib.Bits.{and_zero_r}
use Rattle.std.specs.Simd.Lanes.{zip2, chunk, Each1}
use Rattle.std.proofs.lemmas.Simd.{swz_l, SwzOk, SwzOk-from_Each1, Each1-from_get_or, Each1-get_or, below_from_Fits, length-swz_l}
use Rattle.std.proofs.lemmas.Simd.{get_or-swz_l, get_or-swz_l_below, length-zip2, get_or-zip2, get_or-chunk}
use lib.Dec.{lt→ltb}
use mathlib.Core.Bool.{cond}
use mir.Val.{zeroes, Fits}
use Rattle.sdh_interchange.specs.declared.choose.Source.{Source}
use Rattle.sdh_interchange.specs.declared.choose.Source.TheVariants.{First, Second, Own, Ones}
use Rattle.sdh_interchange.specs.declared.lanes.Lanes.{Lanes}
use Rattle.sdh_interchange.specs.Choosing.{is_passed, own_byte, picked, picked_at}
use Rattle.sdh_interchange.specs.Lanes.{IsLane, AreLanes, IsExtra, AreExtra, IsPlain}
use Rattle.sdh_interchange.proofs.Sorts.{none_at}

-- ---- what a swizzle reads

or_right : (a b : Bool) → T b → T (a || b)
or_right true b t = tt
or_right false b t = t

lane_fits : (a : ℕ) → (a < 16) ⊎ (a ≡ 128) → T (zeroes 16 w8 a || ltb a 16)
lane_fits a (inl h) = or_right (zeroes 16 w8 a) _ (lt→ltb a 16 h)
lane_fits a (inr h) = rw h tt

pub lanes_fit : (js : List ℕ) → length js ≡ 16 → ((j : ℕ) → j < 16 → (get_or js j 0 < 16) ⊎ (get_or js j 0 ≡ 128)) → SwzOk w8 16 16 0 js
lanes_fit js long h =
    SwzOk-from_Each1 w8 16 1 16 0 js refl (omega arith) (Each1-from_get_or (λ j. T (zeroes 16 w8 j || ltb j 16)) js 0
    (λ i lt. lane_fits _ (h i (omega arith))))

pub first_read : (n : ℕ) (s : Source) (j a b c o : ℕ) → IsLane n s j a b c o → (a < 16) ⊎ (a ≡ 128)
first_read n (First au) j a b c o h = inl h.1
first_read n (Second au) j a b c o h = inr h.2
first_read n (Own k) j a b c o h = inr h.2
first_read n Ones j a b c o h = inr h.0

pub second_read : (n : ℕ) (s : Source) (j a b c o : ℕ) → IsLane n s j a b c o → (b < 16) ⊎ (b ≡ 128)
second_read n (First au) j a b c o h = inr h.2
second_read n (Second au) j a b c o h = inl h.1
second_read n (Own k) j a b c o h = inr h.3
second_read n Ones j a b c o h = inr h.1

pub reads : (xs js : List ℕ) (j c : ℕ) → j < 16 → length js ≡ 16 → get_or js j 0 ≡ c → c < 16
    → get_or (swz_l w8 16 xs 0 js) j 0 ≡ get_or xs c 0
reads xs js j c h long e small = get_or-swz_l_below w8 16 xs 0 js j (omega arith) (omega arith) ∙ ap (λ z. get_or xs z 0) (omega arith)

pub reads_none : (xs js : List ℕ) (j : ℕ) → j < 16 → length js ≡ 16 → get_or js j 0 ≡ 128 → get_or (swz_l w8 16 xs 0 js) j 0 ≡ 0
reads_none xs js j h long e =
    get_or-swz_l w8 16 xs 0 js j (omega arith) ∙ ap (λ z. cond (zeroes 16 w8 z) 0 (get_or xs (16 * ((0 + j) / 16) + z) 0)) e

or_first : (x y o v : ℕ) → x ≡ v → y ≡ 0 → o ≡ 0 → bit_or (bit_or x y) o ≡ v
or_first x y o v p q r = ap (bit_or (bit_or x y)) r ∙ or_zero_r (bit_or x y) ∙ ap (bit_or x) q ∙ or_zero_r x ∙ p

or_second : (x y o v : ℕ) → x ≡ 0 → y ≡ v → o ≡ 0 → bit_or (bit_or x y) o ≡ v
or_second x y o v p q r = ap (bit_or (bit_or x y)) r ∙ or_zero_r (bit_or x y) ∙ ap (λ z. bit_or z y) p ∙ or_zero_l y ∙ q

or_more : (x y o v : ℕ) → x ≡ 0 → y ≡ 0 → o ≡ v → bit_or (bit_or x y) o ≡ v
or_more x y o v p q r = ap (λ z. bit_or (bit_or z y) o) p ∙ ap (λ z. bit_or z o) (or_zero_l y ∙ q) ∙ or_zero_l o ∙ r

masked : (x c o : ℕ) → c ≡ 0 → bit_or (bit_and x c) o ≡ o
masked x c o e = ap (λ z. bit_or (bit_and x z) o) e ∙ ap (λ z. bit_or z o) (and_zero_r x) ∙ or_zero_l o

kept : (x c o : ℕ) → x < 256 → c ≡ 0xFF → o ≡ 0 → bit_or (bit_and x c) o ≡ x
kept x c o small e z = ap (bit_or (bit_and x c)) z ∙ or_zero_r _ ∙ ap (bit_and x) e ∙ and_numeral x 254 refl ∙ omega arith

or_ones : (x : ℕ) → x < 256 → bit_or x 0xFF ≡ 0xFF
or_ones x small = let e : bit_and x 255 ≡ x = and_numeral x 254 refl ∙ omega arith in omega (arith, or_add_and x 255)

-- ---- a vector that begins with a whole column

pub in_rate : (n i : ℕ) → (n ≡ 4) ⊎ (n ≡ 16) → i % n < n
in_rate n i (inl e) = subst (λ m. i % m < m) (sym e) (omega arith)
in_rate n i (inr e) = subst (λ m. i % m < m) (sym e) (omega arith)

pub column : (n at j au : ℕ) → (n ≡ 4) ⊎ (n ≡ 16) → at % n ≡ 0
    → (at + (j - j % n + (au - 1)) ≡ at + j - (at + j) % n + (au - 1)) × (j % n ≡ (at + j) % n)
column n at j au (inl e) h =
    subst (λ m. at % m ≡ 0 → (at + (j - j % m + (au - 1)) ≡ at + j - (at + j) % m + (au - 1)) × (j % m ≡ (at + j) % m)) (sym e)
    (λ w. (omega arith, omega arith)) h
column n at j au (inr e) h =
    subst (λ m. at % m ≡ 0 → (at + (j - j % m + (au - 1)) ≡ at + j - (at + j) % m + (au - 1)) × (j % m ≡ (at + j) % m)) (sym e)
    (λ w. (omega arith, omega arith)) h

module _ (n at : ℕ) (first second : List ℕ) (own : List (List ℕ)) (rate : (n ≡ 4) ⊎ (n ≡ 16)) (whole : at % n ≡ 0) where
  lane : (s : Source) (fs ss : List ℕ) (j c o x : ℕ) → j < 16 → length fs ≡ 16 → length ss ≡ 16
      → IsLane n s j (get_or fs j 0) (get_or ss j 0) c o → IsExtra n s own (at + j) x
      → bit_or (bit_or (get_or (swz_l w8 16 (chunk at 16 first) 0 fs) j 0) (get_or (swz_l w8 16 (chunk at 16 second) 0 ss) j 0)) x
      ≡ picked n s first second own (at + j)
  lane (First au) fs ss j c o x h lf ls is more =
      or_first _ _ x _
      (reads (chunk at 16 first) fs j _ h lf refl is.1 ∙ get_or-chunk at 16 first _ 0 is.1 ∙ ap (λ z. get_or first (at + z) 0) is.0
      ∙ ap (λ z. get_or first z 0) (column n at j au rate whole).0)
      (reads_none (chunk at 16 second) ss j h ls is.2) more
  lane (Second au) fs ss j c o x h lf ls is more =
      or_second _ _ x _ (reads_none (chunk at 16 first) fs j h lf is.2)
      (reads (chunk at 16 second) ss j _ h ls refl is.1 ∙ get_or-chunk at 16 second _ 0 is.1 ∙ ap (λ z. get_or second (at + z) 0) is.0
      ∙ ap (λ z. get_or second z 0) (column n at j au rate whole).0)
      more
  lane (Own k) fs ss j c o x h lf ls is more =
      or_more _ _ x _ (reads_none (chunk at 16 first) fs j h lf is.2) (reads_none (chunk at 16 second) ss j h ls is.3) more
  lane Ones fs ss j c o x h lf ls is more =
      or_more _ _ x _ (reads_none (chunk at 16 first) fs j h lf is.0) (reads_none (chunk at 16 second) ss j h ls is.1) more

  module _ (sources : List Source) (l : Lanes) (extra : List ℕ) (lanes : AreLanes n sources l)
      (more : AreExtra n sources own at extra) where
    abbrev pub vector : List ℕ
    vector = zip2 bit_or (zip2 bit_or (swz_l w8 16 (chunk at 16 first) 0 l.first) (swz_l w8 16 (chunk at 16 second) 0 l.second)) extra

    abbrev both : List ℕ
    both = zip2 bit_or (swz_l w8 16 (chunk at 16 first) 0 l.first) (swz_l w8 16 (chunk at 16 second) 0 l.second)

    long_first : length (swz_l w8 16 (chunk at 16 first) 0 l.first) ≡ 16
    long_first = length-swz_l w8 16 (chunk at 16 first) 0 l.first ∙ lanes.first_long

    long_second : length (swz_l w8 16 (chunk at 16 second) 0 l.second) ≡ 16
    long_second = length-swz_l w8 16 (chunk at 16 second) 0 l.second ∙ lanes.second_long

    long_both : length both ≡ 16
    long_both =
        length-zip2 bit_or (swz_l w8 16 (chunk at 16 first) 0 l.first) (swz_l w8 16 (chunk at 16 second) 0 l.second)
        (long_first ∙ sym long_second) ∙ long_first

    pub long_vector : length vector ≡ 16
    long_vector = length-zip2 bit_or both extra (long_both ∙ sym more.long) ∙ long_both

    pub in_vector : (j : ℕ) → j < 16 → get_or vector j 0 ≡ picked_at n sources first second own (at + j)
    in_vector j h =
        get_or-zip2 bit_or both extra j 0 0 0 (omega (arith, long_both)) (omega (arith, more.long))
        ∙ ap (λ z. bit_or z (get_or extra j 0)) (get_or-zip2 bit_or (swz_l w8 16 (chunk at 16 first) 0 l.first)
        (swz_l w8 16 (chunk at 16 second) 0 l.second) j 0 0 0 (omega (arith, long_first)) (omega (arith, long_second)))
        ∙ lane (get_or sources (j % n) Ones) l.first l.second j (get_or l.own j 0) (get_or l.more j 0)
        (get_or extra j 0) h lanes.first_long lanes.second_long (lanes.each j h) (more.each j h)
        ∙ ap (λ m. picked n (get_or sources m Ones) first second own (at + j)) (column n at j 0 rate whole).1

  -- ---- what comes from the payloads

  own_lane : (s : Source) (xs : List ℕ) (j a b c o up : ℕ) → j < 16 → get_or xs j 0 < 256
      → ((k : ℕ) → k < 16 → k % n < up → get_or xs k 0 ≡ own_byte n own (at + k)) → (1 ≤ c → j % n < up) → IsLane n s j a b c o
      → IsExtra n s own (at + j) (bit_or (bit_and (get_or xs j 0) c) o)
  own_lane (First au) xs j a b c o up h small each below is = masked (get_or xs j 0) c o is.3 ∙ is.4
  own_lane (Second au) xs j a b c o up h small each below is = masked (get_or xs j 0) c o is.3 ∙ is.4
  own_lane (Own k) xs j a b c o up h small each below is =
      kept (get_or xs j 0) c o small is.1 is.4 ∙ each j h (below (omega (arith, is.1))) ∙ ap (λ z. own_byte n own (at + z)) is.0
      ∙ ap (own_byte n own) (column n at j k rate whole).0
  own_lane Ones xs j a b c o up h small each below is = masked (get_or xs j 0) c o is.2 ∙ is.3

  ones_lane : (s : Source) (xs : List ℕ) (j a b c o up : ℕ) → is_passed s ≡ false → j < 16 → get_or xs j 0 < 256
      → ((k : ℕ) → k < 16 → k % n < up → get_or xs k 0 ≡ own_byte n own (at + k)) → (1 ≤ c → j % n < up) → IsLane n s j a b c o
      → IsExtra n s own (at + j) (bit_or (get_or xs j 0) o)
  ones_lane (First au) xs j a b c o up none h small each below is = absurd (cc)
  ones_lane (Second au) xs j a b c o up none h small each below is = absurd (cc)
  ones_lane (Own k) xs j a b c o up none h small each below is =
      ap (bit_or (get_or xs j 0)) is.4 ∙ or_zero_r _ ∙ each j h (below (omega (arith, is.1))) ∙ ap (λ z. own_byte n own (at + z)) is.0
      ∙ ap (own_byte n own) (column n at j k rate whole).0
  ones_lane Ones xs j a b c o up none h small each below is = ap (bit_or (get_or xs j 0)) is.3 ∙ or_ones (get_or xs j 0) small

  module _ (sources : List Source) (l : Lanes) (xs : List ℕ) (lanes : AreLanes n sources l) where
    pub own_extra : length xs ≡ 16 → Each1 (Fits w8) xs → ((k : ℕ) → k < 16 → k % n < l.upto → get_or xs k 0 ≡ own_byte n own (at + k))
        → AreExtra n sources own at (zip2 bit_or (zip2 bit_and xs l.own) l.more)
    own_extra long_xs bytes each =
        let long : length (zip2 bit_and xs l.own) ≡ 16 = length-zip2 bit_and xs l.own (long_xs ∙ sym lanes.own_long) ∙ long_xs in
        record {
          long = length-zip2 bit_or (zip2 bit_and xs l.own) l.more (long ∙ sym lanes.more_long) ∙ long;
          each =
              λ j h. subst (IsExtra n (get_or sources (j % n) Ones) own (at + j))
              (sym (get_or-zip2 bit_or (zip2 bit_and xs l.own) l.more j 0 0 0 (omega (arith, long)) (omega (arith, lanes.more_long))
              ∙ ap (λ z. bit_or z (get_or l.more j 0))
              (get_or-zip2 bit_and xs l.own j 0 0 0 (omega (arith, long_xs)) (omega (arith, lanes.own_long)))))
              (own_lane (get_or sources (j % n) Ones) xs j _ _ (get_or l.own j 0) (get_or l.more j 0) l.upto h
              (Each1-get_or (λ x. x < 256) xs j 0 (omega (arith, long_xs)) (below_from_Fits w8 xs bytes)) each (lanes.below j h)
              (lanes.each j h));
        }

    pub ones_extra : length sources ≡ n → list_any is_passed sources ≡ false → length xs ≡ 16 → Each1 (Fits w8) xs
        → ((k : ℕ) → k < 16 → k % n < l.upto → get_or xs k 0 ≡ own_byte n own (at + k)) → AreExtra n sources own at (zip2 bit_or xs l.more)
    ones_extra many none long_xs bytes each = record {
      long = length-zip2 bit_or xs l.more (long_xs ∙ sym lanes.more_long) ∙ long_xs;
      each =
          λ j h. subst (IsExtra n (get_or sources (j % n) Ones) own (at + j))
          (sym (get_or-zip2 bit_or xs l.more j 0 0 0 (omega (arith, long_xs)) (omega (arith, lanes.more_long))))
          (ones_lane (get_or sources (j % n) Ones) xs j _ _ (get_or l.own j 0) (get_or l.more j 0) l.upto
          (none_at is_passed sources (j % n) none (omega (arith, in_rate n j rate, many))) h
          (Each1-get_or (λ x. x < 256) xs j 0 (omega (arith, long_xs)) (below_from_Fits w8 xs bytes)) each (lanes.below j h)
          (lanes.each j h));
    }

    plain_lane : (s : Source) (j a b c o : ℕ) → IsLane n s j a b c o → IsPlain n s own (at + j) → IsExtra n s own (at + j) o
    plain_lane (First au) j a b c o is plain = is.4
    plain_lane (Second au) j a b c o is plain = is.4
    plain_lane (Own k) j a b c o is plain = is.4 ∙ sym plain
    plain_lane Ones j a b c o is plain = is.3

    pub plain_extra : ((j : ℕ) → j < 16 → IsPlain n (get_or sources ((at + j) % n) Ones) own (at + j)) → AreExtra n sources own at l.more
    plain_extra plain = record {
      long = lanes.more_long;
      each =
          λ j h. plain_lane (get_or sources (j % n) Ones) j _ _ _ _ (lanes.each j h)
          (subst (λ m. IsPlain n (get_or sources m Ones) own (at + j)) (sym (column n at j 0 rate whole).1) (plain j h));
    }
