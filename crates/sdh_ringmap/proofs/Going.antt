-- Steps round the ring, on either side.
use Rattle.std.proofs.Common.{◌≡◌, ◌≢◌, ℕ, ◌+◌, ◌-◌, ◌*◌, ◌%◌, ◌<◌, suc, zero, ap, sym, ◌∙◌, arith, inl, inr}
use Rattle.std.proofs.Math.Nat.{mod-add-mod, add-mod_right, mod-eq_of_lt, mod-lt, add-mul-mod_self_left}
use Rattle.std.proofs.lemmas.Bool.{cases_lt}
use Rattle.sdh_ringmap.specs.Places.{eastwards, neighbour, opposite, span_at}
use Rattle.sdh_ringmap.specs.Steps.{going, way}
use Rattle.sdh_ringmap.specs.declared.Side.{Side}
use Rattle.sdh_ringmap.specs.declared.Side.TheVariants.{West, East}
use Rattle.sdh_ringmap.proofs.Around.{arc_end, eastwards-place}
use Rattle.sdh_ringmap.proofs.Sides.{neighbour_back, span_below, end_of, end_below, span_of_end}

one_before : (p i w : ℕ) → p + w + i * w ≡ p + suc i * w
one_before p i w = omega arith

one_more : (p i w : ℕ) → p + i * w + w ≡ p + suc i * w
one_more p i w = omega arith

all_round : (p i n w : ℕ) → p + (i + n) * w ≡ p + i * w + n * w
all_round p i n w = omega arith

-- fewer than n steps lead from p to q
pub record IsReached (n : ℕ) (d : Side) (p q : ℕ) : Type 0 where
  pub steps : ℕ
  pub few : steps < n
  pub there : going n d p steps ≡ q

-- after fewer than n steps the next one leads over span s
pub record IsMet (n : ℕ) (d : Side) (p s : ℕ) : Type 0 where
  pub steps : ℕ
  pub few : steps < n
  pub there : way n d p steps ≡ s

module _ (n : ℕ) (some : 0 < n) where
  pub going-inside : (d : Side) (p i : ℕ) → going n d p i < n
  unfolding going
  going-inside East p i = mod-lt (p + i) some
  going-inside West p i = mod-lt (p + i * (n - 1)) some

  pub way-inside : (d : Side) (p i : ℕ) → way n d p i < n
  way-inside d p i = span_below n (going n d p i) d (going-inside d p i)

  pub going-none : (d : Side) (p : ℕ) → p < n → going n d p 0 ≡ p
  unfolding going
  going-none East p h = ap (λ k. k % n) (omega arith) ∙ mod-eq_of_lt h
  going-none West p h = ap (λ k. k % n) (omega arith) ∙ mod-eq_of_lt h

  -- one step before the others, and one after them
  pub going-first : (d : Side) (p i : ℕ) → going n d (neighbour n p d) i ≡ going n d p (suc i)
  unfolding going
  going-first East p i = mod-add-mod (p + 1) n i ∙ ap (λ k. k % n) (omega arith)
  going-first West p i = mod-add-mod (p + (n - 1)) n (i * (n - 1)) ∙ ap (λ k. k % n) (one_before p i (n - 1))

  pub going-next : (d : Side) (p i : ℕ) → neighbour n (going n d p i) d ≡ going n d p (suc i)
  unfolding going
  going-next East p i = mod-add-mod (p + i) n 1 ∙ ap (λ k. k % n) (omega arith)
  going-next West p i = mod-add-mod (p + i * (n - 1)) n (n - 1) ∙ ap (λ k. k % n) (one_more p i (n - 1))

  pub going-back : (d : Side) (p i : ℕ) → neighbour n (going n d p (suc i)) (opposite d) ≡ going n d p i
  going-back d p i = ap (λ q. neighbour n q (opposite d)) (sym (going-next d p i)) ∙ neighbour_back n (going n d p i) d (going-inside d p i)

  -- the span after a position is the one over which it was reached
  pub way-behind : (d : Side) (p i : ℕ) → span_at n (going n d p (suc i)) (opposite d) ≡ way n d p i
  way-behind East p i = going-back East p i
  way-behind West p i = sym (going-next West p i)

  pub going-round : (d : Side) (p i : ℕ) → going n d p (i + n) ≡ going n d p i
  unfolding going
  going-round East p i = ap (λ k. k % n) (omega arith) ∙ add-mod_right (p + i) n
  going-round West p i = ap (λ k. k % n) (all_round p i n (n - 1)) ∙ add-mul-mod_self_left (p + i * (n - 1)) n (n - 1)

  pub way-round : (d : Side) (p i : ℕ) → way n d p (i + n) ≡ way n d p i
  way-round d p i = ap (λ q. span_at n q d) (going-round d p i)

  -- n - 1 steps lead to the neighbour on the other side
  pub going-last : (d : Side) (p i : ℕ) → p < n → suc i ≡ n → going n d p i ≡ neighbour n p (opposite d)
  going-last d p i h e =
      sym (going-back d p i) ∙ ap (λ q. neighbour n q (opposite d)) (ap (going n d p) (omega arith) ∙ going-round d p 0 ∙ going-none d p h)

  -- steps add up
  pub going-add : (d : Side) (p i j : ℕ) → going n d (going n d p i) j ≡ going n d p (i + j)
  going-add d p i zero = going-none d (going n d p i) (going-inside d p i) ∙ ap (going n d p) (omega arith)
  going-add d p i (suc j) =
      sym (going-next d (going n d p i) j) ∙ ap (λ q. neighbour n q d) (going-add d p i j) ∙ going-next d p (i + j)
      ∙ ap (going n d p) (omega arith)

  -- the positions on a way, from the last one back
  pub mirror : (d : Side) (p i j m : ℕ) → i + j ≡ m → going n (opposite d) (going n d p m) i ≡ going n d p j
  mirror d p zero j m e = going-none (opposite d) (going n d p m) (going-inside d p m) ∙ ap (going n d p) (omega arith)
  mirror d p (suc i) j m e =
      sym (going-next (opposite d) (going n d p m) i) ∙ ap (λ q. neighbour n q (opposite d)) (mirror d p i (suc j) m (omega arith))
      ∙ going-back d p j

  pub mirror-way : (d : Side) (p i j m : ℕ) → i + suc j ≡ m → way n (opposite d) (going n d p m) i ≡ way n d p j
  mirror-way d p i j m e = ap (λ q. span_at n q (opposite d)) (mirror d p i (suc j) m e) ∙ way-behind d p j

  east_of : (p i k : ℕ) → going n East p (i + k) ≡ (going n East p i + k) % n
  unfolding going
  east_of p i k = sym (going-add East p i k)

  west_of : (p i k : ℕ) → going n West p i ≡ (going n West p (i + k) + k) % n
  unfolding going
  west_of p i k = sym (mirror West p k i (i + k) (omega arith))

  -- fewer than n steps, counted eastwards
  pub far_east : (p i k : ℕ) → k < n → eastwards n (going n East p i) (going n East p (i + k)) ≡ k
  far_east p i k h = ap (eastwards n (going n East p i)) (east_of p i k) ∙ eastwards-place n (going n East p i) k (going-inside East p i) h

  pub far_west : (p i k : ℕ) → k < n → eastwards n (going n West p (i + k)) (going n West p i) ≡ k
  far_west p i k h =
      ap (eastwards n (going n West p (i + k))) (west_of p i k)
      ∙ eastwards-place n (going n West p (i + k)) k (going-inside West p (i + k)) h

  same_by : (d : Side) (p i k : ℕ) → k < n → going n d p i ≡ going n d p (i + k) → k ≡ 0
  same_by East p i k h e =
      sym (far_east p i k h) ∙ ap (eastwards n (going n East p i)) (sym e ∙ ap (going n East p) (omega arith)) ∙ far_east p i 0 some
  same_by West p i k h e =
      sym (far_west p i k h) ∙ ap (λ q. eastwards n q (going n West p i)) (sym e ∙ ap (going n West p) (omega arith)) ∙ far_west p i 0 some

  -- fewer than n steps lead to each position once, and so away from p
  pub going-once : (d : Side) (p i j : ℕ) → i < n → j < n → going n d p i ≡ going n d p j → i ≡ j
  going-once d p i j hi hj e = elim (cases_lt i j) [
    | inl less ↦ (let none = same_by d p i (j - i) (omega arith) (e ∙ ap (going n d p) (omega arith)) in omega arith)
    | inr more ↦ (let none = same_by d p j (i - j) (omega arith) (sym e ∙ ap (going n d p) (omega arith)) in omega arith)
  ]

  pub going-apart : (d : Side) (p k : ℕ) → p < n → 0 < k → k < n → going n d p k ≢ p
  going-apart d p k h more few = λ e. (let none = going-once d p k 0 few some (e ∙ sym (going-none d p h)) in omega arith)

  -- as many steps eastwards as `eastwards` counts
  pub going-to : (p q : ℕ) → p < n → q < n → going n East p (eastwards n p q) ≡ q
  unfolding going
  going-to p q hp hq = arc_end n p q hp hq

  -- every position is reached, and every span is met
  pub reached : (d : Side) (p q : ℕ) → p < n → q < n → IsReached n d p q
  reached East p q hp hq = record { steps = eastwards n p q; few = mod-lt (q + (n - p)) some; there = going-to p q hp hq }
  reached West p q hp hq = record {
    steps = eastwards n q p;
    few = mod-lt (p + (n - q)) some;
    there =
        ap (λ b. going n West b (eastwards n q p)) (sym (going-to q p hq hp))
        ∙ mirror East q (eastwards n q p) 0 (eastwards n q p) (omega arith) ∙ going-none East q hq;
  }

  pub met : (d : Side) (p s : ℕ) → p < n → s < n → IsMet n d p s
  met d p s hp hs =
      let r = reached d p (end_of n s d) hp (end_below n s d hs) in
      record { steps = r.steps; few = r.few; there = ap (λ q. span_at n q d) r.there ∙ span_of_end n s d hs }
