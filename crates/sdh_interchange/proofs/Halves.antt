-- The payloads of half of the AU-4s, taken out of a frame piece by piece.
use Rattle.std.proofs.Common.{◌≡◌, ℕ, ◌+◌, ◌*◌, ◌-◌, ◌/◌, ◌%◌, ◌<◌, ◌≤◌, inl, inr, List, length, get_or, refl, ap, subst, ◌∙◌, arith}
use Rattle.std.proofs.lemmas.Bool.{cases_lt}
use Rattle.sdh_frame.specs.Fields.{index_of, payload_place}
use Rattle.sdh_interchange.specs.Tables.{cell}
use Rattle.sdh_interchange.specs.Taking.{HaveRoom, KeepsOthers, HasTaken}
use Rattle.sdh_interchange.proofs.Holding.{keeps_none, keeps_more, room_kept}

-- ---- one piece after the other

module _ (n base : ℕ) (bytes : List ℕ) where
  pub none_taken_yet : (from to : ℕ) (old : List (List ℕ)) → from ≡ to → HasTaken n base from to bytes old old
  none_taken_yet from to old e = record {
    before = λ a j ha hj. refl;
    inside = λ a j ha low high. absurd (omega arith);
    keeps = keeps_none base (n / 2) old;
  }

  -- from a to m, and then from b to e
  pub then_taken : (a b m e to : ℕ) (old mid new : List (List ℕ)) → a ≤ b → b ≤ m → e ≡ to → HasTaken n base a m bytes old mid
      → HasTaken n base b e bytes mid new → HasTaken n base a to bytes old new
  then_taken a b m e to old mid new front meet is first then = record {
    before = λ k j hk hj. then.before k j hk (omega arith) ∙ first.before k j hk hj;
    inside = λ k j hk low high. elim (cases_lt j b) [
      | inl h ↦ then.before k j hk h ∙ first.inside k j hk low (omega arith)
      | inr h ↦ then.inside k j hk h (omega arith)
    ];
    keeps = keeps_more base (n / 2) base (n / 2) old mid new (omega arith) (omega arith) first.keeps then.keeps;
  }

  pub room_left : (from to : ℕ) (old new : List (List ℕ)) → HaveRoom base (n / 2) old → HasTaken n base from to bytes old new
      → HaveRoom base (n / 2) new
  room_left from to old new room taken = room_kept base (n / 2) base (n / 2) old new room taken.keeps

-- ---- sixteen columns of row r, from payload column q on

module _ (bytes : List ℕ) (old new payloads rows : List (List ℕ)) (base r q : ℕ) (row : r < 9) (few : q ≤ 245)
    (before : (a j : ℕ) → a < length payloads → j < 261 * r + q → cell new (base + a) j ≡ cell old (base + a) j)
    (inside : (a k : ℕ) → a < length payloads → k < 16 → cell new (base + a) (261 * r + q + k) ≡ cell payloads a k)
    (keeps : KeepsOthers base (length payloads) old new) where
  pub half-four : (here : ℕ) → length payloads ≡ 2 → here + 2 ≡ 4 * (270 * r + (9 + q)) + base
      → ((a j : ℕ) → a < 2 → j < 16 → cell payloads a j ≡ cell rows (j / 4) (4 * (j % 4) + (2 + a)))
      → ((k j : ℕ) → k < 4 → j < 16 → cell rows k j ≡ get_or bytes (here + (16 * k + j)) 0)
      → HasTaken 4 base (261 * r + q) (261 * r + (q + 16)) bytes old new
  half-four here two place each loaded = record {
    before = λ a j ha hj. before a j (omega arith) hj;
    inside = λ a j ha low high. (
        let k : ℕ = j - (261 * r + q) in
        let small_a : a < 2 = omega arith in
        let small_k : k < 16 = omega arith in
        let at : j ≡ 261 * r + q + k = omega arith in
        let column : j % 261 ≡ q + k = omega arith in
        let in_row : j / 261 ≡ r = omega arith in
        let source : here + (16 * (k / 4) + (4 * (k % 4) + (2 + a))) ≡ index_of 4 (payload_place 4 (base + a + 1) j) = omega arith in
        ap (cell new (base + a)) at ∙ inside a k (omega arith) small_k ∙ each a k small_a small_k
        ∙ loaded (k / 4) (4 * (k % 4) + (2 + a)) (omega arith) (omega arith) ∙ ap (λ i. get_or bytes i 0) source);
    keeps = subst (λ m. KeepsOthers base m old new) two keeps;
  }

  pub half-sixteen : length payloads ≡ 8 → base ≤ 8
      → ((a j : ℕ) → a < 8 → j < 16 → cell payloads a j ≡ cell rows j (base + a))
      → ((k j : ℕ) → k < 16 → j < 16 → cell rows k j ≡ get_or bytes (16 * (270 * r + (9 + q)) + (16 * k + j)) 0)
      → HasTaken 16 base (261 * r + q) (261 * r + (q + 16)) bytes old new
  half-sixteen eight low_base each loaded = record {
    before = λ a j ha hj. before a j (omega arith) hj;
    inside = λ a j ha low high. (
        let k : ℕ = j - (261 * r + q) in
        let small_a : a < 8 = omega arith in
        let small_k : k < 16 = omega arith in
        let at : j ≡ 261 * r + q + k = omega arith in
        let column : j % 261 ≡ q + k = omega arith in
        let in_row : j / 261 ≡ r = omega arith in
        let source : 16 * (270 * r + (9 + q)) + (16 * k + (base + a)) ≡ index_of 16 (payload_place 16 (base + a + 1) j) = omega arith in
        ap (cell new (base + a)) at ∙ inside a k (omega arith) small_k ∙ each a k small_a small_k
        ∙ loaded k (base + a) small_k (omega arith) ∙ ap (λ i. get_or bytes i 0) source);
    keeps = subst (λ m. KeepsOthers base m old new) eight keeps;
  }
