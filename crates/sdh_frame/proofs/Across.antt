-- What the loop that copies a payload byte by byte makes of a frame.
use Rattle.std.proofs.Common.{◌≡◌, ℕ, ◌+◌, ◌*◌, ◌/◌, ◌%◌, ◌<◌, ◌≤◌, true, false, List, length, get_or, set, refl, ap, sym, ◌∙◌, arith, inl, inr}
use Rattle.std.proofs.lemmas.Bool.{cases_Bool, cases_eq}
use Rattle.std.proofs.lemmas.List.{ext_get_or, length-set, get_or-set_same, get_or-set_other}
use Rattle.sdh_basics.proofs.CellsLaws.{length-cells}
use Rattle.sdh_ringmap.specs.declared.terms.Rate.{Rate}
use Rattle.sdh_ringmap.specs.Rates.{n_of}
use Rattle.sdh_frame.specs.Sizes.{size_of}
use Rattle.sdh_frame.specs.Aus.{payload_of, payload_byte, with_payload, is_payload}
use Rattle.sdh_frame.proofs.AuProofs.{length-with_payload, at_payload, payload-with_payload}
use Rattle.sdh_frame.proofs.Single.{payload_again}

pub long : (n au : ℕ) (s : List ℕ) → length (payload_of n au s) ≡ 2349
unfolding payload_of
long n au s = length-cells _ 2349

-- The first j bytes of a payload are copied to an AU-4 of `old`, which is `now` then. Whatever payload is written there
-- next, `old` and `now` become the same frame.
pub record AreCopied (rate : Rate) (to : ℕ) (payload old now : List ℕ) (j : ℕ) : Type 0 where
  pub size : length now ≡ size_of rate
  pub front : (k : ℕ) → k < j → get_or (payload_of (n_of rate) to now) k 0 ≡ get_or payload k 0
  pub others : (p : List ℕ) → with_payload (n_of rate) to p now ≡ with_payload (n_of rate) to p old

pub none_copied : (rate : Rate) (to : ℕ) (payload old : List ℕ) → length old ≡ size_of rate → AreCopied rate to payload old old 0
none_copied rate to payload old whole = record { size = whole; front = λ k lt. absurd (omega arith); others = λ p. refl }

-- a byte that is written twice
twice : (n au : ℕ) (p q : List ℕ) (i x : ℕ) → payload_byte n au p i (payload_byte n au q i x) ≡ payload_byte n au p i x
unfolding payload_byte
twice n au p q i x = elim (cases_Bool (is_payload n au i)) [ inl t ↦ rw t refl | inr f ↦ rw f refl ]

module _ (rate : Rate) (to : ℕ) (low : 1 ≤ to) (high : to ≤ n_of rate) where
  -- a payload that is written over another one
  over : (p q s : List ℕ) → length s ≡ size_of rate
      → with_payload (n_of rate) to p (with_payload (n_of rate) to q s) ≡ with_payload (n_of rate) to p s
  over p q s whole =
      let n = n_of rate in
      let mid = with_payload n to q s in
      let len = length-with_payload rate s whole to q in
      ext_get_or 0 (with_payload n to p mid) (with_payload n to p s)
      (length-with_payload rate mid len to p ∙ sym (length-with_payload rate s whole to p))
      (λ i lt. (let small : i < 2430 * n = omega (arith, length-with_payload rate mid len to p) in
      at_payload rate mid len to p i small ∙ ap (payload_byte n to p i) (at_payload rate s whole to q i small)
      ∙ twice n to p q i (get_or s i 0) ∙ sym (at_payload rate s whole to p i small)))

  pub one_copied : (payload old now : List ℕ) (j v : ℕ) → j < 2349 → v ≡ get_or payload j 0 → AreCopied rate to payload old now j
      → AreCopied rate to payload old (with_payload (n_of rate) to (set (payload_of (n_of rate) to now) j v) now) (j + 1)
  one_copied payload old now j v few is h =
      let n = n_of rate in
      let was = payload_of n to now in
      let next = set was j v in
      let len : length next ≡ 2349 = length-set was j v ∙ long n to now in
      let found : payload_of n to (with_payload n to next now) ≡ next = payload-with_payload rate now h.size to next low high len in
      record {
        size = length-with_payload rate now h.size to next;
        front =
            λ k lt. ap (λ p. get_or p k 0) found ∙ elim (cases_eq k j) [
              | inl same ↦
                  ap (λ z. get_or next z 0) same ∙ get_or-set_same was j v 0 (omega (arith, long n to now)) ∙ is
                  ∙ ap (λ z. get_or payload z 0) (sym same)
              | inr other ↦ get_or-set_other was j k v 0 other ∙ h.front k (omega arith)
            ];
        others = λ p. over p next now h.size ∙ h.others p;
      }

  pub all_copied : (payload old now : List ℕ) → length payload ≡ 2349 → AreCopied rate to payload old now 2349
      → now ≡ with_payload (n_of rate) to payload old
  all_copied payload old now len h =
      let n = n_of rate in
      let same : payload_of n to now ≡ payload =
      ext_get_or 0 (payload_of n to now) payload (long n to now ∙ sym len) (λ k lt. h.front k (omega (arith, long n to now))) in
      sym (payload_again rate to 0 0 now h.size low high) ∙ ap (λ p. with_payload n to p now) same ∙ h.others payload
