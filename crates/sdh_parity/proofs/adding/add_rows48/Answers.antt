use Rattle.std.proofs.Common.{◌≡◌, refl, ℕ, ◌+◌, ◌-◌, ◌<◌, ◌≤◌, List, get_or, ap, sym, ◌∙◌, arith, bit_xor, inl, inr}
use Rattle.std.proofs.lemmas.Bool.{cases_lt}
use Rattle.sdh_basics.specs.Parity.{bip8}
use Rattle.sdh_parity.specs.Parity.{every}
use Rattle.sdh_parity.proofs.adding.add_rows48.Goals as goal

-- a third of the columns: the columns before and after it stay
third : (old mid new more bytes : List ℕ) (at rows : ℕ) → ((j : ℕ) → j < 16
    → get_or new (at + j) 0 ≡ bit_xor (get_or mid (at + j) 0) (get_or more j 0))
    → ((j : ℕ) → j < 16 → get_or more j 0 ≡ bip8 (every (at + j) 48 rows bytes))
    → ((j : ℕ) → j < 16 → get_or mid (at + j) 0 ≡ get_or old (at + j) 0) → (j : ℕ) → at ≤ j → j < at + 16
    → get_or new j 0 ≡ bit_xor (get_or old j 0) (bip8 (every j 48 rows bytes))
third old mid new more bytes at rows step is same j low high =
    let k : ℕ = j - at in
    let e : at + k ≡ j = omega arith in
    let h : k < 16 = omega arith in
    ap (λ i. get_or new i 0) (sym e) ∙ step k h ∙ ap (λ z. bit_xor z (get_or more k 0)) (same k h)
    ∙ ap (bit_xor (get_or old (at + k) 0)) (is k h) ∙ ap (λ i. bit_xor (get_or old i 0) (bip8 (every i 48 rows bytes))) e

pub returns : goal.returns
returns c = λ j h.
    let old = c.args.sums.now in
    let one = c.add_vector.new.sums in
    let two = c.add_vector-2.new.sums in
    let all = c.add_vector-3.new.sums in
    let bytes = c.args.bytes.now in
    let rows = c.args.rows in
    elim (cases_lt j 16) [
      | inl low ↦ c.add_vector-3.ensures.below j (omega arith) ∙ c.add_vector-2.ensures.below j low
          ∙ third old old one c.columns48.result bytes 0 rows c.add_vector.ensures.inside c.columns48.ensures.each (λ i g. refl) j
          (omega arith) (omega arith)
      | inr ge ↦ elim (cases_lt j 32) [
        | inl mid ↦ c.add_vector-3.ensures.below j mid
            ∙ third old one two c.columns48-2.result bytes 16 rows c.add_vector-2.ensures.inside c.columns48-2.ensures.each
            (λ i g. c.add_vector.ensures.above (16 + i) (omega arith)) j ge (omega arith)
        | inr high ↦ third old two all c.columns48-3.result bytes 32 rows c.add_vector-3.ensures.inside c.columns48-3.ensures.each
            (λ i g. c.add_vector-2.ensures.above (32 + i) (omega arith) ∙ c.add_vector.ensures.above (32 + i) (omega arith)) j high
            (omega arith)
      ]
    ]
