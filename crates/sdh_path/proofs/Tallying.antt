-- What is kept of a run of bytes, as pieces come after it.
use Rattle.std.proofs.Common.{◌≡◌, ℕ, zero, suc, ◌+◌, ◌-◌, ◌*◌, ◌<◌, ◌≤◌, List, [], ◌++◌, length, get_or, take, drop, refl, sym, ap, ap₂}
use Rattle.std.proofs.Common.{◌∙◌, arith, bit_xor}
use Rattle.std.specs.Prelude.{◌==◌, if◌then◌else◌}
use Rattle.std.proofs.lemmas.List.{length-append, length-drop, drop-drop, drop_all, drop-append-le, take-append-le, take_all}
use Rattle.sdh_basics.specs.Parity.{bip8}
use Rattle.sdh_basics.proofs.ParityLaws.{bip8-nil, bip8-append}
use Rattle.sdh_path.specs.declared.tally.Tally.{Tally}
use Rattle.sdh_path.specs.PathReports.{vc4_in, b3_violations_at, b3_violations, label_violations}
use Rattle.sdh_parity.specs.Violations.{differing_bits}
use Rattle.sdh_path.specs.Kept.{IsTallyOf}

-- ---- VC-4s in a longer list, and in the bytes from the first of them on

vc4_front : (x more : List ℕ) (i : ℕ) → 2349 * (i + 1) ≤ length x → vc4_in (x ++ more) 0 i ≡ vc4_in x 0 i
unfolding vc4_in
vc4_front x more i h =
    ap (take 2349) (drop-append-le (0 + 2349 * i) x more (omega arith))
    ∙ take-append-le 2349 (drop (0 + 2349 * i) x) more (omega (arith, length-drop (0 + 2349 * i) x))

shown_front : (x more : List ℕ) (i : ℕ) → 2349 * (i + 1) ≤ length x → b3_violations_at (x ++ more) 0 i ≡ b3_violations_at x 0 i
shown_front x more zero h = refl
shown_front x more (suc i) h =
    ap₂ (λ a b. differing_bits (get_or a 261 0) (bip8 b)) (vc4_front x more (suc i) h) (vc4_front x more i (omega arith))

b3_front : (x more : List ℕ) (k : ℕ) → 2349 * k ≤ length x → b3_violations (x ++ more) 0 k ≡ b3_violations x 0 k
unfolding b3_violations
b3_front x more zero h = refl
b3_front x more (suc i) h = ap₂ (λ a b. a + b) (b3_front x more i (omega arith)) (shown_front x more i (omega arith))

labels_front : (x more : List ℕ) (k : ℕ) → 2349 * k ≤ length x → label_violations (x ++ more) 0 k ≡ label_violations x 0 k
unfolding label_violations
labels_front x more zero h = refl
labels_front x more (suc i) h =
    ap₂ (λ a (v : List ℕ). a + (if get_or v 522 0 == 1 then 0 else 1)) (labels_front x more i (omega arith))
    (vc4_front x more i (omega arith))

vc4_from : (x : List ℕ) (s i : ℕ) → vc4_in (drop s x) 0 i ≡ vc4_in x s i
unfolding vc4_in
vc4_from x s i = ap (take 2349) (drop-drop (0 + 2349 * i) s x ∙ ap (λ k. drop k x) (omega arith))

shown_from : (x : List ℕ) (s i : ℕ) → b3_violations_at (drop s x) 0 i ≡ b3_violations_at x s i
shown_from x s zero = refl
shown_from x s (suc i) = ap₂ (λ a b. differing_bits (get_or a 261 0) (bip8 b)) (vc4_from x s (suc i)) (vc4_from x s i)

pub b3_from : (x : List ℕ) (s k : ℕ) → b3_violations (drop s x) 0 k ≡ b3_violations x s k
unfolding b3_violations
b3_from x s zero = refl
b3_from x s (suc i) = ap₂ (λ a b. a + b) (b3_from x s i) (shown_from x s i)

pub labels_from : (x : List ℕ) (s k : ℕ) → label_violations (drop s x) 0 k ≡ label_violations x s k
unfolding label_violations
labels_from x s zero = refl
labels_from x s (suc i) = ap₂ (λ a (v : List ℕ). a + (if get_or v 522 0 == 1 then 0 else 1)) (labels_from x s i) (vc4_from x s i)

-- ---- a tally of no bytes

pub counts_none : IsTallyOf [] (record { vcs = 0; b3 = 0; label = 0; due = 0; index = 0; parity = 0; b3_byte = 0; label_byte = 0 })
unfolding b3_violations label_violations
counts_none = record {
  long = refl;
  within = omega arith;
  b3_is = refl;
  label_is = refl;
  due_is = λ h. absurd (omega arith);
  parity_is = sym bip8-nil;
  b3_byte_is = refl;
  label_byte_is = refl;
}

-- ---- a piece more

pub counts_more : (run piece : List ℕ) (t : Tally) (parity b3_byte label_byte : ℕ) → IsTallyOf run t → t.index + length piece ≤ 2349
    → parity ≡ bit_xor t.parity (bip8 piece)
    → b3_byte ≡ get_or (drop (2349 * t.vcs) run ++ piece) 261 0 → label_byte ≡ get_or (drop (2349 * t.vcs) run ++ piece) 522 0
    → IsTallyOf (run ++ piece) (record {
      vcs = t.vcs;
      b3 = t.b3;
      label = t.label;
      due = t.due;
      index = t.index + length piece;
      parity = parity;
      b3_byte = b3_byte;
      label_byte = label_byte;
    })
counts_more run piece t parity b3_byte label_byte was fits parity_now b3_now label_now =
    let behind : drop (2349 * t.vcs) (run ++ piece) ≡ drop (2349 * t.vcs) run ++ piece =
    drop-append-le (2349 * t.vcs) run piece (omega (arith, was.long)) in
    record {
      long = length-append run piece ∙ (let l = was.long in omega arith);
      within = fits;
      b3_is = was.b3_is ∙ sym (b3_front run piece t.vcs (omega (arith, was.long)));
      label_is = was.label_is ∙ sym (labels_front run piece t.vcs (omega (arith, was.long)));
      due_is = λ some. was.due_is some ∙ ap bip8 (sym (vc4_front run piece (t.vcs - 1) (omega (arith, was.long))));
      parity_is =
          parity_now ∙ ap (λ p. bit_xor p (bip8 piece)) was.parity_is ∙ sym (bip8-append (drop (2349 * t.vcs) run) piece)
          ∙ ap bip8 (sym behind);
      b3_byte_is = b3_now ∙ ap (λ l. get_or l 261 0) (sym behind);
      label_byte_is = label_now ∙ ap (λ l. get_or l 522 0) (sym behind);
    }

pub behind_long : (run : List ℕ) (t : Tally) → IsTallyOf run t → length (drop (2349 * t.vcs) run) ≡ t.index
behind_long run t is = length-drop (2349 * t.vcs) run ∙ (let l = is.long in omega arith)

-- ---- a VC-4 that is whole now

module _ (run : List ℕ) (t : Tally) (is : IsTallyOf run t) (whole : t.index ≡ 2349) where
  rest : List ℕ
  rest = drop (2349 * t.vcs) run

  now : vc4_in run 0 t.vcs ≡ drop (2349 * t.vcs) run
  unfolding vc4_in
  now = let len =
      behind_long run t is in ap (λ k. take 2349 (drop k run)) {x = 0 + 2349 * t.vcs} {y = 2349 * t.vcs} (omega arith)
      ∙ take_all 2349 (drop (2349 * t.vcs) run) (omega arith)

  shown_now : (shown : ℕ) → (t.vcs ≡ 0 → shown ≡ 0) → (0 < t.vcs → shown ≡ differing_bits t.b3_byte t.due)
      → shown ≡ b3_violations_at run 0 t.vcs
  shown_now shown first later = by t.vcs refl
    where
      by : (k : ℕ) → t.vcs ≡ k → shown ≡ b3_violations_at run 0 k
      by zero e = first e
      by (suc j) e =
          let back : t.vcs - 1 ≡ j = omega arith in
          later (omega arith) ∙ ap₂ differing_bits
          (is.b3_byte_is ∙ ap (λ l. get_or l 261 0) (sym now) ∙ ap (λ k. get_or (vc4_in run 0 k) 261 0) e)
          (is.due_is (omega arith) ∙ ap (λ k. bip8 (vc4_in run 0 k)) back)

  pub counts_closed : (shown label : ℕ) → (t.vcs ≡ 0 → shown ≡ 0) → (0 < t.vcs → shown ≡ differing_bits t.b3_byte t.due)
      → label ≡ (if t.label_byte == 1 then 0 else 1)
      → IsTallyOf run (record {
        vcs = t.vcs + 1;
        b3 = t.b3 + shown;
        label = t.label + label;
        due = t.parity;
        index = 0;
        parity = 0;
        b3_byte = 0;
        label_byte = 0;
      })
  unfolding b3_violations label_violations
  counts_closed shown label first later label_is =
      let none : drop (2349 * (t.vcs + 1)) run ≡ [] = drop_all (2349 * (t.vcs + 1)) run (omega (arith, is.long)) in
      let one : t.vcs + 1 ≡ suc t.vcs = omega arith in
      let back : t.vcs + 1 - 1 ≡ t.vcs = omega arith in
      record {
        long = omega (arith, is.long);
        within = omega arith;
        b3_is = ap₂ (λ a b. a + b) is.b3_is (shown_now shown first later) ∙ ap (b3_violations run 0) (sym one);
        label_is =
            ap₂ (λ a b. a + b) is.label_is (label_is ∙ ap (λ (b : ℕ). if b == 1 then 0 else 1)
            (is.label_byte_is ∙ ap (λ l. get_or l 522 0) (sym now))) ∙ ap (label_violations run 0) (sym one);
        due_is = λ some. is.parity_is ∙ ap bip8 (sym now) ∙ ap (λ k. bip8 (vc4_in run 0 k)) (sym back);
        parity_is = sym (ap bip8 none ∙ bip8-nil);
        b3_byte_is = sym (ap (λ l. get_or l 261 0) none);
        label_byte_is = sym (ap (λ l. get_or l 522 0) none);
      }
