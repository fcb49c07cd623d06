-- Places tested one after the other: whether none passes, and the first one that does.
use Rattle.std.proofs.Common.{◌≡◌, ℕ, zero, suc, ◌+◌, ◌-◌, ◌<◌, Bool, false, ap, ◌∙◌, arith}
use Rattle.std.specs.Prelude.{not, ◌&&◌, if◌then◌else◌}
use Rattle.sdh_ringmap.specs.Arcs.{none_of}
use Rattle.sdh_restoration.specs.Routes.{places_before}

negated : (b : Bool) (x : Bool) → b ≡ false → (not b && x) ≡ x
negated b x e = ap (λ c. not c && x) e

-- p doesn't hold at place i, so the places after it decide
pub none_of-next : (p : ℕ → Bool) (i k : ℕ) → 0 < k → p i ≡ false → none_of p i k ≡ none_of p (i + 1) (k - 1)
none_of-next p i zero some e = absurd (omega arith)
none_of-next p i (suc k) some e =
    negated (p i) (none_of p (suc i) k) e ∙ ap (λ j. none_of p j k) (omega arith) ∙ ap (none_of p (i + 1)) (omega arith)

pub places_before-next : (p : ℕ → Bool) (i k : ℕ) → 0 < k → p i ≡ false → places_before p i k ≡ places_before p (i + 1) (k - 1) + 1
places_before-next p i zero some e = absurd (omega arith)
places_before-next p i (suc k) some e =
    let next : suc i ≡ i + 1 = omega arith in
    let left : k ≡ suc k - 1 = omega arith in
    let one : suc (places_before p (i + 1) (suc k - 1)) ≡ places_before p (i + 1) (suc k - 1) + 1 = omega arith in
    ap (λ b. if b then 0 else suc (places_before p (suc i) k)) e ∙ ap (λ j. suc (places_before p j k)) next
    ∙ ap (λ j. suc (places_before p (i + 1) j)) left ∙ one
