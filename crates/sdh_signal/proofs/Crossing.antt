-- The spans that a walk crosses, seen from the end to which it leads.
use Rattle.std.proofs.Common.{◌≡◌, ℕ, ◌+◌, ◌-◌, ◌<◌, ◌≤◌, suc, zero, List, [], ◌∷◌, ◌++◌, refl, ap, sym, ◌∙◌, subst, arith}
use Rattle.sdh_bridge.specs.declared.Origin.{Origin}
use Rattle.sdh_bridge.specs.declared.Origin.TheVariants.{Add, Ais, Protection, Working}
use Rattle.sdh_circuits.specs.Provisioned.{Provisioned}
use Rattle.sdh_circuits.specs.declared.End.{End}
use Rattle.sdh_ringmap.specs.Places.{opposite}
use Rattle.sdh_ringmap.specs.declared.Side.{Side}
use Rattle.sdh_ringmap.proofs.Going.{way-behind}
use Rattle.sdh_signal.proofs.Seen.{Seen}
use Rattle.sdh_signal.proofs.Segments.{IsFree, arrives, between, bridge, delivered, passed-on, past, sending, sent-behind, taking, through}
use Rattle.sdh_signal.proofs.States.{Resting, any-applied}
use Rattle.sdh_signal.proofs.Switched.{Struck, detour, f_inside, free_ahead, gap_is, gap_some, turned_far, turned_near}
use Rattle.sdh_signal.proofs.Views.{PassThrough, arc_length}
use Rattle.sdh_ringmap.specs.Steps.{going, way}
use Rattle.sdh_signal.specs.Walks.{IsArrival, Leads, Stand, back_from, crossed, delivery, stand, with_span}

-- k spans on from step i, and k spans back from step i + k
abbrev pub up : ℕ → Side → ℕ → ℕ → ℕ → List ℕ
up n d p i zero = []
up n d p i (suc k) = way n d p i ∷ up n d p (suc i) k

abbrev pub down : ℕ → Side → ℕ → ℕ → ℕ → List ℕ
down n d p i zero = []
down n d p i (suc k) = way n d p (i + k) ∷ down n d p i k

module _ (n : ℕ) (r : Resting n) (cs : List Provisioned) (m : ℕ) where
  more_span : (p : ℕ) (o : Origin) (a b : List ℕ) → IsArrival o
      → with_span n r.state cs m p o (a ++ b) ≡ with_span n r.state cs m p o a ++ b
  more_span p Ais a b h = absurd h
  more_span p (Add q) a b h = absurd h
  more_span p (Working d) a b h = refl
  more_span p (Protection d) a b h = refl

  -- the spans of a walk of j + k steps are those of its first j steps, and then those of the k others
  pub crossed-on : (j k : ℕ) (x y : Stand) → Leads n r.state cs m j x y
      → crossed n r.state cs m (j + k) x ≡ crossed n r.state cs m j x ++ crossed n r.state cs m k y
  crossed-on zero k x y w = ap (λ i. crossed n r.state cs m i x) (omega arith) ∙ ap (crossed n r.state cs m k) w
  crossed-on (suc j) k x y w =
      let b = back_from n r.state cs m x.at x.origin in
      ap (λ i. crossed n r.state cs m i x) {y = suc (j + k)} (omega arith)
      ∙ ap (with_span n r.state cs m x.at x.origin) (crossed-on j k b y w.1)
      ∙ more_span x.at x.origin (crossed n r.state cs m j b) (crossed n r.state cs m k y) w.0

  module _ (some : 0 < n) (d : Side) (p : ℕ) where
    crossed-over : (i k : ℕ) → IsFree n r cs some d p i → crossed n r.state cs m (suc k) (taking n r cs some d p m (going n d p (suc i)))
        ≡ way n d p i ∷ crossed n r.state cs m k (sending n r cs some d p m (going n d p i))
    crossed-over i k free =
        ap (crossed n r.state cs m (suc k)) (arrives n r cs some d p m i free)
        ∙ ap (λ s. s ∷ crossed n r.state cs m k (back_from n r.state cs m (going n d p (suc i)) (Working (opposite d))))
        (way-behind n some d p i)
        ∙ ap (λ y. way n d p i ∷ crossed n r.state cs m k y) (sent-behind n r cs some d p m i)

    crossed-past : (k i : ℕ) → ((j : ℕ) → i < j → j ≤ i + k → r.state (going n d p j) ≡ PassThrough)
        → crossed n r.state cs m (suc k) (stand (going n d p i) (Protection d)) ≡ up n d p i (suc k)
    crossed-past zero i through = refl
    crossed-past (suc k) i through =
        ap (λ y. way n d p i ∷ crossed n r.state cs m (suc k) y)
        (passed-on n r cs some d p m i (through (suc i) (omega arith) (omega arith)))
        ∙ ap (λ l. way n d p i ∷ l) (crossed-past k (suc i) (λ j h g. through j (omega arith) (omega arith)))

module _ (n : ℕ) (r : Resting n) (cs : List Provisioned) (some : 0 < n) (d : Side) (p : ℕ) (index : ℕ) (c : Provisioned)
    (near distant : End) (seen : Seen n cs index c d p near distant) where
  m : ℕ
  m = c.slot.0

  crossed-home : (k : ℕ) → k < arc_length n c → ((j : ℕ) → j < k → IsFree n r cs some d p j)
      → crossed n r.state cs c.slot.0 k (sending n r cs some d p c.slot.0 (going n d p k)) ≡ down n d p 0 k
  crossed-home zero h free = refl
  crossed-home (suc k) h free =
      ap (crossed n r.state cs c.slot.0 (suc k)) (through n r cs some d p index c near distant seen (suc k) (omega arith) h)
      ∙ crossed-over n r cs c.slot.0 some d p k k (free k (omega arith))
      ∙ ap (λ l. way n d p k ∷ l) (crossed-home k (omega arith) (λ j g. free j (omega arith)))
      ∙ ap (λ i. way n d p i ∷ down n d p 0 k) (omega arith)

  crossed-along : (k i j : ℕ) → 0 < i → i + k ≤ arc_length n c → ((x : ℕ) → i ≤ x → x < i + k → IsFree n r cs some d p x)
      → crossed n r.state cs c.slot.0 (k + j) (taking n r cs some d p c.slot.0 (going n d p (i + k)))
      ≡ down n d p i k ++ crossed n r.state cs c.slot.0 j (taking n r cs some d p c.slot.0 (going n d p i))
  crossed-along zero i j h g free =
      ap (λ k. crossed n r.state cs c.slot.0 k (taking n r cs some d p c.slot.0 (going n d p (i + 0)))) {y = j} (omega arith)
      ∙ ap (λ x. crossed n r.state cs c.slot.0 j (taking n r cs some d p c.slot.0 (going n d p x))) (omega arith)
  crossed-along (suc k) i j h g free =
      ap (λ x. crossed n r.state cs c.slot.0 x (taking n r cs some d p c.slot.0 (going n d p (i + suc k)))) {y = suc (k + j)} (omega arith)
      ∙ ap (λ x. crossed n r.state cs c.slot.0 (suc (k + j)) (taking n r cs some d p c.slot.0 (going n d p x))) {y = suc (i + k)}
      (omega arith)
      ∙ crossed-over n r cs c.slot.0 some d p (i + k) (k + j) (free (i + k) (omega arith) (omega arith))
      ∙ ap (λ y. way n d p (i + k) ∷ crossed n r.state cs c.slot.0 (k + j) y)
      (through n r cs some d p index c near distant seen (i + k) (omega arith) (omega arith))
      ∙ ap (λ l. way n d p (i + k) ∷ l) (crossed-along k i j h (omega arith) (λ x a b. free x a (omega arith)))

  pub crossed-straight : ((j : ℕ) → j < arc_length n c → IsFree n r cs some d p j)
      → crossed n r.state cs c.slot.0 (arc_length n c) (delivery n r.state cs c distant) ≡ down n d p 0 (arc_length n c)
  crossed-straight free =
      let long = seen.long in
      let last = arc_length n c - 1 in
      let one : suc last ≡ arc_length n c = omega arith in
      ap (crossed n r.state cs c.slot.0 (arc_length n c)) (delivered n r cs some d p index c near distant seen)
      ∙ subst (λ k. crossed n r.state cs c.slot.0 k (taking n r cs some d p c.slot.0 (going n d p k)) ≡ down n d p 0 k) one
      (crossed-over n r cs c.slot.0 some d p last last (free last (omega arith))
      ∙ ap (λ l. way n d p last ∷ l) (crossed-home last (omega arith) (λ j h. free j (omega arith)))
      ∙ ap (λ i. way n d p i ∷ down n d p 0 last) (omega arith))

  pub crossed-around : (f l : ℕ) → (hit : Struck n r cs some d p index c near distant seen f l)
      → crossed n r.state cs c.slot.0 (detour n r cs some d p index c near distant seen f l) (delivery n r.state cs c distant)
      ≡ down n d p (suc l) (arc_length n c - suc l) ++ (up n d p (suc l) (n + f - suc l) ++ down n d p 0 f)
  crossed-around f l hit =
      let g = n + f - suc l in
      let w = gap_is n r cs some d p index c near distant seen f l hit in let s =
      gap_some n r cs some d p index c near distant seen f l hit in
      let b = hit.inside in let o = hit.ordered in let short = seen.short in
      let len = arc_length n c in
      let at_end : suc l + (len - suc l) ≡ len = omega arith in
      let total : detour n r cs some d p index c near distant seen f l ≡ (len - suc l) + (suc (g - 1) + f) = omega arith in
      let whole : suc (g - 1) ≡ g = omega arith in
      let quiet =
      between n r cs some d p (g - 1) (suc l) (any-applied n r some d p l hit.last)
      (λ j h e. free_ahead n r cs some d p index c near distant seen f l hit j h (omega arith)) in
      let turn : bridge n r cs some d p c.slot.0 (going n d p (suc (suc l + (g - 1)))) ≡ sending n r cs some d p c.slot.0 (going n d p f) =
      ap (λ i. bridge n r cs some d p c.slot.0 (going n d p i)) (omega arith)
      ∙ turned_far n r cs some d p index c near distant seen f l hit in
      let around : crossed n r.state cs c.slot.0 (suc (g - 1) + f) (taking n r cs some d p c.slot.0 (going n d p (suc l)))
      ≡ up n d p (suc l) g ++ down n d p 0 f =
      ap (crossed n r.state cs c.slot.0 (suc (g - 1) + f)) (turned_near n r cs some d p index c near distant seen f l hit)
      ∙ crossed-on n r cs c.slot.0 (suc (g - 1)) f (stand (going n d p (suc l)) (Protection d))
      (bridge n r cs some d p c.slot.0 (going n d p (suc (suc l + (g - 1))))) (past n r cs some d p c.slot.0 (g - 1) (suc l) quiet)
      ∙ ap (λ a. a ++ crossed n r.state cs c.slot.0 f (bridge n r cs some d p c.slot.0 (going n d p (suc (suc l + (g - 1))))))
      (crossed-past n r cs c.slot.0 some d p (g - 1) (suc l) quiet ∙ ap (up n d p (suc l)) whole)
      ∙ ap (λ a. up n d p (suc l) g ++ a) (ap (crossed n r.state cs c.slot.0 f) turn
      ∙ crossed-home f (f_inside n r cs some d p index c near distant seen f l hit) hit.before) in
      ap (crossed n r.state cs c.slot.0 (detour n r cs some d p index c near distant seen f l))
      (delivered n r cs some d p index c near distant seen)
      ∙ ap (λ k. crossed n r.state cs c.slot.0 k (taking n r cs some d p c.slot.0 (going n d p len))) total
      ∙ ap (λ i. crossed n r.state cs c.slot.0 ((len - suc l) + (suc (g - 1) + f)) (taking n r cs some d p c.slot.0 (going n d p i)))
      (sym at_end)
      ∙ crossed-along (len - suc l) (suc l) (suc (g - 1) + f) (omega arith) (omega arith) (λ x h e. hit.after x h (omega arith))
      ∙ ap (λ a. down n d p (suc l) (len - suc l) ++ a) around
