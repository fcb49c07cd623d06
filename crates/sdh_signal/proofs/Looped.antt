-- A looped slot meets its own circuit: a circuit with both ends in a chain that leaves through one end of the chain
-- comes back through the other.
use Rattle.std.proofs.Common.{◌≡◌, ℕ, ◌+◌, ◌-◌, ◌<◌, ◌≤◌, suc, true, Some, List, ap, sym, ◌∙◌, arith, inl, inr, ◌⊎◌, ap₂}
use Rattle.std.specs.Prelude.{◌&&◌}
use Rattle.std.proofs.lemmas.Bool.{cases_lt, and_parts, leb-true}
use Rattle.sdh_circuits.specs.Provisioned.{Provisioned}
use Rattle.sdh_circuits.specs.declared.End.{End}
use Rattle.sdh_circuits.specs.declared.End.TheVariants.{A, B}
use Rattle.sdh_ringmap.specs.Places.{opposite, span_at}
use Rattle.sdh_ringmap.specs.declared.Side.{Side}
use Rattle.sdh_ringmap.proofs.Going.{IsReached, going-add, going-round, going-once, reached, way-behind}
use Rattle.sdh_signal.proofs.Between.{passes-at}
use Rattle.sdh_signal.proofs.Seen.{Seen}
use Rattle.sdh_signal.proofs.Segments.{chain_passes, past}
use Rattle.sdh_signal.proofs.Views.{arc_length, is_in_chain, passes}
use Rattle.sdh_ringmap.specs.Steps.{going}
use Rattle.sdh_signal.specs.Walks.{port_at}
use Rattle.sdh_squelch.proofs.LookUps.{entry}
use Rattle.sdh_squelch.specs.Table.{circuit_from}

module _ (n : ℕ) (cs : List Provisioned) (some : 0 < n) (d : Side) (p : ℕ) (index : ℕ) (c : Provisioned) (near distant : End)
    (seen : Seen n cs index c d p near distant) where
  -- the node is at step x of the arc; f is the other end of its chain, from which k steps on side d lead to the node
  module _ (x f k : ℕ) (inside : x < arc_length n c) (f_inside : f < n) (k_few : k < n) (chain : going n d f k ≡ going n d p x)
      (both : (is_in_chain n d (going n d p x) f (port_at c A) && is_in_chain n d (going n d p x) f (port_at c B)) ≡ true)
      (p_inside : p < n) where
    at : IsReached n d p f
    at = reached n some d p f p_inside f_inside

    abbrev j : ℕ
    j = at.steps

    same : going n d p (j + k) ≡ going n d p x
    same = sym (going-add n some d p j k) ∙ ap (λ q. going n d q k) at.there ∙ chain

    both_passed : (passes n d f (going n d p x) (going n d p 0) && passes n d f (going n d p x) (going n d p (arc_length n c))) ≡ true
    both_passed =
        sym (seen.both (λ q. passes n d f (going n d p x) q))
        ∙ sym (ap₂ ◌&&◌ (chain_passes n d (going n d p x) f (port_at c A)) (chain_passes n d (going n d p x) f (port_at c B))) ∙ both

    passed_if : (i : ℕ) → passes n d f (going n d p x) (going n d p (j + i)) ≡ true → i < n → i ≤ k
    passed_if i t h =
        leb-true i k (sym (passes-at n some d p j k i k_few h)
        ∙ ap (λ q. passes n d q (going n d p (j + k)) (going n d p (j + i))) at.there ∙ ap (λ q. passes n d f q (going n d p (j + i))) same
        ∙ t)

    passed_last : passes n d f (going n d p x) (going n d p (arc_length n c)) ≡ true
    passed_last =
        (and_parts (passes n d f (going n d p x) (going n d p 0))
        (passes n d f (going n d p x) (going n d p (arc_length n c))) both_passed).1

    -- the chain's other end is on the arc, `step` steps along it, beyond the node
    pub record IsBeyond : Type 0 where
      pub step : ℕ
      pub there : going n d p step ≡ f
      pub around : step + k ≡ x + n
      pub after : x < step
      pub within : step ≤ arc_length n c

    last_after : j ≤ arc_length n c → arc_length n c - j ≤ k
    last_after h = let short =
        seen.short in passed_if (arc_length n c - j) (ap (λ i. passes n d f (going n d p x) (going n d p i)) (omega arith) ∙ passed_last)
        (omega arith)

    last_before : arc_length n c < j → arc_length n c + n - j ≤ k
    last_before h =
        let few = at.few in
        passed_if (arc_length n c + n - j) (ap (passes n d f (going n d p x))
        (ap (going n d p) (omega arith) ∙ going-round n some d p (arc_length n c)) ∙ passed_last) (omega arith)

    within_by : j + k ≡ x + n → (arc_length n c < j) ⊎ (j ≤ arc_length n c) → IsBeyond
    within_by e (inl past) = let t = last_before past in absurd (omega arith)
    within_by e (inr good) = record { step = j; there = at.there; around = e; after = omega arith; within = good }

    by_round : (j + k < n) ⊎ (n ≤ j + k) → IsBeyond
    by_round (inl low) =
        let short = seen.short in
        let e = going-once n some d p (j + k) x low (omega arith) same in
        let t = last_after (omega arith) in
        absurd (omega arith)
    by_round (inr high) =
        let short = seen.short in let few = at.few in
        let e =
        going-once n some d p (j + k - n) x (omega arith) (omega arith)
        (sym (going-round n some d p (j + k - n)) ∙ ap (going n d p) (omega arith) ∙ same) in
        within_by (omega arith) (cases_lt (arc_length n c) j)

    pub beyond : IsBeyond
    beyond = by_round (cases_lt (j + k) n)

    -- the circuit comes back at the chain's other end
    pub comes-back : circuit_from n (span_at n f (opposite d)) c.slot.0 0 cs ≡ Some (entry index c)
    comes-back =
        let b = beyond in let a = b.after in let w = b.within in
        let last : suc (b.step - 1) ≡ b.step = omega arith in
        ap (λ s. circuit_from n s c.slot.0 0 cs) (ap (λ q. span_at n q (opposite d)) (sym b.there ∙ ap (going n d p) (sym last))
        ∙ way-behind n some d p (b.step - 1))
        ∙ seen.on_arc (b.step - 1) (omega arith)
