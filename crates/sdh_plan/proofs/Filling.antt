-- A slot is filled circuit by circuit.
use Rattle.std.proofs.Common.{◌≡◌, ℕ, zero, suc, ◌+◌, ◌-◌, ◌%◌, ◌<◌, ◌≤◌, List, [], ◌∷◌, ◌++◌, get_or, false, cond, ◌==◌, All, Some, None}
use Rattle.std.proofs.Common.{refl, sym, ap, ◌∙◌, subst, arith, append_assoc}
use Rattle.std.proofs.lemmas.List.{append-nil}
use Rattle.std.proofs.lemmas.List.Elements.{All-push}
use Rattle.std.proofs.lemmas.Bool.{eqb-true}
use Rattle.std.proofs.Math.Nat.{mod-lt}
use Rattle.sdh_ringmap.specs.Places.{eastwards}
use Rattle.sdh_ringmap.proofs.Around.{eastwards-place}
use Rattle.sdh_circuits.specs.Provisioned.{Provisioned}
use Rattle.sdh_circuits.specs.Provisioning.{Provisioning}
use Rattle.sdh_circuits.specs.Checks.{with_circuit, refusal}
use Rattle.sdh_plan.specs.Circuits.{provisioned}
use Rattle.sdh_plan.specs.Big.{Laying, drawn, next, spans_of, laying_end, with_next, laid_circuit, next_circuit, slot_begun, circuits_from}
use Rattle.sdh_plan.specs.Big.{state_behind, slot_circuits, behind_slot, big_nodes, big_circuits, big_script, big_settings, big_planned}
use Rattle.sdh_plan.specs.declared.step.Step.{Step}
use Rattle.sdh_plan.specs.Planned.{Planned, planned}
use Rattle.sdh_plan.specs.Laid.{IsLaying, IsLaid, wish_laid}
use Rattle.sdh_plan.proofs.Laid.{spans_some, held, is_false, not_refused}
use Rattle.sdh_plan.proofs.Provisions.{keeps}

-- a slot begins
laying_begun : (x : ℕ) → IsLaying (slot_begun x)
laying_begun x = record { at_inside = mod-lt (drawn x) (omega arith); left_few = omega arith; from_1 = omega arith; few = omega arith }

laying_next : (l : Laying) → IsLaying l → 0 < l.left → IsLaying (with_next l)
laying_next l is some = let spans = spans_some l some in record {
  at_inside = mod-lt (l.at + spans_of l) (omega arith);
  left_few = omega (arith, is.left_few);
  from_1 = omega arith;
  few = omega (arith, is.few, spans.0, spans.1);
}

-- spans counted from the end of a circuit
away : (at spans left s : ℕ) → at < 16 → s < 16 → spans ≤ left → left ≤ 16 → left ≤ eastwards 16 at s
    → left - spans ≤ eastwards 16 ((at + spans) % 16) s
away at spans left s h hs few small far = omega arith

behind : (at spans left s : ℕ) → at < 16 → s < 16 → spans ≤ left → left ≤ 16 → eastwards 16 at s < spans
    → left - spans ≤ eastwards 16 ((at + spans) % 16) s
behind at spans left s h hs few small near = omega arith

laid_still : (slot : ℕ) (l : Laying) (d : Provisioned) → IsLaying l → 0 < l.left → IsLaid slot l d → IsLaid slot (with_next l) d
laid_still slot l d is some was = let spans = spans_some l some in record {
  number = was.number;
  named = was.named;
  from_1 = was.from_1;
  few = was.few;
  slot_from_1 = was.slot_from_1;
  slot_small = was.slot_small;
  by_number = λ same. omega (arith, was.by_number same);
  apart = λ same s on. away l.at (spans_of l) l.left s is.at_inside (held d.from.0 d.to.0 s on).0 spans.1 is.left_few (was.apart same s on);
}

laid_now : (slot : ℕ) (l : Laying) → 1 ≤ slot → IsLaying l → 0 < l.left → IsLaid slot (with_next l) (next_circuit slot l)
laid_now slot l low is some =
    let spans = spans_some l some in
    let long : eastwards 16 l.at (laying_end l) ≡ spans_of l = eastwards-place 16 l.at (spans_of l) is.at_inside (omega (arith, spans.2)) in
    record {
      number = l.number;
      named = refl;
      from_1 = is.from_1;
      few = omega (arith, is.few);
      slot_from_1 = low;
      slot_small = omega arith;
      by_number = λ same. omega arith;
      apart = λ same s on. let h =
          held l.at (laying_end l) s on in behind l.at (spans_of l) l.left s is.at_inside h.0 spans.1 is.left_few
          (omega (arith, h.1, long));
    }

-- so far the slot has the circuits before this one, and the rest will be laid
pub record Filling (slot x : ℕ) (before : List Provisioned) (p : Provisioning) (l : Laying) : Type 0 where
  pub is : IsLaying l
  pub laid : All (IsLaid slot l) p.circuits
  pub made : p ≡ provisioned 2 big_nodes p.circuits
  pub most : ℕ
  pub enough : l.left ≤ most
  pub rest : p.circuits ++ circuits_from most slot l ≡ before ++ slot_circuits slot x
  pub state : state_behind most l ≡ behind_slot x

pub filling_begun : (slot x drawn_there after : ℕ) (p : Provisioning) → p ≡ provisioned 2 big_nodes p.circuits
    → All (IsLaid slot (slot_begun x)) p.circuits
    → drawn_there ≡ drawn x → after ≡ next x → Filling slot x p.circuits p
    (record { number = 1; at = drawn_there % 16; left = 16; state = after })
unfolding slot_circuits behind_slot
filling_begun slot x drawn_there after p made were e f =
    let begun : Laying = record { number = 1; at = drawn_there % 16; left = 16; state = after } in
    let same : begun ≡ slot_begun x =
    ap (λ k. record { number = 1; at = k % 16; left = 16; state = after }) e
    ∙ ap (λ y. record { number = 1; at = drawn x % 16; left = 16; state = y }) f in
    let there : Filling slot x p.circuits p (slot_begun x) = record {
      is = laying_begun x;
      laid = were;
      made = made;
      most = 16;
      enough = omega arith;
      rest = refl;
      state = refl;
    } in
    subst (Filling slot x p.circuits p) (sym same) there

not_none : (k : ℕ) → 0 < k → (k == 0) ≡ false
not_none k h = is_false (k == 0) (λ e. omega (arith, eqb-true k 0 e))

one_by_one : (slot : ℕ) (l : Laying) (most : ℕ) → 0 < l.left
    → circuits_from (suc most) slot l ≡ next_circuit slot l ∷ circuits_from most slot (with_next l)
one_by_one slot l most some = ap (λ b. cond b [] (next_circuit slot l ∷ circuits_from most slot (with_next l))) (not_none l.left some)

next_state : (l : Laying) (most : ℕ) → 0 < l.left → state_behind (suc most) l ≡ state_behind most (with_next l)
next_state l most some = ap (λ b. cond b l.state (state_behind most (with_next l))) (not_none l.left some)

-- with a circuit more
abbrev with_more : (slot : ℕ) (l : Laying) (p : Provisioning) → Provisioning
with_more slot l p = with_circuit p big_nodes (next_circuit slot l)

more_made : (slot : ℕ) (l : Laying) (p : Provisioning) → p ≡ provisioned 2 big_nodes p.circuits
    → with_more slot l p ≡ provisioned 2 big_nodes (with_more slot l p).circuits
more_made slot l p made =
    ap (λ (s : ℕ). record { slots = s; ring = Some big_nodes; circuits = p.circuits ++ next_circuit slot l ∷ [] })
    (ap (λ (q : Provisioning). q.slots) made)
    ∙ ap (λ r. record { slots = 2; ring = r; circuits = p.circuits ++ next_circuit slot l ∷ [] })
    (keeps big_nodes p.circuits (next_circuit slot l))

more : (slot x : ℕ) (before : List Provisioned) (p : Provisioning) (l : Laying) → 1 ≤ slot → 0 < l.left → (most : ℕ)
    → Filling slot x before p l → l.left ≤ most
    → p.circuits ++ circuits_from most slot l ≡ before ++ slot_circuits slot x → state_behind most l ≡ behind_slot x
    → Filling slot x before (with_more slot l p) (with_next l)
more slot x before p l low some zero f enough rest state = absurd (omega arith)
more slot x before p l low some (suc most) f enough rest state = record {
  is = laying_next l f.is some;
  laid =
      All-push (IsLaid slot (with_next l)) p.circuits (next_circuit slot l)
      (λ k d h. laid_still slot l (get_or p.circuits k d) f.is some (f.laid k d h)) (laid_now slot l low f.is some);
  made = more_made slot l p f.made;
  most = most;
  enough = let spans = spans_some l some in omega (arith, spans.0);
  rest =
      append_assoc p.circuits (next_circuit slot l ∷ []) (circuits_from most slot (with_next l))
      ∙ ap (λ cs. p.circuits ++ cs) (sym (one_by_one slot l most some)) ∙ rest;
  state = sym (next_state l most some) ∙ state;
}

-- no check refuses the next circuit
pub filling_passes : (slot x : ℕ) (before : List Provisioned) (p : Provisioning) (l : Laying) (ids : List ℕ) (spans state : ℕ) → 1 ≤ slot
    → slot ≤ 2 → 0 < l.left → Filling slot x before p l
    → ids ≡ big_nodes → spans ≡ spans_of l → state ≡ next l.state → refusal p ids (wish_laid slot l.number l.at spans state) ≡ None
filling_passes slot x before p l ids spans state low high some f e g h =
    ap (λ ns. refusal p ns (wish_laid slot l.number l.at spans state)) e
    ∙ ap (λ k. refusal p big_nodes (wish_laid slot l.number l.at k state)) g
    ∙ ap (λ y. refusal p big_nodes (wish_laid slot l.number l.at (spans_of l) y)) h
    ∙ not_refused slot l p (ap (λ (q : Provisioning). q.slots) f.made) low high f.is some f.laid

pub filling_next : (slot x : ℕ) (before : List Provisioned) (p q : Provisioning) (l : Laying) (ids : List ℕ) (spans state after : ℕ)
    → 1 ≤ slot → 0 < l.left → Filling slot x before p l
    → ids ≡ big_nodes → spans ≡ spans_of l → state ≡ next l.state → after ≡ next (next state)
    → q ≡ with_circuit p ids (laid_circuit slot l.number l.at spans state)
    → Filling slot x before q (record { number = l.number + 1; at = (l.at + spans) % 16; left = l.left - spans; state = after })
filling_next slot x before p q l ids spans state after low some f e g h i made =
    let to : ℕ → ℕ → Laying = λ k y. record { number = l.number + 1; at = (l.at + k) % 16; left = l.left - k; state = y } in
    let there : to spans after ≡ with_next l = ap (λ k. to k after) g ∙ ap (to (spans_of l)) (i ∙ ap (λ y. next (next y)) h) in
    let more_is : q ≡ with_more slot l p =
    made ∙ ap (λ ns. with_circuit p ns (laid_circuit slot l.number l.at spans state)) e
    ∙ ap (λ k. with_circuit p big_nodes (laid_circuit slot l.number l.at k state)) g
    ∙ ap (λ y. with_circuit p big_nodes (laid_circuit slot l.number l.at (spans_of l) y)) h in
    subst (λ (r : Provisioning). Filling slot x before r (to spans after)) (sym more_is)
    (subst (Filling slot x before (with_more slot l p)) (sym there) (more slot x before p l low some f.most f f.enough f.rest f.state))

-- no span is left
none_from : (slot : ℕ) (l : Laying) (most : ℕ) → l.left ≡ 0 → circuits_from most slot l ≡ []
none_from slot l zero none = refl
none_from slot l (suc most) none = ap (λ k. cond (k == 0) [] (next_circuit slot l ∷ circuits_from most slot (with_next l))) none

state_there : (l : Laying) (most : ℕ) → l.left ≡ 0 → state_behind most l ≡ l.state
state_there l zero none = refl
state_there l (suc most) none = ap (λ k. cond (k == 0) l.state (state_behind most (with_next l))) none

pub filled_circuits : (slot x : ℕ) (before : List Provisioned) (p : Provisioning) (l : Laying) → l.left ≡ 0 → Filling slot x before p l
    → p ≡ provisioned 2 big_nodes (before ++ slot_circuits slot x)
filled_circuits slot x before p l none f =
    f.made ∙ ap (provisioned 2 big_nodes) (sym (append-nil p.circuits) ∙ ap (λ cs. p.circuits ++ cs) (sym (none_from slot l f.most none))
    ∙ f.rest)

pub filled_state : (slot x : ℕ) (before : List Provisioned) (p : Provisioning) (l : Laying) → l.left ≡ 0 → Filling slot x before p l
    → l.state ≡ behind_slot x
filled_state slot x before p l none f = sym (state_there l f.most none) ∙ f.state

-- the plan of a number has these parts
pub big_made : (number x y : ℕ) (nodes : List ℕ) (p : Provisioning) (steps : List Step) → x ≡ number → y ≡ behind_slot (behind_slot x)
    → nodes ≡ big_nodes → p ≡ provisioned 2 big_nodes (big_circuits x) → steps ≡ big_script y
    → planned big_settings 4096 nodes p steps ≡ big_planned number
unfolding big_planned
big_made number x y nodes p steps e f g h i =
    let make : List ℕ → List Provisioned → List Step → Planned =
    λ ns cs ss. record { settings = big_settings; limit = 4096; nodes = ns; circuits = cs; steps = ss } in
    ap (λ ns. make ns p.circuits steps) g ∙ ap (λ (q : Provisioning). make big_nodes q.circuits steps) h
    ∙ ap (make big_nodes (big_circuits x)) (i ∙ ap big_script f)
    ∙ ap (λ z. make big_nodes (big_circuits z) (big_script (behind_slot (behind_slot z)))) e
