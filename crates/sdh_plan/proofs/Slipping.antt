-- The circuit of a name, and counts of slips.
use Rattle.std.proofs.Common.{◌≡◌, ℕ, zero, suc, ◌+◌, ◌<◌, ◌==◌, ◌&&◌, List, [], ◌∷◌, length, get_or, set, replicate, Bool, true, false}
use Rattle.std.proofs.Common.{cond, nat_lt, Some, None, position, slice_get, refl, ap, sym, subst, ◌∙◌, arith}
use Rattle.std.proofs.Math.Path.{fun_ext}
use Rattle.std.specs.List.{position_or_len}
use Rattle.std.proofs.lemmas.Bool.Decides.{nat_tests}
use Rattle.std.specs.Str.{bytes_eq}
use Rattle.std.proofs.lemmas.Bool.{eqb-true}
use Rattle.std.proofs.lemmas.Option.{slice_get_within, get_or_from_slice_get}
use Rattle.std.proofs.lemmas.Grind.{common_steps, get_or-set_at}
use Rattle.std.proofs.lemmas.List.Sums.{position_or_len_is}
use Rattle.sdh_circuits.specs.declared.PortId.{PortId}
use Rattle.sdh_circuits.specs.declared.End.{End}
use Rattle.sdh_circuits.specs.declared.End.TheVariants.{A, B}
use Rattle.sdh_circuits.specs.Provisioned.{Provisioned, same_end}
use Rattle.sdh_plan.specs.declared.slips.Slips.{Slips}
use Rattle.sdh_plan.specs.Steps.{circuit_named, more_slips}
use Rattle.sdh_plan.specs.Counted.{counts_at, slips_in}

module _ {X : Type 0} (p : X → Bool) where
  told : (at i n : ℕ) → at ≡ i → i < n → cond (nat_lt at n) (Some at) None ≡ Some i
  told at i n e h = grind (arith, nat_tests)

  -- the first of a list that passes a test
  pub first_at : (xs : List X) (i : ℕ) (d : X) → i < length xs → ((k : ℕ) → k < i → p (get_or xs k d) ≡ false) → p (get_or xs i d) ≡ true
      → position p xs ≡ Some i
  first_at xs i d h before here =
      told (position_or_len p xs) i (length xs) (position_or_len_is p xs i d (omega arith) before (λ less. here)) h

  untold : (at n : ℕ) → at ≡ n → cond (nat_lt at n) (Some at) None ≡ None
  untold at n e = grind (arith, nat_tests)

  -- no element of a list passes a test
  pub none_at : (xs : List X) → ((k : ℕ) (d : X) → k < length xs → p (get_or xs k d) ≡ false) → position p xs ≡ None
  none_at [] h = refl
  none_at (x ∷ xs) h =
      untold (position_or_len p (x ∷ xs)) (length (x ∷ xs))
      (position_or_len_is p (x ∷ xs) (length (x ∷ xs)) x (omega arith) (λ k less. h k x less) (λ less. absurd (omega arith)))

-- the circuit that a word names
module _ (circuits : List Provisioned) (word : List ℕ) where
  -- none of the first ones has the name
  abbrev pub Others : ℕ → Type 0
  Others i = (k : ℕ) (d : Provisioned) → k < i → bytes_eq (get_or circuits k d).name word ≡ false

  pub named_here : (i : ℕ) (c : Provisioned) → slice_get circuits i ≡ Some c → bytes_eq c.name word ≡ true → Others i
      → circuit_named circuits word ≡ Some i
  unfolding circuit_named
  named_here i c there e others =
      first_at (λ d. bytes_eq d.name word) circuits i c (slice_get_within circuits i c there) (λ k less. others k c less)
      (ap (λ d. bytes_eq d.name word) (get_or_from_slice_get circuits i c c there) ∙ e)

  pub named_later : (i : ℕ) (c : Provisioned) → slice_get circuits i ≡ Some c → bytes_eq c.name word ≡ false → Others i → Others (i + 1)
  named_later i c there e others k d less = by (k == i) refl
    where
      by : (b : Bool) → (k == i) ≡ b → bytes_eq (get_or circuits k d).name word ≡ false
      by true h =
          ap (λ j. bytes_eq (get_or circuits j d).name word) (eqb-true k i h)
          ∙ ap (λ x. bytes_eq x.name word) (get_or_from_slice_get circuits i c d there) ∙ e
      by false h = others k d (grind (arith, nat_tests))

  pub named_none : Others (length circuits) → circuit_named circuits word ≡ None
  unfolding circuit_named
  named_none others = none_at (λ d. bytes_eq d.name word) circuits others

zeros : (n k : ℕ) → ◌≡◌ {A = ℕ} (get_or (replicate n 0) k 0) 0
zeros zero k = refl
zeros (suc n) zero = refl
zeros (suc n) (suc k) = zeros n k

-- no port was given a slip
pub slips_none : (s : Slips) (n : ℕ) → s.at_a ≡ replicate n 0 → s.at_b ≡ replicate n 0 → slips_in s ≡ (λ port. 0)
unfolding slips_in
slips_none s n a b = fun_ext (λ port. by port.circuit port.end)
  where
    by : (k : ℕ) (e : End) → get_or (counts_at s e) k 0 ≡ 0
    by k A = ap (λ xs. get_or xs k 0) a ∙ zeros n k
    by k B = ap (λ xs. get_or xs k 0) b ∙ zeros n k

both_true : (b : Bool) → (b && true) ≡ b
both_true true = refl
both_true false = refl

both_false : (b : Bool) → (b && false) ≡ false
both_false true = refl
both_false false = refl

same_end_is : (d e : End) → same_end d e ≡ true → d ≡ e
same_end_is A A h = refl
same_end_is B B h = refl
same_end_is A B h = cc
same_end_is B A h = cc

-- the count of a port, with `more` more
one_more : (xs : List ℕ) (c k more : ℕ) → c < length xs → get_or (set xs c (get_or xs c 0 + more)) k 0
    ≡ cond (k == c) (get_or xs k 0 + more) (get_or xs k 0)
one_more xs c k more h = by (k == c) refl
  where
    by : (b : Bool) → (k == c) ≡ b → get_or (set xs c (get_or xs c 0 + more)) k 0 ≡ cond b (get_or xs k 0 + more) (get_or xs k 0)
    by true e = let same : k ≡ c =
        eqb-true k c e in get_or-set_at xs c k (get_or xs c 0 + more) 0 same h ∙ ap (λ j. get_or xs j 0 + more) (sym same)
    by false e = grind (arith, common_steps, nat_tests)

-- the count of a port grows, and the others stay
slips_more : (s t : Slips) (port : PortId) (more : ℕ) → port.circuit < length (counts_at s port.end)
    → counts_at t port.end ≡ set (counts_at s port.end) port.circuit (slips_in s port + more)
    → ((e : End) → same_end e port.end ≡ false → counts_at t e ≡ counts_at s e) → slips_in t ≡ more_slips port more (slips_in s)
unfolding slips_in
slips_more s t port more few here others = fun_ext (λ other. by other (same_end other.end port.end) refl)
  where
    by : (other : PortId) (b : Bool) → same_end other.end port.end ≡ b → slips_in t other ≡ more_slips port more (slips_in s) other
    by other true e =
        let same : other.end ≡ port.end = same_end_is other.end port.end e in
        ap (λ d. get_or (counts_at t d) other.circuit 0) same ∙ ap (λ xs. get_or xs other.circuit 0) here
        ∙ one_more (counts_at s port.end) port.circuit other.circuit more few
        ∙ ap (λ d. cond (other.circuit == port.circuit) (get_or (counts_at s d) other.circuit 0 + more)
        (get_or (counts_at s d) other.circuit 0)) (sym same)
        ∙ ap (λ b. cond b (slips_in s other + more) (slips_in s other))
        (sym (ap (λ b. (other.circuit == port.circuit) && b) e ∙ both_true (other.circuit == port.circuit)))
    by other false e =
        ap (λ xs. get_or xs other.circuit 0) (others other.end e)
        ∙ ap (λ b. cond b (slips_in s other + more) (slips_in s other))
        (sym (ap (λ b. (other.circuit == port.circuit) && b) e ∙ both_false (other.circuit == port.circuit)))

-- the counts at an end with more slips of the port there
pub slips_more_at : (s t : Slips) (port : PortId) (more : ℕ) (end : End) → port.end ≡ end → port.circuit < length (counts_at s end)
    → counts_at t end ≡ set (counts_at s end) port.circuit (slips_in s port + more)
    → ((d : End) → same_end d end ≡ false → counts_at t d ≡ counts_at s d) → slips_in t ≡ more_slips port more (slips_in s)
slips_more_at s t port more end e few is others =
    slips_more s t port more (subst (λ (d : End). port.circuit < length (counts_at s d)) (sym e) few)
    (subst (λ (d : End). counts_at t d ≡ set (counts_at s d) port.circuit (slips_in s port + more)) (sym e) is)
    (λ d h. others d (ap (same_end d) (sym e) ∙ h))

-- the counts at the other end stay
pub b_stays : (s : Slips) (at_a : List ℕ) (d : End) → same_end d A ≡ false → counts_at (record s { at_a = at_a }) d ≡ counts_at s d
b_stays s at_a A h = cc
b_stays s at_a B h = refl

pub a_stays : (s : Slips) (at_b : List ℕ) (d : End) → same_end d B ≡ false → counts_at (record s { at_b = at_b }) d ≡ counts_at s d
a_stays s at_b A h = refl
a_stays s at_b B h = cc
