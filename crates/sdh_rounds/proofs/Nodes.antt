-- Nodes of a list, one at a time, and what is left on a refusal.
use Rattle.std.proofs.Common.{◌≡◌, ℕ, zero, suc, ◌<◌, List, [], ◌∷◌, length, set, get_or, refl, ap, ◌∙◌, arith}
use Rattle.std.specs.Prelude.{Result, Ok, Err, OnErr}
use Rattle.sdh_rounds.specs.Held.{at_place}

pub on_err : {T E P : Type 0} (r : Result T E) → P → OnErr r P
on_err (Ok x) h = tt
on_err (Err e) h = h

placed : {N : Type 0} (change : N → N) (i : ℕ) (ns : List N) (x : N) → i < length ns → x ≡ get_or ns i x
    → set ns i (change x) ≡ at_place i change ns
placed change i [] x h read = absurd (omega arith)
placed change zero (n ∷ ns) x h read = ap (λ z. change z ∷ ns) read
placed change (suc i) (n ∷ ns) x h read = ap (λ zs. n ∷ zs) (placed change i ns x (omega arith) read)

-- the node x at i was changed
pub placed_at : {N : Type 0} (change : N → N) (i : ℕ) (ns : List N) (x y : N) → i < length ns → x ≡ get_or ns i x → y ≡ change x
    → set ns i y ≡ at_place i change ns
placed_at change i ns x y h read is = ap (set ns i) is ∙ placed change i ns x h read

-- a change of one node leaves the number of nodes
pub count_placed : {N : Type 0} (change : N → N) (i : ℕ) (ns : List N) → length (at_place i change ns) ≡ length ns
count_placed change i [] = refl
count_placed change zero (n ∷ ns) = refl
count_placed change (suc i) (n ∷ ns) = ap suc (count_placed change i ns)
