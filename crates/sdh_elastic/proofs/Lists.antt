-- Fronts and rests of a list that lies in two parts.
use Rattle.std.proofs.Common.{◌≡◌, ℕ, ◌+◌, ◌-◌, List, ◌++◌, length, take, drop, ap, sym, ◌∙◌, inl, inr, arith}
use Rattle.std.proofs.lemmas.Bool.{cases_lt}
use Rattle.std.proofs.lemmas.List.{take-append-le, append-nil, take_all, drop-append-le, length-drop}
use Rattle.std.proofs.Math.Seq.{take-append-add, drop-append-add}
use Rattle.std.proofs.Math.ListN.{drop_of_length-le}

-- what the first part lacks is taken from the second
pub taken_of_both : (n : ℕ) (xs ys : List ℕ) → take n (xs ++ ys) ≡ take n xs ++ take (n - length xs) ys
taken_of_both n xs ys =
    elim (cases_lt n (length xs)) [
      | inl less ↦
          let z : n - length xs ≡ 0 = omega arith in
          take-append-le n xs ys (omega arith) ∙ sym (append-nil (take n xs)) ∙ ap (λ k. take n xs ++ take k ys) (sym z)
      | inr more ↦
          let s : length xs + (n - length xs) ≡ n = omega arith in
          ap (λ k. take k (xs ++ ys)) (sym s) ∙ take-append-add xs ys (n - length xs)
          ∙ ap (λ l. l ++ take (n - length xs) ys) (sym (take_all n xs (omega arith)))
    ]

pub dropped_of_both : (n : ℕ) (xs ys : List ℕ) → drop n (xs ++ ys) ≡ drop n xs ++ drop (n - length xs) ys
dropped_of_both n xs ys =
    elim (cases_lt n (length xs)) [
      | inl less ↦
          let z : n - length xs ≡ 0 = omega arith in
          drop-append-le n xs ys (omega arith) ∙ ap (λ k. drop n xs ++ drop k ys) (sym z)
      | inr more ↦
          let s : length xs + (n - length xs) ≡ n = omega arith in
          ap (λ k. drop k (xs ++ ys)) (sym s) ∙ drop-append-add xs ys (n - length xs)
          ∙ ap (λ l. l ++ drop (n - length xs) ys) (sym (drop_of_length-le xs (omega arith)))
    ]

-- a run that begins in the first part
pub run_of_both : (skip left : ℕ) (b rest : List ℕ)
    → take left (drop skip (b ++ rest)) ≡ take left (drop skip b) ++ take (left - (length b - skip)) (drop (skip - length b) rest)
run_of_both skip left b rest =
    ap (take left) (dropped_of_both skip b rest) ∙ taken_of_both left (drop skip b) (drop (skip - length b) rest)
    ∙ ap (λ k. take left (drop skip b) ++ take (left - k) (drop (skip - length b) rest)) (length-drop skip b)
