-- The first changes, with one more.
use Rattle.std.proofs.Common.{◌≡◌, ℕ, ◌+◌, ◌<◌, ◌≤◌, Bool, true, false, List, [], ◌∷◌, ◌++◌, length, take, ap, ap₂, sym, ◌∙◌, arith}
use Rattle.std.proofs.Common.{append-nil, inl, inr}
use Rattle.std.specs.Prelude.{if◌then◌else◌, Some}
use Rattle.std.proofs.lemmas.Bool.{cases_lt}
use Rattle.std.proofs.lemmas.List.{take_all, take-append-le, length-append, length-take}
use Rattle.sdh_outage.specs.declared.kind.Kind.{Kind}
use Rattle.sdh_outage.specs.declared.change.Change.{Change}
use Rattle.sdh_outage.specs.Changes.{is_change, last_kind, kind_changes, Traced, traced}

-- the first n of a list and more follow from the first n of that list
pub kept_more : (n : ℕ) (xs ys : List Change) → take n (take n xs ++ ys) ≡ take n (xs ++ ys)
kept_more n xs ys = elim (cases_lt (length xs) n) [
  | inl few ↦ ap (λ l. take n (l ++ ys)) (take_all n xs (omega arith))
  | inr many ↦ (
      let full : n ≤ length (take n xs) = omega (arith, length-take n xs) in
      take-append-le n (take n xs) ys full ∙ take_all n (take n xs) (omega (arith, length-take n xs)) ∙ sym (take-append-le n xs ys many))
]

-- where there is room, one more is kept
pub kept_whole : (n : ℕ) (xs : List Change) (c : Change) → length xs < n → take n (xs ++ c ∷ []) ≡ xs ++ c ∷ []
kept_whole n xs c room = take_all n (xs ++ c ∷ []) (omega (arith, length-append xs (c ∷ [])))

pub kept_full : (n : ℕ) (xs ys : List Change) → length xs ≤ n → n ≤ length xs → take n (xs ++ ys) ≡ xs
kept_full n xs ys few many = take-append-le n xs ys many ∙ take_all n xs few

-- ---- round after round

-- what is held of all of these changes
abbrev pub holding : List Change → Kind → Traced
holding changes last = record { changes = take 64 changes; count = length changes; last = Some last }

-- what a round makes of what a trace held
abbrev pub with_kind : Traced → Bool → Change → Traced
with_kind t true c = record { changes = take 64 (t.changes ++ c ∷ []); count = t.count + 1; last = Some c.kind }
with_kind t false c = record { changes = t.changes; count = t.count; last = Some c.kind }

traces_if : (first : ℕ) (past : List Kind) (c : Change) (changed : Bool)
    → with_kind (traced first past) changed c ≡ holding (kind_changes first past ++ (if changed then c ∷ [] else [])) c.kind
traces_if first past c true =
    let all = kind_changes first past in
    let changes = kept_more 64 all (c ∷ []) in
    let count : length all + 1 ≡ length (all ++ c ∷ []) = omega (arith, length-append all (c ∷ [])) in
    λ i. record { changes = changes i; count = count i; last = Some c.kind }
traces_if first past c false = ap (λ all. holding all c.kind) (sym (append-nil (kind_changes first past)))

-- one round more
pub traces : (t : Traced) (round : ℕ) (now : Kind) (first : ℕ) (past : List Kind) → round ≡ first + length past → t ≡ traced first past
    → with_kind t (is_change t.last now) (record { round = round; kind = now }) ≡ traced first (now ∷ past)
traces t round now first past number was =
    ap₂ (λ (x : Traced) n. with_kind x (is_change x.last now) (record { round = n; kind = now })) was number
    ∙ traces_if first past (record { round = first + length past; kind = now }) (is_change (last_kind past) now)
