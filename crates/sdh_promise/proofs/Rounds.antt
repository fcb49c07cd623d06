-- The rounds of reports that are owed.
use Rattle.std.proofs.Common.{◌≡◌, ℕ, ◌+◌, ◌-◌, List, [], ◌∷◌, ◌++◌, subst, arith}
use Rattle.sdh_restoration.specs.Changes.{Change, Stretch, rounds_in}
use Rattle.sdh_restoration.specs.Happened.{happened}
use Rattle.sdh_promise.specs.Owed.{Ring, PortReport, requests_by, IsLast, IsOwed}
use Rattle.sdh_promise.specs.Laws.{GoOn, ReportsGoOn, ReportsRemember}

pub rounds_last : (ss : List Stretch) (s : Stretch) → rounds_in (ss ++ s ∷ []) ≡ rounds_in ss + s.rounds
rounds_last [] s = omega arith
rounds_last (t ∷ ss) s = let r = rounds_last ss s in omega arith

pub reports_go_on : ReportsGoOn
reports_go_on ring limit earlier before [] [] end some x = tt
reports_go_on ring limit earlier before [] (r ∷ reports) end some x = absurd (grind (arith, x.0))
reports_go_on ring limit earlier before (changes ∷ later) [] end some x = tt
reports_go_on ring limit earlier before (changes ∷ later) (r ∷ reports) end some x =
    let last : Stretch = record { changes = changes; rounds = r.round + 1 - rounds_in earlier } in
    let is : IsLast ring.nodes limit (rounds_in earlier) r.round = x.1 in
    let many : rounds_in (earlier ++ last ∷ []) ≡ r.round + 1 = omega (arith, rounds_last earlier last, is.window, some) in (
      omega (arith, is.window, some),
      omega (arith, is.window, some),
      is.within,
      is.multiple,
      subst (λ k. GoOn limit k reports) many (reports_go_on ring limit (earlier ++ last ∷ []) (before + 1) later reports end some x.3),
    )

-- a stretch by its number of rounds
stretch_of : List Change → ℕ → Stretch
stretch_of changes rounds = record { changes = changes; rounds = rounds }

shows : Ring → PortReport → List Stretch → Type 0
shows ring r now = IsOwed ring.nodes (requests_by ring now r.round) (happened now) ring.circuits r

pub reports_remember : ReportsRemember
unfolding stretch_of shows
reports_remember ring limit one two later r s reports end k m e f some x =
    let first : r.round + 1 - 0 ≡ k = omega (arith, e) in
    let behind : rounds_in (stretch_of one (r.round + 1 - 0) ∷ []) ≡ k = omega (arith, e) in
    let second : s.round + 1 - rounds_in (stretch_of one (r.round + 1 - 0) ∷ []) ≡ m = omega (arith, behind, f) in (
      subst (λ i. shows ring r (stretch_of one i ∷ [])) first x.2,
      subst (λ i. shows ring s (stretch_of one k ∷ stretch_of two i ∷ [])) second
          (subst (λ i. shows ring s (stretch_of one i ∷ stretch_of two (s.round + 1 - rounds_in (stretch_of one (r.round + 1 - 0) ∷ []))
          ∷ [])) first x.3.2),
    )
