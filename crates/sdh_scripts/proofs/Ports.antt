-- The ports of a list of circuits and of one circuit more, and ports with equal deliveries.
use Rattle.std.proofs.Common.{◌≡◌, ℕ, suc, ◌+◌, ◌*◌, ◌<◌, List, [], ◌∷◌, ◌++◌, length, take, Some, refl, ap, sym, ◌∙◌, arith, append-nil}
use Rattle.std.specs.Prelude.{slice_get}
use Rattle.std.specs.List.{flat_map}
use Rattle.std.proofs.lemmas.Grind.{flat_map-append}
use Rattle.std.proofs.lemmas.List.{take_more, length-take-le}
use Rattle.std.proofs.lemmas.Option.{get_or_from_slice_get}
use Rattle.sdh_payload.specs.Outlet.{Outlet}
use Rattle.sdh_circuits.specs.declared.End.{End}
use Rattle.sdh_circuits.specs.declared.End.TheVariants.{A, B}
use Rattle.sdh_circuits.specs.Provisioned.{Provisioned}
use Rattle.sdh_scripts.specs.Ports.{of_ports, lines_from}

module _ {L : Type 0} (tells : ℕ → Provisioned → End → L) where
  ports-append : (i : ℕ) (xs ys : List Provisioned) → of_ports tells i (xs ++ ys) ≡ of_ports tells i xs ++ of_ports tells (i + length xs) ys
  ports-append i [] ys = ap (λ j. of_ports tells j ys) (omega arith)
  ports-append i (c ∷ xs) ys =
      let next : i + 1 + length xs ≡ i + length (c ∷ xs) = omega arith in
      ap (λ l. tells i c A ∷ tells i c B ∷ l) (ports-append (i + 1) xs ys ∙ ap (λ j. of_ports tells (i + 1) xs ++ of_ports tells j ys) next)

  -- each circuit has two ports
  pub length-ports : (i : ℕ) (cs : List Provisioned) → length (of_ports tells i cs) ≡ 2 * length cs
  length-ports i [] = refl
  length-ports i (c ∷ cs) = omega (arith, length-ports (i + 1) cs)

  -- the ports of the first circuits, and those of the next one
  pub ports_next : (cs : List Provisioned) (i : ℕ) (c : Provisioned) → i < length cs → slice_get cs i ≡ Some c
      → of_ports tells 0 (take (i + 1) cs) ≡ of_ports tells 0 (take i cs) ++ tells i c A ∷ tells i c B ∷ []
  ports_next cs i c lt get =
      let long : 0 + length (take i cs) ≡ i = omega (arith, length-take-le i cs) in
      ap (of_ports tells 0) (take_more cs i c lt ∙ ap (λ x. take i cs ++ x ∷ []) (get_or_from_slice_get cs i c c get))
      ∙ ports-append 0 (take i cs) (c ∷ []) ∙ ap (λ j. of_ports tells 0 (take i cs) ++ of_ports tells j (c ∷ [])) long

  -- the lines of the ports of the first circuits, and those of the next one
  pub ports_more : (line : L → List ℕ) (cs : List Provisioned) (i : ℕ) (c : Provisioned) → i < length cs → slice_get cs i ≡ Some c
      → flat_map line (of_ports tells 0 (take (i + 1) cs)) ≡ flat_map line (of_ports tells 0 (take i cs))
      ++ (line (tells i c A) ++ line (tells i c B))
  ports_more line cs i c lt get =
      let a = line (tells i c A) in
      let b = line (tells i c B) in
      ap (flat_map line) (ports_next cs i c lt get)
      ∙ flat_map-append line (of_ports tells 0 (take i cs)) (tells i c A ∷ tells i c B ∷ [])
      ∙ ap (λ l. flat_map line (of_ports tells 0 (take i cs)) ++ (a ++ l)) (append-nil b)

-- the lines of these circuits' ports, which are counted from i, are equal where every port has equal deliveries
pub lines_same : (gives owes : ℕ → Provisioned → End → Outlet) (i : ℕ) (cs : List Provisioned)
    → ((k : ℕ) (c : Provisioned) → slice_get cs k ≡ Some c → (e : End) → gives (i + k) c e ≡ owes (i + k) c e)
    → lines_from gives i cs ≡ lines_from owes i cs
lines_same gives owes i [] same = refl
lines_same gives owes i (c ∷ cs) same =
    let at : i + 0 ≡ i = omega arith in
    let here = λ (e : End). ap (λ j. gives j c e) (sym at) ∙ same 0 c refl e ∙ ap (λ j. owes j c e) at in
    λ t. record { name = c.name; end = A; outlet = here A t } ∷ record { name = c.name; end = B; outlet = here B t }
    ∷ lines_same gives owes (i + 1) cs (λ k d get e. (let next : i + suc k ≡ i + 1 + k = omega arith in ap (λ j. gives j d e) (sym next)
    ∙ same (suc k) d get e ∙ ap (λ j. owes j d e) next)) t
