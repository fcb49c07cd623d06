-- Lists that are made place by place.
use Rattle.std.proofs.Common.{◌≡◌, ℕ, zero, suc, ◌<◌, List, [], ◌∷◌, ◌++◌, length, map, ap, ap₂, sym, ◌∙◌, arith, append-nil}
use Rattle.std.specs.List.{flat_map}
use Rattle.std.proofs.Math.Numerals.{suc-eq-add-one}
use Rattle.std.proofs.lemmas.Grind.{flat_map-append}
use Rattle.std.proofs.lemmas.List.{length-map, get_or-map}
use Rattle.sdh_basics.specs.Cells.{cells}
use Rattle.sdh_basics.proofs.CellsLaws.{cells-zero, cells-more, cells-from}
use Rattle.sdh_node.specs.Node.{Node}
use Rattle.sdh_node.specs.Rings.Held.{nowhere, node_at}

-- a list made of each node is one made by position
pub as_cells : {Y : Type 0} (f : Node → Y) (g : ℕ → Y) (d : Y) (ns : List Node) (n : ℕ) → length ns ≡ n
    → ((p : ℕ) → p < n → f (node_at ns p) ≡ g p) → map f ns ≡ cells g n
as_cells f g d ns n size each =
    sym (cells-from g n d (map f ns) (length-map ns f ∙ size)
    (λ p low. (let inside : p < length ns = omega (arith, size) in sym (get_or-map f ns p nowhere d inside ∙ each p low))))

-- the lists that f gives for k + 1 places are those for k places, and that of the last place
pub flat_more : {X : Type 0} (f : ℕ → List X) (h : ℕ → ℕ) (k : ℕ) → flat_map f (cells h (suc k)) ≡ flat_map f (cells h k) ++ f (h k)
flat_more f h k =
    ap (flat_map f) (ap (cells h) (suc-eq-add-one k) ∙ cells-more h k) ∙ flat_map-append f (cells h k) (h k ∷ [])
    ∙ ap (λ l. flat_map f (cells h k) ++ l) (append-nil (f (h k)))

-- two functions that agree at each place give the same list for all places
pub flat_same : {X : Type 0} (f g : ℕ → List X) (n : ℕ) → ((p : ℕ) → p < n → f p ≡ g p)
    → flat_map f (cells (λ p. p) n) ≡ flat_map g (cells (λ p. p) n)
flat_same f g zero h = ap (flat_map f) (cells-zero (λ p. p)) ∙ sym (ap (flat_map g) (cells-zero (λ p. p)))
flat_same f g (suc k) h =
    flat_more f (λ p. p) k ∙ ap₂ (λ a b. a ++ b) (flat_same f g k (λ p low. h p (omega arith))) (h k (omega arith))
    ∙ sym (flat_more g (λ p. p) k)
