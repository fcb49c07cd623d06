-- The requests of spans, by what their ends ask for.
use Rattle.std.proofs.Common.{◌≡◌, ℕ, ◌<◌, ap, ◌∙◌, max, arith}
use Rattle.sdh_basics.proofs.CellsLaws.{cells-same}
use Rattle.sdh_ringmap.specs.declared.Side.{Side}
use Rattle.sdh_ringmap.specs.declared.Side.TheVariants.{West, East}
use Rattle.sdh_ringmap.specs.Places.{neighbour}
use Rattle.sdh_ringmap.proofs.Sides.{neighbour_below}
use Rattle.sdh_ringmap.specs.Requests.{code_number}
use Rattle.sdh_restoration.specs.History.{Asking}
use Rattle.sdh_restoration.specs.Applied.{span_requests}

pub spans_same : (n : ℕ) (f g : Asking) → ((p : ℕ) (d : Side) → p < n → f p d ≡ g p d) → span_requests n f ≡ span_requests n g
unfolding span_requests
spans_same n f g same = cells-same _ _ n 0 (λ s low.
    (let below : neighbour n s East < n = neighbour_below n s East (omega arith) in
    ap (λ c. max (code_number c) (code_number (f (neighbour n s East) West))) (same s East low)
    ∙ ap (λ c. max (code_number (g s East)) (code_number c)) (same (neighbour n s East) West below)))
