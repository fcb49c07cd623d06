-- Identifiers of a ring and the positions where they are found.
use Rattle.std.proofs.Common.{◌≡◌, ◌≢◌, ℕ, ◌<◌, List, length, Option, Some, None, refl, sym, ap, ◌∙◌}
use Rattle.std.specs.Prelude.{slice_index, ◌==◌, option_map, position}
use Rattle.std.proofs.lemmas.Bool.{eqb-true}
use Rattle.std.proofs.lemmas.List.Quantifiers.{position-Some}
use Rattle.sdh_ringmap.specs.Places.{found_at}
use Rattle.sdh_nodestate.specs.FarEnds.{IsElsewhere}
use Rattle.sdh_nodestate.specs.Words.{IsMember}

-- the identifier at a position is in the ring
pub own_member : (ids : List ℕ) (at id : ℕ) → id ≡ slice_index ids at → at < length ids → IsMember ids id
own_member ids at id e h = (at, h, sym e)

by_place : (ids : List ℕ) (at id : ℕ) → id ≢ slice_index ids at → (o : Option ℕ) → position (λ x. x == id) ids ≡ o
    → IsElsewhere (length ids) at (option_map (λ p. record { 0 = p }) o)
by_place ids at id other None e = tt
by_place ids at id other (Some i) e =
    let found = position-Some (λ x. x == id) ids i 0 e in
    (found.0, λ same. other (sym (eqb-true _ _ found.1) ∙ ap (λ q. slice_index ids q) same))

-- an identifier other than this node's is found at another position, if it is found
pub found_elsewhere : (ids : List ℕ) (at id : ℕ) → id ≢ slice_index ids at → IsElsewhere (length ids) at (found_at ids id)
found_elsewhere ids at id other = by_place ids at id other (position (λ x. x == id) ids) refl
