-- The ring that is there.
use Rattle.std.proofs.Common.{◌≡◌, Option, Some, ap, sym, ◌∙◌}
use Rattle.std.specs.Prelude.{unwrap_or}
use Rattle.sdh_node.specs.Rings.Held.{HeldRing}

pub there : (other : HeldRing) (ring : Option HeldRing) (r now : HeldRing) → ring ≡ Some r → unwrap_or ring other ≡ now → r ≡ now
there other ring r now is view = ap (λ o. unwrap_or o other) (sym is) ∙ view
