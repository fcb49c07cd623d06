-- When circuits are those of a ring.
use Rattle.std.specs.Prelude.{ℕ, ◌≡◌, ◌⊎◌, List, [], Some}
use Rattle.sdh_circuits.specs.Provisioning.{Provisioning}

-- there are no circuits, or the map keeps the ring with these identifiers
abbrev pub KeepsRing : Provisioning → List ℕ → Type 0
KeepsRing circuits ids = (circuits.circuits ≡ []) ⊎ (circuits.ring ≡ Some ids)
