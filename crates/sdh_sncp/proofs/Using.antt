-- What is done with a slot, circuit by circuit; and which circuits share one.
use Rattle.std.proofs.Common.{◌≡◌, ◌≢◌, ℕ, ◌+◌, ◌==◌, ◌<◌, true, false, Some, List, ◌∷◌, length, drop, ap, eq-eqb, ne_eqb, ◌∙◌}
use Rattle.std.specs.Prelude.{if◌then◌else◌, slice_get}
use Rattle.std.proofs.lemmas.List.{drop_more}
use Rattle.std.proofs.lemmas.Option.{get_or_from_slice_get, slice_get_within}
use Rattle.sdh_circuits.specs.Provisioned.{Provisioned}
use Rattle.sdh_sncp.specs.Slots.{use_by, use_from}

pub use_next : (at m i : ℕ) (cs : List Provisioned) (c : Provisioned) → i < length cs → slice_get cs i ≡ Some c
    → use_from at m i (drop i cs) ≡ (if c.slot.0 == m then use_by at i c else use_from at m (i + 1) (drop (i + 1) cs))
use_next at m i cs c lt there =
    ap (use_from at m i) (drop_more cs i c lt) ∙ ap (λ d. use_from at m i (d ∷ drop (i + 1) cs)) (get_or_from_slice_get cs i c c there)

pub use_here : (at m i : ℕ) (cs : List Provisioned) (c : Provisioned) → slice_get cs i ≡ Some c → c.slot.0 ≡ m
    → use_from at m i (drop i cs) ≡ use_by at i c
use_here at m i cs c there same =
    let is : (c.slot.0 == m) ≡ true = eq-eqb c.slot.0 m same in
    use_next at m i cs c (slice_get_within cs i c there) there
    ∙ ap (λ b. if b then use_by at i c else use_from at m (i + 1) (drop (i + 1) cs)) is

pub use_later : (at m i : ℕ) (cs : List Provisioned) (c : Provisioned) → slice_get cs i ≡ Some c → c.slot.0 ≢ m
    → use_from at m i (drop i cs) ≡ use_from at m (i + 1) (drop (i + 1) cs)
use_later at m i cs c there other =
    let is : (c.slot.0 == m) ≡ false = ne_eqb c.slot.0 m other in
    use_next at m i cs c (slice_get_within cs i c there) there
    ∙ ap (λ b. if b then use_by at i c else use_from at m (i + 1) (drop (i + 1) cs)) is
