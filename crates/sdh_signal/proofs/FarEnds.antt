-- The first position on the way round that passes a test.
use Rattle.std.proofs.Common.{◌≡◌, ℕ, ◌<◌, suc, Bool, true, false, Some, List, find, slice_get, ap, ◌∙◌, arith}
use Rattle.std.proofs.lemmas.List.Folds.{find_at}
use Rattle.std.proofs.lemmas.List.FromFn.{length-map-range_with_len, get_or-map-range_with_len}
use Rattle.std.proofs.lemmas.List.Sums.{position_or_len_is}
use Rattle.std.proofs.lemmas.Option.{slice_get-get_or}
use Rattle.sdh_ringmap.specs.Steps.{going}
use Rattle.sdh_ringmap.specs.declared.Side.{Side}
use Rattle.sdh_signal.specs.Settled.{next_positions}

pub first_position : (n : ℕ) (d : Side) (p m k : ℕ) (test : ℕ → Bool) → k < m → ((j : ℕ) → j < k → test (going n d p (suc j)) ≡ false)
    → test (going n d p (suc k)) ≡ true
    → find test (next_positions n d p m) ≡ Some (going n d p (suc k))
first_position n d p m k test h near there =
    let next : List ℕ = next_positions n d p m in
    let long = length-map-range_with_len (going n d p) 1 m in
    let at = λ (j : ℕ) (less : j < m). get_or-map-range_with_len (going n d p) 1 m j (suc j) 0 less (omega arith) in
    find_at test next
    ∙ ap (slice_get next) (position_or_len_is test next k 0 (omega arith) (λ j less. ap test (at j (omega arith)) ∙ near j less)
    (λ less. ap test (at k h) ∙ there))
    ∙ slice_get-get_or next k 0 (omega arith)
    ∙ ap (λ q. Some q) (at k h)
