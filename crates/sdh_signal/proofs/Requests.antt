-- The requests of the spans: none is above the highest, and when a request is applied.
use Rattle.std.proofs.Common.{◌≡◌, ℕ, ◌<◌, ◌≤◌, List, ap}
use Rattle.std.specs.Prelude.{◌==◌, ◌&&◌, nat_le, nat_lt, if◌then◌else◌}
use Rattle.std.proofs.lemmas.Bool.{le-leb, lt-leb}
use Rattle.sdh_restoration.specs.Applied.{highest, has_one_leader, applies}

pub applies_top : (rs : List ℕ) (r : ℕ) → 11 ≤ highest rs → applies rs r ≡ nat_le 11 r
unfolding applies
applies_top rs r h =
    ap (λ b. if b then nat_le 11 r else (nat_lt 0 (highest rs) && has_one_leader rs) && (r == highest rs)) (le-leb 11 (highest rs) h)

pub applies_low : (rs : List ℕ) (r : ℕ) → highest rs < 11 → applies rs r
    ≡ ((nat_lt 0 (highest rs) && has_one_leader rs) && (r == highest rs))
unfolding applies
applies_low rs r h =
    ap (λ b. if b then nat_le 11 r else (nat_lt 0 (highest rs) && has_one_leader rs) && (r == highest rs)) (lt-leb 11 (highest rs) h)
