-- Where windows end.
use Rattle.std.proofs.Common.{◌≡◌, ℕ, ◌+◌, ◌-◌, ◌*◌, ◌%◌, ◌<◌, ◌≤◌, Option, Some, None, length, refl, ap, arith}
use Rattle.sdh_node.specs.Rings.Rounds.{World}
use Rattle.sdh_node.specs.Rings.Runs.{run}
use Rattle.sdh_node.specs.Rings.Quiet.{settles_in}
use Rattle.sdh_rounds.proofs.FirstWindows.{never_if}
use Rattle.sdh_laws.proofs.hearing.Staying.{left_run}
use Rattle.sdh_laws.specs.Converging.Laws.{WindowBy, CalmEndsWindows}
use Rattle.sdh_node.specs.Stations.{adm}

-- the last multiple of 128 of 128 numbers
at_place : (s : ℕ) → (s - s % 128) % 128 ≡ 0
at_place s = omega arith

pub calm_ends_windows : CalmEndsWindows
calm_ends_windows w first calm =
    let a = first + 3 * length w.ring.ids in
    let s = w.ring.rounds + a + 126 in
    let low : s % 128 < 128 = omega arith in
    let k = a + 127 - s % 128 in
    let left = left_run k w in
    let size : length (run k w).ring.ids ≡ length w.ring.ids = ap length left.ids in
    let number : (run k w).ring.rounds ≡ w.ring.rounds + k = left.rounds in
    let place : ((run k w).ring.rounds - 1) % 128 ≡ 0 =
    (let e : (run k w).ring.rounds - 1 ≡ s - s % 128 = omega arith in let z = at_place s in omega arith) in
    record {
      ends = k;
      soon = omega arith;
      window = record { long = omega arith; calm = λ j early late. calm j (omega arith); place = place };
    }

-- where a window ends in time, a step answers
pub answers_by : (w : World) (most limit : ℕ) → most ≤ limit → WindowBy w most → (k : ℕ) × (settles_in w limit ≡ Some k)
answers_by w most limit large by = by_answer (settles_in w limit) refl
  where
    by_answer : (o : Option ℕ) → settles_in w limit ≡ o → (k : ℕ) × (settles_in w limit ≡ Some k)
    by_answer None e = absurd (never_if adm w limit e by.ends (let z = by.soon in omega arith) by.window)
    by_answer (Some k) e = (k, e)
