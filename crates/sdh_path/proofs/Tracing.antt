-- Traces: their padding, and one that is begun at another of its bytes.
use Rattle.std.proofs.Common.{◌≡◌, ℕ, ◌+◌, ◌-◌, ◌%◌, ◌<◌, ◌≤◌, true, List, length, get_or, replicate, bytes_eq, sym, ap, ◌∙◌, arith}
use Rattle.std.specs.List.{range_with_len}
use Rattle.std.proofs.lemmas.List.{length-append, length-replicate}
use Rattle.std.proofs.lemmas.List.FromFn.{length-range_with_len, get_or-range_with_len}
use Rattle.std.proofs.lemmas.List.Folds.{list_any_at}
use Rattle.std.proofs.lemmas.Slice.Eq.{bytes_eq-Decides}
use Rattle.sdh_basics.proofs.CellsLaws.{cells-from}
use Rattle.sdh_payload.specs.Stream.{padded}
use Rattle.sdh_path.specs.PathReports.{rotated, is_rotation}

pub length-padded : (trace : List ℕ) → length trace ≤ 64 → length (padded trace) ≡ 64
unfolding padded
length-padded trace few =
    length-append trace (replicate (64 - length trace) 0x20) ∙ (let r = length-replicate {A = ℕ} (64 - length trace) 0x20 in omega arith)

-- 64 bytes that are those of a trace from byte r on
pub rotated_is : (trace bytes : List ℕ) (r : ℕ) → length bytes ≡ 64 → ((i : ℕ) → i < 64 → get_or bytes i 0 ≡ get_or trace ((r + i) % 64) 0)
    → bytes ≡ rotated r trace
rotated_is trace bytes r long each = sym (cells-from (λ i. get_or trace ((r + i) % 64) 0) 64 0 bytes long (λ k h. sym (each k h)))

pub is_rotation_by : (trace bytes : List ℕ) (r : ℕ) → r < 64 → bytes ≡ rotated r trace → is_rotation bytes trace ≡ true
unfolding is_rotation
is_rotation_by trace bytes r inside same =
    let all : length (range_with_len 0 64) ≡ 64 = length-range_with_len 0 64 in
    let here = get_or-range_with_len 0 64 r 0 inside in
    list_any_at (λ k. bytes_eq bytes (rotated k trace)) (range_with_len 0 64) r 0 (omega arith)
    ((bytes_eq-Decides _ _).1 (same ∙ ap (λ k. rotated k trace) (sym (here ∙ (let e : 0 + r ≡ r = omega arith in e)))))
