-- One more chunk of a run, and how a run ends.
use Rattle.std.proofs.Common.{◌≡◌, ℕ, ◌+◌, ◌-◌, ◌<◌, ◌≤◌, false, List, ◌∷◌, ◌++◌, length, take, drop, ap, sym, ◌∙◌, subst, add-one, arith}
use Rattle.sdh_report.specs.Written.{Written, with_part}
use Rattle.sdh_elastic.specs.History.{lasts, lengths}
use Rattle.sdh_elastic.specs.Store.{Store, StoreCameBy}
use Rattle.sdh_retime_cli.specs.Digits.{size_at, offset_at, chunk_at, chunks}
use Rattle.sdh_retime_cli.specs.Lines.{last_lines, lines_of, left_line, drift_line}
use Rattle.sdh_retime_cli.specs.Outcome.{Runs, AllRetimed, IsDrift}
use Rattle.sdh_retime_cli.proofs.Cut.{next_chunk, next_offset, length-chunks}

-- the bytes that are cut off are the chunk
pub cut_off : (digits bytes : List ℕ) (k at size : ℕ) → at ≡ offset_at digits k → size ≡ size_at digits k
    → take (at + size - at) (drop at bytes) ≡ chunk_at digits bytes k
cut_off digits bytes k at size is long =
    let n : at + size - at ≡ size = omega arith in
    ap (λ (m : ℕ). take m (drop at bytes)) (n ∙ long) ∙ ap (λ (m : ℕ). take (size_at digits k) (drop m bytes)) is

pub offset_then : (digits : List ℕ) (k at size : ℕ) → at ≡ offset_at digits k → size ≡ size_at digits k
    → at + size ≡ offset_at digits (k + 1)
offset_then digits k at size is long =
    ap (λ (m : ℕ). m + size) is ∙ ap (λ (m : ℕ). offset_at digits k + m) long ∙ sym (next_offset digits k)
    ∙ ap (offset_at digits) (sym (add-one k))

-- ---- one more turn

pub came_then : (digits bytes x : List ℕ) (k : ℕ) (s new : Store) → x ≡ chunk_at digits bytes k → StoreCameBy 0 (chunks digits bytes k) s
    → ((past : List (List ℕ)) → StoreCameBy 0 past s → StoreCameBy 0 (x ∷ past) new) → StoreCameBy 0 (chunks digits bytes (k + 1)) new
came_then digits bytes x k s new is came goes =
    subst (λ past. StoreCameBy 0 past new) (ap (λ (y : List ℕ). y ∷ chunks digits bytes k) is ∙ sym (next_chunk digits bytes k)
    ∙ ap (chunks digits bytes) (sym (add-one k))) (goes (chunks digits bytes k) came)

pub lines_then : (digits bytes x : List ℕ) (k : ℕ) (s : Store) (w new : List ℕ) → x ≡ chunk_at digits bytes k
    → StoreCameBy 0 (chunks digits bytes k) s → w ≡ lines_of (chunks digits bytes k)
    → ((past : List (List ℕ)) → StoreCameBy 0 past s → k + 1 ≡ length past + 1 → new ≡ w ++ last_lines (x ∷ past))
    → new ≡ lines_of (chunks digits bytes (k + 1))
lines_then digits bytes x k s w new is came was goes =
    let number : k + 1 ≡ length (chunks digits bytes k) + 1 = ap (λ (n : ℕ). n + 1) (sym (length-chunks digits bytes k)) in
    goes (chunks digits bytes k) came number
    ∙ ap (λ (l : List ℕ). l ++ last_lines (x ∷ chunks digits bytes k)) was
    ∙ ap (λ (y : List ℕ). lines_of (y ∷ chunks digits bytes k)) is
    ∙ ap lines_of (sym (next_chunk digits bytes k) ∙ ap (chunks digits bytes) (sym (add-one k)))

-- ---- the ends

runs : (digits bytes : List ℕ) (k at : ℕ) (s : Store) → at ≡ offset_at digits k → at ≤ length bytes → StoreCameBy 0 (chunks digits bytes k) s
    → Runs digits bytes k
runs digits bytes k at s is within came = record { there = rw (sym is) within; lasts = came.lasts }

pub done : (digits bytes : List ℕ) (k at size : ℕ) (s : Store) (w new : Written) → at ≡ offset_at digits k → size ≡ size_at digits k
    → at ≤ length bytes → StoreCameBy 0 (chunks digits bytes k) s
    → w.bytes ≡ lines_of (chunks digits bytes k) → length bytes - at < size → new ≡ with_part w (left_line (length bytes - at))
    → AllRetimed digits bytes k new.bytes
done digits bytes k at size s w new is long within came was short end = record {
  runs = runs digits bytes k at s is within came;
  short = omega (arith, next_offset digits k);
  written =
      ap (λ (t : Written). t.bytes) end ∙ ap (λ (l : List ℕ). l ++ left_line (length bytes - at)) was
      ∙ ap (λ (m : ℕ). lines_of (chunks digits bytes k) ++ left_line (length bytes - m)) is;
}

pub drifted : (digits bytes x : List ℕ) (k at size : ℕ) (s : Store) (w v new : Written) → at ≡ offset_at digits k → size ≡ size_at digits k
    → at ≤ length bytes → StoreCameBy 0 (chunks digits bytes k) s
    → w.bytes ≡ lines_of (chunks digits bytes k) → size ≤ length bytes - at → x ≡ chunk_at digits bytes k
    → ((past : List (List ℕ)) → StoreCameBy 0 past s → lasts (lengths (x ∷ past)) ≡ false) → v ≡ w → new ≡ with_part v (drift_line (k + 1))
    → IsDrift digits bytes k (k + 1) new.bytes
drifted digits bytes x k at size s w v new is long within came was there cut drift kept end = record {
  runs = runs digits bytes k at s is within came;
  there = omega (arith, next_offset digits k);
  number = add-one k;
  drifts =
      ap (λ past. lasts (lengths past)) (next_chunk digits bytes k ∙ ap (λ (y : List ℕ). y ∷ chunks digits bytes k) (sym cut))
      ∙ drift (chunks digits bytes k) came;
  written =
      ap (λ (t : Written). t.bytes) end ∙ ap (λ (t : Written). t.bytes ++ drift_line (k + 1)) kept
      ∙ ap (λ (l : List ℕ). l ++ drift_line (k + 1)) was ∙ ap (λ (n : ℕ). lines_of (chunks digits bytes k) ++ drift_line n) (add-one k);
}
