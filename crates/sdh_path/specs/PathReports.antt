-- What a watch reports of the chunks that it was given. It looks at the first three path overhead bytes, J1, B3 and C2,
-- of the VC-4s in them (ITU-T G.707 clause 9.3). The report itself is this project's own.
use Rattle.std.specs.Prelude.{ℕ, zero, suc, ◌+◌, ◌-◌, ◌*◌, ◌/◌, ◌%◌, Bool, ◌==◌, nat_lt, if◌then◌else◌, List, length, take, drop}
use Rattle.std.specs.Prelude.{slice_index, bytes_eq}
use Rattle.std.specs.List.{list_any, range_with_len}
use Rattle.sdh_basics.specs.Parity.{bip8}
use Rattle.sdh_basics.specs.Cells.{cells}
use Rattle.sdh_parity.specs.Violations.{differing_bits}
use Rattle.sdh_payload.specs.Stream.{padded, phase_of}
use Rattle.sdh_path.specs.declared.watch.PathReport.{PathReport}
use Rattle.sdh_path.specs.declared.watch.TraceWord.{TraceWord}
use Rattle.sdh_path.specs.declared.watch.TraceWord.TheVariants.{Ok, Mismatch, Short}
use Rattle.sdh_path.specs.History.{Given, bytes_of, given_value}

-- ---- one VC-4: nine rows of 261 bytes, row by row, the path overhead being the first byte of each row

-- B3, at the head of the second row
abbrev pub b3 : List ℕ → ℕ
b3 vc4 = slice_index vc4 261

-- the signal label C2, at the head of the third row
abbrev pub c2 : List ℕ → ℕ
c2 vc4 = slice_index vc4 522

-- ---- the VC-4s in some bytes, where the first of them begins at byte `first`

-- VC-4 number i, where all its bytes are there
unfoldable pub vc4_in : List ℕ → ℕ → ℕ → List ℕ
vc4_in bytes first i = take 2349 (drop (first + 2349 * i) bytes)

-- the number of VC-4s that are whole
abbrev pub vcs_in : List ℕ → ℕ → ℕ
vcs_in bytes first = (length bytes - first) / 2349

-- the number of bits in which B3 of VC-4 number i differs from the parity of the VC-4 before it; 0 for number 0, which
-- has none before it
abbrev pub b3_violations_at : List ℕ → ℕ → ℕ → ℕ
b3_violations_at bytes first zero = 0
b3_violations_at bytes first (suc i) = differing_bits (b3 (vc4_in bytes first (suc i))) (bip8 (vc4_in bytes first i))

-- the number of bits in which B3 differs from the parity of the VC-4 before, over the first k VC-4s
unfoldable pub b3_violations : List ℕ → ℕ → ℕ → ℕ
b3_violations bytes first zero = 0
b3_violations bytes first (suc i) = b3_violations bytes first i + b3_violations_at bytes first i

-- the number of VC-4s, of the first k, whose signal label is not 01, equipped
unfoldable pub label_violations : List ℕ → ℕ → ℕ → ℕ
label_violations bytes first zero = 0
label_violations bytes first (suc i) = label_violations bytes first i + (if c2 (vc4_in bytes first i) == 1 then 0 else 1)

-- the bytes J1 of all VC-4s, each of which begins with one; also that of a last VC-4 that isn't whole
unfoldable pub j1_bytes : List ℕ → ℕ → List ℕ
j1_bytes bytes first = cells (λ i. slice_index bytes (first + 2349 * i)) ((length bytes + 2348 - first) / 2349)

-- ---- the trace

-- the 64 bytes of a trace that comes over and over, from its byte r on
abbrev pub rotated : ℕ → List ℕ → List ℕ
rotated r trace = cells (λ i. slice_index trace ((r + i) % 64)) 64

-- the bytes are a rotation of the trace
unfoldable pub is_rotation : List ℕ → List ℕ → Bool
is_rotation bytes trace = list_any (λ r. bytes_eq bytes (rotated r trace)) (range_with_len 0 64)

-- the verdict on these bytes J1 where this trace is expected: the last 64 of them are a rotation of it, or not, or
-- there are fewer than 64
abbrev pub trace_word : List ℕ → List ℕ → TraceWord
trace_word trace all =
    if nat_lt (length all) 64 then Short else
    if is_rotation (drop (length all - 64) all) trace then Ok else Mismatch

-- ---- the report

-- the report on some bytes that came with this pointer value: the first VC-4 begins at the place that the value gives
-- (ITU-T G.707 clause 8.1)
abbrev pub report_on : List ℕ → List ℕ → ℕ → PathReport
report_on trace bytes value =
    let first = phase_of value in
    let vcs = vcs_in bytes first in
    record {
      vcs = vcs;
      b3 = b3_violations bytes first vcs;
      label = label_violations bytes first vcs;
      trace = trace_word (padded trace) (j1_bytes bytes first);
    }

-- the report on what a watch was given
abbrev pub path_report_of : List ℕ → List Given → PathReport
path_report_of trace past = report_on trace (bytes_of past) (given_value past)
