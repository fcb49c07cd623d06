-- What a port sends shows no fault.
use Rattle.std.proofs.Common.{◌≡◌, ℕ, zero, suc, ◌+◌, ◌-◌, ◌*◌, ◌/◌, ◌%◌, ◌<◌, ◌≤◌, Bool, true, false, List, [], ◌++◌, length, get_or, take}
use Rattle.std.proofs.Common.{drop, refl, sym, ap, ap₂, ◌∙◌, arith, inl, inr}
use Rattle.std.specs.Prelude.{◌==◌, nat_lt, if◌then◌else◌}
use Rattle.std.proofs.lemmas.Bool.{cases_lt, eq-eqb, lt-ltb, le-ltb, ne_eqb}
use Rattle.std.proofs.lemmas.List.{length-drop, get_or-drop}
use Rattle.sdh_basics.specs.Parity.{bip8}
use Rattle.sdh_basics.proofs.CellsLaws.{cells-zero, length-cells, get_or-cells, cells-from}
use Rattle.sdh_basics.proofs.Parts.{length-part, get_or-part}
use Rattle.sdh_payload.specs.declared.chunk.ChunkForm.{ChunkForm}
use Rattle.sdh_payload.specs.declared.chunk.ChunkForm.TheVariants.{Plain, Short, Long}
use Rattle.sdh_payload.specs.declared.clock.Turn.{Turn}
use Rattle.sdh_payload.specs.declared.clock.Turn.TheVariants.{Up, Down}
use Rattle.sdh_payload.specs.Customer.{Customer}
use Rattle.sdh_payload.specs.Clock.{Clock, with_waiting, next_form, after_form, ticked}
use Rattle.sdh_payload.specs.Stream.{padded, phase_of, start_of, vc4_byte, vc4_front, b3_of, container_byte, stream_byte, stream_from}
use Rattle.sdh_payload.proofs.Chunks.{length-stream_from, get_or-stream_from, stream_from-append}
use Rattle.sdh_payload.proofs.Containers.{container_byte-at, vc4_byte-overhead, b3_of-more}
use Rattle.sdh_path.specs.declared.watch.TraceWord.TheVariants as word
use Rattle.sdh_path.specs.PathReports.{vc4_in, vcs_in, b3_violations_at, b3_violations, label_violations, j1_bytes, is_rotation, trace_word}
use Rattle.sdh_path.specs.PathReports.{report_on}
use Rattle.sdh_path.proofs.Tracing.{rotated_is, is_rotation_by}
use Rattle.sdh_path.specs.History.{bytes_of, given_value}
use Rattle.sdh_path.specs.Laws.{clean_report, BeginsAt, FeedsAreClean, chunks_from, ChunksAreClean, ClocksAreInStep}
use Rattle.sdh_parity.specs.Violations.{differing_bits}
use Rattle.sdh_parity.proofs.Differing.{differing_bits-same}

-- ---- a run of a stream

module _ (port : Customer) (p n value : ℕ) (some : 1 ≤ n) (small : value ≤ 782) (begins : BeginsAt port.offset p value) where
  abbrev x : List ℕ
  x = stream_from port p (2349 * n)

  abbrev s : ℕ
  s = phase_of value

  -- the number of the VC-4 that begins first
  abbrev first : ℕ
  first = (p + start_of port.offset + phase_of value) / 2349

  at_first : p + start_of port.offset + phase_of value ≡ 2349 * first
  at_first = omega (arith, begins)

  byte_at : (i k : ℕ) → k < 2349 → s + 2349 * i + k < 2349 * n
      → get_or x (s + 2349 * i + k) 0 ≡ vc4_byte port (b3_of port (first + i)) (first + i) k
  unfolding stream_byte
  byte_at i k h inside =
      let e : p + (s + 2349 * i + k) + start_of port.offset ≡ 2349 * (first + i) + k = omega (arith, at_first) in
      get_or-stream_from port p (2349 * n) (s + 2349 * i + k) 0 inside ∙ ap (container_byte port) e ∙ container_byte-at port (first + i) k h

  long : length x ≡ 2349 * n
  long = length-stream_from port p (2349 * n)

  vc4_is : (i : ℕ) → s + 2349 * (i + 1) ≤ 2349 * n → vc4_in x s i ≡ vc4_front port (b3_of port (first + i)) (first + i) 2349
  unfolding vc4_in
  vc4_is i fits =
      sym (cells-from (vc4_byte port (b3_of port (first + i)) (first + i)) 2349 0 (take 2349 (drop (s + 2349 * i) x))
      (length-part (s + 2349 * i) 2349 x (omega (arith, long)))
      (λ k h. sym (get_or-part (s + 2349 * i) 2349 x k h ∙ byte_at i k h (omega arith))))

  -- the bytes B3 and C2 of the VC-4s in a run of the stream
  b3_byte : (i : ℕ) → s + 2349 * (i + 1) ≤ 2349 * n → get_or (vc4_in x s i) 261 0 ≡ b3_of port (first + i)
  b3_byte i fits =
      ap (λ l. get_or l 261 0) (vc4_is i fits) ∙ get_or-cells (vc4_byte port (b3_of port (first + i)) (first + i)) 2349 261 0 (omega arith)
      ∙ vc4_byte-overhead port (b3_of port (first + i)) (first + i) 261 refl

  label_byte : (i : ℕ) → s + 2349 * (i + 1) ≤ 2349 * n → get_or (vc4_in x s i) 522 0 ≡ 1
  label_byte i fits =
      ap (λ l. get_or l 522 0) (vc4_is i fits) ∙ get_or-cells (vc4_byte port (b3_of port (first + i)) (first + i)) 2349 522 0 (omega arith)
      ∙ vc4_byte-overhead port (b3_of port (first + i)) (first + i) 522 refl

  shown_none : (i : ℕ) → s + 2349 * (i + 1) ≤ 2349 * n → b3_violations_at x s i ≡ 0
  shown_none zero fits = refl
  shown_none (suc i) fits =
      let one : first + suc i ≡ first + i + 1 = omega arith in
      ap₂ differing_bits (b3_byte (suc i) fits ∙ ap (b3_of port) one) (ap bip8 (vc4_is i (omega arith)) ∙ sym (b3_of-more port (first + i)))
      ∙ differing_bits-same (b3_of port (first + i + 1))

  b3_none : (k : ℕ) → s + 2349 * k ≤ 2349 * n → b3_violations x s k ≡ 0
  unfolding b3_violations
  b3_none zero fits = refl
  b3_none (suc k) fits = ap₂ (λ a b. a + b) (b3_none k (omega arith)) (shown_none k (omega arith))

  labels_none : (k : ℕ) → s + 2349 * k ≤ 2349 * n → label_violations x s k ≡ 0
  unfolding label_violations
  labels_none zero fits = refl
  labels_none (suc k) fits =
      let label : get_or (vc4_in x s k) 522 0 ≡ 1 = label_byte k (omega arith) in
      ap₂ (λ a b. a + b) (labels_none k (omega arith)) (ap (λ (b : ℕ). if b == 1 then 0 else 1) label)

  inside : s < 2349
  inside = omega arith

  vcs_are : vcs_in x s ≡ (if value == 522 then n else n - 1)
  vcs_are = elim (cases_lt s 1) [
    | inl whole ↦ (
        let at : value ≡ 522 = omega arith in
        let t : (value == 522) ≡ true = eq-eqb value 522 at in
        let k : vcs_in x s ≡ n = omega (arith, long) in
        k ∙ sym (ap (λ (b : Bool). if b then n else n - 1) t))
    | inr part ↦ (
        let other : (value == 522) ≡ false = ne_eqb value 522 (λ e. omega arith) in
        let k : vcs_in x s ≡ n - 1 = omega (arith, long) in
        k ∙ sym (ap (λ (b : Bool). if b then n else n - 1) other))
  ]

  vcs_fit : s + 2349 * vcs_in x s ≤ 2349 * n
  vcs_fit = omega (arith, long, inside)

  -- ---- the trace

  length-traces : length (j1_bytes x s) ≡ n
  unfolding j1_bytes
  length-traces =
      length-cells (λ i. get_or x (s + 2349 * i) 0) ((length x + 2348 - s) / 2349) ∙ (let l = long in let h = inside in omega arith)

  trace_at : (i : ℕ) → i < n → get_or (j1_bytes x s) i 0 ≡ get_or (padded port.trace) ((first + i) % 64) 0
  unfolding j1_bytes
  trace_at i h =
      let none : s + 2349 * i ≡ s + 2349 * i + 0 = omega arith in
      get_or-cells (λ j. get_or x (s + 2349 * j) 0) ((length x + 2348 - s) / 2349) i 0 (let l = long in let k = inside in omega arith)
      ∙ ap (λ j. get_or x j 0) none ∙ byte_at i 0 (omega arith) (let k = inside in omega arith)
      ∙ vc4_byte-overhead port (b3_of port (first + i)) (first + i) 0 refl

  word_is : trace_word (padded port.trace) (j1_bytes x s) ≡ (if nat_lt n 64 then word.Short else word.Ok)
  word_is = elim (cases_lt n 64) [
    | inl few ↦ (
        let t : nat_lt (length (j1_bytes x s)) 64 ≡ true = lt-ltb _ 64 (let l = length-traces in omega arith) in
        let u : nat_lt n 64 ≡ true = lt-ltb n 64 few in
        ap (λ (b : Bool). if b then word.Short else if is_rotation (drop (length (j1_bytes x s) - 64) (j1_bytes x s)) (padded port.trace)
        then word.Ok else word.Mismatch) t
        ∙ sym (ap (λ (b : Bool). if b then word.Short else word.Ok) u))
    | inr many ↦ (
        let t : nat_lt (length (j1_bytes x s)) 64 ≡ false = le-ltb _ 64 (let l = length-traces in omega arith) in
        let u : nat_lt n 64 ≡ false = le-ltb n 64 many in
        let from = length (j1_bytes x s) - 64 in
        let r = (first + n) % 64 in
        let last = drop from (j1_bytes x s) in
        let each : (i : ℕ) → i < 64 → get_or last i 0 ≡ get_or (padded port.trace) ((r + i) % 64) 0 = λ i h. (
        let l = length-traces in
        let place : (first + (from + i)) % 64 ≡ (r + i) % 64 = omega arith in
        get_or-drop from (j1_bytes x s) i 0 ∙ trace_at (from + i) (omega arith) ∙ ap (λ j. get_or (padded port.trace) j 0) place) in
        let found =
        is_rotation_by (padded port.trace) last r (omega arith)
        (rotated_is (padded port.trace) last r (length-drop from (j1_bytes x s) ∙ (let l = length-traces in omega arith)) each) in
        ap (λ (b : Bool). if b then word.Short else if is_rotation last (padded port.trace) then word.Ok else word.Mismatch) t
        ∙ ap (λ (b : Bool). if b then word.Ok else word.Mismatch) found
        ∙ sym (ap (λ (b : Bool). if b then word.Short else word.Ok) u))
  ]

  clean : report_on port.trace x value ≡ clean_report n value
  clean =
      λ i. record { vcs = vcs_are i; b3 = b3_none (vcs_in x s) vcs_fit i; label = labels_none (vcs_in x s) vcs_fit i; trace = word_is i }

pub feeds_are_clean : FeedsAreClean
feeds_are_clean port p n value some small begins = clean port p n value some small begins

-- ---- chunk by chunk

none_sent : (port : Customer) (p : ℕ) → [] ≡ stream_from port p 0
unfolding stream_from
none_sent port p = sym (cells-zero _)

bytes_given : (port : Customer) (p value k : ℕ) → bytes_of (chunks_from port p value k) ≡ stream_from port p (2349 * k)
bytes_given port p value zero = none_sent port p
bytes_given port p value (suc zero) =
    ap₂ (stream_from port) (let e : p + 2349 * 0 ≡ p = omega arith in e) (let e : 2349 ≡ 2349 * suc zero = omega arith in e)
bytes_given port p value (suc (suc k)) =
    let chunk = stream_from port (p + 2349 * suc k) 2349 in
    let same : (value == value) ≡ true = eq-eqb value value refl in
    ap (λ (b : Bool). if b then bytes_of (chunks_from port p value (suc k)) ++ chunk else chunk) same
    ∙ ap (λ l. l ++ chunk) (bytes_given port p value (suc k))
    ∙ sym (stream_from-append port p (2349 * suc k) 2349)
    ∙ ap (stream_from port p) (let e : 2349 * suc k + 2349 ≡ 2349 * suc (suc k) = omega arith in e)

value_given : (port : Customer) (p value n : ℕ) → 1 ≤ n → given_value (chunks_from port p value n) ≡ value
value_given port p value zero some = absurd (omega arith)
value_given port p value (suc k) some = refl

pub chunks_are_clean : ChunksAreClean
chunks_are_clean port p n value some small begins =
    ap₂ (report_on port.trace) (bytes_given port p value n) (value_given port p value n some) ∙ clean port p n value some small begins

-- ---- clocks

in_step_after : (offset : ℕ) (f : ChunkForm) (c : Clock) → BeginsAt offset c.sent c.value
    → BeginsAt offset (after_form f c).sent (after_form f c).value
in_step_after offset Plain c is = omega (arith, is)
in_step_after offset Short c is = omega (arith, is)
in_step_after offset Long c is = omega (arith, is)

in_step_told : (offset : ℕ) (turn : Turn) (count : ℕ) (c : Clock) → BeginsAt offset c.sent c.value
    → BeginsAt offset (with_waiting turn count c).sent (with_waiting turn count c).value
in_step_told offset Up count c is = is
in_step_told offset Down count c is = is

in_step_went : (offset : ℕ) (c : Clock) → BeginsAt offset c.sent c.value → BeginsAt offset (ticked c).sent (ticked c).value
unfolding ticked
in_step_went offset c is = in_step_after offset (next_form c) c is

in_step_first : (offset : ℕ) → BeginsAt offset 0 offset
in_step_first offset = omega arith

pub clocks_are_in_step : ClocksAreInStep
clocks_are_in_step = record { first = λ offset small. in_step_first offset; told = in_step_told; went = in_step_went }
