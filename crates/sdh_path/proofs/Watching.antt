-- What a watch keeps is what it was given, and its report is that of all of it.
use Rattle.std.proofs.Common.{◌≡◌, ◌≢◌, ℕ, zero, suc, ◌+◌, ◌-◌, ◌*◌, ◌/◌, ◌%◌, ◌<◌, ◌≤◌, Bool, true, false, List, [], ◌∷◌, ◌++◌, length}
use Rattle.std.proofs.Common.{get_or, set, drop, refl, sym, ap, ap₂, ◌∙◌, subst, arith, inl, inr}
use Rattle.std.specs.Prelude.{nat_lt, if◌then◌else◌}
use Rattle.std.proofs.lemmas.Bool.{cases_lt, eqb-true, lt-ltb, le-ltb}
use Rattle.std.proofs.lemmas.List.{length-append, length-drop, drop-append-le, get_or-drop, get_or_append_left, get_or-append_right}
use Rattle.std.proofs.lemmas.List.{get_or-set_other, get_or-set_same}
use Rattle.sdh_basics.proofs.CellsLaws.{length-cells, get_or-cells, cells-from}
use Rattle.sdh_payload.specs.Stream.{padded, phase_of}
use Rattle.sdh_path.specs.declared.watch.TraceWord.{TraceWord}
use Rattle.sdh_path.specs.declared.watch.TraceWord.TheVariants.{Ok, Mismatch, Short}
use Rattle.sdh_path.specs.History.{Given, Chunk, Ais, goes_on, bytes_of, count_of, given_value}
use Rattle.sdh_path.specs.PathReports.{b3_violations, label_violations, vcs_in, j1_bytes, rotated, is_rotation, path_report_of}
use Rattle.sdh_path.specs.Kept.{IsTallyOf, Kept, CameBy}
use Rattle.sdh_path.proofs.Tallying.{b3_from, labels_from}

-- ---- whether a chunk goes on

some_given : (past : List Given) (value : ℕ) → goes_on value past ≡ true → (0 < count_of past) × (given_value past ≡ value)
some_given [] value e = absurd (cc)
some_given (Ais ∷ past) value e = absurd (cc)
some_given (Chunk bytes last ∷ past) value e = (counted (goes_on last past), eqb-true last value e)
  where
    counted : (b : Bool) → 0 < (if b then count_of past + 1 else 1)
    counted true = omega arith
    counted false = omega arith

-- ---- what it keeps of it

phase_inside : (v : ℕ) → phase_of v < 2349
phase_inside v = omega arith

-- what is kept before any chunk
pub came_new : (trace : List ℕ) (k : Kept) → k.trace ≡ padded trace → k.value ≡ 0 → k.chunks ≡ 0 → IsTallyOf [] k.tally → CameBy trace [] k
came_new trace k trace_is value chunks counts = record {
  trace_is = trace_is;
  value_is = value;
  chunks_are = chunks;
  long = refl;
  counts = subst (λ l. IsTallyOf l k.tally) (none (phase_of 0)) counts;
  last_are = λ i h. absurd (omega arith);
}
  where
    none : (s : ℕ) → [] ≡ drop s (bytes_of [])
    none zero = refl
    none (suc s) = refl

-- what is kept after one chunk more
pub record Takes (bytes : List ℕ) (value : ℕ) (g : Bool) (k new : Kept) : Type 0 where
  pub trace : new.trace ≡ k.trace
  pub value_is : new.value ≡ value
  pub chunks : new.chunks ≡ (if g then k.chunks else 0) + 1
  pub anew : g ≡ false → IsTallyOf (drop (phase_of value) bytes) new.tally
  pub more : g ≡ true → (run : List ℕ) → IsTallyOf run k.tally → IsTallyOf (run ++ bytes) new.tally
  pub last : new.last ≡ set k.last ((if g then k.chunks else 0) % 64) (get_or bytes (phase_of value) 0)

module _ (trace : List ℕ) (past : List Given) (bytes : List ℕ) (value : ℕ) (k new : Kept) (was : CameBy trace past k)
    (whole : length bytes ≡ 2349) (places : length k.last ≡ 64) where
  abbrev s : ℕ
  s = phase_of value

  abbrev now : List Given
  now = Chunk bytes value ∷ past

  begins : goes_on value past ≡ false → Takes bytes value false k new → CameBy trace now new
  begins apart t =
      let b : bytes_of now ≡ bytes = ap (λ (g : Bool). if g then bytes_of past ++ bytes else bytes) apart in
      let n : count_of now ≡ 1 = ap (λ (g : Bool). if g then count_of past + 1 else 1) apart in
      record {
        trace_is = t.trace ∙ was.trace_is;
        value_is = t.value_is;
        chunks_are = t.chunks ∙ sym n;
        long = ap length b ∙ whole ∙ sym (ap (λ c. 2349 * c) n);
        counts = subst (λ l. IsTallyOf (drop s l) new.tally) (sym b) (t.anew refl);
        last_are = λ i h r. (
            let e : i ≡ 0 = omega (arith, n) in
            ap (λ l. get_or l (i % 64) 0) t.last ∙ ap (λ j. get_or (set k.last (0 % 64) (get_or bytes s 0)) (j % 64) 0) e
            ∙ get_or-set_same k.last 0 (get_or bytes s 0) 0 (omega arith)
            ∙ ap₂ (λ l (j : ℕ). get_or l j 0) (sym b) (let f : s ≡ s + 2349 * i = omega arith in f));
      }

  goes : goes_on value past ≡ true → Takes bytes value true k new → CameBy trace now new
  goes alike t =
      let some = some_given past value alike in
      let b : bytes_of now ≡ bytes_of past ++ bytes = ap (λ (g : Bool). if g then bytes_of past ++ bytes else bytes) alike in
      let n : count_of now ≡ count_of past + 1 = ap (λ (g : Bool). if g then count_of past + 1 else 1) alike in
      let many = some.0 in
      let inside = phase_inside value in
      let start : phase_of (given_value past) ≡ s = ap phase_of some.1 in
      let old = was.long in
      let seam : drop s (bytes_of past ++ bytes) ≡ drop s (bytes_of past) ++ bytes = drop-append-le s (bytes_of past) bytes (omega arith) in
      record {
        trace_is = t.trace ∙ was.trace_is;
        value_is = t.value_is;
        chunks_are = t.chunks ∙ ap (λ c. c + 1) was.chunks_are ∙ sym n;
        long =
            ap length b ∙ length-append (bytes_of past) bytes
            ∙ (let e : length (bytes_of past) + length bytes ≡ 2349 * (count_of past + 1) = omega arith in e)
            ∙ sym (ap (λ c. 2349 * c) n);
        counts =
            subst (λ l. IsTallyOf l new.tally) (sym seam ∙ sym (ap (drop s) b))
            (t.more refl (drop s (bytes_of past)) (subst (λ v. IsTallyOf (drop v (bytes_of past)) k.tally) start was.counts));
        last_are = λ i h r. (
            let byte = get_or bytes s 0 in
            ap (λ l. get_or l (i % 64) 0) t.last ∙ ap (λ c. get_or (set k.last (c % 64) byte) (i % 64) 0) was.chunks_are
            ∙ elim (cases_lt i (count_of past)) [
              | inl before ↦ (
                  let other : i % 64 ≢ count_of past % 64 = omega (arith, n) in
                  get_or-set_other k.last (count_of past % 64) (i % 64) byte 0 other
                  ∙ was.last_are i before (omega (arith, n))
                  ∙ ap (λ v. get_or (bytes_of past) (v + 2349 * i) 0) start
                  ∙ sym (get_or_append_left (bytes_of past) bytes 0 (s + 2349 * i) (omega arith)))
              | inr after ↦ (
                  let e : i ≡ count_of past = omega (arith, n) in
                  let at : s + 2349 * i - 2349 * count_of past ≡ s = omega arith in
                  ap (λ j. get_or (set k.last (count_of past % 64) byte) (j % 64) 0) e
                  ∙ get_or-set_same k.last (count_of past % 64) byte 0 (omega arith)
                  ∙ ap (λ j. get_or bytes j 0) (sym at)
                  ∙ sym (get_or-append_right (bytes_of past) bytes (2349 * count_of past) (s + 2349 * i) 0 old (omega arith)))
            ]
            ∙ ap (λ l. get_or l (s + 2349 * i) 0) (sym b));
      }

  pub came_chunk : (g : Bool) → g ≡ goes_on value past → Takes bytes value g k new → CameBy trace now new
  came_chunk true e t = goes (sym e) t
  came_chunk false e t = begins (sym e) t

-- ---- what it reports

module _ (trace : List ℕ) (past : List Given) (k : Kept) (came : CameBy trace past k) where
  abbrev x : List ℕ
  x = bytes_of past

  abbrev first : ℕ
  first = phase_of (given_value past)

  pub vcs_are : k.tally.index < 2349 → k.tally.vcs ≡ vcs_in x first
  vcs_are inside =
      let l = came.counts.long in
      let d = length-drop first x in
      omega arith

  pub b3_is : k.tally.index < 2349 → k.tally.b3 ≡ b3_violations x first (vcs_in x first)
  b3_is inside = came.counts.b3_is ∙ b3_from x first k.tally.vcs ∙ ap (b3_violations x first) (vcs_are inside)

  pub label_is : k.tally.index < 2349 → k.tally.label ≡ label_violations x first (vcs_in x first)
  label_is inside = came.counts.label_is ∙ labels_from x first k.tally.vcs ∙ ap (label_violations x first) (vcs_are inside)

  -- as many bytes J1 as chunks
  length-traces : length (j1_bytes x first) ≡ count_of past
  unfolding j1_bytes
  length-traces =
      length-cells (λ i. get_or x (first + 2349 * i) 0) ((length x + 2348 - first) / 2349)
      ∙ (let l = came.long in let h = phase_inside (given_value past) in omega arith)

  traces_at : (i : ℕ) → i < count_of past → get_or (j1_bytes x first) i 0 ≡ get_or x (first + 2349 * i) 0
  unfolding j1_bytes
  traces_at i h =
      get_or-cells (λ j. get_or x (first + 2349 * j) 0) ((length x + 2348 - first) / 2349) i 0
      (let l = came.long in let p = phase_inside (given_value past) in omega arith)

  pub short_trace : k.chunks < 64 → Short ≡ (path_report_of trace past).trace
  short_trace few =
      let n = length-traces in
      let t : nat_lt (length (j1_bytes x first)) 64 ≡ true = lt-ltb _ 64 (let c = came.chunks_are in omega arith) in
      sym (ap (λ (b : Bool). if b then Short else if is_rotation (drop (length (j1_bytes x first) - 64) (j1_bytes x first)) (padded trace)
      then Ok else Mismatch) t)

  -- the last 64 of them in their order
  last_are : 64 ≤ k.chunks → rotated (k.chunks % 64) k.last ≡ drop (length (j1_bytes x first) - 64) (j1_bytes x first)
  last_are many =
      let n = length-traces in
      let c = came.chunks_are in
      let from = length (j1_bytes x first) - 64 in
      cells-from _ 64 0 (drop from (j1_bytes x first)) (length-drop from (j1_bytes x first)
      ∙ (let e : length (j1_bytes x first) - from ≡ 64 = omega arith in e))
      (λ i h. (
      let j = from + i in
      let place : (k.chunks % 64 + i) % 64 ≡ j % 64 = omega arith in
      ap (λ p. get_or k.last p 0) place ∙ came.last_are j (omega arith) (omega arith) ∙ sym (traces_at j (omega arith))
      ∙ sym (get_or-drop from (j1_bytes x first) i 0)))

  pub long_trace : (all : List ℕ) (b : Bool) → 64 ≤ k.chunks → all ≡ rotated (k.chunks % 64) k.last → b ≡ is_rotation all k.trace
      → (if b then Ok else Mismatch) ≡ (path_report_of trace past).trace
  long_trace all b many is found =
      let n = length-traces in
      let t : nat_lt (length (j1_bytes x first)) 64 ≡ false = le-ltb _ 64 (let c = came.chunks_are in omega arith) in
      let r : b ≡ is_rotation (drop (length (j1_bytes x first) - 64) (j1_bytes x first)) (padded trace) =
      found ∙ ap₂ is_rotation (is ∙ last_are many) came.trace_is in
      ap (λ (y : Bool). if y then Ok else Mismatch) r
      ∙ sym (ap (λ (y : Bool). if y then Short else if is_rotation (drop (length (j1_bytes x first) - 64) (j1_bytes x first)) (padded trace)
      then Ok else Mismatch) t)

pub report_is : (trace : List ℕ) (past : List Given) (k : Kept) (word : TraceWord) → CameBy trace past k → k.tally.index < 2349
    → word ≡ (path_report_of trace past).trace
    → (record { vcs = k.tally.vcs; b3 = k.tally.b3; label = k.tally.label; trace = word }) ≡ path_report_of trace past
report_is trace past k word came inside said = λ i. record {
  vcs = vcs_are trace past k came inside i;
  b3 = b3_is trace past k came inside i;
  label = label_is trace past k came inside i;
  trace = said i;
}
