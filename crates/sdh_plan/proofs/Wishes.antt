-- What a table asks for, from its parts.
use Rattle.std.proofs.Common.{◌≡◌, ℕ, ℤ, List, Option, Some, None, refl, codes}
use Rattle.std.specs.Option.{option_zip}
use Rattle.toml.specs.Data.{Members}
use Rattle.sdh_circuits.specs.Checks.{Wish}
use Rattle.sdh_plan.specs.Document.{◌>>=◌, integer_at, text_at}
use Rattle.sdh_plan.specs.Circuits.{wish_in, text_or, integer_or_0}
use Rattle.sdh_plan.specs.Wishes.{way_in, both_texts, traces_in, offsets_in}

-- what is asked for
abbrev asked : List ℕ → ℤ → ℤ → ℤ → List ℕ → List ℕ → List ℕ → List ℕ → ℤ → ℤ → Wish
asked name from to slot text_a text_b trace_a trace_b offset_a offset_b = record {
  name = name;
  from = from;
  to = to;
  slot = slot;
  offset_a = offset_a;
  offset_b = offset_b;
  text_a = text_a;
  text_b = text_b;
  trace_a = trace_a;
  trace_b = trace_b;
}

abbrev parted : List ℕ → Option ((ℤ × ℤ) × ℤ) → Option (List ℕ × List ℕ) → Option (List ℕ × List ℕ) → Option (ℤ × ℤ)
    → Option Wish
parted name way texts traces offsets = do
  w ← way
  t ← texts
  r ← traces
  o ← offsets
  Some (asked name w.0.0 w.0.1 w.1 t.0 t.1 r.0 r.1 o.0 o.1)

behind_name : (name : List ℕ) (from to slot : Option ℤ) (text_a text_b trace_a trace_b : Option (List ℕ))
    (offset_a offset_b : Option ℤ)
    → (from >>= λ f. to >>= λ t. slot >>= λ s. text_a >>= λ a. text_b >>= λ b. trace_a >>= λ c. trace_b >>= λ d.
    offset_a >>= λ x. offset_b >>= λ y. Some (asked name f t s a b c d x y))
    ≡ parted name (option_zip (option_zip from to) slot) (option_zip text_a text_b) (option_zip trace_a trace_b)
    (option_zip offset_a offset_b)
behind_name name None to slot ta tb ra rb oa ob = refl
behind_name name (Some f) None slot ta tb ra rb oa ob = refl
behind_name name (Some f) (Some t) None ta tb ra rb oa ob = refl
behind_name name (Some f) (Some t) (Some s) None tb ra rb oa ob = refl
behind_name name (Some f) (Some t) (Some s) (Some a) None ra rb oa ob = refl
behind_name name (Some f) (Some t) (Some s) (Some a) (Some b) None rb oa ob = refl
behind_name name (Some f) (Some t) (Some s) (Some a) (Some b) (Some c) None oa ob = refl
behind_name name (Some f) (Some t) (Some s) (Some a) (Some b) (Some c) (Some d) None ob = refl
behind_name name (Some f) (Some t) (Some s) (Some a) (Some b) (Some c) (Some d) (Some x) None = refl
behind_name name (Some f) (Some t) (Some s) (Some a) (Some b) (Some c) (Some d) (Some x) (Some y) = refl

pub without_name : (ms : Members) → text_at (codes "name") ms ≡ None → wish_in ms ≡ None
unfolding wish_in
without_name ms e = rw e refl

pub with_name : (ms : Members) (name : List ℕ) → text_at (codes "name") ms ≡ Some name
    → wish_in ms ≡ parted name (way_in ms) (both_texts ms) (traces_in name ms) (offsets_in ms)
unfolding wish_in way_in both_texts traces_in offsets_in
with_name ms name e =
    rw e (behind_name name (integer_at (codes "from") ms) (integer_at (codes "to") ms) (integer_at (codes "slot") ms)
    (text_at (codes "text_a") ms) (text_at (codes "text_b") ms)
    (text_or name (codes "trace_a") ms) (text_or name (codes "trace_b") ms)
    (integer_or_0 (codes "offset_a") ms) (integer_or_0 (codes "offset_b") ms))

-- A table that lacks a part asks for nothing.
pub without_way : (ms : Members) (name : List ℕ) → text_at (codes "name") ms ≡ Some name → way_in ms ≡ None
    → wish_in ms ≡ None
without_way ms name n e = rw (with_name ms name n, e) refl

pub without_texts : (ms : Members) (name : List ℕ) (way : (ℤ × ℤ) × ℤ)
    → text_at (codes "name") ms ≡ Some name → way_in ms ≡ Some way → both_texts ms ≡ None → wish_in ms ≡ None
without_texts ms name way n w e = rw (with_name ms name n, w, e) refl

pub without_traces : (ms : Members) (name : List ℕ) (way : (ℤ × ℤ) × ℤ) (texts : List ℕ × List ℕ)
    → text_at (codes "name") ms ≡ Some name → way_in ms ≡ Some way → both_texts ms ≡ Some texts → traces_in name ms ≡ None
    → wish_in ms ≡ None
without_traces ms name way texts n w t e = rw (with_name ms name n, w, t, e) refl

pub without_offsets : (ms : Members) (name : List ℕ) (way : (ℤ × ℤ) × ℤ) (texts traces : List ℕ × List ℕ)
    → text_at (codes "name") ms ≡ Some name → way_in ms ≡ Some way → both_texts ms ≡ Some texts
    → traces_in name ms ≡ Some traces → offsets_in ms ≡ None → wish_in ms ≡ None
without_offsets ms name way texts traces n w t r e = rw (with_name ms name n, w, t, r, e) refl

-- what a table with all parts asks for
pub with_all : (ms : Members) (name : List ℕ) (way : (ℤ × ℤ) × ℤ) (texts traces : List ℕ × List ℕ) (offsets : ℤ × ℤ)
    → text_at (codes "name") ms ≡ Some name → way_in ms ≡ Some way → both_texts ms ≡ Some texts
    → traces_in name ms ≡ Some traces → offsets_in ms ≡ Some offsets
    → wish_in ms ≡ Some (asked name way.0.0 way.0.1 way.1 texts.0 texts.1 traces.0 traces.1 offsets.0 offsets.1)
with_all ms name way texts traces offsets n w t r o = rw (with_name ms name n, w, t, r, o) refl
