-- A text that is written piece by piece.
use Rattle.std.proofs.Common.{◌≡◌, ℕ, ◌+◌, ◌<◌, ◌≤◌, Bool, List, [], ◌++◌, length, take, Option, Result, Ok, Err, IsErr, OnOk, OnErr, refl}
use Rattle.std.proofs.Common.{sym, ap, ◌∙◌, subst, arith}
use Rattle.std.specs.Io.KnownBytes.{Appends}
use Rattle.std.proofs.KnownBytes.{Appends-nil, Appends-trans}
use Rattle.std.proofs.Math.Seq.{take-append-le, take-append-add}
use Rattle.std.proofs.lemmas.List.{length-append}
use Rattle.sdh_basics.specs.Causes.{Rose, IsCounted, one_more}
use Rattle.sdh_outside.specs.Writing.{AppendsFewer, Wrote}

no_err : {T : Type 0} (E : Type 0) (x : T) → IsErr {T = T} {E = E} (Ok x) → ⊥
no_err E x d = grind (arith, d)

-- a count that rose from y on rose from any smaller or equal x on
pub rose : (x y z : ℕ) → x ≤ y → Rose y z → Rose x z
rose x y z later h = omega (arith, later, h)

-- a beginning of a text, after what was appended before
pub fewer_behind : (a b c : Option (List ℕ)) (s t : List ℕ) → Appends a b s → AppendsFewer b c t → AppendsFewer a c (s ++ t)
fewer_behind a b c s t whole front =
    let n = front.0 in
    let same : take (length s + n) (s ++ t) ≡ s ++ take n t = take-append-add s t n in (
      length s + n,
      omega (arith, front.1, length-append s t),
      subst (Appends a c) (sym same) (Appends-trans a b c s (take n t) whole front.2),
    )

module _ {T E : Type 0} (exact : Bool) where
  -- a piece was written whole, and no write failed
  pub whole : (a b : Option (List ℕ)) (x : ℕ) (s : List ℕ) (t : T) → Appends a b s → Wrote {T = T} {E = E} exact a b x x s (Ok t)
  whole a b x s t all = record {
    ok = all;
    front = tt;
    fault = tt;
    later = omega arith;
    counted = record { one = λ e fault. absurd (no_err E t fault); none = λ e no. refl };
  }

  -- nothing is to be written
  pub nothing : (a : Option (List ℕ)) (x : ℕ) (t : T) → Wrote {T = T} {E = E} exact a a x x [] (Ok t)
  nothing a x t = whole a a x [] t (Appends-nil a)

  -- a piece, and the next one
  pub after : (a b c : Option (List ℕ)) (x y z : ℕ) (s t : List ℕ) (ok : T) (r : Result T E) → Wrote {T = T} {E = E} exact a b x y s (Ok ok)
      → Wrote exact b c y z t r → Wrote exact a c x z (s ++ t) r
  after a b c x y z s t ok (Ok next) f g = record {
    ok = Appends-trans a b c s t f.ok g.ok;
    front = tt;
    fault = tt;
    later = omega (arith, f.later, g.later);
    counted = record { one = λ e fault. absurd (no_err E next fault); none = λ e no. g.counted.none e no ∙ f.counted.none e (no_err E ok) };
  }
  after a b c x y z s t ok (Err e) f g = record {
    ok = tt;
    front = fewer_behind a b c s t f.ok g.front;
    fault = rose x y z f.later g.fault;
    later = omega (arith, f.later, g.later);
    counted = record {
      one = λ same fault. g.counted.one same fault ∙ ap one_more (f.counted.none same (no_err E ok));
      none = λ same no. absurd (no refl);
    };
  }

  -- where a piece wasn't written whole, nothing more is written
  pub stopped : (a b : Option (List ℕ)) (x y : ℕ) (s t : List ℕ) (e : E) → Wrote {T = T} {E = E} exact a b x y s (Err e)
      → Wrote {T = T} {E = E} exact a b x y (s ++ t) (Err e)
  stopped a b x y s t e f =
      let n = f.front.0 in
      let low : n < length s = f.front.1 in
      let front : take n (s ++ t) ≡ take n s = take-append-le n s t (omega (arith, low)) in
      record {
        ok = tt;
        front = (n, omega (arith, low, length-append s t), subst (Appends a b) (sym front) f.front.2);
        fault = f.fault;
        later = f.later;
        counted = f.counted;
      }

-- what was written of a text was written of an equal one
pub as_text : {T E : Type 0} (exact : Bool) (a b : Option (List ℕ)) (x y : ℕ) (s t : List ℕ) (r : Result T E) → s ≡ t
    → Wrote {T = T} {E = E} exact a b x y s r → Wrote {T = T} {E = E} exact a b x y t r
as_text {T = T} {E = E} exact a b x y s t r same w = subst (λ l. Wrote {T = T} {E = E} exact a b x y l r) same w

-- a piece that was written whole, or not
pub of_text : {T E : Type 0} (exact : Bool) (a b : Option (List ℕ)) (x y : ℕ) (s : List ℕ) (r : Result T E) → OnOk r (Appends a b s)
    → OnErr r (Rose x y) → OnErr r (AppendsFewer a b s) → x ≤ y → IsCounted exact (IsErr r) x y
    → Wrote {T = T} {E = E} exact a b x y s r
of_text exact a b x y s r ok fault front later counted = record { ok = ok; front = front; fault = fault; later = later; counted = counted }
