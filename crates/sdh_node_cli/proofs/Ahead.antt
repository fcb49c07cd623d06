-- Bytes that are read after one that was read before.
use Rattle.std.proofs.Common.{◌≡◌, ℕ, ◌+◌, ◌<◌, ◌≤◌, List, [], ◌∷◌, ◌++◌, length, take, set, refl, ap, sym, subst, arith}
use Rattle.std.specs.Prelude.{Option, Some, None}
use Rattle.std.specs.Io.KnownBytes.{Consumes}
use Rattle.std.proofs.KnownBytes.{Consumes-trans}
use Rattle.std.proofs.lemmas.List.{length-append}
use borrow.Rule.Slice.PartMut.{put_mid, post_of}
use Rattle.sdh_outside.specs.Reading.{TakesFewer}
use Rattle.sdh_outside.proofs.Moved.{Consumes-more}
use Rattle.sdh_node_cli.specs.Turns.{with_ahead}

-- the byte itself
one_ahead : (byte : ℕ) (left : Option (List ℕ)) → Consumes (with_ahead (Some byte) left) left (byte ∷ [])
one_ahead byte None = tt
one_ahead byte (Some bytes) = refl

front_set : (buf : List ℕ) (byte : ℕ) → 0 < length buf → take 1 (set buf 0 byte) ≡ byte ∷ []
front_set [] byte some = absurd (omega (arith, some))
front_set (x ∷ buf) byte some = refl

some_set : (buf : List ℕ) (byte : ℕ) → 0 < length buf → 1 ≤ length (set buf 0 byte)
some_set [] byte some = absurd (omega (arith, some))
some_set (x ∷ buf) byte some = omega arith

-- the byte came first in the buffer, and `n` bytes more after it
pub filled : (first : Option ℕ) (byte : ℕ) (left now : Option (List ℕ)) (buf part : List ℕ) (k n : ℕ) → first ≡ Some byte → 0 < length buf
    → n ≤ length part → Consumes left now (take n part)
    → Consumes (with_ahead first left) now (take (1 + n) (put_mid 1 k (set buf 0 byte) part))
filled first byte left now buf part k n is some within took =
    let one = subst (Consumes (with_ahead (Some byte) left) left) (sym (front_set buf byte some)) (one_ahead byte left) in
    subst (λ (f : Option ℕ). Consumes (with_ahead f left) now (take (1 + n) (put_mid 1 k (set buf 0 byte) part))) (sym is)
    (Consumes-more (with_ahead (Some byte) left) left now (set buf 0 byte) part 1 k n (some_set buf byte some) within one took)

-- the byte came first in the buffer, and then a read failed
pub cut_short : (first : Option ℕ) (byte : ℕ) (left now : Option (List ℕ)) (buf part : List ℕ) (k : ℕ) → first ≡ Some byte → 0 < length buf
    → TakesFewer left now (length part) → TakesFewer (with_ahead first left) now (length (put_mid 1 k (set buf 0 byte) part))
cut_short first byte left now buf part k is some (bytes, few, took) =
    let xs = set buf 0 byte in (
      byte ∷ bytes,
      omega (
        arith,
        few,
        ap length (front_set buf byte some),
        length-append (take 1 xs) (part ++ post_of 1 k xs),
        length-append part (post_of 1 k xs),
      ),
      subst (λ (f : Option ℕ). Consumes (with_ahead f left) now (byte ∷ bytes)) (sym is)
          (Consumes-trans (with_ahead (Some byte) left) left now (byte ∷ []) bytes (one_ahead byte left) took),
    )
