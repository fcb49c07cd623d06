-- The section overhead of a sent frame (ITU-T G.707 clause 9.2). The values of J0 and of the other unscrambled bytes,
-- and zeros in all overhead that isn't used, are this project's own.
use Rattle.std.specs.Prelude.{ℕ, ◌+◌, ◌*◌, ◌/◌, ◌%◌, List, slice_index}
use Rattle.sdh_basics.specs.Indexed.{map_from}
use Rattle.sdh_frame.specs.declared.Field as field
use Rattle.sdh_frame.specs.declared.Field.TheVariants.{A1, A2, J0, Fixed, B1, B2, K1, K2, Unused, Pointer, Payload}
use Rattle.sdh_frame.specs.Fields.{field_at}

-- the overhead bytes that differ from frame to frame
pub record Added : Type 0 where
  pub k1 : ℕ
  pub k2 : ℕ
  pub b1 : ℕ
  pub b2 : List ℕ

-- the byte that a field has once the overhead is written, where it was x before; pointers and payload stay
abbrev pub written : Added → field.Field → ℕ → ℕ
written a A1 x = 0xF6
written a A2 x = 0x28
written a J0 x = 1
written a Fixed x = 0xAA
written a B1 x = a.b1
written a (B2 i) x = slice_index a.b2 i
written a K1 x = a.k1
written a K2 x = a.k2
written a Unused x = 0
written a (Pointer au i) x = x
written a (Payload au) x = x

-- byte i of a frame once the overhead is written, where it was x before
abbrev pub byte_at : ℕ → Added → ℕ → ℕ → ℕ
byte_at n a i x = written a (field_at n (i / (270 * n) + 1) (i % (270 * n) + 1)) x

-- the frame with all its overhead, before scrambling
unfoldable pub with_overhead : ℕ → Added → List ℕ → List ℕ
with_overhead n a bytes = map_from (byte_at n a) 0 bytes
