-- The chunks that are cut off one after the other.
use Rattle.std.proofs.Common.{◌≡◌, ℕ, zero, suc, ◌+◌, List, [], ◌∷◌, length, refl, arith}
use Rattle.sdh_retime_cli.specs.Digits.{size_at, offset_at, chunk_at, chunks}

pub no_chunks : (digits bytes : List ℕ) → chunks digits bytes 0 ≡ []
unfolding chunks
no_chunks digits bytes = refl

pub next_chunk : (digits bytes : List ℕ) (k : ℕ) → chunks digits bytes (suc k) ≡ chunk_at digits bytes k ∷ chunks digits bytes k
unfolding chunks
next_chunk digits bytes k = refl

pub no_offset : (digits : List ℕ) → offset_at digits 0 ≡ 0
unfolding offset_at
no_offset digits = refl

pub next_offset : (digits : List ℕ) (k : ℕ) → offset_at digits (suc k) ≡ offset_at digits k + size_at digits k
unfolding offset_at
next_offset digits k = refl

pub length-chunks : (digits bytes : List ℕ) (k : ℕ) → length (chunks digits bytes k) ≡ k
unfolding chunks
length-chunks digits bytes zero = refl
length-chunks digits bytes (suc k) = omega (arith, length-chunks digits bytes k)
