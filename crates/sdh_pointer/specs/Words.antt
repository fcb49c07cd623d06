-- The AU pointer bytes H1 and H2 as one word NNNNSSIDIDIDIDID (ITU-T G.707 clause 8.1). Its last ten bits are the
-- value, 0 to 782: the number of steps of three bytes between the last byte H3 and the start of the VC-4.
use Rattle.std.specs.Prelude.{ℕ, ◌+◌, ◌*◌, ◌/◌, ◌%◌, Bool, nat_le, List, [], ◌∷◌, slice_index, bit_xor}
use Rattle.std.specs.Int.{bit_at}
use Rattle.std.specs.List.{sum_by}
use Rattle.sdh_pointer.specs.declared.word.Form.{Form}
use Rattle.sdh_pointer.specs.declared.word.Form.TheVariants.{Normal, Enabled, Up, Down, Ais}

-- the word in the bytes H1 and H2, and the two bytes of a word
abbrev pub word_in : List ℕ → ℕ
word_in bytes = 256 * slice_index bytes 0 + slice_index bytes 1

abbrev pub word_bytes : ℕ → List ℕ
word_bytes w = (w / 256) ∷ (w % 256) ∷ []

-- the number of these bits in which two numbers differ
unfoldable pub differing : List ℕ → ℕ → ℕ → ℕ
differing bits a b = sum_by (λ j. (bit_at a j + bit_at b j) % 2) bits

-- the four N bits, counted from the last of them, and the five I bits and the five D bits of a value
abbrev pub n_bits : List ℕ
n_bits = 0 ∷ 1 ∷ 2 ∷ 3 ∷ []

abbrev pub i_bits : List ℕ
i_bits = 1 ∷ 3 ∷ 5 ∷ 7 ∷ 9 ∷ []

abbrev pub d_bits : List ℕ
d_bits = 0 ∷ 2 ∷ 4 ∷ 6 ∷ 8 ∷ []

-- the N bits are 0110, or one of them differs
unfoldable pub is_normal : ℕ → Bool
is_normal w = nat_le (differing n_bits (w / 4096) 6) 1

-- the N bits are 1001, or one of them differs: a new data flag
unfoldable pub is_enabled : ℕ → Bool
is_enabled w = nat_le (differing n_bits (w / 4096) 9) 1

-- the last ten bits
abbrev pub value_in : ℕ → ℕ
value_in w = w % 1024

-- the value one step on, and one step back
abbrev pub one_up : ℕ → ℕ
one_up v = (v + 1) % 783

abbrev pub one_down : ℕ → ℕ
one_down v = (v + 782) % 783

-- the word of a form with a value. SS is 10; the N bits are 0110 or 1001; a justification inverts the I bits or the
-- D bits of the value; AIS is all ones and carries none.
unfoldable pub word_of : Form → ℕ → ℕ
word_of Normal v = 0x6800 + v
word_of Enabled v = 0x9800 + v
word_of Up v = 0x6800 + bit_xor v 0x2AA
word_of Down v = 0x6800 + bit_xor v 0x155
word_of Ais v = 0xFFFF
