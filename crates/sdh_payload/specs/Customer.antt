-- What a port stands for, and the rules that it keeps. The rules are this project's own.
use Rattle.std.specs.Prelude.{◌≡◌, ℕ, ◌≤◌, Bool, true, ◌&&◌, nat_le, List, length}
use Rattle.std.specs.List.{list_all}

-- what is sent at one end of a circuit: the text over and over, the path trace without padding, and the offset at which
-- its VC-4s begin, as the AU-4 pointer gives it (ITU-T G.707 clause 8.1)
pub record Customer : Type 0 where
  pub text : List ℕ
  pub trace : List ℕ
  pub offset : ℕ

-- a printable character of ASCII, or a space
abbrev pub is_printable : ℕ → Bool
is_printable byte = nat_le 0x20 byte && nat_le byte 0x7E

-- 1 to 64 printable characters, the form of a text and of a trace
unfoldable pub is_text : List ℕ → Bool
is_text bytes = nat_le 1 (length bytes) && nat_le (length bytes) 64 && list_all is_printable bytes

-- what is true of every port
pub record IsCustomer (port : Customer) : Type 0 where
  pub text_form : is_text port.text ≡ true
  pub trace_form : is_text port.trace ≡ true
  pub offset_small : port.offset ≤ 782
