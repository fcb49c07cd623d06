-- The form of a text.
use Rattle.std.proofs.Common.{◌≡◌, ℕ, ◌<◌, ◌≤◌, true, List, length, arith}
use Rattle.sdh_payload.specs.Customer.{is_text}

pub text_few : (bytes : List ℕ) → is_text bytes ≡ true → length bytes ≤ 64
unfolding is_text
text_few bytes h = grind arith

pub text_some : (bytes : List ℕ) → is_text bytes ≡ true → 0 < length bytes
unfolding is_text
text_some bytes h = grind arith
