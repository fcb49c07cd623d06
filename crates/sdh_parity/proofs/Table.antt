-- The sequence repeats after 1016 bytes, and the table is its first 1160.
use Rattle.std.proofs.Common.{◌≡◌, ℕ, zero, suc, ◌+◌, ◌*◌, ◌%◌, ◌<◌, List, [], ◌∷◌, length, get_or, refl, ap, arith, add-one, sym, ◌∙◌}
use Rattle.sdh_parity.specs.Scrambling.{scrambling_byte}
use Rattle.sdh_parity.specs.declared.scrambler.TheConstants.{SEQUENCE}
use Rattle.sdh_parity.proofs.Registers.{next, register, byte-register}

register-step : (m : ℕ) → register (m + 1) ≡ next (register m)
unfolding register
register-step m = rw add-one

register-eight : (m : ℕ) → register (m + 8) ≡ next (next (next (next (next (next (next (next (register m))))))))
register-eight m =
    let e : m + 8 ≡ m + 1 + 1 + 1 + 1 + 1 + 1 + 1 + 1 = omega arith in
    rw (e, register-step, register-step, register-step, register-step, register-step, register-step, register-step, register-step)

register-repeat : (n : ℕ) → register (n + 8128) ≡ register n
unfolding register
register-repeat zero = refl
register-repeat (suc n) =
    let e : suc n + 8128 ≡ n + 8128 + 1 = omega arith in
    rw (e, register-step, register-repeat n)

byte-repeat : (k : ℕ) → scrambling_byte (k + 1016) ≡ scrambling_byte k
byte-repeat k =
    let e : 8 * (k + 1016) ≡ 8 * k + 8128 = omega arith in
    let f : 8 * (k + 1016) + 1 ≡ 8 * k + 1 + 8128 = omega arith in
    byte-register (k + 1016) ∙ ap (λ i. register i * 2 + register (8 * (k + 1016) + 1) % 2) e
    ∙ ap (λ r. r * 2 + register (8 * (k + 1016) + 1) % 2) (register-repeat (8 * k))
    ∙ ap (λ i. register (8 * k) * 2 + register i % 2) f ∙ ap (λ r. register (8 * k) * 2 + r % 2) (register-repeat (8 * k + 1))
    ∙ sym (byte-register k)

pub byte-repeats : (b k : ℕ) → scrambling_byte (b * 1016 + k) ≡ scrambling_byte k
byte-repeats zero k = let e : 0 * 1016 + k ≡ k = omega arith in ap scrambling_byte e
byte-repeats (suc b) k =
    let e : suc b * 1016 + k ≡ b * 1016 + k + 1016 = omega arith in
    ap scrambling_byte e ∙ (byte-repeat (b * 1016 + k) ∙ byte-repeats b k)

-- n bytes of the sequence from a register
abbrev bytes_from : ℕ → ℕ → List ℕ
bytes_from s zero = []
bytes_from s (suc n) = (s * 2 + next s % 2) ∷ bytes_from (next (next (next (next (next (next (next (next s)))))))) n

table : SEQUENCE ≡ bytes_from 127 1160
table = refl

bytes_at : (n j k : ℕ) → k < n → get_or (bytes_from (register (8 * j)) n) k 0 ≡ scrambling_byte (j + k)
bytes_at zero j k h = absurd (omega arith)
bytes_at (suc n) j zero h =
    let e : j + 0 ≡ j = omega arith in
    ap (λ r. register (8 * j) * 2 + r % 2) (sym (register-step (8 * j))) ∙ sym (byte-register j) ∙ ap scrambling_byte (sym e)
bytes_at (suc n) j (suc k) h =
    let e : 8 * j + 8 ≡ 8 * (j + 1) = omega arith in
    let f : j + 1 + k ≡ j + suc k = omega arith in
    let g : k < n = omega arith in
    let step = sym (register-eight (8 * j)) ∙ ap register e in
    let more = bytes_at n (j + 1) k g in
    ap (λ s. get_or (bytes_from s n) k 0) step ∙ (more ∙ ap scrambling_byte f)

pub table_at : (k : ℕ) → k < 1160 → get_or SEQUENCE k 0 ≡ scrambling_byte k
unfolding register
table_at k h = let e : 0 + k ≡ k = omega arith in ap (λ l. get_or l k 0) table ∙ (bytes_at 1160 0 k h ∙ ap scrambling_byte e)

pub table_long : length SEQUENCE ≡ 1160
table_long = refl
