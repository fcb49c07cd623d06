-- What the numbers of statuses show.
use Rattle.std.proofs.Common.{◌≡◌, ◌⊎◌, ℕ, refl, inl, inr, arith}
use Rattle.sdh_retime_cli.specs.declared.status.Status.{Status}
use Rattle.sdh_retime_cli.specs.declared.status.Status.TheVariants as status
use Rattle.sdh_retime_cli.specs.Outcome.{number_of, HasRun}

pub is_drift : (s : Status) → number_of s ≡ 12 → (turn : ℕ) × (s ≡ status.Drift turn)
is_drift status.Ok e = absurd (omega (arith, e))
is_drift status.Usage e = absurd (omega (arith, e))
is_drift status.ReadFault e = absurd (omega (arith, e))
is_drift status.WriteFault e = absurd (omega (arith, e))
is_drift status.TooLong e = absurd (omega (arith, e))
is_drift (status.Drift turn) e = (turn, refl)
is_drift status.Memory e = absurd (omega (arith, e))

neither : (k : ℕ) → (k ≡ 0 → ⊥) → (k ≡ 12 → ⊥) → (k ≡ 0) ⊎ (k ≡ 12) → ⊥
neither k a b (inl x) = a x
neither k a b (inr x) = b x

pub has_run : (s : Status) → (number_of s ≡ 0) ⊎ (number_of s ≡ 12) → HasRun s
has_run status.Ok e = tt
has_run status.Usage e = absurd (neither 2 (λ x. omega (arith, x)) (λ x. omega (arith, x)) e)
has_run status.ReadFault e = absurd (neither 3 (λ x. omega (arith, x)) (λ x. omega (arith, x)) e)
has_run status.WriteFault e = absurd (neither 4 (λ x. omega (arith, x)) (λ x. omega (arith, x)) e)
has_run status.TooLong e = absurd (neither 9 (λ x. omega (arith, x)) (λ x. omega (arith, x)) e)
has_run (status.Drift turn) e = tt
has_run status.Memory e = absurd (neither 70 (λ x. omega (arith, x)) (λ x. omega (arith, x)) e)
