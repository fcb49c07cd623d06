-- Interpreters and generators that compare as equal are equal.
use Rattle.std.proofs.Common.{◌≡◌, ℕ, true, List, [], ◌∷◌, Option, refl, ap, ◌∙◌}
use Rattle.std.proofs.lemmas.Bool.{and_parts}
use Rattle.sdh_pointer.specs.declared.reading.Reading.{Reading}
use Rattle.sdh_pointer.specs.Reading.{same_reading}
use Rattle.sdh_pointer.specs.Sending.{same_sending}
use Rattle.sdh_pointer.proofs.Unmoved as one
use Rattle.sdh_pointer.proofs.Sent as sent
use Rattle.sdh_terminal.specs.Same.{same_readings, same_generators}

pub readings_same : (xs ys : List Reading) → same_readings xs ys ≡ true → xs ≡ ys
readings_same [] [] e = refl
readings_same [] (b ∷ ys) e = cc
readings_same (a ∷ xs) [] e = cc
readings_same (a ∷ xs) (b ∷ ys) e = let both =
    and_parts (same_reading a b) (same_readings xs ys) e in ap (λ r. r ∷ xs) (one.same_readings a b both.0)
    ∙ ap (λ rs. b ∷ rs) (readings_same xs ys both.1)

pub generators_same : (xs ys : List (Option ℕ)) → same_generators xs ys ≡ true → xs ≡ ys
generators_same [] [] e = refl
generators_same [] (b ∷ ys) e = cc
generators_same (a ∷ xs) [] e = cc
generators_same (a ∷ xs) (b ∷ ys) e = let both =
    and_parts (same_sending a b) (same_generators xs ys) e in ap (λ r. r ∷ xs) (one.same_states a b both.0)
    ∙ ap (λ rs. b ∷ rs) (generators_same xs ys both.1)

pub generators_itself : (gs : List (Option ℕ)) → same_generators gs gs ≡ true
generators_itself [] = refl
generators_itself (g ∷ gs) = rw (sent.state_itself g) (generators_itself gs)
