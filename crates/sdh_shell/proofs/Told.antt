-- What is true of the bytes that a source shows.
use Rattle.std.proofs.Common.{ℕ, None, Some, List}
use Rattle.std.specs.Prelude.{Option, IfSome}

pub told_all : (o : Option (List ℕ)) (P Q : List ℕ → Type 0) → ((bytes : List ℕ) → P bytes → Q bytes) → IfSome o P → IfSome o Q
told_all None P Q h x = tt
told_all (Some bytes) P Q h x = h bytes x
