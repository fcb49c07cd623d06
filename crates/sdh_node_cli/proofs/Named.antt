-- The circuit of a name, and the words of a line, of which only the first six are read.
use Rattle.std.proofs.Common.{◌≡◌, ℕ, ◌<◌, List, [], ◌∷◌, length, take, refl}
use Rattle.std.specs.Prelude.{Some}
use Rattle.std.specs.Str.{bytes_eq}
use Rattle.std.proofs.lemmas.List.Quantifiers.{position-Some}
use Rattle.sdh_ringmap.specs.declared.Pos.{Pos}
use Rattle.sdh_circuits.specs.Provisioned.{Provisioned}
use Rattle.sdh_plan.specs.Steps.{circuit_named}
use Rattle.sdh_node_cli.specs.Records.{record_by, record_in}

pub named_within : (circuits : List Provisioned) (word : List ℕ) (i : ℕ) → circuit_named circuits word ≡ Some i → i < length circuits
unfolding circuit_named
named_within [] word i e = cc
named_within (c ∷ cs) word i e = (position-Some (λ x. bytes_eq x.name word) (c ∷ cs) i c e).0

-- no record has more than five words after its first one
kept_by : (circuits : List Provisioned) (at : Pos) (first : List ℕ) (others : List (List ℕ))
    → record_by circuits at first (take 5 others) ≡ record_by circuits at first others
kept_by circuits at first [] = refl
kept_by circuits at first (a ∷ []) = refl
kept_by circuits at first (a ∷ b ∷ []) = refl
kept_by circuits at first (a ∷ b ∷ c ∷ []) = refl
kept_by circuits at first (a ∷ b ∷ c ∷ d ∷ others) = refl

pub kept_words : (circuits : List Provisioned) (at : Pos) (words : List (List ℕ))
    → record_in circuits at (take 6 words) ≡ record_in circuits at words
unfolding record_in
kept_words circuits at [] = refl
kept_words circuits at (first ∷ others) = kept_by circuits at first others
