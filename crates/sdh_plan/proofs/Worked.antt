-- The large plan at some numbers: a circuit that was worked out by hand, and spans that are all covered once.
use Rattle.std.proofs.Common.{◌≡◌, ℕ, [], ◌∷◌, Bool, true, ◌==◌, length, take, codes, refl}
use Rattle.std.specs.List.{list_all, range_with_len, filter}
use Rattle.std.specs.Fmt.{digits}
use Rattle.sdh_ringmap.specs.Places.{position_of}
use Rattle.sdh_ringmap.specs.Arcs.{holds_span}
use Rattle.sdh_circuits.specs.Provisioned.{is_on}
use Rattle.sdh_plan.specs.Big.{next, slot_circuits, behind_slot, big_circuits}

first_of_0 : take 1 (big_circuits 0) ≡ record {
  name = codes "c1-1";
  from = position_of 14;
  to = position_of 0;
  slot = record { 0 = 1 };
  a = record { text = codes "c1-1a"; trace = codes "c1-1"; offset = 464 };
  b = record { text = codes "c1-1b"; trace = codes "c1-1"; offset = 704 };
} ∷ []
unfolding next digits slot_circuits
first_of_0 = refl

-- one circuit is on each span in each of both slots
abbrev covers : ℕ → Bool
covers number =
    list_all (λ slot. list_all (λ span. length (filter (is_on 16 span slot) (big_circuits number)) == 1) (range_with_len 0 16)) (1 ∷ 2 ∷ [])

covered : list_all covers (0 ∷ 1 ∷ 4294967295 ∷ []) ≡ true
unfolding next holds_span slot_circuits behind_slot
covered = refl
