-- What the calls make of the fibres.
use Rattle.std.proofs.Common.{◌≡◌, ℕ, ◌+◌, ◌*◌, ◌-◌, ◌%◌, ◌<◌, Some, None, List, length, get_or, set, drop, replicate, refl, ap, ◌∙◌, arith}
use Rattle.std.proofs.Common.{inl, inr}
use Rattle.std.proofs.Math.Nat.{mod-eq_of_lt, add-mod_left}
use Rattle.std.proofs.lemmas.Bool.{cases_lt}
use Rattle.std.proofs.lemmas.List.{length-set, length-replicate, get_or-replicate, get_or-set_same, get_or_past}
use Rattle.std.proofs.lemmas.List.Elements.{All-set, All-replicate}
use Rattle.std.specs.Prelude.{slice_index_or, option_map}
use Rattle.std.specs.Option.{option_map_or}
use Rattle.sdh_ringmap.specs.declared.terms.Rate.{Rate}
use Rattle.sdh_ringmap.specs.Rates.{n_of}
use Rattle.sdh_ringmap.specs.declared.Side.{Side}
use Rattle.sdh_ringmap.specs.declared.Side.TheVariants.{West, East}
use Rattle.sdh_ringmap.specs.Places.{opposite, neighbour}
use Rattle.sdh_ringmap.specs.declared.terms.Condition.{Condition}
use Rattle.sdh_ringmap.specs.declared.terms.Condition.TheVariants.{Clear, Cut, Degraded}
use Rattle.sdh_plant.specs.Fibres.{Arrival, Fibres}
use Rattle.sdh_ringmap.specs.Fibres.{IsConditionAt, fibre, fibre_to}
use Rattle.sdh_plant.specs.Arrivals.{arrival, honest_arrival, next_told, through, condition_of}
use Rattle.sdh_plant.specs.Calls.{told_at_rate, prepared, after_send}
use Rattle.sdh_plant.specs.Laws.{SentComes, NewIsDark, StayPrepared, StayHonest}

once_round : (n k : ℕ) → k < n → (n + k) % n ≡ k
once_round n k h = add-mod_left n k ∙ mod-eq_of_lt h

east_then_west : (n p : ℕ) → p < n → ((p + 1) % n + (n - 1)) % n ≡ p
east_then_west n p lt = elim (cases_lt (p + 1) n) [
  | inl on ↦ (let e : (p + 1) % n ≡ p + 1 = mod-eq_of_lt on in let sum : (p + 1) % n + (n - 1)
      ≡ n + p = omega (arith, e) in ap (λ k. k % n) sum ∙ once_round n p lt)
  | inr over ↦ (let all : p + 1 ≡ n + 0 = omega arith in let e : (p + 1) % n ≡ 0 = ap (λ k. k % n) all
      ∙ once_round n 0 (omega arith) in let sum : (p + 1) % n + (n - 1) ≡ p = omega (arith, e) in ap (λ k. k % n) sum ∙ mod-eq_of_lt lt)
]

west_then_east : (n p : ℕ) → p < n → ((p + (n - 1)) % n + 1) % n ≡ p
west_then_east n p lt = elim (cases_lt 0 p) [
  | inl on ↦ (let down : p - 1 < n = omega arith in let all : p + (n - 1) ≡ n + (p - 1) = omega arith in let e : (p + (n - 1)) % n
      ≡ p - 1 = ap (λ k. k % n) all ∙ once_round n (p - 1) down in let sum : (p + (n - 1)) % n + 1 ≡ p =
      omega (arith, e) in ap (λ k. k % n) sum ∙ mod-eq_of_lt lt)
  | inr none ↦ (let last : p + (n - 1) < n = omega arith in let e : (p + (n - 1)) % n
      ≡ p + (n - 1) = mod-eq_of_lt last in let sum : (p + (n - 1)) % n + 1 ≡ n + p =
      omega (arith, e) in ap (λ k. k % n) sum ∙ once_round n p lt)
]

-- the fibre that leaves a position on a side ends at the neighbour there, on its other side
pub fibre_to-neighbour : (n p : ℕ) (d : Side) → p < n → fibre_to n (neighbour n p d) (opposite d) ≡ fibre p d
fibre_to-neighbour n p West lt = ap (λ k. 2 * k) (west_then_east n p lt)
fibre_to-neighbour n p East lt = ap (λ k. 2 * k + 1) (east_then_west n p lt)

fibre-lt : (n p : ℕ) (d : Side) → p < n → fibre p d < 2 * n
fibre-lt n p West lt = omega arith
fibre-lt n p East lt = omega arith

-- where there are no told arrivals
untold : (f : Fibres) (p : ℕ) (d : Side) → f.told ≡ None → arrival f p d ≡ honest_arrival f p d
untold f p d none = ap (λ t. option_map_or next_told t (honest_arrival f p d)) none

on_fibre : (rate : Rate) (cs : List Condition) (carried : List Arrival) (i j : ℕ) (a : Arrival) → j ≡ i → i < length carried
    → through (n_of rate) (slice_index_or cs j Clear) (slice_index_or (set carried i a) j None)
    ≡ through (n_of rate) (slice_index_or cs i Clear) a
on_fibre rate cs carried i j a same lt =
    ap (λ k. through (n_of rate) (slice_index_or cs k Clear) (slice_index_or (set carried i a) k None)) same
    ∙ ap (through (n_of rate) (slice_index_or cs i Clear)) (get_or-set_same carried i a None lt)

pub sent_comes : SentComes
sent_comes rate n f p d bytes is none lt =
    let back : fibre_to f.nodes (neighbour n p d) (opposite d) ≡ fibre p d =
    ap (λ k. fibre_to k (neighbour n p d) (opposite d)) is.nodes ∙ fibre_to-neighbour n p d lt in
    let inside : fibre p d < length f.carried = omega (arith, fibre-lt n p d lt, is.carried) in
    untold (after_send f p d bytes) (neighbour n p d) (opposite d) none
    ∙ on_fibre f.rate f.conditions f.carried (fibre p d) (fibre_to f.nodes (neighbour n p d) (opposite d)) (Some bytes) back inside
    ∙ ap (λ r. through (n_of r) (condition_of f (fibre p d)) (Some bytes)) is.rate

-- nothing comes of a fibre that carries nothing
through-none : (n : ℕ) (c : Condition) → through n c None ≡ None
through-none n Clear = refl
through-none n Cut = refl
through-none n (Degraded k) = refl

pub none_at : (m i : ℕ) → get_or {A = Arrival} (replicate m None) i None ≡ None
none_at m i = elim (cases_lt i m) [
  | inl lt ↦ get_or-replicate m i None None lt
  | inr far ↦ get_or_past _ i None (omega (arith, length-replicate {A = Arrival} m None))
]

pub new_is_dark : NewIsDark
new_is_dark rate n f p d none =
    untold (prepared rate n f) p d (ap (option_map (told_at_rate rate)) none)
    ∙ ap (through (n_of rate) (condition_of (prepared rate n f) (fibre_to n p d))) (none_at (2 * n) (fibre_to n p d))
    ∙ through-none (n_of rate) (condition_of (prepared rate n f) (fibre_to n p d))

pub stay_prepared : StayPrepared
stay_prepared = record {
  prepared =
      λ rate n f enough few. record {
        nodes = refl;
        rate = refl;
        conditions = length-replicate (2 * n) Clear;
        each = All-replicate (IsConditionAt rate) (2 * n) Clear tt;
        carried = length-replicate {A = Arrival} (2 * n) None;
        enough =
            enough;
        few = few;
      };
  apply =
      λ rate n f p d condition at is. record {
        nodes = is.nodes;
        rate = is.rate;
        conditions = length-set f.conditions (fibre p d) condition
            ∙ is.conditions;
        each = All-set (IsConditionAt rate) f.conditions (fibre p d) condition at is.each;
        carried = is.carried;
        enough =
            is.enough;
        few = is.few;
      };
  send =
      λ rate n f p d bytes is. record {
        nodes = is.nodes;
        rate = is.rate;
        conditions = is.conditions;
        each = is.each;
        carried = length-set f.carried (fibre p d) (Some bytes) ∙ is.carried;
        enough = is.enough;
        few = is.few;
      };
  receive =
      λ rate n f is. record {
        nodes = is.nodes;
        rate = is.rate;
        conditions = is.conditions;
        each = is.each;
        carried = is.carried;
        enough = is.enough;
        few = is.few;
      };
}

pub stay_honest : StayHonest
stay_honest = record {
  prepared = λ rate n f is. record { honest = is.honest; tells_none = ap (option_map (told_at_rate rate)) is.tells_none };
  apply = λ f p d condition is. record { honest = is.honest; tells_none = is.tells_none };
  send = λ f p d bytes is. record { honest = is.honest; tells_none = is.tells_none };
  receive = λ f is. record { honest = is.honest; tells_none = ap (option_map (drop 1)) is.tells_none };
  known = λ f is. inl is.honest;
  arrives = λ f p d is. untold f p d is.tells_none;
}
