-- The told arrivals that are left once there are fibres.
use Rattle.std.proofs.Common.{◌≡◌, ℕ, ◌-◌, ◌==◌, Bool, true, false, List, [], length, map, take, take_all, drop, length-drop, refl, ap, sym}
use Rattle.std.proofs.Common.{◌∙◌, arith}
use Rattle.std.proofs.lemmas.Bool.Decides.{nat_tests}
use Rattle.std.proofs.lemmas.List.Folds.{list_all-map}
use Rattle.std.specs.Prelude.{if◌then◌else◌}
use Rattle.std.specs.List.{list_all}
use Rattle.sdh_ringmap.specs.declared.terms.Rate.{Rate}
use Rattle.sdh_ringmap.specs.declared.terms.Rate.TheVariants.{Four, Sixteen}
use Rattle.sdh_frame.specs.Sizes.{size_of}
use Rattle.sdh_plant.specs.declared.told_plant.Told.{Told}
use Rattle.sdh_plant.specs.Fibres.{Arrival}
use Rattle.sdh_plant.specs.Calls.{is_at, told_at_rate, prepared}
use Rattle.sdh_plant.specs.InMemory.{HeldFibres, HeldTold, clear_fibres, told_of}
use Rattle.sdh_plant.specs.Kept.{arrival_of}

-- whether all arrivals left are of this rate, by the slice that the code tests
pub all_left : (rate : Rate) (xs : List Told) (next : ℕ) (b : Bool)
    → b ≡ list_all (λ told. is_at rate (arrival_of told)) (take (length xs - next) (drop next xs))
    → list_all (is_at rate) (map arrival_of (drop next xs)) ≡ b
all_left rate xs next b found =
    let rest : take (length xs - next) (drop next xs) ≡ drop next xs = take_all _ _ (omega (arith, length-drop {A = Told})) in
    list_all-map (is_at rate) arrival_of (drop next xs) ∙ ap (list_all (λ told. is_at rate (arrival_of told))) (sym rest) ∙ sym found

pub told_at_rate-all : (rate : Rate) (told : List Arrival) → list_all (is_at rate) told ≡ true → told ≡ told_at_rate rate told
told_at_rate-all rate told all = sym (ap (λ (b : Bool). if b then told else []) all)

pub told_at_rate-none : (rate : Rate) (told : List Arrival) → list_all (is_at rate) told ≡ false → [] ≡ told_at_rate rate told
told_at_rate-none rate told some = sym (ap (λ (b : Bool). if b then told else []) some)

-- the plant after prepare
pub told_of-prepared : (rate : Rate) (n : ℕ) (old : HeldTold) (fibres : HeldFibres) (told : List Arrival) → fibres ≡ clear_fibres rate n
    → told ≡ told_at_rate rate old.told
    → told_of (record { fibres = fibres; told = told }) ≡ prepared rate n (told_of old)
told_of-prepared rate n old fibres told are left =
    ap (λ (h : HeldFibres). told_of (record { fibres = h; told = told })) are
    ∙ ap (λ (l : List Arrival). told_of (record { fibres = clear_fibres rate n; told = l })) left

-- frames of one size have one rate
pub rate_of_size : (one other : Rate) (n : ℕ) → n ≡ size_of one → (n == size_of other) ≡ true → one ≡ other
rate_of_size Four Four n size same = refl
rate_of_size Sixteen Sixteen n size same = refl
rate_of_size Four Sixteen n size same = grind (arith, nat_tests)
rate_of_size Sixteen Four n size same = grind (arith, nat_tests)
