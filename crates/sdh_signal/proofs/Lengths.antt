-- How long a route is.
use Rattle.std.proofs.Common.{◌≡◌, ℕ, ◌+◌, ◌-◌, ◌*◌, ◌<◌, ◌≤◌, Bool, true, false, refl, sym, ◌∙◌, arith, inl, inr, ◌⊎◌}
use Rattle.std.proofs.lemmas.Bool.{cases_Bool, cond-true, cond-false}
use Rattle.sdh_circuits.specs.Provisioned.{Provisioned, arc_of}
use Rattle.sdh_restoration.specs.Routes.{applied_at_place, hops, last_place, places_before}
use Rattle.sdh_ringmap.specs.Arcs.{is_clear, none_of}
use Rattle.sdh_signal.proofs.RouteMarks.{IsFirst, IsLast, first-place, last-place}
use Rattle.sdh_signal.proofs.Views.{arc_length}
use Rattle.sdh_signal.specs.Law.{IsShort}

module _ (n : ℕ) (applied : ℕ → Bool) (c : Provisioned) where
  abbrev place : ℕ → Bool
  place = applied_at_place n applied (arc_of n c)

  abbrev f : ℕ
  f = places_before place 0 (arc_length n c)

  abbrev l : ℕ
  l = last_place place (arc_length n c)

  pub clear-is : is_clear n applied (arc_of n c) ≡ none_of place 0 (arc_length n c)
  unfolding is_clear arc_length
  clear-is = refl

  -- the hops of a route: over the arc itself, or back the other way round
  pub straight-hops : is_clear n applied (arc_of n c) ≡ true → hops n applied (arc_of n c) ≡ arc_length n c
  unfolding hops arc_length
  straight-hops t = cond-true (is_clear n applied (arc_of n c)) _ _ t

  pub around-hops : is_clear n applied (arc_of n c) ≡ false → hops n applied (arc_of n c) ≡ (2 * f + n + arc_length n c) - 2 * (l + 1)
  unfolding hops arc_length
  around-hops t = cond-false (is_clear n applied (arc_of n c)) _ _ t

  -- f and l are the first and the last applied place of the arc
  marks : is_clear n applied (arc_of n c) ≡ false → (IsFirst place 0 (arc_length n c) f) × (IsLast place f (arc_length n c) l)
  marks e = (first-place place (arc_length n c) (sym clear-is ∙ e), last-place place (arc_length n c) (sym clear-is ∙ e))

  module _ (long : 0 < (arc_length n c)) (short : (arc_length n c) < n) where
    at_least : (is_clear n applied (arc_of n c) ≡ true) ⊎ (is_clear n applied (arc_of n c) ≡ false) → 1 ≤ hops n applied (arc_of n c)
    at_least (inl t) = let e = straight-hops t in omega arith
    at_least (inr t) = let e = around-hops t in let m = marks t in let a = m.1.from in let b = m.1.below in omega arith

    pub is-short : IsShort n applied c
    is-short = record {
      straight = λ t. let e = straight-hops t in omega arith;
      around = λ t. let e = around-hops t in let m = marks t in let a = m.1.from in let b = m.1.below in omega arith;
      some = at_least (cases_Bool (is_clear n applied (arc_of n c)));
    }
