-- No node in its settled state connects what comes over an applied span.
use Rattle.std.proofs.Common.{◌≡◌, ℕ, Bool, true, false, Option, Some, None, List, length, refl}
use Rattle.std.specs.Prelude.{◌==◌, ◌||◌, if◌then◌else◌}
use Rattle.sdh_ringmap.specs.Places.{opposite, span_at, position_of}
use Rattle.sdh_ringmap.specs.declared.Pos.{Pos}
use Rattle.sdh_ringmap.specs.declared.Side.{Side}
use Rattle.sdh_ringmap.specs.declared.Side.TheVariants.{West, East}
use Rattle.sdh_circuits.specs.Provisioned.{Provisioned}
use Rattle.sdh_circuits.specs.declared.End.TheVariants.{A, B}
use Rattle.sdh_squelch.specs.declared.Row.{Row}
use Rattle.sdh_squelch.specs.Table.{circuits_at}
use Rattle.sdh_bridge.specs.declared.Origin.{Origin}
use Rattle.sdh_bridge.specs.declared.Origin.TheVariants.{Protection, Ais}
use Rattle.sdh_bridge.specs.Connections.{origin_sent, stands_for, leaves_working, leaves_protection}
use Rattle.sdh_restoration.specs.Applied.{is_applied, is_any_applied}
use Rattle.sdh_signal.specs.Settled.{settled, settled_by, is_outranked, far_end}
use Rattle.sdh_signal.specs.Walks.{port, carries_in, stands_in, working_in, protection_in}
use Rattle.sdh_signal.specs.Law.{IsFree}
use Rattle.sdh_signal.specs.RouteLaws.{NoWayCrossesAnAppliedSpan}

module _ (rs : List ℕ) (cs : List Provisioned) (p : ℕ) where
  abbrev n : ℕ
  n = length rs

  if_carried : (b : Bool) (o : Origin) → IsFree n (is_applied rs) p o → IsFree n (is_applied rs) p (if b then o else Ais)
  if_carried true o h = h
  if_carried false o h = tt

  if_own : (a b : Bool) (i : ℕ) (o : Origin) → IsFree n (is_applied rs) p o
      → IsFree n (is_applied rs) p (if a then port i A else (if b then port i B else o))
  if_own true b i o h = tt
  if_own false true i o h = tt
  if_own false false i o h = h

  sent_free : (k : Option Row) (o : Origin) → IsFree n (is_applied rs) p o → IsFree n (is_applied rs) p (origin_sent (position_of p) k o)
  sent_free None o h = tt
  sent_free (Some r) o h = if_own (r.from.0 == p) (r.to.0 == p) r.circuit o h

  module _ (m : ℕ) (f g : Option Pos) where
    stands_free : (w e t : Bool) (d : Side) → is_applied rs (span_at n p West) ≡ w → is_applied rs (span_at n p East) ≡ e
        → IsFree n (is_applied rs) p (stands_in n cs p (settled_by w e t f g) d m)
    unfolding stands_for
    stands_free true true t d hw he = tt
    stands_free true false t West hw he = if_carried (carries_in n cs p West m f) (Protection East) he
    stands_free true false t East hw he = he
    stands_free false true t West hw he = hw
    stands_free false true t East hw he = if_carried (carries_in n cs p East m g) (Protection West) hw
    stands_free false false true West hw he = hw
    stands_free false false true East hw he = he
    stands_free false false false West hw he = hw
    stands_free false false false East hw he = he

    working_free : (w e t : Bool) (d : Side) → is_applied rs (span_at n p West) ≡ w → is_applied rs (span_at n p East) ≡ e
        → IsFree n (is_applied rs) p (working_in n cs p (settled_by w e t f g) d m)
    unfolding leaves_working
    working_free true true t d hw he = tt
    working_free true false t d hw he = sent_free (circuits_at n cs p m d) _ (stands_free true false t (opposite d) hw he)
    working_free false true t d hw he = sent_free (circuits_at n cs p m d) _ (stands_free false true t (opposite d) hw he)
    working_free false false true d hw he = sent_free (circuits_at n cs p m d) _ (stands_free false false true (opposite d) hw he)
    working_free false false false d hw he = sent_free (circuits_at n cs p m d) _ (stands_free false false false (opposite d) hw he)

    protection_free : (w e t : Bool) (d : Side) → is_applied rs (span_at n p West) ≡ w → is_applied rs (span_at n p East) ≡ e
        → IsFree n (is_applied rs) p (protection_in n cs p (settled_by w e t f g) d m)
    unfolding leaves_protection
    protection_free true true t d hw he = tt
    protection_free true false t West hw he = tt
    protection_free true false t East hw he = if_carried (carries_in n cs p West m f) _ (working_free true false t West hw he)
    protection_free false true t West hw he = if_carried (carries_in n cs p East m g) _ (working_free false true t East hw he)
    protection_free false true t East hw he = tt
    protection_free false false true West hw he = he
    protection_free false false true East hw he = hw
    protection_free false false false d hw he = tt

pub connects_free : NoWayCrossesAnAppliedSpan
unfolding settled
connects_free rs cs p d m =
    let n = length rs in
    let w = is_applied rs (span_at n p West) in
    let e = is_applied rs (span_at n p East) in
    let t = is_any_applied rs || is_outranked rs p in
    let f = far_end rs p West in
    let g = far_end rs p East in
    record {
      stands = stands_free rs cs p m f g w e t d refl refl;
      working = working_free rs cs p m f g w e t d refl refl;
      protection = protection_free rs cs p m f g w e t d refl refl;
    }
