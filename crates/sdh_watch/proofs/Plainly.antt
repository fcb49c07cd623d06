-- In a ring at rest each port's clock goes plainly.
use Rattle.std.proofs.Common.{◌≡◌, ℕ, zero, suc, ◌+◌, ◌-◌, ◌*◌, ◌≤◌, Bool, true, false, List, [], ◌∷◌, ap, sym, ◌∙◌, subst, arith}
use Rattle.std.specs.Prelude.{if◌then◌else◌, nat_lt}
use Rattle.sdh_circuits.specs.declared.PortId.{PortId}
use Rattle.sdh_circuits.specs.Provisioned.{same_port}
use Rattle.sdh_payload.specs.declared.clock.Turn.{Turn}
use Rattle.sdh_payload.specs.declared.clock.Turn.TheVariants.{Up, Down}
use Rattle.sdh_payload.specs.Clock.{Clock, new_clock, waiting, with_waiting, ticked, ticks}
use Rattle.sdh_payload.proofs.Clocking.{goes_on}
use Rattle.sdh_restoration.specs.Changes as change
use Rattle.sdh_restoration.specs.Changes.{Change, Stretch}
use Rattle.sdh_node.specs.Rings.Clocks.{clock_after, clock_changed, clock_in, clocks_from, clock_at}
use Rattle.sdh_node.specs.Rings.Rounds.{World}
use Rattle.sdh_path.specs.Laws.{BeginsAt}
use Rattle.sdh_path.proofs.Clean.{clocks_are_in_step}
use Rattle.sdh_laws.proofs.strangers.Straight.{small_ticked}

-- a clock of a port with this offset goes plainly from round t on: it keeps its pointer value and sends 2349 bytes a
-- round
pub record GoesPlainly (clock : ℕ → Clock) (offset t : ℕ) : Type 0 where
  pub value : (k : ℕ) → (clock (t + k)).value ≡ (clock t).value
  pub sent : (k : ℕ) → (clock (t + k)).sent ≡ (clock t).sent + 2349 * k
  pub small : (clock t).value ≤ 782
  pub in_step : BeginsAt offset (clock t).sent (clock t).value

-- ---- in step with its pointer value

pub record IsInStep (offset : ℕ) (c : Clock) : Type 0 where
  pub small : c.value ≤ 782
  pub step : BeginsAt offset c.sent c.value

step_new : (offset : ℕ) → offset ≤ 782 → IsInStep offset (new_clock offset)
step_new offset small = record { small = small; step = clocks_are_in_step.first offset small }

step_waits : (offset : ℕ) (turn : Turn) (count : ℕ) (c : Clock) → IsInStep offset c → IsInStep offset (with_waiting turn count c)
step_waits offset Up count c is = record { small = is.small; step = clocks_are_in_step.told offset Up count c is.step }
step_waits offset Down count c is = record { small = is.small; step = clocks_are_in_step.told offset Down count c is.step }

step_ticks : (offset k : ℕ) (c : Clock) → IsInStep offset c → IsInStep offset (ticks k c)
unfolding ticks
step_ticks offset zero c is = is
step_ticks offset (suc k) c is =
    let before = step_ticks offset k c is in
    record { small = small_ticked (ticks k c) before.small; step = clocks_are_in_step.went offset (ticks k c) before.step }

step_after : (offset : ℕ) (port : PortId) (x : Change) (c : Clock) → IsInStep offset c → IsInStep offset (clock_after port x c)
step_after offset port (change.Fibre q e condition) c is = is
step_after offset port (change.Order q e command) c is = is
step_after offset port (change.Hold q turns) c is = is
step_after offset port (change.Slip other turn count) c is = by (same_port port other)
  where
    by : (b : Bool) → IsInStep offset (if b then with_waiting turn count c else c)
    by true = step_waits offset turn count c is
    by false = is
step_after offset port (change.Now t) c is = is

step_changed : (offset : ℕ) (port : PortId) (xs : List Change) (c : Clock) → IsInStep offset c → IsInStep offset (clock_changed port xs c)
step_changed offset port [] c is = is
step_changed offset port (x ∷ xs) c is = step_changed offset port xs (clock_after port x c) (step_after offset port x c is)

pub step_in : (offset : ℕ) (port : PortId) (ss : List Stretch) (c : Clock) (t : ℕ) → IsInStep offset c
    → IsInStep offset (clock_in port ss c t)
step_in offset port [] c t is = step_ticks offset t c is
step_in offset port (s ∷ ss) c t is =
    by (nat_lt t s.rounds) (step_in offset port ss (ticks s.rounds (clock_changed port s.changes c)) (t - s.rounds)
    (step_ticks offset s.rounds (clock_changed port s.changes c) (step_changed offset port s.changes c is)))
  where
    by : (b : Bool) → IsInStep offset (clock_in port ss (ticks s.rounds (clock_changed port s.changes c)) (t - s.rounds))
        → IsInStep offset (if b then ticks t (clock_changed port s.changes c)
        else clock_in port ss (ticks s.rounds (clock_changed port s.changes c)) (t - s.rounds))
    by true later = step_ticks offset t (clock_changed port s.changes c) (step_changed offset port s.changes c is)
    by false later = later

pub step_first : (offset : ℕ) (port : PortId) (ss : List Stretch) (t : ℕ) → offset ≤ 782
    → IsInStep offset (clock_in port ss (new_clock offset) t)
step_first offset port ss t small = step_in offset port ss (new_clock offset) t (step_new offset small)

-- ---- from where none waits

ticks_more : (i j : ℕ) (c : Clock) → ticks (i + j) c ≡ ticks i (ticks j c)
unfolding ticks
ticks_more zero j c = ap (λ m. ticks m c) (let e : zero + j ≡ j = omega arith in e)
ticks_more (suc i) j c = ap (λ m. ticks m c) (let e : suc i + j ≡ suc (i + j) = omega arith in e) ∙ ap ticked (ticks_more i j c)

-- the clock of a port from a world on, from j rounds later on, where none waits then
pub plainly : (w : World) (port : PortId) (offset j : ℕ) → IsInStep offset (clock_at w.ring port)
    → waiting (ticks j (clock_at w.ring port)) ≡ 0 → GoesPlainly (clocks_from w port) offset (w.ring.rounds + j)
plainly w port offset j is none =
    let c = clock_at w.ring port in
    let there = step_ticks offset j c is in
    let first : clocks_from w port (w.ring.rounds + j) ≡ ticks j c =
    ap (λ m. ticks m c) (let e : w.ring.rounds + j - w.ring.rounds ≡ j = omega arith in e) in
    let later =
    λ (k : ℕ). ap (λ m. ticks m c) (let e : w.ring.rounds + j + k - w.ring.rounds ≡ k + j = omega arith in e) ∙ ticks_more k j c in
    record {
      value = λ k. ap (λ (x : Clock). x.value) (later k) ∙ (goes_on (ticks j c) k none).value ∙ sym (ap (λ (x : Clock). x.value) first);
      sent =
          λ k. ap (λ (x : Clock). x.sent) (later k) ∙ (goes_on (ticks j c) k none).sent ∙ sym (ap (λ (x : Clock). x.sent + 2349 * k) first);
      small = subst (λ (x : Clock). x.value ≤ 782) (sym first) there.small;
      in_step = subst (λ (x : Clock). BeginsAt offset x.sent x.value) (sym first) there.step;
    }
