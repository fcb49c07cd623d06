-- Clocks from round to round.
use Rattle.std.proofs.Common.{◌≡◌, ℕ, zero, suc, ◌+◌, ◌-◌, ◌*◌, ◌≤◌, Bool, true, false, nat_le, refl, ◌∙◌, arith}
use Rattle.std.specs.Prelude.{if◌then◌else◌}
use Rattle.std.proofs.lemmas.Bool.Decides.{nat_tests}
use Rattle.sdh_payload.specs.declared.chunk.ChunkForm.{ChunkForm}
use Rattle.sdh_payload.specs.declared.chunk.ChunkForm.TheVariants.{Plain, Short, Long}
use Rattle.sdh_payload.specs.Clock.{Clock, IsClock, waiting, next_form, after_form, ticked, ticks}

-- ---- a round

clock_after : (offset rounds : ℕ) (f : ChunkForm) (c : Clock) → IsClock offset rounds c → IsClock offset (rounds + 1) (after_form f c)
clock_after offset rounds Plain c h = record {
  rounds_are = omega (arith, h.rounds_are);
  rest_few = omega (arith, h.rest_few);
  value_small = h.value_small;
}
clock_after offset rounds Short c h = record {
  rounds_are = omega (arith, h.rounds_are);
  rest_few = omega arith;
  value_small = λ small. omega arith;
}
clock_after offset rounds Long c h = record {
  rounds_are = omega (arith, h.rounds_are);
  rest_few = omega arith;
  value_small = λ small. omega arith;
}

pub next_clock : (offset rounds : ℕ) (c : Clock) → IsClock offset rounds c → IsClock offset (rounds + 1) (ticked c)
unfolding ticked
next_clock offset rounds c h = clock_after offset rounds (next_form c) c h

few_after : (f : ChunkForm) (c : Clock) (most : ℕ) → waiting c ≤ most → waiting (after_form f c) ≤ most
few_after Plain c most h = h
few_after Short c most h = omega (arith, h)
few_after Long c most h = omega (arith, h)

pub next_few : (c : Clock) (most : ℕ) → waiting c ≤ most → waiting (ticked c) ≤ most
unfolding ticked
next_few c most h = few_after (next_form c) c most h

-- the form of the last round is what was sent in it
pub form_after : (f : ChunkForm) (c : Clock) → (after_form f c).form ≡ f
form_after Plain c = refl
form_after Short c = refl
form_after Long c = refl

pub form_ticked : (c : Clock) → (ticked c).form ≡ next_form c
unfolding ticked
form_ticked c = form_after (next_form c) c

-- ---- slips run out

-- the number of rounds in which all pending slips are used up: the rest, and four for each slip
abbrev left_in : Clock → ℕ
left_in c = c.rest + 4 * waiting c

runs_down : (c : Clock) (rest ups downs : Bool) → nat_le 1 c.rest ≡ rest → nat_le 1 c.ups ≡ ups → nat_le 1 c.downs ≡ downs
    → left_in (after_form (if rest then Plain else if ups then Short else if downs then Long else Plain) c) ≤ left_in c - 1
runs_down c true ups downs r u d = let some : 1 ≤ c.rest = grind (arith, nat_tests) in omega (arith, some)
runs_down c false true downs r u d =
    let none : c.rest ≡ 0 = grind (arith, nat_tests) in
    let some : 1 ≤ c.ups = grind (arith, nat_tests) in
    omega (arith, none, some)
runs_down c false false true r u d =
    let none : c.rest ≡ 0 = grind (arith, nat_tests) in
    let few : c.ups ≡ 0 = grind (arith, nat_tests) in
    let some : 1 ≤ c.downs = grind (arith, nat_tests) in
    omega (arith, none, few, some)
runs_down c false false false r u d =
    let none : c.rest ≡ 0 = grind (arith, nat_tests) in
    let ups : c.ups ≡ 0 = grind (arith, nat_tests) in
    let downs : c.downs ≡ 0 = grind (arith, nat_tests) in
    omega (arith, none, ups, downs)

ticks_down : (c : Clock) (k : ℕ) → left_in (ticks k c) ≤ left_in c - k
unfolding ticks ticked
ticks_down c zero = omega arith
ticks_down c (suc k) =
    (let now = ticks k c in omega (
      arith,
      ticks_down c k,
      runs_down now (nat_le 1 now.rest) (nat_le 1 now.ups)
          (nat_le 1 now.downs) refl refl refl,
    ))

-- 68 rounds use up 16 slips
pub slips_run_out : (c : Clock) (k : ℕ) → c.rest ≤ 4 → waiting c ≤ 16 → 68 ≤ k → waiting (ticks k c) ≡ 0
slips_run_out c k rest few long = omega (arith, ticks_down c k)

-- ---- where none waits

pub goes_plain : (c : Clock) → waiting c ≡ 0 → next_form c ≡ Plain
goes_plain c none = go (nat_le 1 c.rest) (nat_le 1 c.ups) (nat_le 1 c.downs) refl refl refl
  where
    go : (rest ups downs : Bool) → nat_le 1 c.rest ≡ rest → nat_le 1 c.ups ≡ ups → nat_le 1 c.downs ≡ downs
        → (if rest then Plain else if ups then Short else if downs then Long else Plain) ≡ Plain
    go true ups downs r u d = refl
    go false true downs r u d = let some : 1 ≤ c.ups = grind (arith, nat_tests) in absurd (omega (arith, none, some))
    go false false true r u d = let some : 1 ≤ c.downs = grind (arith, nat_tests) in absurd (omega (arith, none, some))
    go false false false r u d = refl

-- a clock for which no slip waits keeps its value, and goes on by 2349 bytes a round
pub record GoesPlain (c : Clock) (k : ℕ) : Type 0 where
  pub none : waiting (ticks k c) ≡ 0
  pub value : (ticks k c).value ≡ c.value
  pub sent : (ticks k c).sent ≡ c.sent + 2349 * k

after_plain : (f : ChunkForm) (c : Clock) → f ≡ Plain → waiting c ≡ 0
    → (waiting (after_form f c) ≡ 0) × ((after_form f c).value ≡ c.value) × ((after_form f c).sent ≡ c.sent + 2349)
after_plain f c e none = rw e (none, refl, refl)

pub plain_tick : (c : Clock) → waiting c ≡ 0 → (waiting (ticked c) ≡ 0) × ((ticked c).value ≡ c.value) × ((ticked c).sent ≡ c.sent + 2349)
unfolding ticked
plain_tick c none = after_plain (next_form c) c (goes_plain c none) none

pub goes_on : (c : Clock) (k : ℕ) → waiting c ≡ 0 → GoesPlain c k
unfolding ticks
goes_on c zero none = record { none = none; value = refl; sent = omega arith }
goes_on c (suc k) none =
    let before = goes_on c k none in
    let now = plain_tick (ticks k c) before.none in
    record { none = now.0; value = now.1 ∙ before.value; sent = omega (arith, now.2, before.sent) }

-- ---- how many rounds it has run

rounds_after : (f : ChunkForm) (c : Clock) → (after_form f c).rounds ≡ c.rounds + 1
rounds_after Plain c = refl
rounds_after Short c = refl
rounds_after Long c = refl

pub rounds_more : (c : Clock) → (ticked c).rounds ≡ c.rounds + 1
unfolding ticked
rounds_more c = rounds_after (next_form c) c
