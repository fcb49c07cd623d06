-- The rounds of a healthy ring are calm, and its settle steps end.
use Rattle.std.proofs.Common.{◌≡◌, ℕ, zero, suc, ◌+◌, ◌-◌, ◌*◌, ◌%◌, ◌<◌, ◌≤◌, true, false, List, [], ◌∷◌, length, get_or, refl, ap, ap₂}
use Rattle.std.proofs.Common.{sym, ◌∙◌, subst, arith}
use Rattle.std.specs.Prelude.{max, replicate}
use Rattle.sdh_basics.specs.Cells.{cells}
use Rattle.sdh_basics.proofs.CellsLaws.{length-cells, get_or-cells}
use Rattle.sdh_ringmap.specs.declared.terms.Code.TheVariants.{Nr}
use Rattle.sdh_restoration.specs.Applied.{span_requests, highest, applies, is_applied}
use Rattle.sdh_circuits.specs.Provisioning.{Provisioning}
use Rattle.sdh_plant.specs.Fibres.{Fibres}
use Rattle.sdh_request.specs.declared.settings.Settings.{Settings}
use Rattle.sdh_node.specs.Rings.Rounds.{World}
use Rattle.sdh_node.specs.Rings.Runs.{run, course}
use Rattle.sdh_node.specs.Rings.Quiet.{is_calm, IsCalm, EndsWindow, SettlesAt, settles_in}
use Rattle.sdh_node.specs.Rings.Changes.{after_stretches, new_world}
use Rattle.sdh_rounds.proofs.FirstWindows.{settles_only, never_only}
use Rattle.sdh_laws.specs.Hearing.Laws.{MayStart}
use Rattle.sdh_laws.proofs.hearing.Changes.{whole_run}
use Rattle.sdh_laws.proofs.hearing.Requests.{requests_by}
use Rattle.sdh_laws.proofs.hearing.Staying.{left_run}
use Rattle.sdh_laws.specs.Carrying.Windows.{layout_of, HasCircuits, span_requests_of}
use Rattle.sdh_laws.specs.Converging.Healthy.{HealthyRoundsAreCalm, healthy_steps, HealthyStepsSettle, HealthyRingsApplyNothing}
use Rattle.sdh_laws.proofs.converging.Runs.{length_run, run_more}
use Rattle.sdh_laws.proofs.converging.Calming.{AreSame, calm_round}
use Rattle.sdh_laws.proofs.converging.HealthySignals.{begin_whole, size, healthy, request_none, heard_first, free_in}
use Rattle.sdh_laws.proofs.converging.HealthyPointers.{still_pointers}
use Rattle.sdh_node.specs.Rings.Held.{node_at}
use Rattle.sdh_node.specs.Stations.{adm}
use Rattle.sdh_rounds.specs.Runs as any_run

-- ---- windows of a course that is calm

-- A ring of n in which b rounds have run before a step. Round k of the step is one of the first 133, and its number is
-- a multiple of 128. It is the first that can end a window.
module _ (v : World) (n b k : ℕ) (two : 2 ≤ n) (sizes : (j : ℕ) → length (run j v).ring.ids ≡ n)
    (numbers : (j : ℕ) → (run j v).ring.rounds ≡ b + j) (place : (b + k - 1) % 128 ≡ 0) (few : k < 134) where
  none_before : (j : ℕ) → j < k → EndsWindow (course v) j → ⊥
  none_before j h window =
      let i = sizes j in
      let r = numbers j in
      let long : 3 * length (run j v).ring.ids ≤ j = window.long in
      let there : ((run j v).ring.rounds - 1) % 128 ≡ 0 = window.place in
      let e : (run j v).ring.rounds - 1 ≡ b + j - 1 = omega arith in
      let p : (b + j - 1) % 128 ≡ 0 = omega arith in
      omega arith

  -- a settle step ends there, where the rounds before were calm
  settles_there : ((j : ℕ) → k < j + 3 * n → j ≤ k → IsCalm (course v) j) → 3 * n ≤ k → (limit : ℕ) → k ≤ limit
      → SettlesAt (course v) limit k
  settles_there calm long limit within =
      let i = sizes k in
      let r = numbers k in
      let e : (run k v).ring.rounds - 1 ≡ b + k - 1 = omega arith in
      record {
        within = within;
        window = record {
          long = omega arith;
          calm = λ j early late. calm j (omega arith) late;
          place = omega arith;
        };
        first = none_before;
      }

-- the rounds of later steps
run_steps : (later : ℕ) (v : World) → after_stretches (replicate later (record { changes = []; rounds = 128 })) v ≡ run (128 * later) v
unfolding any_run.run
run_steps zero v = refl
run_steps (suc later) v =
    run_steps later (run 128 v) ∙ run_more v 128 (128 * later)
    ∙ ap (λ k. run k v) {x = 128 * later + 128} {y = 128 * suc later} (omega arith)

module _ (s : Settings) (ids : List ℕ) (circuits : Provisioning) (f : Fibres) (may : MayStart s ids f) where
  abbrev w : World
  w = new_world s ids circuits f

  abbrev n : ℕ
  n = length ids

  inside : (k p : ℕ) → p < length (run k w).ring.nodes → p < n
  inside k p h = omega (arith, length_run w k, size s ids circuits f may)

  ids_run : (k : ℕ) → length (run k w).ring.ids ≡ n
  ids_run k = ap length (left_run k w).ids

  rounds_run : (k : ℕ) → (run k w).ring.rounds ≡ k
  rounds_run k = let r = (left_run k w).rounds in omega arith

  module _ (form : HasCircuits (layout_of w)) where
    same_from : (j : ℕ) → n + 4 ≤ suc j → (p : ℕ) → p < n → AreSame (node_at (run (suc (suc j)) w).ring.nodes p)
        (node_at (run (suc j) w).ring.nodes p)
    same_from j late p h =
        let two = may.ids_ok.enough in
        let low : p < length w.ring.nodes = omega (arith, size s ids circuits f may) in
        let k = suc j in
        let still = still_pointers s ids circuits f may form k late in
        record {
          state = (healthy s ids circuits f may (suc k) p h).state_idle ∙ sym (healthy s ids circuits f may k p h).state_idle;
          request = λ d. request_none s ids circuits f may k p d h ∙ sym (request_none s ids circuits f may j p d h);
          heard =
              λ d. heard_first s ids circuits f may k p d h (omega arith) ∙ sym (heard_first s ids circuits f may j p d h (omega arith));
          readings = λ d. still.readings p d low;
          word = λ d. (healthy s ids circuits f may (suc k) p h).word_first d ∙ sym ((healthy s ids circuits f may k p h).word_first d);
          generators = λ d. still.generators p d low;
        }

    calm_after : (j : ℕ) → n + 4 ≤ suc j → IsCalm (course w) (suc (suc j))
    unfolding any_run.run
    calm_after j late =
        calm_round (run (suc j) w) (whole_run w (suc j) (begin_whole s ids circuits f may)) (let r = rounds_run (suc j) in omega arith)
        (λ p h. free_in s ids circuits f may (suc j) p h) (λ p h. same_from j late p (inside (suc j) p h))

    pub calm_from : (k : ℕ) → n + 5 ≤ k → IsCalm (course w) k
    calm_from k late = let now : suc (suc (k - 2)) ≡ k = omega arith in subst (IsCalm (course w)) now (calm_after (k - 2) (omega arith))

    -- ---- settle steps

    not_earlier : (j : ℕ) → j < 129 → EndsWindow (course w) j → ⊥
    not_earlier =
        none_before w n 0 129 may.ids_ok.enough ids_run (λ j. rounds_run j ∙ (let e : j ≡ 0 + j = omega arith in e)) refl (omega arith)

    first_step : (limit : ℕ) → 129 ≤ limit → SettlesAt (course w) limit 129
    first_step =
        let few = may.ids_ok.few in
        settles_there w n 0 129 may.ids_ok.enough ids_run (λ j. rounds_run j ∙ (let e : j ≡ 0 + j = omega arith in e)) refl (omega arith)
        (λ j early late. calm_from j (omega arith)) (omega arith)

    module _ (steps : ℕ) (some : 1 ≤ steps) where
      abbrev base : ℕ
      base = 128 * steps + 1

      abbrev v : World
      v = run base w

      calm_v : (j : ℕ) → IsCalm (course v) j
      calm_v j =
          let few = may.ids_ok.few in
          subst (λ u. is_calm u.ring.nodes ≡ true) (sym (run_more w base j)) (calm_from (j + base) (omega arith))

      later_step : (limit : ℕ) → 128 ≤ limit → SettlesAt (course v) limit 128
      later_step =
          let few = may.ids_ok.few in
          settles_there v n base 128 may.ids_ok.enough (λ j. ap length (left_run j v).ids ∙ ids_run base)
          (λ j. (let r = (left_run j v).rounds in let q = rounds_run base in omega arith)) (omega arith) (omega arith)
          (λ j early late. calm_v j) (omega arith)

  pub left_steps : (steps : ℕ) → 1 ≤ steps → after_stretches (healthy_steps steps) w ≡ run (128 * steps + 1) w
  left_steps zero h = absurd (omega arith)
  left_steps (suc later) h =
      run_steps later (run 129 w) ∙ run_more w 129 (128 * later)
      ∙ ap (λ k. run k w) {x = 128 * later + 129} {y = 128 * suc later + 1} (omega arith)

pub healthy_rounds_are_calm : HealthyRoundsAreCalm
healthy_rounds_are_calm s ids circuits f may form k late = calm_from s ids circuits f may form k late

pub healthy_steps_settle : HealthyStepsSettle
healthy_steps_settle s ids circuits f may form =
    let w = new_world s ids circuits f in
    record {
      short = λ limit h. never_only adm w limit (λ j low e. not_earlier s ids circuits f may form j (omega arith) e);
      first = λ limit h. settles_only adm w limit 129 (first_step s ids circuits f may form limit h);
      later = λ limit steps h some. (let left = left_steps s ids circuits f may steps some in
          ap (λ v. settles_in v limit) left ∙ settles_only adm (run (128 * steps + 1) w) limit 128
          (later_step s ids circuits f may form steps some limit h));
      left = left_steps s ids circuits f may;
      number =
          λ steps some. ap (λ (v : World). v.ring.rounds) (left_steps s ids circuits f may steps some)
          ∙ rounds_run s ids circuits f may (128 * steps + 1);
    }

-- ---- nothing is applied

no_highest : (rs : List ℕ) → ((i : ℕ) → i < length rs → get_or rs i 0 ≡ 0) → highest rs ≡ 0
no_highest [] none = refl
no_highest (r ∷ rs) none =
    let here : r ≡ 0 = none 0 (omega arith) in
    let rest : highest rs ≡ 0 = no_highest rs (λ i h. none (suc i) (omega arith)) in
    ap₂ max here rest

applies_nothing : (rs : List ℕ) (span : ℕ) → highest rs ≡ 0 → is_applied rs span ≡ false
unfolding applies
applies_nothing rs span none = rw none refl

no_requests : (m span : ℕ) → is_applied (span_requests m (λ p d. Nr)) span ≡ false
unfolding span_requests
no_requests m span =
    applies_nothing (cells (λ s. 0) m) span (no_highest (cells (λ s. 0) m)
    (λ i h. get_or-cells (λ s. 0) m i 0 (omega (arith, length-cells {X = ℕ} (λ s. 0) m))))

none_asks : (s : Settings) (ids : List ℕ) (circuits : Provisioning) (f : Fibres) (may : MayStart s ids f) (j : ℕ)
    → span_requests_of (run (suc j) (new_world s ids circuits f)) ≡ span_requests (length ids) (λ p d. Nr)
none_asks s ids circuits f may j =
    let w = new_world s ids circuits f in
    requests_by (run (suc j) w) (length ids) (length_run w (suc j) ∙ size s ids circuits f may) (λ p d. Nr)
    (λ p d h. request_none s ids circuits f may j p d h)

pub healthy_rings_apply_nothing : HealthyRingsApplyNothing
healthy_rings_apply_nothing s ids circuits f may k span some =
    let now : suc (k - 1) ≡ k = omega arith in
    subst (λ j. is_applied (span_requests_of (run j (new_world s ids circuits f))) span ≡ false) now
    (ap (λ rs. is_applied rs span) (none_asks s ids circuits f may (k - 1)) ∙ no_requests (length ids) span)
