-- A document read part by part.
use Rattle.std.proofs.Common.{◌≡◌, ℕ, ◌/◌, List, ◌++◌, map, Some, None, unwrap_or, codes, ap, sym, subst, ◌∙◌}
use Rattle.toml.specs.Data.{Members}
use Rattle.sdh_ringmap.specs.declared.terms.Rate.{Rate}
use Rattle.sdh_ringmap.specs.Rates.{n_of}
use Rattle.sdh_request.specs.declared.settings.Settings.{Settings}
use Rattle.sdh_circuits.specs.Provisioned.{Provisioned}
use Rattle.sdh_circuits.specs.Provisioning.{Provisioning}
use Rattle.sdh_plan.specs.declared.step.Step.{Step}
use Rattle.sdh_plan.specs.declared.check_error.CheckError.{CheckError}
use Rattle.sdh_plan.specs.Check.{Check, answer}
use Rattle.sdh_plan.specs.Refusals.{IsRefused}
use Rattle.sdh_plan.specs.Document.{elements_in, string_of}
use Rattle.sdh_plan.specs.Circuits.{provisioned}
use Rattle.sdh_plan.specs.Steps.{step_of}
use Rattle.sdh_plan.specs.Planned.{Planned, planned}
use Rattle.sdh_plan.specs.Plans.{rate_in, n_in, nodes_in, circuits_in, threshold_at, wait_at, limit_at, ring_checks, settings_checks}
use Rattle.sdh_plan.specs.Plans.{provision_checks, script_checks, checks, plan_of}
use Rattle.sdh_plan.proofs.Checking.{answer_behind, refused_before, refused_behind}

-- what the first part gave: the rate and the nodes
pub record Told (ms : Members) (rate : Rate) (nodes : List ℕ) : Type 0 where
  pub rate_is : rate ≡ rate_in ms
  pub nodes_are : nodes ≡ nodes_in ms

-- plans are equal where their parts are
made : (settings : Settings) (limit : ℕ) (nodes : List ℕ) (circuits : List Provisioned) (steps : List Step) (rate : Rate)
    (threshold wait : ℕ) (limit' : ℕ) (nodes' : List ℕ) (circuits' : List Provisioned) (steps' : List Step)
    → settings.rate ≡ rate → settings.threshold ≡ threshold → settings.wait ≡ wait → limit ≡ limit' → nodes ≡ nodes' → circuits ≡ circuits'
    → steps ≡ steps'
    → ◌≡◌ {A = Planned} (record { settings = settings; limit = limit; nodes = nodes; circuits = circuits; steps = steps })
    (record {
      settings = record { rate = rate; threshold = threshold; wait = wait };
      limit = limit';
      nodes = nodes';
      circuits = circuits';
      steps = steps';
    })
made settings limit nodes circuits steps rate threshold wait limit' nodes' circuits' steps' a b c d e f g =
    let set : ℕ → ℕ → Rate → Settings = λ t w r. record { rate = r; threshold = t; wait = w } in
    let plan : Settings → ℕ → List ℕ → List Provisioned → List Step → Planned =
    λ s l ids cs ss. record { settings = s; limit = l; nodes = ids; circuits = cs; steps = ss } in
    let settings_same : settings ≡ set threshold wait rate =
    ap (λ r. set settings.threshold settings.wait r) a ∙ ap (λ t. set t settings.wait rate) b ∙ ap (λ w. set threshold w rate) c in
    ap (λ v. plan v limit nodes circuits steps) settings_same ∙ ap (λ v. plan (set threshold wait rate) v nodes circuits steps) d
    ∙ ap (λ v. plan (set threshold wait rate) limit' v circuits steps) e
    ∙ ap (λ v. plan (set threshold wait rate) limit' nodes' v steps) f
    ∙ ap (λ v. plan (set threshold wait rate) limit' nodes' circuits' v) g

-- the circuit map is that of its circuits
pub keeps_ring : (p : Provisioning) (slots k : ℕ) (nodes : List ℕ) (circuits : List Provisioned) → p ≡ provisioned slots nodes circuits
    → slots ≡ k → p ≡ provisioned k nodes p.circuits
keeps_ring p slots k nodes circuits e h =
    e ∙ ap (λ j. provisioned j nodes circuits) h ∙ ap (provisioned k nodes) (sym (ap (λ q. q.circuits) e))

module _ (ms : Members) (rate : Rate) (nodes : List ℕ) (told : Told ms rate nodes) where
  -- the checks after those of the ring
  abbrev later : List Check
  later =
      settings_checks (n_of rate) ms ++ (provision_checks (n_of rate) nodes ms ++ script_checks (n_of rate) nodes (circuits_in nodes ms) ms)

  same : checks ms ≡ ring_checks ms ++ later
  unfolding checks
  same =
      ap (λ k. ring_checks ms ++ (settings_checks k ms ++ (provision_checks k (nodes_in ms) ms
      ++ script_checks k (nodes_in ms) (circuits_in (nodes_in ms) ms) ms))) (ap n_of (sym told.rate_is))
      ∙ ap (λ l. ring_checks ms ++ (settings_checks (n_of rate) ms
      ++ (provision_checks (n_of rate) l ms ++ script_checks (n_of rate) l (circuits_in l ms) ms))) (sym told.nodes_are)

  pub settings_refuse : (why : CheckError) → answer (ring_checks ms) ≡ None → IsRefused (answer (settings_checks (n_of rate) ms)) why
      → IsRefused (answer (checks ms)) why
  settings_refuse why ring e =
      subst (λ (l : List Check). IsRefused (answer l) why) (sym same)
      (refused_behind (ring_checks ms) later why ring (refused_before (settings_checks (n_of rate) ms)
      (provision_checks (n_of rate) nodes ms ++ script_checks (n_of rate) nodes (circuits_in nodes ms) ms) why e))

  pub circuits_refuse : (why : CheckError) → answer (ring_checks ms) ≡ None → answer (settings_checks (n_of rate) ms) ≡ None
      → IsRefused (answer (provision_checks (n_of rate) nodes ms)) why → IsRefused (answer (checks ms)) why
  circuits_refuse why ring settings e =
      subst (λ (l : List Check). IsRefused (answer l) why) (sym same)
      (refused_behind (ring_checks ms) later why ring
      (refused_behind (settings_checks (n_of rate) ms) (provision_checks (n_of rate) nodes ms
      ++ script_checks (n_of rate) nodes (circuits_in nodes ms) ms) why settings
      (refused_before (provision_checks (n_of rate) nodes ms) (script_checks (n_of rate) nodes (circuits_in nodes ms) ms) why e)))

  pub script_refuses : (why : CheckError) (cs : List Provisioned) → cs ≡ circuits_in nodes ms → answer (ring_checks ms) ≡ None
      → answer (settings_checks (n_of rate) ms) ≡ None → answer (provision_checks (n_of rate) nodes ms) ≡ None
      → IsRefused (answer (script_checks (n_of rate) nodes cs ms)) why → IsRefused (answer (checks ms)) why
  script_refuses why cs made ring settings circuits e =
      subst (λ (l : List Check). IsRefused (answer l) why) (sym same)
      (refused_behind (ring_checks ms) later why ring
      (refused_behind (settings_checks (n_of rate) ms) (provision_checks (n_of rate) nodes ms
      ++ script_checks (n_of rate) nodes (circuits_in nodes ms) ms) why settings
      (refused_behind (provision_checks (n_of rate) nodes ms)
      (script_checks (n_of rate) nodes (circuits_in nodes ms) ms) why circuits
      (subst (λ (l : List Provisioned). IsRefused (answer (script_checks (n_of rate) nodes l ms)) why) made e))))

  pub all_pass : (cs : List Provisioned) → cs ≡ circuits_in nodes ms → answer (ring_checks ms) ≡ None
      → answer (settings_checks (n_of rate) ms) ≡ None → answer (provision_checks (n_of rate) nodes ms) ≡ None
      → answer (script_checks (n_of rate) nodes cs ms) ≡ None → answer (checks ms) ≡ None
  all_pass cs made ring settings circuits script =
      ap answer same ∙ answer_behind (ring_checks ms) later ring
      ∙ answer_behind (settings_checks (n_of rate) ms) (provision_checks (n_of rate) nodes ms
      ++ script_checks (n_of rate) nodes (circuits_in nodes ms) ms) settings
      ∙ answer_behind (provision_checks (n_of rate) nodes ms) (script_checks (n_of rate) nodes (circuits_in nodes ms) ms) circuits
      ∙ ap (λ l. answer (script_checks (n_of rate) nodes l ms)) (sym made) ∙ script

  pub plan_is : (settings : Settings) (limit : ℕ) (circuits : Provisioning) (steps : List Step) → settings.rate ≡ rate
      → threshold_at (n_of rate) ms ≡ Some settings.threshold → wait_at ms ≡ Some settings.wait → limit_at ms ≡ Some limit
      → circuits ≡ provisioned (n_of rate / 2) nodes (circuits_in nodes ms)
      → steps ≡ map (λ d. step_of (n_of rate) nodes circuits.circuits (string_of d)) (elements_in (codes "script") ms)
      → planned settings limit nodes circuits steps ≡ plan_of ms
  unfolding plan_of
  plan_is settings limit circuits steps r t w l cs ss =
      let rate_same : settings.rate ≡ rate_in ms = r ∙ told.rate_is in
      let n_same : n_of rate ≡ n_in ms = ap n_of told.rate_is in
      let threshold_same : settings.threshold ≡ unwrap_or (threshold_at (n_in ms) ms) 0 =
      ap (λ o. unwrap_or o 0) (sym t) ∙ ap (λ k. unwrap_or (threshold_at (n_of k) ms) 0) told.rate_is in
      let wait_same : settings.wait ≡ unwrap_or (wait_at ms) 0 = ap (λ o. unwrap_or o 0) (sym w) in
      let limit_same : limit ≡ unwrap_or (limit_at ms) 0 = ap (λ o. unwrap_or o 0) (sym l) in
      let circuits_same : circuits.circuits ≡ circuits_in (nodes_in ms) ms =
      ap (λ p. p.circuits) cs ∙ ap (λ ids. circuits_in ids ms) told.nodes_are in
      let steps_same : steps ≡ map (λ d. step_of (n_in ms) (nodes_in ms) (circuits_in (nodes_in ms) ms) (string_of d))
      (elements_in (codes "script") ms) =
      ss ∙ ap (λ l. map (λ d. step_of (n_of rate) nodes l (string_of d)) (elements_in (codes "script") ms)) (ap (λ p. p.circuits) cs)
      ∙ ap (λ k. map (λ d. step_of k nodes (circuits_in nodes ms) (string_of d)) (elements_in (codes "script") ms)) n_same
      ∙ ap (λ ids. map (λ d. step_of (n_in ms) ids (circuits_in ids ms) (string_of d))
      (elements_in (codes "script") ms)) told.nodes_are in
      made settings limit nodes circuits.circuits steps _ _ _ _ _ _ _ rate_same threshold_same wait_same limit_same told.nodes_are circuits_same steps_same
