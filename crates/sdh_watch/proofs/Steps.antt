-- A settle step and the rounds that are watched after it.
use Rattle.std.proofs.Common.{◌≡◌, ◌≤◌, ℕ, ◌+◌, length, List, ◌∷◌, ap, sym, ◌∙◌, arith, inr}
use Rattle.sdh_plant.specs.Fibres.{IsPrepared}
use Rattle.sdh_circuits.specs.declared.PortId.{PortId}
use Rattle.sdh_rounds.specs.Laws.{EndsAtAMultiple}
use Rattle.sdh_node.specs.Rings.Clocks.{waiting_at}
use Rattle.sdh_node.specs.Rings.Held.{HeldRing}
use Rattle.sdh_node.specs.Rings.Rounds.{World}
use Rattle.sdh_node.specs.Rings.Quiet.{Settles}
use Rattle.sdh_plan.specs.declared.step.Step.{Step}
use Rattle.sdh_plan.specs.declared.step.Step.TheVariants as step
use Rattle.sdh_path.specs.History.{Given}
use Rattle.sdh_watch.specs.Watching.{Lead}
use Rattle.sdh_owed.proofs.Steps.{settled_held, next_by}
use Rattle.sdh_watch.specs.declared.ports.WatchPair.{WatchPair}
use Rattle.sdh_watch.specs.Ports.{Shown}
use Rattle.sdh_watch.specs.Running.{MayRun}
use Rattle.sdh_watch.proofs.Leading.{held_lead, none_lead}

-- the ring after the step and the rounds that are watched
pub went_held : (w mid left : World) (limit k : ℕ) (heard : PortId → List Given) → (s : Settles w limit mid) → Lead k mid left heard
    → left.ring ≡ record w.ring { nodes = left.ring.nodes; rounds = w.ring.rounds + (length s.rounds + k) }
went_held w mid left limit k heard s lead =
    held_lead k mid left heard lead
    ∙ ap (λ (r : HeldRing). record r { nodes = left.ring.nodes; rounds = r.rounds + k }) (settled_held w mid limit s)
    ∙ ap (λ n. record w.ring { nodes = left.ring.nodes; rounds = n }) (omega arith)

pub watched_next : (limit before : ℕ) (w mid left : World) (now watches : List WatchPair) → limit ≤ 65536 → (s : Settles w limit mid)
    → EndsAtAMultiple w.ring mid.ring limit → ((port : PortId) → waiting_at mid.ring port ≡ 0)
    → Shown 128 mid left watches → IsPrepared w.ring.settings.rate (length w.ring.ids) left.fibres → (later : List Step)
    → MayRun before (step.Settle ∷ later) w.ring now w.fibres → MayRun (before + 1) later left.ring watches left.fibres
watched_next limit before w mid left now watches few s ends none shown prepared later h =
    let held = went_held w mid left limit 128 shown.heard s shown.rounds in
    let most = s.settles.within in
    let grown : left.ring.rounds ≡ w.ring.rounds + (length s.rounds + 128) = ap (λ (r : HeldRing). r.rounds) held in
    let middle : mid.ring.rounds ≡ w.ring.rounds + length s.rounds = ap (λ (r : HeldRing). r.rounds) (settled_held w mid limit s) in
    record {
      ring_may =
          next_by 65664 before (length s.rounds + 128) w left held (omega (arith, most, few))
          (inr (let m = ends.multiple in omega (arith, m, ends.ran, grown, middle)))
          (λ port. none_lead 128 mid left shown.heard shown.rounds port (none port)) prepared later h.ring_may;
      many =
          shown.watching.many ∙ ap (λ (r : HeldRing). length r.circuits.circuits) (sym (held_lead 128 mid left shown.heard shown.rounds));
    }
