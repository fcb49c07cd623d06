-- A settle step to whose rounds the listeners listened.
use Rattle.std.proofs.Common.{◌≡◌, ℕ, ◌+◌, ◌-◌, ◌^◌, ◌≤◌, List, ◌∷◌, ◌++◌, length, take, ap, sym, subst, ◌∙◌, arith}
use Rattle.std.specs.Prelude.{slice_get}
use Rattle.std.proofs.lemmas.List.{length-take-le}
use Rattle.sdh_plant.specs.Fibres.{IsPrepared}
use Rattle.sdh_circuits.specs.declared.PortId.{PortId}
use Rattle.sdh_circuits.specs.Provisioning.{Provisioning}
use Rattle.sdh_node.specs.Stations.{adm}
use Rattle.sdh_rounds.proofs.Runs.{held_run, course_whole}
use Rattle.sdh_node.specs.Rings.Clocks.{waiting_at}
use Rattle.sdh_node.specs.Rings.Held.{HeldRing}
use Rattle.sdh_node.specs.Rings.Rounds.{World}
use Rattle.sdh_node.specs.Rings.Runs.{course_with}
use Rattle.sdh_ring.specs.Observed.{Hears}
use Rattle.sdh_report.specs.Lines.{settle_line}
use Rattle.sdh_plan.specs.declared.step.Step.{Step}
use Rattle.sdh_plan.specs.declared.step.Step.TheVariants as step
use Rattle.sdh_owed.specs.Steps.{world_after_step}
use Rattle.sdh_owed.proofs.Known.{no_round}
use Rattle.sdh_owed.specs.Running as ring
use Rattle.sdh_owed.specs.Running.{BeginsAtAMultiple}
use Rattle.sdh_owed.proofs.Steps.{settled_held, next_by, changed_next, changed_circuits}
use Rattle.sdh_outage_cli.specs.Outages.{Outaged, trace_in, outaged_in}
use Rattle.sdh_outage_cli.specs.Lines.{outages_listed}
use Rattle.sdh_outage_cli.specs.Ports.{AreReady, AreListening, ports_by_node, outages_shown, outage_port_lines, shown_text}
use Rattle.sdh_outage_cli.specs.Running.{MayRun}
use Rattle.sdh_outage_cli.specs.declared.listing.OutageListing.{OutageListing}
use Rattle.sdh_outage_cli.specs.declared.listing.OutageListing.TheVariants as listing
use Rattle.sdh_outage_cli.specs.declared.ports.ListenerPair.{ListenerPair}
use Rattle.sdh_outage_cli.specs.declared.streams.StreamPair.{StreamPair}
use Rattle.sdh_outage_cli.proofs.Listening.{ready_then, shown_is, trace_is}

-- before a settle step the ring has run at most 2 ^ 31 rounds
pub few_before : (before : ℕ) (steps : List Step) (r : HeldRing) (f : _) → ring.MayRun 65536 before steps r f → r.rounds ≤ 2 ^ 31
few_before before steps r f may = let few = may.few in let rounds = may.rounds in omega arith

-- what the listeners keep of a settle step, without the room for what ports deliver
pub listens_only : {w left : World} {limit : ℕ} {items : List ListenerPair} {streams : List StreamPair} {counts : List ℕ}
    → Hears (λ at k. AreListening at k items streams × (counts ≡ ports_by_node (at k).ring)) w limit left
    → Hears (λ at k. AreListening at k items streams) w limit left
listens_only x = record { settles = x.settles; kept = x.kept.0 }

pub rooms_left : (w left : World) (limit : ℕ) (items : List ListenerPair) (streams : List StreamPair) (counts : List ℕ)
    → Hears (λ at k. AreListening at k items streams × (counts ≡ ports_by_node (at k).ring)) w limit left → counts ≡ ports_by_node left.ring
rooms_left w left limit items streams counts x =
    x.kept.1 ∙ ap (λ (v : World). ports_by_node v.ring) (sym (x.settles.left_is ∙ course_whole adm x.settles.rounds w))

module _ (w left : World) (limit : ℕ) (items : List ListenerPair) (streams : List StreamPair)
    (x : Hears (λ at k. AreListening at k items streams) w limit left) where
  abbrev at : ℕ → World
  at = course_with x.settles.rounds w

  abbrev ran : ℕ
  ran = length x.settles.rounds

  -- its rounds are numbered one after the other
  numbered : (j : ℕ) → j ≤ ran → (at j).ring.rounds ≡ (at 0).ring.rounds + j
  numbered j low =
      ap (λ (r : HeldRing). r.rounds) (held_run adm (take j x.settles.rounds) w)
      ∙ ap (λ n. w.ring.rounds + n) (length-take-le j x.settles.rounds low)

  -- the settle step left the last world of its course
  left_at : left ≡ at ran
  left_at = x.settles.left_is ∙ course_whole adm x.settles.rounds w

  pub many_then : length items ≡ length left.ring.circuits.circuits
  many_then = x.kept.many ∙ ap (λ (v : World). length v.ring.circuits.circuits) (sym left_at)

  -- what is reported of the settle step
  pub told_is : (number : ℕ) → (let told : Outaged = record {
    number = number;
    round = left.ring.rounds - 1;
    circuits = left.ring.circuits.circuits;
    ports = outages_shown left.ring.circuits.circuits items;
    trace =
        trace_in ran at (at ran).ring.circuits.circuits;
  } in told ≡ outaged_in number at ran)
  told_is number =
      ap (λ (v : World). record {
        number = number;
        round = v.ring.rounds - 1;
        circuits = v.ring.circuits.circuits;
        ports = outages_shown v.ring.circuits.circuits items;
        trace = trace_in ran at (at ran).ring.circuits.circuits;
      }) left_at
      ∙ ap (λ ports. record {
        number = number;
        round = (at ran).ring.rounds - 1;
        circuits = (at ran).ring.circuits.circuits;
        ports = ports;
        trace = trace_in ran at (at ran).ring.circuits.circuits;
      }) (shown_is at ran items streams numbered x.kept)

  -- what is written of the settle step
  pub listed_is : (listing : OutageListing) (number : ℕ) → shown_text listing number (left.ring.rounds - 1) left.ring.circuits.circuits items
      ≡ outages_listed listing (outaged_in number at ran)
  listed_is listing.Ports number = ap (outages_listed listing.Ports) (told_is number)
  listed_is (listing.Trace port) number =
      ap (λ (v : World). settle_line number (v.ring.rounds - 1)
      ++ outage_port_lines v.ring.circuits.circuits (slice_get v.ring.circuits.circuits port.circuit) (slice_get items port.circuit) port.end) left_at
      ∙ ap (λ l. settle_line number ((at ran).ring.rounds - 1) ++ l) (trace_is at ran items streams numbered x.kept port)

  -- the script goes on after the settle step
  pub heard_next : (before : ℕ) (now : List ListenerPair) (then : List StreamPair) → limit ≤ 65536 → BeginsAtAMultiple left.ring
      → ((port : PortId) → waiting_at left.ring port ≡ 0) → IsPrepared w.ring.settings.rate (length w.ring.ids) left.fibres
      → (later : List Step) → MayRun before (step.Settle ∷ later) w.ring now then w.fibres
      → MayRun (before + 1) later left.ring items streams left.fibres
  heard_next before now then few begins none prepared later may =
      let most = x.settles.settles.within in
      record {
        ring_may =
            next_by 65536 before ran w left (settled_held w left limit x.settles) (omega arith) begins none prepared later may.ring_may;
        ready =
            subst (λ (v : World). AreReady v.ring.circuits.circuits v.ring.rounds items streams) (sym left_at)
            (ready_then at ran items streams x.kept (numbered ran (omega arith)));
      }

-- ---- any other step

pub changed_ready : (before : ℕ) (s : Step) (w left : World) (items : List ListenerPair) (streams : List StreamPair) → (s ≡ step.Settle → ⊥) → left ≡ world_after_step s w
    → (later : List Step) → MayRun before (s ∷ later) w.ring items streams w.fibres
    → MayRun before later left.ring items streams left.fibres
changed_ready before s w left items streams other is later may =
    let rounds : left.ring.rounds ≡ w.ring.rounds = ap (λ (v : World). v.ring.rounds) is ∙ no_round.rounds s w in
    record {
      ring_may = changed_next 65536 before s w left other is later may.ring_may;
      ready = subst (λ n. AreReady left.ring.circuits.circuits n items streams) (sym rounds)
          (subst (λ (p : Provisioning). AreReady p.circuits w.ring.rounds items streams) (sym (changed_circuits s w left is)) may.ready);
    }
