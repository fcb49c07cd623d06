-- What 128 rounds of a ring at rest show to its watches.
use Rattle.std.proofs.Common.{◌≡◌, ℕ, zero, suc, ◌+◌, ◌-◌, ◌*◌, ◌≤◌, Bool, true, false, Some, List, ◌∷◌, length, refl, ap, ap₂, sym, ◌∙◌}
use Rattle.std.proofs.Common.{subst, arith, inl, inr}
use Rattle.std.specs.Prelude.{◌==◌, if◌then◌else◌, slice_get}
use Rattle.std.proofs.lemmas.Bool.{cases_Bool, eq-eqb}
use Rattle.sdh_circuits.specs.declared.End.{End}
use Rattle.sdh_circuits.specs.declared.PortId.{PortId}
use Rattle.sdh_circuits.specs.Provisioned.{Provisioned, arc_of, customer_at}
use Rattle.sdh_ringmap.specs.Arcs.{is_joined}
use Rattle.sdh_payload.specs.Clock.{Clock}
use Rattle.sdh_payload.specs.Customer.{Customer}
use Rattle.sdh_payload.specs.declared.delivered.Delivered.TheVariants as delivered
use Rattle.sdh_payload.specs.Outlet.{Outlet, silent, delivering}
use Rattle.sdh_payload.specs.Stream.{stream_from}
use Rattle.sdh_payload.proofs.Chunks.{length-stream_from}
use Rattle.sdh_restoration.specs.Applied.{is_applied}
use Rattle.sdh_restoration.specs.Routes.{hops}
use Rattle.sdh_restoration.specs.Due.{due}
use Rattle.sdh_circuits.specs.Ends.{other_end}
use Rattle.sdh_signal.proofs.Ways.{short, few_hops}
use Rattle.sdh_node.specs.Rings.Held.{outlet_at}
use Rattle.sdh_node.specs.Rings.Rounds.{World, round}
use Rattle.sdh_node.specs.Rings.Runs.{IsRound}
use Rattle.sdh_node.specs.Rings.Quiet.{is_calm}
use Rattle.sdh_laws.proofs.hearing.Signalling.{calm_rounds_are_still}
use Rattle.sdh_laws.specs.Carrying.Windows.{Layout, layout_of, positions_of, slots_of, HasCircuits, span_requests_of}
use Rattle.sdh_laws.specs.Carrying.Laws.{due_by_clocks, DeliversWhatIsDue}
use Rattle.sdh_laws.proofs.carrying.Ways.{layout_round}
use Rattle.sdh_laws.specs.Resting.Rest.{IsAtRest}
use Rattle.sdh_laws.proofs.resting.Resting.{known_round, rest_goes_on}
use Rattle.sdh_laws.proofs.hearing.Nodes.{one_more as rounds_more}
use Rattle.sdh_path.specs.History.{Given, Chunk, Ais}
use Rattle.sdh_path.specs.PathReports.{path_report_of}
use Rattle.sdh_path.specs.Laws.{clean_report, chunks_from}
use Rattle.sdh_path.proofs.Clean.{chunks_are_clean}
use Rattle.sdh_watch.specs.Shows.{shown, WatchLine}
use Rattle.sdh_watch.specs.Watching.{given_as, Lead, port_watched}
use Rattle.sdh_watch.specs.Owed.{clean_watch}
use Rattle.sdh_watch.proofs.Plainly.{GoesPlainly}
use Rattle.sdh_rounds.proofs.Terms.{terms}

-- the world to which k rounds of a ring at rest lead
record At (clocks : PortId → ℕ → Clock) (w : World) (k : ℕ) (left : World) : Type 0 where
  rests : IsAtRest clocks left
  rounds : left.ring.rounds ≡ w.ring.rounds + k
  layout : layout_of left ≡ layout_of w
  requests : span_requests_of left ≡ span_requests_of w

one_more : (clocks : PortId → ℕ → Clock) (w mid left : World) (k : ℕ) → At clocks w k mid → IsRound mid left → At clocks w (suc k) left
one_more clocks w mid left k at is =
    let there = known_round mid left at.rests.whole is in
    let stays = rest_goes_on mid left is clocks at.rests in
    record {
      rests = stays.rests;
      rounds = ap (λ (v : World). v.ring.rounds) there ∙ rounds_more mid ∙ (let r = at.rounds in omega arith);
      layout = ap layout_of there ∙ layout_round mid ∙ at.layout;
      requests =
          ap span_requests_of there ∙ (calm_rounds_are_still mid at.rests.whole (calm_of mid left there stays.calm)).requests ∙ at.requests;
    }
  where
    calm_of : (mid left : World) → left ≡ round mid → is_calm left.ring.nodes ≡ true → is_calm (round mid).ring.nodes ≡ true
    calm_of mid left there calm = ap (λ (v : World). is_calm v.ring.nodes) (sym there) ∙ calm

at_lead : (clocks : PortId → ℕ → Clock) (w : World) → IsAtRest clocks w → (k : ℕ) (left : World) (heard : PortId → List Given)
    → Lead k w left heard → At clocks w k left
at_lead clocks w rests zero left heard lead =
    subst (At clocks w zero) (sym lead.0) (record { rests = rests; rounds = omega arith; layout = refl; requests = refl })
at_lead clocks w rests (suc k) left heard (mid, before, lead, is, more) =
    one_more clocks w mid left k (at_lead clocks w rests k mid before lead) is

module _ (clocks : PortId → ℕ → Clock) (w : World) (form : HasCircuits (layout_of w)) (rests : IsAtRest clocks w) (index : ℕ)
    (c : Provisioned) (get : slice_get w.ring.circuits.circuits index ≡ Some c) (e : End) where
  open terms w use {n}

  abbrev id : PortId
  id = record { circuit = index; end = e }

  abbrev clock : ℕ → Clock
  clock = clocks (record { circuit = index; end = other_end e })

  abbrev sender : Customer
  sender = customer_at c (other_end e)

  abbrev applied : ℕ → Bool
  applied = is_applied (span_requests_of w)

  abbrev h : ℕ
  h = hops n applied (arc_of n c)

  few : h + 1 ≤ 2 * n
  few = few_hops n applied c (short n applied (slots_of (layout_of w)) w.ring.circuits.circuits form index c get)

  -- after each round but the first the port has delivered what it is owed
  delivered_at : (k : ℕ) (left : World) (heard : PortId → List Given) → Lead (suc k) w left heard
      → outlet_at left.ring id ≡ due_by_clocks n applied c e clock (w.ring.rounds + k)
  delivered_at k left heard (mid, before, lead, is, more) =
      let at = at_lead clocks w rests k mid before lead in
      let now = one_more clocks w mid left k at is in
      let stays = rest_goes_on mid left is clocks at.rests in
      let there : slice_get left.ring.circuits.circuits index ≡ Some c = ap (λ (l : Layout). slice_get l.circuits index) now.layout ∙ get in
      let round : left.ring.rounds - 1 ≡ w.ring.rounds + k = omega (arith, now.rounds) in
      stays.due index c there e
      ∙ ap (λ m. due_by_clocks m (is_applied (span_requests_of left)) c e clock (left.ring.rounds - 1)) (ap positions_of now.layout)
      ∙ ap (λ rs. due_by_clocks n (is_applied rs) c e clock (left.ring.rounds - 1)) now.requests
      ∙ ap (due_by_clocks n applied c e clock) round

  due_parted : (t : ℕ) → is_joined n applied (arc_of n c) ≡ false → due_by_clocks n applied c e clock t ≡ silent
  unfolding due
  due_parted t parted =
      ap (λ (b : Bool). if b then delivering (clock (t - h)).value (stream_from sender (clock (t - h)).sent 2349) else silent) parted

  due_joined : (t : ℕ) → is_joined n applied (arc_of n c) ≡ true
      → due_by_clocks n applied c e clock t ≡ delivering (clock (t - h)).value (stream_from sender (clock (t - h)).sent 2349)
  unfolding due
  due_joined t joined =
      ap (λ (b : Bool). if b then delivering (clock (t - h)).value (stream_from sender (clock (t - h)).sent 2349) else silent) joined

  module _ (late : 2 * n ≤ w.ring.rounds) (plainly : GoesPlainly clock sender.offset (w.ring.rounds - 2 * n))
      (joined : is_joined n applied (arc_of n c) ≡ true) where
    abbrev first : ℕ
    first = w.ring.rounds - 2 * n

    abbrev value : ℕ
    value = (clock first).value

    -- the byte with which the first round's chunk begins
    abbrev p : ℕ
    p = (clock first).sent + 2349 * (2 * n - h)

    due_now : (k : ℕ) → due_by_clocks n applied c e clock (w.ring.rounds + k) ≡ delivering value (stream_from sender (p + 2349 * k) 2349)
    due_now k =
        let t = w.ring.rounds + k - h in
        let back : t ≡ first + (2 * n - h + k) = omega (arith, few, late) in
        let v : (clock t).value ≡ value = ap (λ j. (clock j).value) back ∙ plainly.value (2 * n - h + k) in
        let s : (clock t).sent ≡ p + 2349 * k =
        ap (λ j. (clock j).sent) back ∙ plainly.sent (2 * n - h + k)
        ∙ (let m : (clock first).sent + 2349 * (2 * n - h + k) ≡ p + 2349 * k = omega arith in m) in
        due_joined (w.ring.rounds + k) joined ∙ ap₂ (λ a b. delivering a (stream_from sender b 2349)) v s

    given_now : (q : ℕ) → given_as value (delivered.Chunk (stream_from sender q 2349)) ≡ Chunk (stream_from sender q 2349) value
    given_now q =
        let t : (length (stream_from sender q 2349) == 2349) ≡ true = eq-eqb _ 2349 (length-stream_from sender q 2349) in
        ap (λ (b : Bool). if b then Chunk (stream_from sender q 2349) value else Ais) t

    heard_at : (k : ℕ) (left : World) (heard : PortId → List Given) → Lead k w left heard → heard id ≡ chunks_from sender p value k
    heard_at zero left heard lead = lead.1 id
    heard_at (suc k) left heard (mid, before, lead, is, more) =
        more id
        ∙ ap₂ (λ (o : Outlet) l. given_as o.value o.delivered ∷ l) (delivered_at k left heard (mid, before, lead, is, more) ∙ due_now k)
        (heard_at k mid before lead)
        ∙ ap (λ g. g ∷ chunks_from sender p value k) (given_now (p + 2349 * k))

    shows_joined : (left : World) (heard : PortId → List Given) → Lead 128 w left heard
        → port_watched left.ring heard index c e ≡ clean_watch c.name e (due_by_clocks n applied c e clock (w.ring.rounds + 127))
    shows_joined left heard lead =
        let out = delivered_at 127 left heard lead ∙ due_now 127 in
        let report : path_report_of sender.trace (heard id) ≡ clean_report 128 value =
        ap (path_report_of sender.trace) (heard_at 128 left heard lead)
        ∙ chunks_are_clean sender p 128 value (omega arith) plainly.small (let b = plainly.in_step in omega arith) in
        ap₂ (λ (o : Outlet) r. (let x : WatchLine = record { name = c.name; end = e; shows = shown o.delivered r } in x)) out report
        ∙ sym (ap (clean_watch c.name e) (due_now 127))

  shows_parted : (left : World) (heard : PortId → List Given) → Lead 128 w left heard → is_joined n applied (arc_of n c) ≡ false
      → port_watched left.ring heard index c e ≡ clean_watch c.name e (due_by_clocks n applied c e clock (w.ring.rounds + 127))
  shows_parted left heard lead parted =
      let out = delivered_at 127 left heard lead ∙ due_parted (w.ring.rounds + 127) parted in
      ap (λ (o : Outlet). (let x : WatchLine = record {
        name = c.name;
        end = e;
        shows =
            shown o.delivered (path_report_of sender.trace (heard id));
      } in x)) out
      ∙ sym (ap (clean_watch c.name e) (due_parted (w.ring.rounds + 127) parted))

pub rest_shows : (clocks : PortId → ℕ → Clock) (w left : World) (heard : PortId → List Given) → HasCircuits (layout_of w)
    → IsAtRest clocks w → Lead 128 w left heard
    → (index : ℕ) (c : Provisioned) → slice_get w.ring.circuits.circuits index ≡ Some c → (e : End) → 2 * length w.ring.ids ≤ w.ring.rounds
    → GoesPlainly (clocks (record { circuit = index; end = other_end e })) (customer_at c (other_end e)).offset
    (w.ring.rounds - 2 * length w.ring.ids)
    → port_watched left.ring heard index c e ≡ clean_watch c.name e
    (due_by_clocks (length w.ring.ids) (is_applied (span_requests_of left)) c e (clocks (record { circuit = index; end = other_end e }))
    (left.ring.rounds - 1))
rest_shows clocks w left heard form rests lead index c get e late plainly =
    let at = at_lead clocks w rests 128 left heard lead in
    let n = length w.ring.ids in
    let clock = clocks (record { circuit = index; end = other_end e }) in
    let last : left.ring.rounds - 1 ≡ w.ring.rounds + 127 = omega (arith, at.rounds) in
    let same : due_by_clocks n (is_applied (span_requests_of left)) c e clock (left.ring.rounds - 1)
    ≡ due_by_clocks n (is_applied (span_requests_of w)) c e clock (w.ring.rounds + 127) =
    ap₂ (λ rs t. due_by_clocks n (is_applied rs) c e clock t) at.requests last in
    elim (cases_Bool (is_joined n (is_applied (span_requests_of w)) (arc_of n c))) [
      | inl joined ↦ shows_joined clocks w form rests index c get e late plainly joined left heard lead
          ∙ sym (ap (clean_watch c.name e) same)
      | inr parted ↦ shows_parted clocks w form rests index c get e left heard lead parted ∙ sym (ap (clean_watch c.name e) same)
    ]

-- in the last of these rounds each port has delivered what it is owed
pub last_due : (clocks : PortId → ℕ → Clock) (w left : World) (heard : PortId → List Given) (k : ℕ) → IsAtRest clocks w
    → Lead (suc k) w left heard → DeliversWhatIsDue clocks left (span_requests_of left)
last_due clocks w left heard k rests (mid, before, lead, is, more) =
    (rest_goes_on mid left is clocks (at_lead clocks w rests k mid before lead).rests).due
