-- What has happened in a script so far, and what is true of the path ring and its fibres then.
use Rattle.std.proofs.Common.{◌≡◌, ℕ, ◌+◌, ◌-◌, ◌≤◌, List, [], ◌∷◌, ◌++◌, length, refl, ap, sym, ◌∙◌, subst, arith, inl}
use Rattle.std.specs.Prelude.{◌/◌, ◌%◌}
use Rattle.std.proofs.lemmas.List.{length-set}
use Rattle.sdh_ringmap.specs.declared.terms.Rate.{Rate}
use Rattle.sdh_ringmap.specs.Rates.{n_of}
use Rattle.sdh_ringmap.specs.Fibres.{fibre, IsConditionAt}
use Rattle.sdh_ringmap.specs.declared.terms.FibreEvent.{FibreEvent}
use Rattle.sdh_circuits.specs.Provisioning.{Provisioning, AreCircuits}
use Rattle.sdh_request.specs.declared.settings.Settings.{Settings}
use Rattle.sdh_ringmap.specs.Ids.{AreIds}
use Rattle.sdh_plant.specs.Fibres.{Fibres, IsHonest}
use Rattle.sdh_plant.specs.Calls.{prepared, after_apply}
use Rattle.sdh_rounds.proofs.Runs.{known_settles}
use Rattle.sdh_restoration.specs.Changes.{Change, Fibre}
use Rattle.sdh_promise.specs.Owed.{IsLast}
use Rattle.sdh_sncp.specs.Stations.{path_node}
use Rattle.sdh_sncp.specs.Ring.{HeldPath, World, world, new_ring, run, Settles}
use Rattle.sdh_sncp.specs.Fixed.{AreAlone}
use Rattle.sdh_sncp.specs.Laws.{IsWholePathRing, HasPathCircuits}
use Rattle.sdh_sncp.proofs.New.{new_worlds_are_whole, stay_whole}
use Rattle.sdh_sncp.proofs.Rounds.{IsLeft, left_run}
use Rattle.sdh_sncp.proofs.Wholes.{whole_settled}
use Rattle.sdh_sncp_cli.proofs.Conditions.{AreTold, told_more, told_new}

-- a world of this ring, after `ran` rounds and these changes
pub record Stands (at : Rate) (named : List ℕ) (provisioned : Provisioning) (changes : List Change) (ran : ℕ) (w : World) : Type 0 where
  pub whole : IsWholePathRing w
  pub rate : w.ring.settings.rate ≡ at
  pub ids : w.ring.ids ≡ named
  pub circuits : w.ring.circuits ≡ provisioned
  pub form : HasPathCircuits w.ring
  pub told : AreTold (length named) changes w.fibres.conditions
  pub rounds : w.ring.rounds ≡ ran

-- before anything has happened
pub stands_new : (s : Settings) (ids : List ℕ) (circuits : Provisioning) (f : Fibres) → AreIds ids → IsHonest f
    → HasPathCircuits (new_ring s ids circuits)
    → Stands s.rate ids circuits [] 0 (world (new_ring s ids circuits) (prepared s.rate (length ids) f))
stands_new s ids circuits f are honest form = record {
  whole = new_worlds_are_whole s ids circuits f are honest;
  rate = refl;
  ids = refl;
  circuits = refl;
  form = form;
  told = told_new (length ids) (let e = are.enough in omega arith);
  rounds = refl;
}

module _ (rate : Rate) (ids : List ℕ) (circuits : Provisioning) (changes : List Change) (ran : ℕ) (w : World)
    (h : Stands rate ids circuits changes ran w) where
  some : 2 ≤ length ids
  some = let e = h.whole.placed.ids.enough in omega (arith, ap (λ (l : List ℕ). length l) h.ids)

  -- a fibre came into a condition
  pub fibre_then : (e : FibreEvent) → IsConditionAt rate e.condition
      → Stands rate ids circuits (changes ++ Fibre e.at.0 e.side e.condition ∷ []) ran
      (record w { fibres = after_apply w.fibres e.at.0 e.side e.condition })
  fibre_then e may = record {
    whole = stay_whole.apply w e.at.0 e.side e.condition (subst (λ r. IsConditionAt r e.condition) (sym h.rate) may) h.whole;
    rate = h.rate;
    ids = h.ids;
    circuits = h.circuits;
    form = h.form;
    told =
        told_more (length ids) e.at.0 e.side e.condition changes w.fibres.conditions (let s = some in omega arith)
        (length-set w.fibres.conditions (fibre e.at.0 e.side) e.condition) h.told;
    rounds = h.rounds;
  }

  -- a settle step that ended
  pub record Ended (limit : ℕ) (mid : World) : Type 0 where
    pub last : IsLast (length ids) limit ran (mid.ring.rounds - 1)
    pub stands : Stands rate ids circuits changes (mid.ring.rounds - 1 + 1) mid

  form_at : (r s : HeldPath) → r.settings ≡ s.settings → r.ids ≡ s.ids → r.circuits ≡ s.circuits → HasPathCircuits s → HasPathCircuits r
  form_at r s a b c form = record {
    are = subst (λ (x : Settings). AreCircuits (length r.ids) (n_of x.rate / 2) r.circuits.circuits) (sym a)
        (subst (λ (x : List ℕ). AreCircuits (length x) (n_of s.settings.rate / 2) r.circuits.circuits) (sym b)
        (subst (λ (x : Provisioning). AreCircuits (length s.ids) (n_of s.settings.rate / 2) x.circuits) (sym c) form.are));
    alone = subst (λ (x : Provisioning). AreAlone x.circuits) (sym c) form.alone;
  }

  pub settled_then : (mid : World) (limit : ℕ) → Settles w limit mid → Ended limit mid
  settled_then mid limit s =
      let known = known_settles path_node w limit mid (inl h.whole.paired.honest.honest) s in
      let k = known.0 in
      let left : IsLeft w mid k = subst (λ v. IsLeft w v k) (sym known.2) (left_run k w) in
      let long = known.1.window.long in
      let within = known.1.within in
      let size : length (run k w).ring.ids ≡ length ids =
      ap (λ (l : List ℕ). length l) (left_run k w).ids ∙ ap (λ (l : List ℕ). length l) h.ids in
      let grown : mid.ring.rounds ≡ ran + k = omega (arith, left.rounds, h.rounds) in
      let enough = some in
      let one : mid.ring.rounds - 1 + 1 ≡ mid.ring.rounds = omega (arith, grown, long, size, enough) in
      let place = ap (λ (v : World). (v.ring.rounds - 1)) known.2 in
      record {
        last = record {
          window = omega (arith, grown, long, size, one);
          within = omega (arith, grown, within, one);
          multiple = ap (λ t. t % 128) place ∙ known.1.window.place;
        };
        stands = record {
          whole = whole_settled w mid limit s h.whole;
          rate = ap (λ (x : Settings). x.rate) left.settings ∙ h.rate;
          ids = left.ids ∙ h.ids;
          circuits = left.circuits ∙ h.circuits;
          form = form_at mid.ring w.ring left.settings left.ids left.circuits h.form;
          told = subst (AreTold (length ids) changes) (sym left.conditions) h.told;
          rounds = sym one;
        };
      }
