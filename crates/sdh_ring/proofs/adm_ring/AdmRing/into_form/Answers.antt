use Rattle.std.proofs.Common.{◌∙◌, vec_capacity}
use Rattle.sdh_ring.proofs.Rings.{same_form, other_form}
use Rattle.sdh_ring.proofs.adm_ring.AdmRing.into_form.Goals as goal

pub invariant_of-result : goal.invariant_of-result
invariant_of-result g c =
    let still = other_form c.self.inside.ring c.into_form-ring.result.0 c.into_form-ring.ensures.ring c.self.invariant.ring in
    record {
      ring = still.0;
      spare = c.into_form-ring.ensures.empty;
      room = still.1 (vec_capacity c.into_form-ring.result.1) c.into_form-ring.ensures.room;
    }

pub returns : goal.returns
returns g c = c.into_form-ring.ensures.ring ∙ same_form c.self.inside.ring ∙ c.self.view_is
