-- Both receiving sides of a node meet what a step of the rules requires of them.
use Rattle.std.proofs.Common.{◌≡◌, ◌≢◌, ℕ, ◌<◌, ◌≤◌, Bool, true, List, Option, None, length, refl, sym, subst, ◌∙◌}
use Rattle.sdh_kbytes.specs.declared.K.{K}
use Rattle.sdh_ringmap.specs.declared.terms.Code.{Code}
use Rattle.sdh_ringmap.specs.declared.terms.Code.TheVariants.{Rr}
use Rattle.sdh_ringmap.specs.Requests.{code_number}
use Rattle.sdh_request.specs.declared.Defect.{Defect}
use Rattle.sdh_request.specs.declared.Defect.TheVariants as defect
use Rattle.sdh_nodestate.specs.Rules.{scene}
use Rattle.sdh_nodestate.specs.Filtering.{hears}
use Rattle.sdh_nodestate.specs.Conditions.{MayStep}
use Rattle.sdh_node.specs.Receiving.{Receiving, IsReceiving}
use Rattle.sdh_node.specs.Crossing.{is_failed}

failed-is : (d : Defect) → is_failed d ≡ true → d ≡ defect.Sf
failed-is defect.None h = cc
failed-is defect.Sd h = cc
failed-is defect.Sf h = refl

module _ (r : Receiving) (is : IsReceiving r) (code : Code) (fails : Bool) (heard : Option K) (c : code ≡ r.request)
    (f : fails ≡ is_failed r.local.defect) (h : heard ≡ hears r.brought) where
  never : code ≢ Rr
  never e = is.never_rr (sym c ∙ e)

  failing : fails ≡ true → 11 ≤ code_number code
  failing e = subst (λ x. 11 ≤ code_number x) (sym c) (is.failing (failed-is _ (sym f ∙ e)))

  silent : fails ≡ true → heard ≡ None
  silent e = h ∙ is.silent (failed-is _ (sym f ∙ e))

pub may_step : (ids : List ℕ) (at : ℕ) (w e : Receiving) (wr er : Code) (wf ef : Bool) (wh eh : Option K) → at < length ids → IsReceiving w
    → IsReceiving e
    → wr ≡ w.request → er ≡ e.request → wf ≡ is_failed w.local.defect → ef ≡ is_failed e.local.defect → wh ≡ hears w.brought
    → eh ≡ hears e.brought
    → MayStep (scene ids at (record { west = wr; east = er; west_fails = wf; east_fails = ef }) (record { west = wh; east = eh }))
may_step ids at w e wr er wf ef wh eh inside iw ie a b c d f g = record {
  inside = inside;
  needs = record {
    west = never w iw wr wf wh a c f;
    east = never e ie er ef eh b d g;
    west_fails = failing w iw wr wf wh a c f;
    east_fails = failing e ie er ef eh b d g;
  };
  west_silent = silent w iw wr wf wh a c f;
  east_silent = silent e ie er ef eh b d g;
}
