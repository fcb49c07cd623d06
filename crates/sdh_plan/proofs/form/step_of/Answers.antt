use Rattle.std.proofs.Common.{map, ap, sym, ◌∙◌}
use Rattle.sdh_ringmap.specs.Rates.{n_of}
use Rattle.sdh_plan.specs.Words.{words}
use Rattle.sdh_plan.proofs.Forms.{told, told_kept, told_empty}
use Rattle.sdh_plan.proofs.form.step_of.Goals as goal

pub returns-in-Some : goal.returns-in-Some
returns-in-Some c =
    c.step_in.ensures ∙ ap (λ ws. told (n_of c.args.rate) c.args.ring.now c.args.circuits.now.circuits
    (map (λ word. word.now) ws)) c.deref.ensures.0
    ∙ told_kept (n_of c.args.rate) c.args.ring.now c.args.circuits.now.circuits
    (words c.args.text.now) _ c.in-Some.ensures.words c.in-Some.ensures.whole

pub returns-in-None : goal.returns-in-None
returns-in-None c =
    sym (told_empty (n_of c.args.rate) c.args.ring.now c.args.circuits.now.circuits (words c.args.text.now) c.in-None.ensures.empty)
