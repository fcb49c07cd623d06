use Rattle.std.proofs.Common.{◌<◌, List, ℕ, length, refl, ap, subst, sym, ◌∙◌}
use Rattle.sdh_payload.specs.Walk.{repeated_from}
use Rattle.sdh_payload.proofs.Repeating.{repeated_piece}
use Rattle.sdh_payload.proofs.repeated.Repeated.from.Goals as goal

pub returns-clause-bytes : goal.returns-clause-bytes
returns-clause-bytes c =
    let Within : List ℕ → Type 0 = λ text. c.args.place < length text in
    repeated_piece _ _ c.args.place _ c.args.count c.self.invariant.repeats
    (subst Within (sym c.self.view_is) c.requires.place) refl c.requires.count
    ∙ ap (λ text. repeated_from text c.args.place c.args.count) c.self.view_is
