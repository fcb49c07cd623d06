use Rattle.std.proofs.Common.{◌<◌, List, ℕ, length, ap, subst, sym, ◌∙◌}
use Rattle.sdh_basics.specs.Parity.{bip8}
use Rattle.sdh_payload.specs.Walk.{repeated_from}
use Rattle.sdh_payload.proofs.Repeating.{piece_parity}
use Rattle.sdh_payload.proofs.repeated.Repeated.parity.Goals as goal

pub returns : goal.returns
returns c =
    let Within : List ℕ → Type 0 = λ text. c.args.place < length text in
    piece_parity _ _ _ c.args.place c.args.count c.self.invariant.repeats c.self.invariant.parities
    (subst Within (sym c.self.view_is) c.requires.place) c.requires.count
    ∙ ap (λ text. bip8 (repeated_from text c.args.place c.args.count)) c.self.view_is
