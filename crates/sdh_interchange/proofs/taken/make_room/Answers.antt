use Rattle.std.proofs.Common.{ℕ, ◌+◌, [], length, get_or, set, ap, ◌∙◌, inl, inr, arith}
use Rattle.std.proofs.lemmas.Bool.{cases_eq}
use Rattle.std.proofs.lemmas.List.{length-set, get_or-set_same, get_or-set_other}
use Rattle.sdh_interchange.proofs.taken.make_room.Goals as goal

pub loop-a-preserved : goal.loop-a-preserved
loop-a-preserved c =
    let at : ℕ = c.args.from + c.loop-a.a in
    let cells = c.loop-a.cells in
    let new = c.make_room.new.self in
    record {
      many = length-set cells at new ∙ c.loop-a.invariant.many;
      inside = λ a h. elim (cases_eq a c.loop-a.a) [
        | inl e ↦ (ap (λ m. length (get_or (set cells at new) (c.args.from + m) [])) e
            ∙ ap length (get_or-set_same cells at new [] (omega (arith, c.loop-a.invariant.many, c.requires))) ∙ c.make_room.ensures.count)
        | inr d ↦ (ap length (get_or-set_other cells at (c.args.from + a) new [] (λ e. d (omega arith)))
            ∙ c.loop-a.invariant.inside a (omega arith))
      ];
      others =
          λ a away. get_or-set_other cells at a new [] (λ e. elim away [ inl below ↦ omega arith | inr above ↦ omega arith ])
          ∙ c.loop-a.invariant.others a away;
    }
