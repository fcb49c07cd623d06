use Rattle.std.proofs.Common.{ℕ, ◌+◌, false, true, get_or, set, ap, ◌∙◌, inl, inr, arith}
use Rattle.std.proofs.lemmas.Bool.{cases_eq}
use Rattle.std.proofs.lemmas.List.{length-set, get_or-set_same, get_or-set_other}
use Rattle.sdh_interchange.proofs.taken.mark.Goals as goal

pub loop-a-preserved : goal.loop-a-preserved
loop-a-preserved c =
    let at : ℕ = c.args.from + c.loop-a.a in
    let here = c.loop-a.here in
    record {
      many = length-set here at true ∙ c.loop-a.invariant.many;
      inside = λ a h. elim (cases_eq a c.loop-a.a) [
        | inl e ↦ (ap (λ m. get_or (set here at true) (c.args.from + m) false) e
            ∙ get_or-set_same here at true false (omega (arith, c.loop-a.invariant.many, c.requires)))
        | inr d ↦ (get_or-set_other here at (c.args.from + a) true false (λ e. d (omega arith)) ∙ c.loop-a.invariant.inside a (omega arith))
      ];
      others =
          λ a away. get_or-set_other here at a true false (λ e. elim away [ inl below ↦ omega arith | inr above ↦ omega arith ])
          ∙ c.loop-a.invariant.others a away;
    }
