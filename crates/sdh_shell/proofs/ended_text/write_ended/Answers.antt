use Rattle.std.proofs.Common.{◌≡◌, refl, sym, ap, ◌∙◌, subst, inl, inr, arith}
use Rattle.std.specs.Io.KnownBytes.{Appends}
use Rattle.sdh_outside.specs.Writing.{AppendsFewer}
use Rattle.sdh_status.specs.declared.Status.TheVariants as status
use Rattle.sdh_shell.specs.Writing.{Whole, Front, telling_in, telling_if}
use Rattle.sdh_shell.proofs.Writing.{put_whole, put_front, put_none}
use Rattle.sdh_shell.proofs.ended_text.write_ended.Goals as goal

front_whole : Front ≡ Whole → ⊥
front_whole h = grind arith

pub returns-in-Ok-clause-wrote : goal.returns-in-Ok-clause-wrote
returns-in-Ok-clause-wrote g c =
    inl (
      refl,
      subst (Appends (g.O.Output.written c.args.output.now) (g.O.Output.written c.put.new.self)) c.bytes.ensures
          (put_whole g.O.Output.exact (g.O.Output.written c.args.output.now) (g.O.Output.written c.put.new.self) (g.O.Output.faults c.args.output.now)
          (g.O.Output.faults c.put.new.self) c.bytes.result.now c.put.result c.put.ensures.wrote _ c.in-Ok.is),
    )

-- what is shown is no write fault
pub returns-in-Ok-clause-fault : goal.returns-in-Ok-clause-fault
returns-in-Ok-clause-fault g c e =
    let endings = g.E.Ends.endings in
    absurd (front_whole (sym (ap (telling_in endings) e ∙ ap telling_if (endings.shared_of status.WriteFault)) ∙ c.requires.shown))

pub returns-in-Ok-clause-writes : goal.returns-in-Ok-clause-writes
returns-in-Ok-clause-writes g c = record {
  one = λ x e. absurd (front_whole (sym (ap (telling_in g.E.Ends.endings) e ∙ ap telling_if (g.E.Ends.endings.shared_of status.WriteFault))
      ∙ c.requires.shown));
  none = λ x no. put_none g.O.Output.exact (g.O.Output.written c.args.output.now) (g.O.Output.written c.put.new.self) (g.O.Output.faults c.args.output.now)
      (g.O.Output.faults c.put.new.self) c.bytes.result.now c.put.result c.put.ensures.wrote _ c.in-Ok.is x;
}

pub returns-clause-wrote : goal.returns-clause-wrote
returns-clause-wrote g c =
    inr (
      c.of.ensures,
      subst (AppendsFewer (g.O.Output.written c.args.output.now) (g.O.Output.written c.put.new.self)) c.bytes.ensures
          (put_front g.O.Output.exact (g.O.Output.written c.args.output.now) (g.O.Output.written c.put.new.self) (g.O.Output.faults c.args.output.now)
          (g.O.Output.faults c.put.new.self) c.bytes.result.now c.put.result c.put.ensures.wrote _ c.in-Err.is),
    )
