use Rattle.std.proofs.Common.{ap, sym, ◌∙◌, arith}
use Rattle.sdh_ringmap.specs.declared.Side.TheVariants.{West}
use Rattle.sdh_node_cli.specs.Bench.{size_after}
use Rattle.sdh_node_cli.proofs.Turning.{coming_rate}
use Rattle.sdh_node_cli.proofs.arriving.take_pair.Goals as goal

pub take_in-requires-2 : goal.take_in-requires-2
take_in-requires-2 c =
    let stay = coming_rate West c.args.came.west c.split_at.result.0.now c.args.bench.now c.take_in.new.bench c.take_in.ensures.bench in
    record {
      whole =
          omega (
            arith,
            c.requires.whole,
            c.size_after.ensures,
            ap (λ r. size_after r c.args.came.west) c.rate.ensures,
            ap (λ r. size_after r c.args.came.east) stay,
          );
      rate = c.take_in.ensures.rate ∙ c.requires.rate ∙ sym stay;
    }
