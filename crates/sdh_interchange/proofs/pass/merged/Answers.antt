use Rattle.std.proofs.Common.{◌%◌, get_or}
use Rattle.sdh_interchange.specs.declared.choose.Source.TheVariants.{Ones}
use Rattle.sdh_interchange.proofs.Vectors.{lanes_fit, first_read, second_read, long_vector, in_vector}
use Rattle.sdh_interchange.proofs.pass.merged.Goals as goal

pub swizzle-from_first : goal.swizzle-from_first
swizzle-from_first c =
    let n = c.requires.lanes.0 in
    let sources = c.requires.lanes.1.0 in
    let are = c.requires.lanes.1.1 in
    lanes_fit c.args.lanes.now.first are.first_long (λ j h. first_read n (get_or sources (j % n) Ones) j _ _ _ _ (are.each j h))

pub swizzle-from_second : goal.swizzle-from_second
swizzle-from_second c =
    let n = c.requires.lanes.0 in
    let sources = c.requires.lanes.1.0 in
    let are = c.requires.lanes.1.1 in
    lanes_fit c.args.lanes.now.second are.second_long (λ j h. second_read n (get_or sources (j % n) Ones) j _ _ _ _ (are.each j h))

pub returns : goal.returns
returns c = λ n sources own rate whole are more. record {
  long = long_vector n c.args.at c.args.first.now c.args.second.now own rate whole sources c.args.lanes.now c.args.extra are more;
  each = in_vector n c.args.at c.args.first.now c.args.second.now own rate whole sources c.args.lanes.now c.args.extra are more;
}
