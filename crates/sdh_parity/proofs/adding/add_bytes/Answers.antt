use Rattle.std.proofs.Common.{◌≡◌, [], ◌∷◌, ◌++◌, ◌+◌, ◌%◌, ◌^◌, ◌<◌, length, take, get_or, ap, sym, ◌∙◌, arith, append_assoc}
use Rattle.std.proofs.lemmas.List.{append-nil, take_all, take_more, length-set}
use Rattle.sdh_basics.specs.Parity.{bip8}
use Rattle.sdh_parity.specs.Parity.{lane as lane_of}
use Rattle.sdh_parity.proofs.Running.{one-byte, next-lane-is}
use Rattle.sdh_parity.proofs.adding.add_bytes.Goals as goal

pub loop-i-init : goal.loop-i-init
loop-i-init c = record {
  small = c.requires.next;
  long = c.requires.sums;
  each =
      λ before at has. (
        at ∙ ap (λ l. length l % c.args.width) (sym (append-nil before)),
        λ j h. has j h
            ∙ ap (λ l. bip8 (lane_of c.args.width j l)) (sym (append-nil before)),
      );
}

pub loop-i-preserved : goal.loop-i-preserved
loop-i-preserved c =
    let bytes = c.args.bytes.now in
    let i = c.loop-i.i in
    let w = c.args.width in
    let lane = c.loop-i.lane in
    let sums = c.loop-i.sums in
    let x = get_or bytes i 0 in
    let byte : x < 2 ^ 8 = omega (arith, c.type_inv.bytes i) in
    record {
      small = c.after-lane.ensures.small;
      long = length-set sums lane _ ∙ c.loop-i.invariant.long;
      each = λ before at has.
          let so = c.loop-i.invariant.each before at has in
          let more : (before ++ take i bytes) ++ x ∷ [] ≡ before ++ take (i + 1) bytes =
          append_assoc before (take i bytes) (x ∷ []) ∙ ap (λ l. before ++ l) (sym (take_more bytes i 0 (omega arith))) in (
            c.after-lane.ensures.next ∙ next-lane-is w lane (before ++ take i bytes) x so.0 ∙ ap (λ l. length l % w) more,
            λ j h. one-byte w lane x (before ++ take i bytes) sums c.loop-i.invariant.small
                (omega (arith, c.loop-i.invariant.long)) byte so.0 so.1 j h ∙ ap (λ l. bip8 (lane_of w j l)) more,
          );
    }

pub returns-clause-each : goal.returns-clause-each
returns-clause-each c = λ before at has.
    let bytes = c.args.bytes.now in
    let so = c.loop-i.invariant.each before at has in
    let all : before ++ take c.loop-i.i bytes ≡ before ++ bytes = ap (λ l. before ++ l) (take_all c.loop-i.i bytes (omega arith)) in
    (so.0 ∙ ap (λ l. length l % c.args.width) all, λ j h. so.1 j h ∙ ap (λ l. bip8 (lane_of c.args.width j l)) all)
