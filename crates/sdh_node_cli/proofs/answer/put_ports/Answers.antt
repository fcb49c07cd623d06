use Rattle.std.proofs.Common.{◌++◌, take, ap, sym, ◌∙◌, arith, append_assoc}
use Rattle.sdh_node_cli.specs.Bench.{text_of, port_text, ports_from}
use Rattle.sdh_node_cli.proofs.Ports.{ports_more, own_here}
use Rattle.sdh_node_cli.proofs.answer.put_ports.Goals as goal

pub put_port-requires : goal.put_port-requires
put_port-requires c = record {
  there = own_here c.args.circuits.now.circuits c.args.at c.loop-number.number c.get-circuit.result.now c.args.node.now.ports c.port_here-port.result
      c.get-circuit.ensures c.requires.there c.port_here-port.ensures.own;
  room = omega (arith, c.requires.room, c.loop-number.invariant.room, c.loop-number-test.true, c.len-number-end.ensures.len);
}

pub loop-number-preserved : goal.loop-number-preserved
loop-number-preserved c =
    let n = c.args.node.now in
    let at = c.args.at in
    let cs = c.args.circuits.now.circuits in
    let i = c.loop-number.number in
    let named = c.get-circuit.result.now in
    let before = ports_from n at 0 (take i cs) in
    let line = port_text n at i named in
    record {
      bytes = c.put_port.ensures.bytes
          ∙ ap (λ p. c.loop-number.text.bytes ++ text_of n named.name p) c.port_here-port.ensures.port
          ∙ ap (λ l. l ++ line) c.loop-number.invariant.bytes
          ∙ append_assoc c.args.text.now.bytes before line
          ∙ ap (λ l. c.args.text.now.bytes ++ l)
          (sym (ports_more n at cs i named (omega (arith, c.loop-number-test.true, c.len-number-end.ensures.len)) c.get-circuit.ensures));
      room = omega (arith, c.put_port.ensures.room, c.loop-number.invariant.room);
      kept = c.put_port.ensures.kept ∙ c.loop-number.invariant.kept;
    }
