use Rattle.std.proofs.Common.{◌≡◌, ◌<◌, ◌++◌, take, length, Some, ap, sym, ◌∙◌, arith, append_assoc, subst}
use Rattle.std.specs.Prelude.{slice_get}
use Rattle.std.specs.List.{flat_map}
use Rattle.sdh_circuits.specs.Provisioning.{Provisioning}
use Rattle.sdh_circuits.specs.declared.End.TheVariants.{A, B}
use Rattle.sdh_report.specs.Reports.{told_line}
use Rattle.sdh_scripts.specs.Ports.{end_outlet, port_line_at, port_lines}
use Rattle.sdh_scripts.proofs.Ports.{ports_more}
use Rattle.sdh_scripts.proofs.lines.put_ports.Goals as goal

pub loop-i-preserved : goal.loop-i-preserved
loop-i-preserved g c =
    let r = g.R.ShowsPorts in
    let cs = (r.provisioning c.args.ring.now).circuits in
    let i = c.loop-i.i in
    let named = c.get.result.now in
    let outlet = r.outlet c.args.ring.now in
    let line = port_line_at (end_outlet outlet) in
    let before = flat_map told_line (port_lines outlet (take i cs)) in
    let lines = told_line (line i named A) ++ told_line (line i named B) in
    let size : length c.circuits-circuits.result.now.circuits ≡ length cs =
    ap (λ (p : Provisioning). length p.circuits) c.circuits-circuits.ensures in
    let lt : i < length cs = omega (arith, c.loop-i-test.true, c.len-i-end.ensures.len, size) in
    let get : slice_get cs i ≡ Some named =
    subst (λ (p : Provisioning). slice_get p.circuits i ≡ Some named) c.circuits-circuits.ensures c.get.ensures in
    record {
      bytes = c.put_circuit.ensures.bytes
          ∙ ap (λ l. l ++ lines) c.loop-i.invariant.bytes
          ∙ append_assoc c.args.text.now.bytes before lines
          ∙ ap (λ l. c.args.text.now.bytes ++ l) (sym (ports_more line told_line cs i named lt get));
      room = omega (arith, c.put_circuit.ensures.room, c.loop-i.invariant.room);
    }
