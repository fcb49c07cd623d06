use Rattle.std.proofs.Common.{◌≡◌, ◌<◌, ◌++◌, take, length, Some, ap, sym, ◌∙◌, arith, append_assoc, subst, refl}
use Rattle.std.specs.Prelude.{slice_get}
use Rattle.std.specs.List.{flat_map}
use Rattle.std.proofs.lemmas.Option.{slice_get_read}
use Rattle.sdh_circuits.specs.Provisioning.{Provisioning}
use Rattle.sdh_circuits.specs.declared.End.TheVariants.{A, B}
use Rattle.sdh_scripts.proofs.Ports.{ports_more}
use Rattle.sdh_watch.specs.Watching.{port_watched, ports_watched}
use Rattle.sdh_watch.specs.Lines.{told_line}
use Rattle.sdh_watch.proofs.ports.put_watches.Goals as goal

pub loop-i-preserved : goal.loop-i-preserved
loop-i-preserved c =
    let r = c.args.ring.now in
    let cs = r.circuits.circuits in
    let i = c.loop-i.i in
    let named = c.get.result.now in
    let size : length c.circuits-circuits.result.now.circuits ≡ length cs =
    ap (λ (p : Provisioning). length p.circuits) c.circuits-circuits.ensures in
    let lt : i < length cs = omega (arith, c.loop-i-test.true, c.len-i-end.ensures.len, size) in
    let get : slice_get cs i ≡ Some named =
    subst (λ (p : Provisioning). slice_get p.circuits i ≡ Some named) c.circuits-circuits.ensures c.get.ensures in
    let both = c.index.result.now in
    let at : slice_get c.args.watches.now.items i ≡ Some both =
    slice_get_read c.args.watches.now.items _ i both refl (omega (arith, lt, c.requires.many)) c.index.ensures in
    record {
      bytes = λ heard are. (
          let before = flat_map told_line (ports_watched r heard 0 (take i cs)) in
          let lines = told_line (port_watched r heard i named A) ++ told_line (port_watched r heard i named B) in
          c.put_both.ensures.bytes heard (are.each i named both get at)
          ∙ ap (λ l. l ++ lines) (c.loop-i.invariant.bytes heard are)
          ∙ append_assoc c.args.text.now.bytes before lines
          ∙ ap (λ l. c.args.text.now.bytes ++ l) (sym (ports_more (port_watched r heard) told_line cs i named lt get)));
      room = omega (arith, c.put_both.ensures.room, c.loop-i.invariant.room);
    }
