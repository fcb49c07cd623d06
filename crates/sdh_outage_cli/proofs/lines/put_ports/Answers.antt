use Rattle.std.proofs.Common.{◌≡◌, ◌<◌, ◌++◌, take, map, length, Some, refl, ap, ap₂, sym, ◌∙◌, arith, append_assoc}
use Rattle.std.specs.Prelude.{slice_get}
use Rattle.std.specs.List.{flat_map}
use Rattle.std.proofs.lemmas.Grind.{flat_map-append}
use Rattle.std.proofs.lemmas.List.{take_all}
use Rattle.std.proofs.lemmas.Option.{slice_get_read}
use Rattle.sdh_outage.specs.Lines.{summary_line}
use Rattle.sdh_outage.specs.Outages.{with_outage, summary_of}
use Rattle.sdh_outage_cli.specs.Outages.{PortOutage}
use Rattle.sdh_outage_cli.specs.Lines.{told_line, ports_text}
use Rattle.sdh_outage_cli.specs.Ports.{both_shown, outages_shown}
use Rattle.sdh_outage_cli.proofs.Told.{shown_more, said_more}
use Rattle.sdh_outage_cli.proofs.lines.put_ports.Goals as goal

pub loop-i-preserved : goal.loop-i-preserved
loop-i-preserved c =
    let cs = c.args.circuits.now.circuits in
    let items = c.args.items.now.items in
    let i = c.loop-i.i in
    let named = c.get.result.now in
    let both = c.index-both.result.now in
    let inv = c.loop-i.invariant in
    let lt : i < length cs = omega (arith, c.loop-i-test.true, c.len-i-end.ensures.len) in
    let at : slice_get items i ≡ Some both = slice_get_read items _ i both refl (omega (arith, lt, c.requires.many)) c.index-both.ensures in
    let before = outages_shown (take i cs) (take i items) in
    let more = shown_more cs items i named both c.get.ensures at in
    let tells = told_line cs in
    let lines = flat_map tells (both_shown named both) in
    record {
      bytes =
          c.put_both.ensures.bytes ∙ ap (λ l. l ++ lines) inv.bytes ∙ append_assoc c.args.text.now.bytes (flat_map tells before) lines
          ∙ ap (λ l. c.args.text.now.bytes ++ l) (sym (flat_map-append tells before (both_shown named both))
          ∙ ap (flat_map tells) (sym more));
      room = omega (arith, c.put_both.ensures.room, inv.room);
      said =
          c.add_both.ensures.summary ∙ ap (λ s. with_outage (with_outage s both.a.outage) both.b.outage) inv.said
          ∙ said_more before named both
          ∙ ap (λ ports. summary_of (map (λ (p : PortOutage). p.outage) ports)) (sym more);
      few = omega (arith, c.add_both.ensures.few, inv.few);
    }

pub returns-clause-bytes : goal.returns-clause-bytes
returns-clause-bytes c =
    let cs = c.args.circuits.now.circuits in
    let items = c.args.items.now.items in
    let i = c.loop-i.i in
    let inv = c.loop-i.invariant in
    let start = c.args.text.now.bytes in
    let all : outages_shown (take i cs) (take i items) ≡ outages_shown cs items =
    ap₂ outages_shown (take_all i cs (omega (arith, c.loop-i-test.false, c.len-i-end.ensures.len)))
    (take_all i items (omega (arith, c.loop-i-test.false, c.len-i-end.ensures.len, c.requires.many))) in
    let ports = outages_shown (take i cs) (take i items) in
    c.put_summary.ensures.bytes ∙ ap₂ (λ l s. l ++ summary_line s) inv.bytes inv.said
    ∙ append_assoc start (flat_map (told_line cs) ports) (summary_line (summary_of (map (λ (p : PortOutage). p.outage) ports)))
    ∙ ap (λ l. start ++ ports_text cs l) all
