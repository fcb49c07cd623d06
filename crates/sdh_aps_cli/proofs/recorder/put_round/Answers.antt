use Rattle.std.proofs.Common.{◌≡◌, ℕ, ◌<◌, List, [], ◌++◌, length, Some, refl, ap, sym, ◌∙◌, arith, append_assoc, append-nil}
use Rattle.std.specs.Prelude.{slice_get, if◌then◌else◌}
use Rattle.std.proofs.lemmas.Option.{slice_get_read}
use Rattle.sdh_aps.specs.declared.shown.Shown.{Shown}
use Rattle.sdh_aps_cli.specs.Signalled.{is_changed, change_of, changes_to}
use Rattle.sdh_aps_cli.specs.Listing.{change_text, changes_text}
use Rattle.sdh_aps_cli.proofs.Lines.{lines_none, lines_more}
use Rattle.sdh_aps_cli.proofs.recorder.put_round.Goals as goal

pub loop-i-init : goal.loop-i-init
loop-i-init c =
    let start = c.args.text.now.bytes in
    record {
      bytes = λ was are. sym (ap (λ l. start ++ l) (lines_none c.args.listing was c.args.ring.now) ∙ append-nil start);
      room = omega arith;
      kept = refl;
    }

pub loop-i-preserved : goal.loop-i-preserved
loop-i-preserved c =
    let r = c.args.ring.now in
    let items = c.args.before.now.items in
    let i = c.loop-i.i in
    let inv = c.loop-i.invariant in
    let start = c.args.text.now.bytes in
    let size : length c.map.result.now ≡ length r.ids = ap (λ (l : List ℕ). length l) c.map.ensures in
    let shown = c.index.result.now in
    let lt : i < length items = omega (arith, c.loop-i-test.true, c.len-i-end.ensures.len, size, c.requires.many) in
    let at : slice_get items i ≡ Some shown = slice_get_read items _ i shown refl lt c.index.ensures in
    record {
      bytes = λ was are. (
          let is : shown ≡ was i = are i shown at in
          let line = λ (s : Shown). if is_changed s r i then change_text c.args.listing (change_of r i) else [] in
          c.put_new.ensures.bytes ∙ ap (λ s. c.loop-i.text.bytes ++ line s) is ∙ ap (λ l. l ++ line (was i)) (inv.bytes was are)
          ∙ append_assoc start (changes_text c.args.listing (changes_to was r i)) (line (was i))
          ∙ ap (λ l. start ++ l) (sym (lines_more c.args.listing was r i)));
      room = omega (arith, c.put_new.ensures.room, inv.room);
      kept = c.put_new.ensures.kept ∙ inv.kept;
    }

pub returns-clause-bytes : goal.returns-clause-bytes
returns-clause-bytes c was are =
    let size : length c.map.result.now ≡ length c.args.ring.now.ids = ap (λ (l : List ℕ). length l) c.map.ensures in
    let all : c.loop-i.i ≡ length c.args.ring.now.ids = omega (arith, c.loop-i-test.false, c.len-i-end.ensures.len, size) in
    c.loop-i.invariant.bytes was are
    ∙ ap (λ k. c.args.text.now.bytes ++ changes_text c.args.listing (changes_to was c.args.ring.now k)) all
