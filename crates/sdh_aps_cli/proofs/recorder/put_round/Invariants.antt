use Rattle.std.proofs.Common.{◌≡◌, ℕ, ◌+◌, ◌*◌, ◌≤◌, ◌++◌}
use Rattle.sdh_aps.specs.declared.shown.Shown.{Shown}
use Rattle.sdh_aps_cli.specs.Signalled.{changes_to}
use Rattle.sdh_aps_cli.specs.Listing.{changes_text}
use Rattle.sdh_report.specs.Written.{room_in}
use Rattle.sdh_aps_cli.specs.Recording.{AreShown}
use Rattle.sdh_aps_cli.proofs.recorder.put_round.Given as goal

abbrev pub invariant-loop-i : goal.invariant-loop-i
invariant-loop-i l = record {
  bytes : (was : ℕ → Shown) → AreShown was l.before.items → l.text.bytes ≡ l.initial.text.bytes ++ changes_text l.listing (changes_to was l.ring l.i);
  room : l.initial.text.room ≤ l.text.room + 128 * l.i;
  kept : room_in l.text ≡ room_in l.initial.text;
}
