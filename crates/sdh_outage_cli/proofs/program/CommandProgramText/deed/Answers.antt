use Rattle.std.proofs.Common.{◌≡◌, ◌≤◌, Some, None, length, sym, subst, ◌∙◌}
use Rattle.sdh_scripts.specs.Texts.{room_for}
use Rattle.sdh_outage_cli.specs.Running.{outage_lines_room}
use Rattle.sdh_outage_cli.specs.Words.{outage_ask_of, listing_of}
use Rattle.sdh_outage_cli.specs.declared.listing.OutageListing.{OutageListing}
use Rattle.sdh_outage_cli.proofs.Stages.{run_only, none_only}
use Rattle.sdh_outage_cli.proofs.program.CommandProgramText.deed.Goals as goal

pub returns-in_ok-run-in-Some-clause-deed : goal.returns-in_ok-run-in-Some-clause-deed
returns-in_ok-run-in-Some-clause-deed g c =
    let is : listing_of (outage_ask_of c.args.self) c.args.plan ≡ Some c.in-Some.listing = sym c.listing_of.ensures.listing ∙ c.in-Some.is in
    let new = c.in_ok-run-in-Some.ensures in
    (run_only c.args.plan c.in-Some.listing (outage_ask_of c.args.self) is, (new.is_of, new.listing), new.ready)

pub returns-in_ok-run-in-Some-clause-room : goal.returns-in_ok-run-in-Some-clause-room
returns-in_ok-run-in-Some-clause-room g c =
    let ring = c.in_ok-run-in-Some.run'.runner.ring in
    subst (λ (l : OutageListing). room_for (outage_lines_room l (length ring.circuits.circuits)) 0 ≤ c.new_run.new.text.room)
    (sym c.in_ok-run-in-Some.ensures.listing) c.in_ok-run-in-Some.ensures.room

pub returns-in-None-clause-deed : goal.returns-in-None-clause-deed
returns-in-None-clause-deed g c =
    let none : listing_of (outage_ask_of c.args.self) c.args.plan ≡ None = sym c.listing_of.ensures.listing ∙ c.in-None.is in
    (none_only c.args.plan (outage_ask_of c.args.self) none, tt)
