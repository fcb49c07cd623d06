use Rattle.std.proofs.Common.{◌≡◌, Some, None, ap, sym, ◌∙◌}
use Rattle.sdh_aps_cli.specs.Words.{listing_of}
use Rattle.sdh_aps_cli.proofs.Goings.{is_placed, run_only, none_only}
use Rattle.sdh_aps_cli.proofs.program.SignalAskProgram.deed.Goals as goal

pub new_run-requires : goal.new_run-requires
new_run-requires g c =
    let is : listing_of c.args.self c.args.plan.nodes ≡ Some c.in-Some.listing =
    ap (listing_of c.args.self) (sym c.map.ensures) ∙ sym c.listing_of.ensures ∙ c.in-Some.is in
    record { placed = is_placed c.args.self c.args.plan.nodes c.in-Some.listing is }

pub returns-in_ok-run-in-Some-clause-deed : goal.returns-in_ok-run-in-Some-clause-deed
returns-in_ok-run-in-Some-clause-deed g c =
    let is : listing_of c.args.self c.args.plan.nodes ≡ Some c.in-Some.listing =
    ap (listing_of c.args.self) (sym c.map.ensures) ∙ sym c.listing_of.ensures ∙ c.in-Some.is in
    let new = c.in_ok-run-in-Some.ensures in
    (run_only c.args.self c.args.plan c.in-Some.listing is, (new.is_of, new.listing), new.ready)

pub returns-in-None-clause-deed : goal.returns-in-None-clause-deed
returns-in-None-clause-deed g c =
    let none : listing_of c.args.self c.args.plan.nodes ≡ None =
    ap (listing_of c.args.self) (sym c.map.ensures) ∙ sym c.listing_of.ensures ∙ c.in-None.is in
    (none_only c.args.self c.args.plan none, tt)
