use Rattle.std.proofs.Common.{length, arith}
use Rattle.sdh_outage_cli.proofs.Room.{own_fits}
use Rattle.sdh_outage_cli.proofs.lines.put_step.Goals as goal

pub put_settle-requires-clause-room : goal.put_settle-requires-clause-room
put_settle-requires-clause-room c =
    let own = own_fits c.args.listing (length c.args.ring.now.circuits.circuits) in
    omega (arith, own, c.requires.room)
