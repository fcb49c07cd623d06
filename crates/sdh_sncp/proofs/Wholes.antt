-- What calls leave of a whole ring.
use Rattle.std.proofs.Common.{ℕ, inl, sym, subst}
use Rattle.sdh_rounds.proofs.Laws.{known_rounds_are}
use Rattle.sdh_rounds.proofs.Runs.{known_settles, known_unsettles}
use Rattle.sdh_sncp.specs.Stations.{path_node}
use Rattle.sdh_sncp.specs.Ring.{World, IsRound, Settles, Unsettles}
use Rattle.sdh_sncp.specs.Laws.{IsWholePathRing}
use Rattle.sdh_sncp.proofs.Rounds.{whole_round, whole_run}

pub whole_after : (w after : World) → IsRound w after → IsWholePathRing w → IsWholePathRing after
whole_after w after is whole =
    subst IsWholePathRing (sym (known_rounds_are path_node w after (inl whole.paired.honest.honest) is).0) (whole_round w whole)

pub whole_settled : (w left : World) (limit : ℕ) → Settles w limit left → IsWholePathRing w → IsWholePathRing left
whole_settled w left limit s whole =
    let k = known_settles path_node w limit left (inl whole.paired.honest.honest) s in
    subst IsWholePathRing (sym k.2) (whole_run w k.0 whole)

pub whole_unsettled : (w left : World) (limit : ℕ) → Unsettles w limit left → IsWholePathRing w → IsWholePathRing left
whole_unsettled w left limit s whole =
    subst IsWholePathRing (sym (known_unsettles path_node w limit left (inl whole.paired.honest.honest) s).1) (whole_run w limit whole)
