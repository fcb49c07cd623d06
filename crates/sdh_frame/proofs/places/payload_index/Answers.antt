use Rattle.std.proofs.Common.{sym, subst}
use Rattle.sdh_frame.specs.PlaceLaws.{IsInFrame}
use Rattle.sdh_frame.proofs.PlaceProofs.{payload_within}
use Rattle.sdh_frame.proofs.places.payload_index.Goals as goal

pub index_in-requires-clause-columns : goal.index_in-requires-clause-columns
index_in-requires-clause-columns c =
    (subst (IsInFrame c.args.rate) (sym c.au_place-place.ensures)
    (payload_within c.args.rate c.args.au c.args.index c.requires.first c.requires.last c.requires.index)).columns
