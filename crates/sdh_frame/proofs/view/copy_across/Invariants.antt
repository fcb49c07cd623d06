use Rattle.std.proofs.Common.{◌≡◌}
use Rattle.sdh_ringmap.specs.Rates.{n_of}
use Rattle.sdh_frame.specs.Aus.{payload_of}
use Rattle.sdh_frame.proofs.Across.{AreCopied}
use Rattle.sdh_frame.proofs.view.copy_across.Given as goal

abbrev pub invariant-loop-index : goal.invariant-loop-index
invariant-loop-index l =
    (l.frame.rate ≡ l.fn.frame.rate) × AreCopied l.fn.frame.rate l.to (payload_of (n_of l.from.rate) l.au l.from.bytes) l.fn.frame.bytes l.frame.bytes l.index
