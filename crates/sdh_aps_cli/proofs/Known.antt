-- What is shown of a settle step depends only on its rounds.
use Rattle.std.proofs.Common.{◌≡◌, ℕ, ◌+◌, ◌≤◌, refl, arith}
use Rattle.sdh_node.specs.Rings.Rounds.{World}
use Rattle.sdh_scripts.specs.Laws.{KeepsRounds}
use Rattle.sdh_owed.proofs.Known.{no_round}
use Rattle.sdh_aps_cli.specs.Signalled.{signalled_in}
use Rattle.sdh_aps_cli.specs.Scripts.{signalling_walk}
use Rattle.sdh_aps_cli.specs.Keeping.{changes_same}
use Rattle.sdh_aps_cli.specs.FrameKeeping.{sent_same}

looks : (number k : ℕ) (at bt : ℕ → World) → ((j : ℕ) → j ≤ k + 0 → at j ≡ bt j) → signalled_in number at k ≡ signalled_in number bt k
looks number k at bt same =
    let last = same k (omega arith) in
    let changes = changes_same k at bt (λ j h. same j (omega arith)) in
    let sent = sent_same k at bt (λ j h. same j (omega arith)) in
    λ i. record { number = number; rounds = (last i).ring.rounds; changes = changes i; sent = sent i }

pub keeps_rounds : KeepsRounds signalling_walk
keeps_rounds = record { other = no_round; last = λ number at k. refl; looks = looks }
