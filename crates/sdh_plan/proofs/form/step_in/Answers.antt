use Rattle.std.proofs.Common.{ℕ, List, [], Bor, arith}
use Rattle.sdh_ringmap.specs.Rates.{n_of}
use Rattle.sdh_plan.proofs.Forms.{told_whole}
use Rattle.sdh_plan.proofs.form.step_in.Goals as goal

pub returns : goal.returns
returns c =
    told_whole (λ (word : Bor (List ℕ)). word.now) (n_of c.args.rate) c.args.ring.now c.args.circuits.now.circuits c.args.words.now
    (record { ref_ptr = (0, 0); now = [] }) c.told.result (omega (arith, c.in-len1-up.len_at_least)) c.told.ensures c.requires
