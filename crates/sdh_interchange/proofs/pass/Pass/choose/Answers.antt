use Rattle.std.proofs.Common.{◌≡◌, ℕ, ◌*◌, ◌/◌, ◌<◌, ◌⊎◌, refl, arith}
use Rattle.sdh_interchange.specs.Passes.{byte_by_source}
use Rattle.sdh_interchange.proofs.ByBytes.{picked-next}
use Rattle.sdh_interchange.proofs.pass.Pass.choose.Goals as goal
use Rattle.sdh_frame.proofs.ByColumns.{by_rate}

pub loop-r-init : goal.loop-r-init
loop-r-init g c = record {
  done = λ i inside below. absurd (omega arith);
  rest = λ i behind. refl;
}

pub loop-r-preserved : goal.loop-r-preserved
loop-r-preserved g c =
    picked-next g.row.N (byte_by_source g.row.N c.args.self.now) c.loop-r.r c.args.bytes.now c.loop-r.bytes c.choose_row.new.bytes
    c.loop-r.invariant c.choose_row.ensures.here c.choose_row.ensures.others

nine : (n i : ℕ) → (n ≡ 4) ⊎ (n ≡ 16) → i < 2430 * n → i / (270 * n) < 9
nine n i rate inside = by_rate (λ m. i < 2430 * m → i / (270 * m) < 9) n rate (λ h. omega arith) (λ h. omega arith) inside

pub returns : goal.returns
returns g c = λ i inside. (let few = nine g.row.N i c.requires.pass.rate inside in c.loop-r.invariant.done i inside (omega arith))
