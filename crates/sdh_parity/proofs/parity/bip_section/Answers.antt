use Rattle.std.proofs.Common.{◌≡◌, ℕ, List, ◌*◌, ◌-◌, [], ◌++◌, length, take, drop, ap, ◌∙◌}
use Rattle.std.specs.Prelude.{slice_range}
use Rattle.std.proofs.lemmas.List.{take_rest}
use Rattle.sdh_parity.specs.Parity.{bip_lanes, section_bytes, section_parity}
use Rattle.sdh_parity.specs.Pieces.{Running, after_bytes}
use Rattle.sdh_parity.proofs.Running.{goes-on, sums-are}
use Rattle.sdh_parity.proofs.parity.bip_section.Goals as goal

parity-is : (n : ℕ) (bytes : List ℕ) (s : Running) → s ≡ after_bytes n
    (slice_range bytes (9 * n) (270 * n) ++ slice_range bytes (279 * n) (540 * n) ++ slice_range bytes (549 * n) (810 * n)
    ++ take (length bytes - 810 * n) (drop (810 * n) bytes)) → s.sums ≡ section_parity n bytes
unfolding section_parity section_bytes
parity-is n bytes s e =
    sums-are n s _ e ∙ ap (λ l. bip_lanes (3 * n) (slice_range bytes (9 * n) (270 * n) ++ slice_range bytes (279 * n) (540 * n)
    ++ slice_range bytes (549 * n) (810 * n) ++ l)) (take_rest bytes (810 * n))

pub returns : goal.returns
returns c =
    let n = c.args.n in
    let bytes = c.args.bytes.now in
    let one =
    goes-on n c.new-sum.result c.add.new.self [] (slice_range bytes (9 * n) (270 * n)) c.new-sum.ensures.none c.add.ensures.each in
    let two =
    goes-on n c.add.new.self c.add-2.new.self (slice_range bytes (9 * n) (270 * n))
    (slice_range bytes (279 * n) (540 * n)) one c.add-2.ensures.each in
    let three =
    goes-on n c.add-2.new.self c.add-3.new.self (slice_range bytes (9 * n) (270 * n) ++ slice_range bytes (279 * n) (540 * n))
    (slice_range bytes (549 * n) (810 * n)) two c.add-3.ensures.each in
    let all =
    goes-on n c.add-3.new.self c.add-4.new.self (slice_range bytes (9 * n) (270 * n) ++ slice_range bytes (279 * n) (540 * n)
    ++ slice_range bytes (549 * n) (810 * n)) _ three c.add-4.ensures.each in
    c.write_value.ensures ∙ parity-is n bytes c.add-4.new.self all
