use Rattle.std.proofs.Common.{◌≡◌, ℕ, ◌+◌, ◌%◌, List, [], length, get_or, ap, ◌∙◌}
use Rattle.sdh_frame.specs.Sizes.{size_of}
use Rattle.sdh_ringmap.specs.Rates.{n_of}
use Rattle.sdh_frame.specs.Aus.{pointer_byte}
use Rattle.sdh_interchange.proofs.ByBytes.{ChosenAt, same-chosen}
use Rattle.sdh_interchange.proofs.Rows.{all-assembled, lent}
use Rattle.sdh_interchange.proofs.assembling.assemble.Goals as goal

pub returns : goal.returns
returns c =
    let rate = c.args.frame.now.rate in
    let old = c.args.frame.now.bytes in
    let mid = c.choose.new.bytes in
    let sources = c.args.choice.now.sources in
    let first = c.args.first.now.bytes in
    let second = c.args.second.now.bytes in
    let own = c.args.own.now in
    let ps = c.args.pointers.now in
    let whole : length old ≡ size_of rate = c.rate.ensures.len in
    let same : length mid ≡ length old = c.choose.auto.bytes ∙ ap length c.bytes_mut.ensures.bytes in
    let many : length sources ≡ n_of rate = c.choose.ensures.many ∙ ap n_of c.requires.choice in
    let chosen : ChosenAt rate sources first second own old mid =
    same-chosen c.args.choice.now.rate rate sources c.bytes-first.result.now first c.bytes-second.result.now second own
    c.bytes_mut.result.now old mid c.requires.choice c.bytes-first.ensures.bytes c.bytes-second.ensures.bytes c.bytes_mut.ensures.bytes
    c.choose.ensures.chosen in
    let bytes =
    all-assembled rate sources first second own ps old mid c.point_all.new.frame.bytes whole c.point_all.ensures.long many chosen
    (λ i inside. c.point_all.ensures.pointed i inside ∙ ap (λ (l : List ℕ). pointer_byte (n_of rate) (i % n_of rate + 1)
    (get_or ps (i % n_of rate) []) i (get_or l i 0)) (lent old mid same)) in
    λ i. record { rate = c.point_all.ensures.rate i; bytes = bytes i }
