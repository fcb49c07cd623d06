use Rattle.std.proofs.Common.{◌≡◌, ℕ, ◌+◌, List, ◌++◌, length, vec_len, ap, ◌∙◌, arith}
use Rattle.sdh_outage.proofs.Windows.{when_ok}
use Rattle.sdh_outage.proofs.reach.put_chunk.Goals as goal

pub returns-clause-bytes : goal.returns-clause-bytes
returns-clause-bytes c =
    let before = c.args.bytes.now.items in
    let chunk = c.as_slice.result.now in
    c.extend_from_slice.ensures.items ∙ when_ok c.extend_from_slice.result c.unwrap.result (before ++ chunk) before c.unwrap.ensures
    ∙ ap (λ l. before ++ l) (c.as_slice.ensures.bytes ∙ c.next.ensures.chunk)

pub returns-clause-len : goal.returns-clause-len
returns-clause-len c =
    let before = c.args.bytes.now in
    let chunk = c.as_slice.result.now in
    let full : length chunk ≡ 2349 = ap (λ (l : List ℕ). length l) c.as_slice.ensures.bytes ∙ c.next.ensures.full in
    let long : vec_len c.extend_from_slice.new.self ≡ vec_len before + length chunk =
    c.extend_from_slice.ensures.len ∙ when_ok c.extend_from_slice.result c.unwrap.result (vec_len before + length chunk)
    (vec_len before) c.unwrap.ensures in
    omega (arith, long, full)

pub returns-clause-room : goal.returns-clause-room
returns-clause-room c = c.extend_from_slice.ensures.capacity
