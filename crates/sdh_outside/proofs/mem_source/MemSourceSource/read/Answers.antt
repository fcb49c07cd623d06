use Rattle.std.proofs.Common.{◌<◌, ◌+◌, arith, sym, ◌∙◌, ap, take, drop, length, length-drop, ℕ, ◌≡◌, ◌-◌, ◌≤◌, rules}
use Rattle.std.proofs.lemmas.List.{drop_all, take_all}
use Rattle.sdh_outside.specs.Memory.{HeldSource}
use Rattle.sdh_outside.proofs.Moved.{left-split}
use Rattle.sdh_outside.proofs.mem_source.MemSourceSource.read.Goals as goal

pub returns-clause-bytes : goal.returns-clause-bytes
returns-clause-bytes c =
    let bytes = c.self.inside.bytes.items in
    let at = c.self.inside.at in
    let n = c.copy_front-count.result in
    let copied : take n c.copy_front-count.new.to ≡ take n (take (length bytes - at) (drop at bytes)) = search rules in
    let split = left-split bytes c.copy_front-count.new.to at n copied in
    let whole : take (length bytes - at) (drop at bytes) ≡ drop at bytes = take_all _ _ (omega (arith, length-drop {A = ℕ})) in
    let end : n ≡ 0 → 0 < length c.copy_front-count.new.to → length bytes ≤ at + n =
    λ none some. omega (arith, length-drop at bytes, ap length whole, c.copy_front-count.ensures.count, c.deref-2.ensures.len) in
    (ap (λ (s : HeldSource). s.left) (sym c.self.view_is) ∙ split, λ none some. drop_all (at + n) bytes (end none some))
