use Rattle.std.proofs.Common.{◌≡◌, true, false, [], map, drop, ap, sym, ◌∙◌, arith, rules}
use Rattle.std.specs.List.{list_all}
use Rattle.std.proofs.lemmas.List.{drop_all}
use Rattle.sdh_plant.specs.Calls.{is_at, told_at_rate}
use Rattle.sdh_plant.specs.InMemory.{HeldTold}
use Rattle.sdh_plant.specs.Kept.{arrival_of}
use Rattle.sdh_plant.proofs.Telling.{all_left, told_at_rate-all, told_at_rate-none, told_of-prepared}
use Rattle.sdh_plant.proofs.told_plant.ToldPlantPlant.prepare.Goals as goal

pub invariant_of-self-else-not-are_told_at : goal.invariant_of-self-else-not-are_told_at
invariant_of-self-else-not-are_told_at c =
    let items = c.self.inside.arrivals.items in
    let all : list_all (is_at c.args.rate) (map arrival_of (drop c.self.inside.next items)) ≡ true =
    all_left c.args.rate items c.self.inside.next true (search rules) in
    record { within = c.self.invariant.within; rates = λ some. rw c.in_ok-lay.ensures.ok all }

pub returns-then-not-are_told_at-clause-ok : goal.returns-then-not-are_told_at-clause-ok
returns-then-not-are_told_at-clause-ok c =
    let items = c.self.inside.arrivals.items in
    let told : c.args.self.now.told ≡ map arrival_of (drop c.self.inside.next items) = ap (λ (h : HeldTold). h.told) (sym c.self.view_is) in
    let some : list_all (is_at c.args.rate) (map arrival_of (drop c.self.inside.next items)) ≡ false =
    all_left c.args.rate items c.self.inside.next false (search rules) in
    let none : drop c.len-self-inside.result items ≡ [] = drop_all c.len-self-inside.result items (omega arith) in
    told_of-prepared c.args.rate c.args.nodes c.args.self.now c.lay.new.self
    (map arrival_of (drop c.len-self-inside.result items)) c.in_ok-lay.ensures.ok
    (ap (map arrival_of) none ∙ told_at_rate-none c.args.rate c.args.self.now.told (ap (list_all (is_at c.args.rate)) told ∙ some))

pub returns-else-not-are_told_at-clause-ok : goal.returns-else-not-are_told_at-clause-ok
returns-else-not-are_told_at-clause-ok c =
    let items = c.self.inside.arrivals.items in
    let told : c.args.self.now.told ≡ map arrival_of (drop c.self.inside.next items) = ap (λ (h : HeldTold). h.told) (sym c.self.view_is) in
    let all : list_all (is_at c.args.rate) (map arrival_of (drop c.self.inside.next items)) ≡ true =
    all_left c.args.rate items c.self.inside.next true (search rules) in
    told_of-prepared c.args.rate c.args.nodes c.args.self.now c.lay.new.self
    (map arrival_of (drop c.self.inside.next items)) c.in_ok-lay.ensures.ok
    (told_at_rate-all c.args.rate (map arrival_of (drop c.self.inside.next items)) all ∙ ap (told_at_rate c.args.rate) (sym told))
