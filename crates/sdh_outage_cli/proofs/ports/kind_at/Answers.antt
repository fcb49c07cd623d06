use Rattle.std.proofs.Common.{◌≡◌, ◌<◌, length, Some, refl, ap, sym, subst, ◌∙◌, arith}
use Rattle.std.specs.Prelude.{slice_get}
use Rattle.std.proofs.lemmas.Option.{slice_get_read}
use Rattle.sdh_outage.specs.Near.{near}
use Rattle.sdh_outage.specs.Kinds.{own_kind, settled_kind, kind_of_others}
use Rattle.sdh_outage.specs.Kept.{Nearby}
use Rattle.sdh_outage_cli.specs.Streams.{holder_of, AreNear, AreEarly}
use Rattle.sdh_outage_cli.proofs.Holding.{far_is}
use Rattle.sdh_outage_cli.proofs.Lists.{set_there}
use Rattle.sdh_outage_cli.proofs.ports.kind_at.Goals as goal

pub own_kind-own-requires : goal.own_kind-own-requires
own_kind-own-requires c =
    let items = c.args.streams.now.pairs.items in
    let i = c.args.port.circuit in
    let pair = c.index_mut.result.now in
    let inside : i < length items = omega (arith, c.requires.many, c.requires.port) in
    let here : slice_get items i ≡ Some pair = slice_get_read items _ i pair refl inside c.index_mut.ensures.value in
    c.requires.early i pair here

pub holder-requires-clause-many : goal.holder-requires-clause-many
holder-requires-clause-many c =
    let items = c.args.streams.now.pairs.items in
    let i = c.args.port.circuit in
    let pair = c.index_mut.result.now in
    let inside : i < length items = omega (arith, c.requires.many, c.requires.port) in
    let here : slice_get items i ≡ Some pair = slice_get_read items _ i pair refl inside c.index_mut.ensures.value in
    ap length (set_there items i pair c.own_kind-own.new.self here c.own_kind-own.ensures.same) ∙ c.requires.many

pub holder-requires-clause-early : goal.holder-requires-clause-early
holder-requires-clause-early c =
    let items = c.args.streams.now.pairs.items in
    let i = c.args.port.circuit in
    let pair = c.index_mut.result.now in
    let inside : i < length items = omega (arith, c.requires.many, c.requires.port) in
    let here : slice_get items i ≡ Some pair = slice_get_read items _ i pair refl inside c.index_mut.ensures.value in
    subst AreEarly (sym (set_there items i pair c.own_kind-own.new.self here c.own_kind-own.ensures.same)) c.requires.early

pub returns-in-Some-clause-kind : goal.returns-in-Some-clause-kind
returns-in-Some-clause-kind c = λ circuits x near_all there.
    let items = c.args.streams.now.pairs.items in
    let i = c.args.port.circuit in
    let end = c.args.port.end in
    let h = c.args.listener.now in
    let now = c.args.now.now in
    let pair = c.index_mut.result.now in
    let inside : i < length items = omega (arith, c.requires.many, c.requires.port) in
    let here : slice_get items i ≡ Some pair = slice_get_read items _ i pair refl inside c.index_mut.ensures.value in
    let far = far_is x h.round pair end (near_all.each i x pair there here) in
    let own =
    c.own_kind-own.ensures.kind ∙ ap (λ (n : Nearby). own_kind (near n.port n.round) h.last now) far in
    ap (λ o. settled_kind o (holder_of circuits i h.round now)) (sym c.in-Some.is ∙ own)

pub returns-in-None-clause-kind : goal.returns-in-None-clause-kind
returns-in-None-clause-kind c = λ circuits x near_all there.
    let items = c.args.streams.now.pairs.items in
    let i = c.args.port.circuit in
    let end = c.args.port.end in
    let h = c.args.listener.now in
    let now = c.args.now.now in
    let pair = c.index_mut.result.now in
    let inside : i < length items = omega (arith, c.requires.many, c.requires.port) in
    let here : slice_get items i ≡ Some pair = slice_get_read items _ i pair refl inside c.index_mut.ensures.value in
    let same = set_there items i pair c.own_kind-own.new.self here c.own_kind-own.ensures.same in
    let far = far_is x h.round pair end (near_all.each i x pair there here) in
    let own =
    c.own_kind-own.ensures.kind ∙ ap (λ (n : Nearby). own_kind (near n.port n.round) h.last now) far in
    c.kind_of_others.ensures
    ∙ ap kind_of_others (c.holder.ensures.holder circuits h.round (subst (AreNear circuits h.round) (sym same) near_all))
    ∙ ap (λ o. settled_kind o (holder_of circuits i h.round now)) (sym c.in-None.is ∙ own)

pub returns-in-Some-clause-streams : goal.returns-in-Some-clause-streams
returns-in-Some-clause-streams c =
    let items = c.args.streams.now.pairs.items in
    let i = c.args.port.circuit in
    let pair = c.index_mut.result.now in
    let inside : i < length items = omega (arith, c.requires.many, c.requires.port) in
    let here : slice_get items i ≡ Some pair = slice_get_read items _ i pair refl inside c.index_mut.ensures.value in
    set_there items i pair c.own_kind-own.new.self here c.own_kind-own.ensures.same

pub returns-in-None-clause-streams : goal.returns-in-None-clause-streams
returns-in-None-clause-streams c =
    let items = c.args.streams.now.pairs.items in
    let i = c.args.port.circuit in
    let pair = c.index_mut.result.now in
    let inside : i < length items = omega (arith, c.requires.many, c.requires.port) in
    let here : slice_get items i ≡ Some pair = slice_get_read items _ i pair refl inside c.index_mut.ensures.value in
    c.holder.ensures.same ∙ set_there items i pair c.own_kind-own.new.self here c.own_kind-own.ensures.same
