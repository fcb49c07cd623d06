-- Circuit after circuit is looked at.
use Rattle.std.proofs.Common.{◌≡◌, ℕ, zero, suc, ◌+◌, List, [], ◌∷◌, drop, Some, ap, ◌∙◌, arith}
use Rattle.std.specs.Prelude.{◌≤◌, length, ◌==◌, if◌then◌else◌, slice_get, Option, None}
use Rattle.std.proofs.Math.ListN.{drop_of_length-le}
use Rattle.std.proofs.lemmas.Option.{same_Some}
use Rattle.sdh_circuits.specs.declared.End.{End}
use Rattle.sdh_circuits.specs.declared.End.TheVariants.{A, B}
use Rattle.sdh_circuits.specs.Ends.{other_end}
use Rattle.sdh_circuits.specs.Provisioned.{Provisioned, customer_at}
use Rattle.sdh_outage.specs.Kept.{Nearby}
use Rattle.sdh_outage_cli.specs.Streams.{end_held, port_or, holder_from, IsNear, far_bytes}
use Rattle.sdh_outage_cli.specs.declared.streams.StreamPair.{StreamPair}

-- the bytes that come to the port at an end are those of the customer at the other one
pub far_is : (c : Provisioned) (round : ℕ) (pair : StreamPair) (end : End) → IsNear c round pair
    → (let n : Nearby = record { port = customer_at c (other_end end); round = round } in far_bytes pair end ≡ n)
far_is c round pair A is = is.b
far_is c round pair B is = is.a

-- the rest from a circuit on
pub rest_from : (cs : List Provisioned) (i : ℕ) (c : Provisioned) → slice_get cs i ≡ Some c → drop i cs ≡ c ∷ drop (suc i) cs
rest_from [] i c there = absurd (cc)
rest_from (d ∷ cs) zero c there = ap (λ (x : Provisioned). x ∷ cs) (same_Some d c there)
rest_from (d ∷ cs) (suc i) c there = rest_from cs i c there

-- the first port that sends the bytes, from circuit i on, is at circuit i or at a later one
pub holder_next : (own i : ℕ) (cs : List Provisioned) (c : Provisioned) (round : ℕ) (bytes : List ℕ) (held : Option End)
    → slice_get cs i ≡ Some c → (if i == own then None else end_held c round bytes) ≡ held
    → holder_from own i (drop i cs) round bytes ≡ port_or held i (holder_from own (i + 1) (drop (i + 1) cs) round bytes)
unfolding holder_from
holder_next own i cs c round bytes held there is =
    let next : suc i ≡ i + 1 = omega arith in
    ap (λ l. holder_from own i l round bytes) (rest_from cs i c there)
    ∙ ap (λ h. port_or h i (holder_from own (i + 1) (drop (suc i) cs) round bytes)) is
    ∙ ap (λ n. port_or held i (holder_from own (i + 1) (drop n cs) round bytes)) next

-- no port sends the bytes once all circuits were looked at
pub holder_end : (own i : ℕ) (cs : List Provisioned) (round : ℕ) (bytes : List ℕ) → length cs ≤ i
    → holder_from own i (drop i cs) round bytes ≡ None
unfolding holder_from
holder_end own i cs round bytes past = ap (λ l. holder_from own i l round bytes) (drop_of_length-le cs past)
