-- Where all checks but the last one pass, the last one decides.
use Rattle.std.proofs.Common.{◌≡◌, ℕ, List, length, Bool, true, false, not, cond, Option, Some, None, refl, sym, ap, ◌∙◌}
use Rattle.std.specs.List.{list_any}
use Rattle.sdh_circuits.specs.Provisioned.{Provisioned}
use Rattle.sdh_circuits.specs.Provisioning.{Provisioning}
use Rattle.sdh_circuits.specs.Checks.{Wish, circuit_of, do_share, has_slot, has_ends, has_two_ends, has_offsets, has_texts, has_traces}
use Rattle.sdh_circuits.specs.Checks.{is_free_name, has_room, wish_checks, refusal}
use Rattle.sdh_circuits.specs.declared.AddError.{AddError}
use Rattle.sdh_circuits.specs.declared.AddError.TheVariants as refused

turned : (b : Bool) (o : Option AddError) → cond (not b) None o ≡ cond b o None
turned true o = refl
turned false o = refl

-- eight checks; the first seven pass
last : (a b c d e f g h : Bool) (s t u v w x y z : AddError) → a ≡ true → b ≡ true → c ≡ true → d ≡ true → e ≡ true → f ≡ true → g ≡ true
    → cond a (cond b (cond c (cond d (cond e (cond f (cond g (cond h None (Some z)) (Some y)) (Some x)) (Some w)) (Some v)) (Some u))
    (Some t)) (Some s) ≡ cond h None (Some z)
last true true true true true true true h s t u v w x y z i j k l m n o = refl
last false b c d e f g h s t u v w x y z i j k l m n o = cc
last true false c d e f g h s t u v w x y z i j k l m n o = cc
last true true false d e f g h s t u v w x y z i j k l m n o = cc
last true true true false e f g h s t u v w x y z i j k l m n o = cc
last true true true true false f g h s t u v w x y z i j k l m n o = cc
last true true true true true false g h s t u v w x y z i j k l m n o = cc
last true true true true true true false h s t u v w x y z i j k l m n o = cc

-- where all but the last check pass, it decides
pub last_check : (p : Provisioning) (ids : List ℕ) (wish : Wish) (c : Provisioned) (taken : Bool) → has_slot p.slots wish ≡ true
    → has_ends ids wish ≡ true → has_two_ends wish ≡ true
    → has_offsets wish ≡ true → has_texts wish ≡ true → has_traces wish ≡ true → is_free_name p.circuits wish.name ≡ true
    → c ≡ circuit_of ids wish → taken ≡ list_any (do_share (length ids) c) p.circuits
    → refusal p ids wish ≡ cond taken (Some refused.Overlap) None
unfolding refusal wish_checks
last_check p ids wish c taken i j k l m n o is e =
    let room : has_room ids p.circuits wish ≡ not taken =
    ap (λ d. not (list_any (do_share (length ids) d) p.circuits)) (sym is) ∙ ap not (sym e) in
    last _ _ _ _ _ _ _ _ _ _ _ _ _ _ _ _ i j k l m n o ∙ ap (λ r. cond r None (Some refused.Overlap)) room
    ∙ turned taken (Some refused.Overlap)
