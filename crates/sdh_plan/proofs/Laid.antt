-- A circuit that is laid after others is added: no check refuses it.
use Rattle.std.proofs.Common.{◌≡◌, ℕ, ◌+◌, ◌-◌, ◌%◌, ◌<◌, ◌≤◌, List, ◌++◌, get_or, drop, Bool, true, false, not, cond, ◌&&◌, ◌==◌}
use Rattle.std.proofs.Common.{nat_le, nat_lt, All, Option, Some, None, codes, refl, unwrap_or, sym, ap, ◌∙◌, subst, arith, inl, inr, length}
use Rattle.std.specs.Prelude.{pos, Result, Err, Ok, IfNone, IfErr, OnOk}
use Rattle.std.specs.List.{list_all, list_any, range_with_len}
use Rattle.std.specs.Option.{option_map_or, is_some}
use Rattle.std.specs.Ordering.{int_eq}
use Rattle.std.specs.Fmt.{digits}
use Rattle.std.specs.Str.{bytes_eq}
use Rattle.std.proofs.lemmas.Bool.{cases_Bool, le-leb, ltb-true, and_parts, eqb-true, and_from}
use Rattle.std.proofs.lemmas.List.Folds.{list_any_none, list_all_at}
use Rattle.std.proofs.lemmas.List.FromFn.{get_or-range_with_len, length-range_with_len}
use Rattle.std.proofs.lemmas.Slice.Eq.{bytes_eq-Decides}
use Rattle.std.proofs.lemmas.Bool.Decides.{Decides-int_eq}
use Rattle.std.proofs.Math.Nat.{mod-lt}
use Rattle.sdh_ringmap.specs.Places.{eastwards, found_at, position_of}
use Rattle.sdh_ringmap.specs.declared.Pos.{Pos}
use Rattle.sdh_ringmap.specs.Arcs.{holds_span}
use Rattle.sdh_ringmap.proofs.Around.{eastwards-place, eastwards_self}
use Rattle.sdh_circuits.specs.Provisioned.{Provisioned, arc_of}
use Rattle.sdh_circuits.specs.Provisioning.{Provisioning}
use Rattle.sdh_circuits.specs.Naming.{is_name}
use Rattle.sdh_circuits.specs.Checks.{Wish, circuit_of, do_share, is_within, node_of, position_of_node, wish_checks, refusal, with_circuit}
use Rattle.sdh_circuits.specs.declared.AddError.{AddError}
use Rattle.sdh_circuits.specs.declared.AddError.TheVariants as refused
use Rattle.sdh_circuits.proofs.Shares.{not_both}
use Rattle.sdh_payload.specs.Customer.{is_text}
use Rattle.sdh_plan.specs.Words.{decimal_from}
use Rattle.sdh_plan.specs.Big.{Laying, drawn, next, spans_of, laying_end, name_in, laid_circuit, next_circuit, big_nodes}
use Rattle.sdh_plan.specs.Laid.{IsLaying, IsLaid, wish_with, wish_laid}

-- what passes at all numbers of a range passes at each
one_passes : (p : ℕ → Bool) (a m i : ℕ) → list_all p (range_with_len a m) ≡ true → a ≤ i → i < a + m → p i ≡ true
one_passes p a m i all low high = elim (cases_Bool (p i)) [
  | inl t ↦ t
  | inr f ↦
      let here : get_or (range_with_len a m) (i - a) 0 ≡ i = get_or-range_with_len a m (i - a) 0 (omega arith) ∙ omega arith in
      let none : list_all p (range_with_len a m) ≡ false =
      list_all_at p (range_with_len a m) (i - a) 0 (omega (arith, length-range_with_len a m)) (ap p here ∙ f) in
      absurd (let clash : true ≡ false = sym all ∙ none in cc)
]

-- a test of each name that there can be
abbrev names_pass : (ℕ → ℕ → Bool) → Bool
names_pass p = list_all (λ slot. list_all (p slot) (range_with_len 1 16)) (range_with_len 1 2)

name_passes : (p : ℕ → ℕ → Bool) (slot number : ℕ) → names_pass p ≡ true → 1 ≤ slot → slot ≤ 2 → 1 ≤ number → number ≤ 16
    → p slot number ≡ true
name_passes p slot number all a b c d =
    one_passes (p slot) 1 16 number (one_passes (λ k. list_all (p k) (range_with_len 1 16)) 1 2 slot all a (omega arith)) c (omega arith)

-- each name has the form of a name, and the name and the texts made of it have the form of a text
abbrev is_formed : ℕ → ℕ → Bool
is_formed slot number =
    is_name (name_in slot number) && (is_text (name_in slot number)
    && (is_text (name_in slot number ++ codes "a") && is_text (name_in slot number ++ codes "b")))

all_formed : names_pass is_formed ≡ true
unfolding is_name is_text digits
all_formed = refl

-- slot and number are read off a name
abbrev slot_in : List ℕ → ℕ
slot_in name = get_or name 1 0 - 48

abbrev number_in : List ℕ → ℕ
number_in name = decimal_from 0 (drop 3 name)

abbrev is_told : ℕ → ℕ → Bool
is_told slot number = (slot_in (name_in slot number) == slot) && (number_in (name_in slot number) == number)

all_told : names_pass is_told ≡ true
unfolding digits
all_told = refl

one_name : (slot number slot' number' : ℕ) → 1 ≤ slot → slot ≤ 2 → 1 ≤ number → number ≤ 16 → 1 ≤ slot' → slot' ≤ 2 → 1 ≤ number'
    → number' ≤ 16
    → name_in slot number ≡ name_in slot' number' → (slot ≡ slot') × (number ≡ number')
one_name slot number slot' number' a b c d a' b' c' d' same =
    let one =
    and_parts (slot_in (name_in slot number) == slot) (number_in (name_in slot number) == number)
    (name_passes is_told slot number all_told a b c d) in
    let two =
    and_parts (slot_in (name_in slot' number') == slot') (number_in (name_in slot' number') == number')
    (name_passes is_told slot' number' all_told a' b' c' d') in (
      sym (eqb-true (slot_in (name_in slot number)) slot one.0) ∙ ap slot_in same ∙ eqb-true (slot_in (name_in slot' number')) slot' two.0,
      sym (eqb-true (number_in (name_in slot number)) number one.1) ∙ ap number_in same
          ∙ eqb-true (number_in (name_in slot' number')) number' two.1,
    )

pub is_false : (b : Bool) → (b ≡ true → ⊥) → b ≡ false
is_false false f = refl
is_false true f = absurd (f refl)

-- the nodes are at their positions
abbrev is_there : ℕ → Bool
is_there k = option_map_or (λ p. p.0 == k) (found_at big_nodes k) false

all_there : list_all is_there (range_with_len 0 16) ≡ true
all_there = refl

there : (o : Option Pos) (k : ℕ) → option_map_or (λ p. p.0 == k) o false ≡ true → o ≡ Some (position_of k)
there None k e = cc
there (Some p) k e = ap (λ j. Some (position_of j)) (eqb-true p.0 k e)

found : (k : ℕ) → k < 16 → found_at big_nodes k ≡ Some (position_of k)
found k h = there (found_at big_nodes k) k (one_passes is_there 0 16 k all_there (omega arith) (omega arith))

found_node : (k : ℕ) → k < 16 → node_of big_nodes (pos k) ≡ Some (position_of k)
found_node k h = let small : nat_le k 15 ≡ true =
    le-leb k 15 (omega arith) in ap (λ b. cond b (found_at big_nodes k) None) small ∙ found k h

placed : (k : ℕ) → k < 16 → position_of_node big_nodes (pos k) ≡ position_of k
placed k h = ap (λ o. unwrap_or o (record { 0 = 0 })) (found_node k h)

-- what is asked for gives the circuit
pub asked_gives : (slot number at spans x : ℕ) → at < 16 → circuit_of big_nodes (wish_laid slot number at spans x)
    ≡ laid_circuit slot number at spans x
asked_gives slot number at spans x h =
    let make : Pos → Pos → Provisioned = λ from to. record (laid_circuit slot number at spans x) { from = from; to = to } in
    ap (λ from. make from (position_of_node big_nodes (pos ((at + spans) % 16)))) (placed at h)
    ∙ ap (make (position_of at)) (placed ((at + spans) % 16) (mod-lt (at + spans) (omega arith)))

-- spans that the next circuit has
pub spans_some : (l : Laying) → 0 < l.left → (1 ≤ spans_of l) × (spans_of l ≤ l.left) × (spans_of l ≤ 5)
spans_some l h = let small : drawn l.state % 5 < 5 = mod-lt (drawn l.state) (omega arith) in (omega arith, omega arith, omega arith)

-- a span that an arc holds
pub held : (at to span : ℕ) → holds_span 16 (record { start = at; spans = eastwards 16 at to }) span ≡ true
    → (span < 16) × (eastwards 16 at span < eastwards 16 at to)
unfolding holds_span
held at to span e =
    let is = and_parts (nat_lt span 16) (nat_lt (eastwards 16 at span) (eastwards 16 at to)) e in
    (ltb-true span 16 is.0, ltb-true (eastwards 16 at span) (eastwards 16 at to) is.1)

-- the next circuit shares no span with one that was laid
unshared : (slot : ℕ) (l : Laying) (d : Provisioned) → IsLaying l → 0 < l.left → IsLaid slot l d
    → do_share 16 (next_circuit slot l) d ≡ false
unfolding do_share
unshared slot l d is some was =
    let spans = spans_some l some in
    let long : eastwards 16 l.at (laying_end l) ≡ spans_of l = eastwards-place 16 l.at (spans_of l) is.at_inside (omega (arith, spans.2)) in
    not_both (slot == d.slot.0) _ (λ same any.
    let none =
    list_any_none (λ span. holds_span 16 (arc_of 16 (next_circuit slot l)) span && holds_span 16 (arc_of 16 d) span)
    (range_with_len 0 16)
    (λ k s h. not_both (holds_span 16 (arc_of 16 (next_circuit slot l)) (get_or (range_with_len 0 16) k s))
    (holds_span 16 (arc_of 16 d) (get_or (range_with_len 0 16) k s))
    (λ mine theirs.
    let on = held l.at (laying_end l) (get_or (range_with_len 0 16) k s) mine in
    let away = was.apart (sym (eqb-true slot d.slot.0 same)) (get_or (range_with_len 0 16) k s) theirs in
    omega (arith, on.1, away, long, spans.1))) in
    let e : false ≡ true = sym none ∙ any in
    cc)

-- the next circuit doesn't have the name of one that was laid
unlike : (slot : ℕ) (l : Laying) (d : Provisioned) → IsLaying l → 0 < l.left → 1 ≤ slot → slot ≤ 2 → IsLaid slot l d
    → bytes_eq d.name (name_in slot l.number) ≡ false
unlike slot l d is some low high was =
    is_false (bytes_eq d.name (name_in slot l.number)) (λ e.
    let same = sym was.named ∙ (bytes_eq-Decides d.name (name_in slot l.number)).0 e in
    let both =
    one_name d.slot.0 was.number slot l.number was.slot_from_1 (omega (arith, was.slot_small)) was.from_1 was.few low high is.from_1
    (omega (arith, is.few)) same in
    omega (arith, was.by_number both.0, both.1))

differ : (b : Bool) → (b ≡ true → ⊥) → not b ≡ true
differ false f = refl
differ true f = absurd (f refl)

one_place : {a b : ℕ} → pos a ≡ pos b → a ≡ b
one_place e = cc

-- the checks pass
passes : (b : Bool) (o : Option AddError) (why : AddError) → b ≡ true → o ≡ None → cond b o (Some why) ≡ None
passes true o why e none = none
passes false o why e none = cc

offset_within : (x : ℕ) → is_within 0 782 (pos (x % 783)) ≡ true
offset_within x = let small : x % 783 < 783 =
    mod-lt x (omega arith) in and_from (nat_le 0 (x % 783)) (nat_le (x % 783) 782) (le-leb 0 (x % 783) (omega arith))
    (le-leb (x % 783) 782 (omega arith))

two_ends : (l : Laying) → IsLaying l → 0 < l.left → not (int_eq (pos l.at) (pos (laying_end l))) ≡ true
two_ends l is some =
    let spans = spans_some l some in
    let long : eastwards 16 l.at (laying_end l) ≡ spans_of l = eastwards-place 16 l.at (spans_of l) is.at_inside (omega (arith, spans.2)) in
    differ (int_eq (pos l.at) (pos (laying_end l))) (λ e.
    let same : eastwards 16 l.at l.at ≡ eastwards 16 l.at (laying_end l) =
    ap (eastwards 16 l.at) (one_place ((Decides-int_eq (pos l.at) (pos (laying_end l))).0 e)) in
    omega (arith, same, long, eastwards_self 16 l.at is.at_inside, spans.0))

pub not_refused : (slot : ℕ) (l : Laying) (p : Provisioning) → p.slots ≡ 2 → 1 ≤ slot → slot ≤ 2 → IsLaying l → 0 < l.left
    → All (IsLaid slot l) p.circuits
    → refusal p big_nodes (wish_laid slot l.number l.at (spans_of l) (next l.state)) ≡ None
unfolding refusal wish_checks
not_refused slot l p two low high is some were =
    let form = name_passes is_formed slot l.number all_formed low high is.from_1 (omega (arith, is.few)) in
    let name = name_in slot l.number in
    let a = and_parts (is_name name) (is_text name && (is_text (name ++ codes "a") && is_text (name ++ codes "b"))) form in
    let b = and_parts (is_text name) (is_text (name ++ codes "a") && is_text (name ++ codes "b")) a.1 in
    let c = and_parts (is_text (name ++ codes "a")) (is_text (name ++ codes "b")) b.1 in
    let free =
    list_any_none (λ d. bytes_eq d.name name) p.circuits
    (λ k d h. unlike slot l (get_or p.circuits k d) is some low high (were k d h)) in
    let given = asked_gives slot l.number l.at (spans_of l) (next l.state) is.at_inside in
    let room =
    list_any_none (do_share 16 (next_circuit slot l)) p.circuits
    (λ k d h. unshared slot l (get_or p.circuits k d) is some (were k d h)) in
    passes _ _ _ (and_from (nat_le 1 slot) (nat_le slot p.slots) (le-leb 1 slot low) (le-leb slot p.slots (omega (arith, two))))
    (passes _ _ _ (and_from _ _ (ap is_some (found_node l.at is.at_inside))
    (ap is_some (found_node (laying_end l) (mod-lt (l.at + spans_of l) (omega arith)))))
    (passes _ _ _ (two_ends l is some)
    (passes _ _ _ (and_from _ _ (offset_within (drawn (next l.state))) (offset_within (drawn (next (next l.state)))))
    (passes _ _ _ (and_from _ _ c.0 c.1)
    (passes _ _ _ (and_from _ _ b.0 b.0)
    (passes _ _ _ (and_from _ _ a.0 (ap not free))
    (passes _ _ _ (ap (λ d. not (list_any (do_share 16 d) p.circuits)) given ∙ ap not room) refl)))))))

-- where no check refuses, out of memory is the only error
pub memory_alone : (o : Option AddError) (r : Result (Unit {0}) AddError) (why : AddError) → o ≡ None → r ≡ Err why
    → IfNone o (IfErr r (λ why. why ≡ refused.Memory)) → why ≡ refused.Memory
memory_alone None r why e f h = let P : Result (Unit {0}) AddError → Type 0 = λ q. IfErr q (λ why. why ≡ refused.Memory) in subst P f h
memory_alone (Some w) r why e f h = cc

-- what is asked for, from its parts, is the circuit that is laid, as it is asked for
pub wish_same : (slot number at spans x y : ℕ) (name text_a text_b : List ℕ) (offset_a offset_b : ℕ) → name ≡ name_in slot number
    → text_a ≡ name_in slot number ++ codes "a" → text_b ≡ name_in slot number ++ codes "b"
    → y ≡ next x → offset_a ≡ drawn x % 783 → offset_b ≡ drawn y % 783
    → wish_with slot at spans name text_a text_b offset_a offset_b ≡ wish_laid slot number at spans x
wish_same slot number at spans x y name text_a text_b offset_a offset_b a b c d e f =
    let n = name_in slot number in
    ap (λ v. wish_with slot at spans v text_a text_b offset_a offset_b) a ∙ ap (λ v. wish_with slot at spans n v text_b offset_a offset_b) b
    ∙ ap (λ v. wish_with slot at spans n (n ++ codes "a") v offset_a offset_b) c
    ∙ ap (λ v. wish_with slot at spans n (n ++ codes "a") (n ++ codes "b") v offset_b) e
    ∙ ap (λ v. wish_with slot at spans n (n ++ codes "a") (n ++ codes "b") (drawn x % 783) v) (f ∙ ap (λ z. drawn z % 783) d)

-- where a circuit is added for such a wish, the one that is laid is added
pub added_laid : {E : Type 0} (r : Result (Unit {0}) E) (p q : Provisioning) (ids : List ℕ) (wish : Wish) (slot number at spans x : ℕ)
    → ids ≡ big_nodes → at < 16 → wish ≡ wish_laid slot number at spans x
    → OnOk r (q ≡ with_circuit p ids (circuit_of ids wish)) → OnOk r (q ≡ with_circuit p ids (laid_circuit slot number at spans x))
added_laid (Err e) p q ids wish slot number at spans x there h is added = tt
added_laid (Ok u) p q ids wish slot number at spans x there h is added =
    added ∙ ap (λ w. with_circuit p ids (circuit_of ids w)) is
    ∙ ap (λ ns. with_circuit p ids (circuit_of ns (wish_laid slot number at spans x))) there
    ∙ ap (with_circuit p ids) (asked_gives slot number at spans x h)
