-- Ports at a node.
use Rattle.std.proofs.Common.{◌≡◌, ℕ, zero, suc, ◌+◌, ◌<◌, ◌≤◌, Bool, true, false, cond, nat_lt, Some, None, List, [], ◌∷◌, ◌++◌, length}
use Rattle.std.proofs.Common.{take, drop, get_or, inl, inr, refl, ap, sym, subst, ◌∙◌, arith, append_assoc}
use Rattle.std.specs.Prelude.{◌^◌, ◌==◌, if◌then◌else◌, All, find, slice_get}
use Rattle.std.specs.List.{position, position_or_len}
use Rattle.std.proofs.lemmas.Bool.{cases_lt, cond_both}
use Rattle.std.proofs.lemmas.Bool.Decides.{nat_tests}
use Rattle.std.proofs.lemmas.List.{take_more, length-take-le, length-drop, append-nil}
use Rattle.std.proofs.lemmas.Option.{get_or_from_slice_get}
use Rattle.std.proofs.lemmas.List.Elements.{All-nil, All-cons, All-append}
use Rattle.std.proofs.lemmas.List.Quantifiers.{position-Some}
use Rattle.sdh_basics.specs.Indexed.{map_from}
use Rattle.sdh_basics.proofs.CellsLaws.{length-map_from, get_or-placed}
use Rattle.sdh_payload.specs.Customer.{Customer}
use Rattle.sdh_payload.specs.declared.chunk.ChunkForm.{ChunkForm}
use Rattle.sdh_payload.specs.declared.chunk.ChunkForm.TheVariants.{Plain, Short, Long}
use Rattle.sdh_payload.specs.declared.clock.Turn.{Turn}
use Rattle.sdh_payload.specs.declared.clock.Turn.TheVariants.{Up, Down}
use Rattle.sdh_payload.specs.Chunk.{taken_len, laid_payload, laid_h3}
use Rattle.sdh_payload.specs.Clock.{Clock, with_waiting, next_form, after_form, ticked, last_from}
use Rattle.sdh_payload.specs.Feed.{Fed, next_feed}
use Rattle.sdh_payload.specs.Stream.{stream_from}
use Rattle.sdh_payload.proofs.Chunks.{length-stream_from}
use Rattle.sdh_payload.proofs.Clocking.{next_clock, next_few, form_after}
use Rattle.sdh_frame.specs.Aus.{Au}
use Rattle.sdh_ringmap.specs.declared.Pos.{Pos}
use Rattle.sdh_ringmap.specs.declared.Side.{Side}
use Rattle.sdh_ringmap.specs.declared.Side.TheVariants.{West, East}
use Rattle.sdh_circuits.specs.declared.PortId.{PortId}
use Rattle.sdh_circuits.specs.declared.Slot.{Slot}
use Rattle.sdh_circuits.specs.declared.End.{End}
use Rattle.sdh_circuits.specs.declared.End.TheVariants.{A, B}
use Rattle.sdh_circuits.specs.Provisioned.{Provisioned}
use Rattle.sdh_circuits.specs.Provisioning.{Provisioning, IsProvisioning, IsInSlots, HasOffsets}
use Rattle.sdh_pointer.specs.declared.word.Form.{Form}
use Rattle.std.specs.Option.{option_map_or}
use Rattle.sdh_terminal.specs.Passing.{Input, h3_of, au_with, au_for}
use Rattle.sdh_terminal.specs.Tributaries.{Tributary, new_tributary, tributaries_of, tributaries_from, tributaries_at, is_port, port_of}
use Rattle.sdh_terminal.specs.Tributaries.{added_by, added_last, action_of, last_sent, sent_by, fed, all_fed}
use Rattle.sdh_terminal.specs.Tributaries.{delivered_with, all_delivered_with, IsTributary, IsFed}

-- ---- the search for a port

nothing : (n : ℕ) → Some n ≡ None → ⊥
nothing n e = cc

find-none : {X : Type 0} (p : X → Bool) (xs : List X) → position p xs ≡ None → find p xs ≡ None
find-none p [] none = refl
find-none p (x ∷ xs) none = go (p x) refl (λ rest. find-none p xs rest)
  where
    go : (t : Bool) → p x ≡ t → (position p xs ≡ None → find p xs ≡ None) → find p (x ∷ xs) ≡ None
    go true e rec =
        let t : nat_lt 0 (suc (length xs)) ≡ true = grind (arith, nat_tests) in
        let shown : position p (x ∷ xs) ≡ cond (nat_lt 0 (suc (length xs))) (Some 0) None = rw e refl in
        absurd (nothing 0 (sym (rw t at shown) ∙ none))
    go false e rec =
        let n = position_or_len p xs in
        elim (cases_lt n (length xs)) [
          | inl under ↦
              let t : nat_lt (1 + n) (suc (length xs)) ≡ true = grind (arith, nat_tests) in
              let shown : position p (x ∷ xs) ≡ cond (nat_lt (1 + n) (suc (length xs))) (Some (1 + n)) None = rw e refl in
              absurd (nothing (1 + n) (sym (rw t at shown) ∙ none))
          | inr over ↦
              let t : nat_lt n (length xs) ≡ false = grind (arith, nat_tests) in
              let rest : position p xs ≡ None = rw t refl in
              rw e (rec rest)
        ]

find-first : {X : Type 0} (p : X → Bool) (xs : List X) (i : ℕ) (d : X) → i < length xs → p (get_or xs i d) ≡ true
    → ((k : ℕ) → k < i → p (get_or xs k d) ≡ false) → find p xs ≡ Some (get_or xs i d)
find-first p [] i d lt hit before = absurd (omega arith)
find-first p (x ∷ xs) zero d lt hit before = rw hit refl
find-first p (x ∷ xs) (suc i) d lt hit before =
    let head : p x ≡ false = before 0 (omega arith) in
    rw head (find-first p xs i d (omega arith) hit (λ k low. before (suc k) (omega arith)))

pub port_at : (id : PortId) (ports : List Tributary) (i : ℕ) (d : Tributary) → position (is_port id) ports ≡ Some i
    → port_of id ports ≡ Some (get_or ports i d)
unfolding port_of
port_at id ports i d place = let h = position-Some (is_port id) ports i d place in find-first (is_port id) ports i d h.0 h.1 h.2

pub port_found : (id : PortId) (ports : List Tributary) (i : ℕ) (x : Tributary) → position (is_port id) ports ≡ Some i
    → x ≡ get_or ports i x → port_of id ports ≡ Some x
port_found id ports i x place read = port_at id ports i x place ∙ ap Some (sym read)

pub port_missing : (id : PortId) (ports : List Tributary) → position (is_port id) ports ≡ None → port_of id ports ≡ None
unfolding port_of
port_missing id ports none = find-none (is_port id) ports none

pub place_within : (id : PortId) (ports : List Tributary) (i : ℕ) → position (is_port id) ports ≡ Some i → i < length ports
place_within id [] i e = cc
place_within id (t ∷ ts) i e = (position-Some (is_port id) (t ∷ ts) i t e).0

-- ---- what ports send

-- a port is found among changed ports, where the change leaves the names
pub found-mapped : {Y : Type 0} (p : Tributary → Bool) (f : ℕ → Tributary → Tributary) (g h : Tributary → Y) (d : Y)
    → ((k : ℕ) (t : Tributary) → p (f k t) ≡ p t) → ((k : ℕ) (t : Tributary) → g (f k t) ≡ h t)
    → (i : ℕ) (ts : List Tributary) → option_map_or g (find p (map_from f i ts)) d ≡ option_map_or h (find p ts) d
found-mapped p f g h d same is i [] = refl
found-mapped p f g h d same is i (t ∷ ts) = go (p t) refl (found-mapped p f g h d same is (i + 1) ts)
  where
    go : (b : Bool) → p t ≡ b → option_map_or g (find p (map_from f (i + 1) ts)) d ≡ option_map_or h (find p ts) d
        → option_map_or g (find p (map_from f i (t ∷ ts))) d ≡ option_map_or h (find p (t ∷ ts)) d
    go true e rest = let here : p (f i t) ≡ true = same i t ∙ e in rw (here, e) (is i t)
    go false e rest = let here : p (f i t) ≡ false = same i t ∙ e in rw (here, e) rest

-- the clock of a port goes on
pub clock-next : (x : Tributary → Input) (id : PortId) (ports : List Tributary)
    → option_map_or (λ (t : Tributary). Some t.feed.clock) (port_of id (all_fed (all_delivered_with x ports))) None
    ≡ option_map_or (λ (t : Tributary). Some (ticked t.feed.clock)) (port_of id ports) None
unfolding all_fed port_of
clock-next x id ports =
    found-mapped (is_port id) (λ i t. fed t) (λ (t : Tributary). Some t.feed.clock) (λ (t : Tributary). Some (ticked t.feed.clock)) None
    (λ k t. refl) (λ k t. refl) 0 (map_from (λ i t. delivered_with x t) 0 ports)
    ∙ found-mapped (is_port id) (λ i t. delivered_with x t) (λ (t : Tributary). Some (ticked t.feed.clock))
    (λ (t : Tributary). Some (ticked t.feed.clock)) None (λ k t. refl) (λ k t. refl) 0 ports

-- ports that have taken the chunk of the round hold what they add in it
abbrev pub Adds : List Tributary → List Tributary → Type 0
Adds now old = added_last now ≡ added_by old

-- ---- what a port keeps of a round

sent_from : (form : ChunkForm) (c : Clock) → last_from (after_form form c) ≡ c.sent
sent_from Plain c = omega arith
sent_from Short c = omega arith
sent_from Long c = omega arith

pub fed_kept : (old : Fed) (form : ChunkForm) (bytes payload h3 : List ℕ) → form ≡ next_form old.clock
    → bytes ≡ stream_from old.port old.clock.sent (taken_len form)
    → payload ≡ laid_payload form bytes → h3 ≡ laid_h3 form bytes → length payload ≡ 2349 → IsFed (next_feed old) payload h3
unfolding sent_by ticked
fed_kept old form bytes payload h3 is are lay three full =
    let c = old.clock in
    let f : (after_form (next_form c) c).form ≡ form = form_after (next_form c) c ∙ sym is in
    let from : last_from (after_form (next_form c) c) ≡ c.sent = sent_from (next_form c) c in
    let sent : last_sent (next_feed old) ≡ bytes = (λ j. stream_from old.port (from j) (taken_len (f j))) ∙ sym are in
    record { full = full; payload_is = lay ∙ sym (λ j. laid_payload (f j) (sent j)); h3_is = three ∙ sym (λ j. laid_h3 (f j) (sent j)) }

-- pending slips change nothing of what a port keeps
pub slipped_kept : (feed : Fed) (turn : Turn) (count : ℕ) (payload h3 : List ℕ) → IsFed feed payload h3
    → IsFed (record feed { clock = with_waiting turn count feed.clock }) payload h3
unfolding sent_by
slipped_kept feed Up count payload h3 h = record { full = h.full; payload_is = h.payload_is; h3_is = h.h3_is }
slipped_kept feed Down count payload h3 h = record { full = h.full; payload_is = h.payload_is; h3_is = h.h3_is }

-- a port's AU-4 is passed on with a word of its own
pub own_passed : (form : ChunkForm) (f : Form) (w : ℕ) (au : Au) → au_for (action_of form) f w au ≡ au_with f w au
own_passed Plain f w au = refl
own_passed Short f w au = refl
own_passed Long f w au = refl

three_bytes : (form : ChunkForm) (bytes : List ℕ) → length bytes ≡ taken_len form → length (laid_h3 form bytes) ≡ 3
three_bytes Plain bytes len = refl
three_bytes Short bytes len = refl
three_bytes Long bytes len = length-take-le 3 (drop 783 bytes) (omega (arith, len, length-drop 783 bytes))

pub own_three : (feed : Fed) → length (sent_by feed).h3 ≡ 3
unfolding sent_by
own_three feed =
    three_bytes feed.clock.form (last_sent feed) (length-stream_from feed.port (last_from feed.clock) (taken_len feed.clock.form))

pub own_h3 : (h3 : List ℕ) → length h3 ≡ 3 → h3 ≡ h3_of (0 ∷ 0 ∷ 0 ∷ 0 ∷ 0 ∷ 0 ∷ h3)
own_h3 [] len = absurd (omega (arith, len))
own_h3 (a ∷ []) len = absurd (omega (arith, len))
own_h3 (a ∷ b ∷ []) len = absurd (omega (arith, len))
own_h3 (a ∷ b ∷ c ∷ []) len = refl
own_h3 (a ∷ b ∷ c ∷ d ∷ more) len = absurd (omega (arith, len))

-- ---- what is true of each port

placed_all : (P Q : Tributary → Type 0) (f : ℕ → Tributary → Tributary) (xs : List Tributary) → ((k : ℕ) (x : Tributary) → P x → Q (f k x))
    → All P xs → All Q (map_from f 0 xs)
placed_all P Q f xs h all =
    λ k d lt. (let below : k < length xs = omega (arith, length-map_from f 0 xs) in subst Q (sym (get_or-placed f xs k d d below))
    (h k (get_or xs k d) (all k d below)))

pub in_slots : (slots rounds : ℕ) (ports : List Tributary) → All (IsTributary slots rounds) ports
    → All (λ t. (1 ≤ t.slot.0) × (t.slot.0 ≤ slots)) ports
in_slots slots rounds ports all = λ k d lt. ((all k d lt).first, (all k d lt).last)

pub few_rounds : (slots rounds : ℕ) (ports : List Tributary) → rounds < 2 ^ 32 → All (IsTributary slots rounds) ports
    → All (λ t. t.feed.clock.rounds < 2 ^ 32) ports
few_rounds slots rounds ports few all = λ k d lt. omega (arith, (all k d lt).clock.rounds_are)

pub fed_are : (slots rounds : ℕ) (ports : List Tributary) → All (IsTributary slots rounds) ports
    → All (IsTributary slots (rounds + 1)) (all_fed ports)
unfolding all_fed
fed_are slots rounds ports all =
    placed_all (IsTributary slots rounds) (IsTributary slots (rounds + 1)) (λ i t. fed t) ports
    (λ k t h. record {
      first = h.first;
      last = h.last;
      offset = h.offset;
      clock = next_clock _ _ t.feed.clock h.clock;
      few = next_few t.feed.clock 16 h.few;
    }) all

-- ---- the ports of a ring's circuits at a position

ends-append : (at : Pos) (i : ℕ) (xs ys : List Provisioned)
    → tributaries_from at i (xs ++ ys) ≡ tributaries_from at i xs ++ tributaries_from at (i + length xs) ys
ends-append at i [] ys = ap (λ k. tributaries_from at k ys) (omega arith)
ends-append at i (x ∷ xs) ys =
    ap (λ r. tributaries_of at i x ++ r) (ends-append at (i + 1) xs ys
    ∙ ap (λ k. tributaries_from at (i + 1) xs ++ tributaries_from at k ys) (omega arith))
    ∙ sym (append_assoc (tributaries_of at i x) (tributaries_from at (i + 1) xs) (tributaries_from at (i + length (x ∷ xs)) ys))

-- the ports of one circuit more
pub ends_more : (at : Pos) (circuits : List Provisioned) (i : ℕ) (c : Provisioned) → slice_get circuits i ≡ Some c → i < length circuits
    → tributaries_from at 0 (take (i + 1) circuits) ≡ tributaries_from at 0 (take i circuits) ++ tributaries_of at i c
ends_more at circuits i c read h =
    let len : 0 + length (take i circuits) ≡ i = omega (arith, length-take-le i circuits) in
    let there : get_or circuits i c ≡ c = get_or_from_slice_get circuits i c c read in
    ap (tributaries_from at 0) (take_more circuits i c h) ∙ ends-append at 0 (take i circuits) (get_or circuits i c ∷ [])
    ∙ ap (λ k. tributaries_from at 0 (take i circuits) ++ tributaries_from at k (get_or circuits i c ∷ [])) len
    ∙ ap (λ x. tributaries_from at 0 (take i circuits) ++ (tributaries_of at i x ++ [])) there
    ∙ ap (λ r. tributaries_from at 0 (take i circuits) ++ r) (append-nil (tributaries_of at i c))

new_is : (slots i : ℕ) (e : End) (d : Side) (m : Slot) (p : Customer) → 1 ≤ m.0 → m.0 ≤ slots → p.offset ≤ 782
    → IsTributary slots 0 (new_tributary i e d m p)
new_is slots i e d m p low high small =
    record {
      first = low;
      last = high;
      offset = small;
      clock = record { rounds_are = refl; rest_few = omega arith; value_small = λ h. h };
      few = omega arith;
    }

ends_are : (slots : ℕ) (at : Pos) (i : ℕ) (circuits : List Provisioned) → All (IsInSlots slots) circuits → All HasOffsets circuits
    → All (IsTributary slots 0) (tributaries_from at i circuits)
ends_are slots at i [] all offsets = All-nil (IsTributary slots 0)
ends_are slots at i (c ∷ cs) all offsets =
    let p = IsTributary slots 0 in
    let here = all 0 c (omega arith) in
    let small : HasOffsets c = offsets 0 c (omega arith) in
    let a = new_tributary i A East c.slot c.a in
    let b = new_tributary i B West c.slot c.b in
    All-append p (tributaries_of at i c) (tributaries_from at (i + 1) cs)
    (All-append p (if c.from.0 == at.0 then a ∷ [] else []) (if c.to.0 == at.0 then b ∷ [] else [])
    (cond_both (c.from.0 == at.0) (a ∷ []) [] (All p) (λ _. All-cons p a []
    (new_is slots i A East c.slot c.a here.from_1 here.small small.a) (All-nil p)) (λ _. All-nil p))
    (cond_both (c.to.0 == at.0) (b ∷ []) [] (All p) (λ _. All-cons p b [] (new_is slots i B West c.slot c.b here.from_1 here.small small.b)
    (All-nil p)) (λ _. All-nil p)))
    (ends_are slots at (i + 1) cs (λ k d lt. all (suc k) d (omega arith)) (λ k d lt. offsets (suc k) d (omega arith)))

pub tributaries_are : (at : Pos) (p : Provisioning) → IsProvisioning p → All (IsTributary p.slots 0) (tributaries_at at p.circuits)
unfolding tributaries_at
tributaries_are at p form = ends_are p.slots at 0 p.circuits form.circuits.in_slots form.circuits.offsets
