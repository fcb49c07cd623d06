-- Own bytes stand among those that are near.
use Rattle.std.proofs.Common.{◌≡◌, ◌⊎◌, ℕ, zero, suc, ◌+◌, ◌-◌, ◌*◌, ◌<◌, ◌≤◌, Bool, true, false, ◌&&◌, List, [], ◌∷◌, ◌++◌, length, take, drop, Some, None, refl}
use Rattle.std.proofs.Common.{sym, ap, ◌∙◌, subst, arith, inl, inr, append_assoc}
use Rattle.std.specs.Prelude.{◌≢◌, if◌then◌else◌, nat_le, nat_lt, slice_get}
use Rattle.std.proofs.Math.Seq.{take-append_seam, drop-append-add, drop-drop}
use Rattle.std.proofs.lemmas.List.{length-take-le, length-drop, length-append}
use Rattle.sdh_frame.specs.Aus.{Au}
use Rattle.sdh_circuits.specs.Provisioned.{Provisioned, arc_of, customer_at}
use Rattle.sdh_circuits.specs.declared.End.{End}
use Rattle.sdh_circuits.specs.declared.PortId.{PortId}
use Rattle.sdh_circuits.specs.Ends.{other_end, port_id}
use Rattle.sdh_payload.specs.Clock.{Clock, after_form, ticked, next_form, last_from}
use Rattle.sdh_payload.specs.Customer.{Customer}
use Rattle.sdh_payload.specs.History.{Happening, told, went, ups_told, downs_told}
use Rattle.sdh_payload.specs.Laws.{clock_by}
use Rattle.sdh_payload.specs.declared.clock.Turn.{Turn}
use Rattle.sdh_payload.specs.declared.clock.Turn.TheVariants.{Up, Down}
use Rattle.sdh_circuits.specs.Provisioned.{same_port}
use Rattle.sdh_restoration.specs.Changes.{Change, Stretch}
use Rattle.sdh_restoration.specs.Changes.{Fibre, Order, Hold, Slip, Now}
use Rattle.sdh_restoration.specs.Happened.{told_by, told_by_all, went_by, happened_in, happened}
use Rattle.sdh_node.specs.Rings.Clocks.{clocks_by, offset_of}
use Rattle.sdh_node.proofs.RingLaws.Happened.{clocks_tell}
use Rattle.std.proofs.lemmas.Bool.{leb-true}
use Rattle.std.proofs.lemmas.Bool.Decides.{nat_tests}
use Rattle.sdh_payload.specs.Chunk.{around, taken, taken_len, laid_payload}
use Rattle.sdh_payload.specs.Stream.{stream_from}
use Rattle.sdh_payload.specs.Outlet.{Outlet}
use Rattle.sdh_payload.specs.declared.chunk.ChunkForm.{ChunkForm}
use Rattle.sdh_payload.specs.declared.chunk.ChunkForm.TheVariants.{Plain, Short, Long}
use Rattle.sdh_payload.specs.declared.delivered.Delivered.{Delivered}
use Rattle.sdh_payload.specs.declared.delivered.Delivered.TheVariants.{Chunk}
use Rattle.sdh_payload.proofs.Chunks.{length-stream_from, stream_from-append, length-laid_payload}
use Rattle.sdh_terminal.specs.Passing.{h3_of}
use Rattle.sdh_terminal.specs.Tributaries.{sent_by}
use Rattle.sdh_outage.specs.Near.{near, near_from, is_part, is_torn, front, back}
use Rattle.sdh_outage.specs.Kinds.{own_kind, are_ones, jumps}
use Rattle.sdh_outage.specs.declared.kind.Kind.TheVariants as kind
use Rattle.sdh_outage.proofs.Standing.{part_at, occurs_front}
use Rattle.sdh_outage.proofs.Windows.{drop-stream}
use Rattle.sdh_laws.specs.Strangers.Owners.{put_by}
use Rattle.sdh_laws.specs.Strangers.Transit.{IsTransit, straight, once_round, HoldsAfterTransit, ComesAfterTransit}
use Rattle.sdh_laws.specs.Strangers.Transit as transit
use Rattle.sdh_laws.proofs.strangers.Clearing.{transit_few, transit_some}
use Rattle.sdh_outage_cli.specs.Own.{IsOfOnes, AreFewSlips, OwnBytesAreOwn}

-- ---- a part of a stream among the near bytes

piece_near : (port : Customer) (t p n : ℕ) → near_from t ≤ p → p + n ≤ near_from t + 2349 * 78 → is_part (stream_from port p n) (near port t) ≡ true
unfolding near
piece_near port t p n low high =
    let f = near_from t in
    let k = p - f in
    let b = 2349 * 78 - (k + n) in
    let whole : 2349 * 78 ≡ k + (n + b) = omega arith in
    let begins : f + k ≡ p = omega arith in
    let mine = stream_from port p n in
    let rest = stream_from port (p + n) b in
    let at : drop k (stream_from port f (2349 * 78)) ≡ mine ++ rest =
    ap (λ m. drop k (stream_from port f m)) whole ∙ drop-stream port f k (n + b) ∙ ap (λ q. stream_from port q (n + b)) begins
    ∙ stream_from-append port p n b in
    part_at mine (stream_from port f (2349 * 78)) k
    (occurs_front mine (stream_from port f (2349 * 78)) rest k (omega (arith, length-stream_from port f (2349 * 78))) at)

-- ---- the pieces of what is taken

module _ (a : ℕ) (middle payload : List ℕ) (long : a ≤ length payload) where
  taken_len_is : length (take a payload) ≡ a
  taken_len_is = length-take-le a payload long

  front_around : (j : ℕ) → take a (around a middle j payload) ≡ take a payload
  unfolding around
  front_around j =
      ap (take a) (append_assoc (take a payload) middle (drop j payload))
      ∙ ap (λ k. take k (take a payload ++ (middle ++ drop j payload))) (sym taken_len_is)
      ∙ take-append_seam (take a payload) (middle ++ drop j payload)

  length_around : (j : ℕ) → length (around a middle j payload) ≡ a + (length middle + (length payload - j))
  unfolding around
  length_around j =
      length-append (take a payload ++ middle) (drop j payload)
      ∙ (let b = length-append (take a payload) middle in let d = length-drop j payload in omega (arith, taken_len_is, b, d))

  back_around : (j k : ℕ) → drop (a + length middle + k) (around a middle j payload) ≡ drop (j + k) payload
  unfolding around
  back_around j k =
      let head = take a payload ++ middle in
      let size : length head ≡ a + length middle = length-append (take a payload) middle ∙ ap (λ m. m + length middle) taken_len_is in
      ap (λ m. drop (m + k) (head ++ drop j payload)) (sym size) ∙ drop-append-add head (drop j payload) k ∙ drop-drop k j payload

module _ (payload h3 : List ℕ) (size : length payload ≡ 2349) (three : length h3 ≡ 3) where
  enough : 783 ≤ length payload
  enough = omega (arith, size)

  -- before the place of a justification, and behind all that one changes
  front_of : (form : ChunkForm) → front (taken form payload h3) ≡ take 783 payload
  front_of Plain = refl
  front_of Short = front_around 783 [] payload enough 786
  front_of Long = front_around 783 h3 payload enough 783

  cut_at : (bytes : List ℕ) (k : ℕ) → length bytes ≡ k + 1560 → back bytes ≡ drop k bytes
  cut_at bytes k is = ap (λ i. drop i bytes) (let e : length bytes - 1560 ≡ k = omega (arith, is) in e)

  back_of : (form : ChunkForm) → back (taken form payload h3) ≡ drop 789 payload
  back_of Plain = cut_at payload 789 size
  back_of Short =
      cut_at (around 783 [] 786 payload) 786 (length_around 783 [] payload enough 786 ∙ omega (arith, size))
      ∙ back_around 783 [] payload enough 786 3
  back_of Long =
      cut_at (around 783 h3 783 payload) 792 (length_around 783 h3 payload enough 783 ∙ omega (arith, size, three))
      ∙ ap (λ k. drop k (around 783 h3 783 payload)) (let e : 792 ≡ 783 + length h3 + 6 = omega (arith, three) in e)
      ∙ back_around 783 h3 payload enough 783 6

-- what was laid in front of it and behind it
laid_front : (form : ChunkForm) (bytes : List ℕ) → length bytes ≡ taken_len form → take 783 (laid_payload form bytes) ≡ take 783 bytes
laid_front Plain bytes size = refl
laid_front Short bytes size = front_around 783 (0 ∷ 0 ∷ 0 ∷ []) bytes (omega (arith, size)) 783
laid_front Long bytes size = front_around 783 [] bytes (omega (arith, size)) 786

laid_back : (form : ChunkForm) (bytes : List ℕ) → length bytes ≡ taken_len form
    → drop 789 (laid_payload form bytes) ≡ drop (taken_len form - 1560) bytes
laid_back Plain bytes size = refl
laid_back Short bytes size = back_around 783 (0 ∷ 0 ∷ 0 ∷ []) bytes (omega (arith, size)) 783 3
laid_back Long bytes size = back_around 783 [] bytes (omega (arith, size)) 786 6

-- ---- what a port put into an AU-4

take_stream : (port : Customer) (p a b : ℕ) → take a (stream_from port p (a + b)) ≡ stream_from port p a
take_stream port p a b =
    ap (take a) (stream_from-append port p a b)
    ∙ ap (λ k. take k (stream_from port p a ++ stream_from port (p + a) b)) (sym (length-stream_from port p a))
    ∙ take-append_seam (stream_from port p a) (stream_from port (p + a) b)

form_few : (form : ChunkForm) → 2346 ≤ taken_len form
form_few Plain = omega arith
form_few Short = omega arith
form_few Long = omega arith

form_most : (form : ChunkForm) → taken_len form ≤ 2352
form_most Plain = omega arith
form_most Short = omega arith
form_most Long = omega arith

module _ (port : Customer) (p t : ℕ) (form : ChunkForm) (low : near_from t ≤ p) (high : p + 2352 ≤ near_from t + 2349 * 78) where
  abbrev bytes : List ℕ
  bytes = stream_from port p (taken_len form)

  abbrev payload : List ℕ
  payload = laid_payload form bytes

  front_near : is_part (take 783 payload) (near port t) ≡ true
  front_near =
      let few = form_few form in
      let whole : taken_len form ≡ 783 + (taken_len form - 783) = omega arith in
      let is : take 783 payload ≡ stream_from port p 783 =
      laid_front form bytes (length-stream_from port p (taken_len form)) ∙ ap (λ k. take 783 (stream_from port p k)) whole
      ∙ take_stream port p 783 (taken_len form - 783) in
      subst (λ x. is_part x (near port t) ≡ true) (sym is) (piece_near port t p 783 low (omega arith))

  back_near : is_part (drop 789 payload) (near port t) ≡ true
  back_near =
      let few = form_few form in
      let most = form_most form in
      let k = taken_len form - 1560 in
      let whole : taken_len form ≡ k + 1560 = omega arith in
      let is : drop 789 payload ≡ stream_from port (p + k) 1560 =
      laid_back form bytes (length-stream_from port p (taken_len form)) ∙ ap (λ m. drop k (stream_from port p m)) whole
      ∙ drop-stream port p k 1560 in
      subst (λ x. is_part x (near port t) ≡ true) (sym is) (piece_near port t (p + k) 1560 (omega arith) (omega arith))

  torn_near : (taken_form : ChunkForm) (h3 : List ℕ) → length h3 ≡ 3 → is_torn (taken taken_form payload h3) (near port t) ≡ true
  torn_near taken_form h3 three =
      let size = length-laid_payload form bytes (length-stream_from port p (taken_len form)) in
      both_true _ _ (ap (λ x. is_part x (near port t)) (front_of payload h3 size three taken_form) ∙ front_near)
      (ap (λ x. is_part x (near port t)) (back_of payload h3 size three taken_form) ∙ back_near)
    where
      both_true : (a b : Bool) → a ≡ true → b ≡ true → (a && b) ≡ true
      both_true a b x y = (λ i. x i && y i)

-- ---- how far a clock is off

-- before round r a clock has sent at most five chunks more or less than one a round
abbrev IsNearRound : ℕ → Clock → Type 0
IsNearRound r clock = (2349 * r ≤ clock.sent + 2349 * 5) × (clock.sent ≤ 2349 * (r + 5))

-- the number of rounds among what happened
abbrev went_in : List Happening → ℕ
went_in [] = 0
went_in (told turn count ∷ earlier) = went_in earlier
went_in (went ∷ earlier) = went_in earlier + 1

-- each slip that was made good changed the number of bytes sent by three
record GoesNear (history : List Happening) (clock : Clock) : Type 0 where
  slow : 2349 * went_in history + 3 * clock.ups ≤ clock.sent + 3 * ups_told history
  fast : clock.sent + 3 * clock.downs ≤ 2349 * went_in history + 3 * downs_told history

ticked_near : (history : List Happening) (clock : Clock) → GoesNear history clock → GoesNear (went ∷ history) (ticked clock)
unfolding ticked
ticked_near history clock near = by (nat_le 1 clock.rest) (nat_le 1 clock.ups) (nat_le 1 clock.downs) refl refl
  where
    by : (a b d : Bool) → nat_le 1 clock.ups ≡ b → nat_le 1 clock.downs ≡ d
        → GoesNear (went ∷ history) (after_form (if a then Plain else (if b then Short else (if d then Long else Plain))) clock)
    by true b d up down = record { slow = omega (arith, near.slow); fast = omega (arith, near.fast) }
    by false true d up down =
        (let some = leb-true 1 clock.ups up in record { slow = omega (arith, near.slow, some); fast = omega (arith, near.fast) })
    by false false true up down =
        (let some = leb-true 1 clock.downs down in record { slow = omega (arith, near.slow); fast = omega (arith, near.fast, some) })
    by false false false up down = record { slow = omega (arith, near.slow); fast = omega (arith, near.fast) }

clock_near : (offset : ℕ) (history : List Happening) → GoesNear history (clock_by offset history)
clock_near offset [] = record { slow = omega arith; fast = omega arith }
clock_near offset (told Up count ∷ earlier) =
    (let before = clock_near offset earlier in record { slow = omega (arith, before.slow); fast = omega (arith, before.fast) })
clock_near offset (told Down count ∷ earlier) =
    (let before = clock_near offset earlier in record { slow = omega (arith, before.slow); fast = omega (arith, before.fast) })
clock_near offset (went ∷ earlier) = ticked_near earlier (clock_by offset earlier) (clock_near offset earlier)

-- changes run no round
one_told : (b : Bool) (turn : Turn) (count : ℕ) (history : List Happening) → went_in (if b then told turn count ∷ history else history) ≡ went_in history
one_told true turn count history = refl
one_told false turn count history = refl

told_none : (port : PortId) (x : Change) (history : List Happening) → went_in (told_by port x history) ≡ went_in history
told_none port (Fibre p d condition) history = refl
told_none port (Order p d command) history = refl
told_none port (Hold p turns) history = refl
told_none port (Slip other turn count) history = one_told (same_port port other) turn count history
told_none port (Now m) history = refl

all_told_none : (port : PortId) (xs : List Change) (history : List Happening) → went_in (told_by_all port xs history) ≡ went_in history
all_told_none port [] history = refl
all_told_none port (x ∷ xs) history = all_told_none port xs (told_by port x history) ∙ told_none port x history

went_so : (t : ℕ) (history : List Happening) → went_in (went_by t history) ≡ went_in history + t
went_so zero history = omega arith
went_so (suc t) history = (let before = went_so t history in omega (arith, before))

-- before round t that many rounds ran
went_before : (port : PortId) (ss : List Stretch) (history : List Happening) (t : ℕ)
    → went_in (happened_in port ss history t) ≡ went_in history + t
went_before port [] history t = went_so t history
went_before port (s ∷ ss) history t =
    by (nat_lt t s.rounds) refl (went_before port ss (went_by s.rounds (told_by_all port s.changes history)) (t - s.rounds))
  where
    told_history : List Happening
    told_history = told_by_all port s.changes history

    by : (b : Bool) → nat_lt t s.rounds ≡ b
        → went_in (happened_in port ss (went_by s.rounds told_history) (t - s.rounds)) ≡ went_in (went_by s.rounds told_history) + (t - s.rounds)
        → went_in (if b then went_by t told_history else happened_in port ss (went_by s.rounds told_history) (t - s.rounds))
        ≡ went_in history + t
    by true low rest = went_so t told_history ∙ ap (λ k. k + t) (all_told_none port s.changes history)
    by false low rest =
        let late : s.rounds ≤ t = grind (arith, nat_tests) in
        let b = went_so s.rounds told_history in
        let d = all_told_none port s.changes history in
        omega (arith, rest, b, d, late)

stays_near : (circuits : List Provisioned) (ss : List Stretch) (port : PortId) (r : ℕ) → AreFewSlips (happened ss port r)
    → IsNearRound r (clocks_by circuits ss port r)
stays_near circuits ss port r few =
    let history = happened ss port r in
    let goes = clock_near (offset_of circuits port) history in
    let ran : went_in history ≡ r = went_before port ss [] r ∙ (let e : 0 + r ≡ r = omega arith in e) in
    subst (IsNearRound r) (sym (clocks_tell circuits ss port r))
    (omega (arith, goes.slow, few.0, ran), omega (arith, goes.fast, few.1, ran))

-- ---- what is counted

kind_some : (others : List ℕ) (before : Delivered) (bytes : List ℕ) → is_torn bytes others ≡ true
    → own_kind others before (Chunk bytes) ≢ None
kind_some others before bytes torn is = by (are_ones bytes) (is_part bytes others) (jumps others before bytes) (is_torn bytes others) torn is
  where
    by : (a b j k : Bool) → k ≡ true
        → (if a then Some kind.Ones else (if b then (if j then Some kind.Jump else Some kind.InOrder) else (if k then Some kind.Torn else None)))
        ≡ None → ⊥
    by true b j k e z = cc
    by false true true k e z = cc
    by false true false k e z = cc
    by false false j true e z = cc
    by false false j false e z = cc

-- ---- what a port put in

put_payload : (port : Customer) (clock : Clock)
    → (put_by port clock).payload ≡ laid_payload (next_form clock) (stream_from port clock.sent (taken_len (next_form clock)))
unfolding sent_by ticked
put_payload port clock = by (next_form clock)
  where
    by : (form : ChunkForm) → (let k = after_form form clock in laid_payload k.form (stream_from port (last_from k) (taken_len k.form)))
        ≡ laid_payload form (stream_from port clock.sent (taken_len form))
    by Plain = ap (λ q. laid_payload Plain (stream_from port q 2349)) (let e : clock.sent + 2349 - 2349 ≡ clock.sent = omega arith in e)
    by Short = ap (λ q. laid_payload Short (stream_from port q 2346)) (let e : clock.sent + 2346 - 2346 ≡ clock.sent = omega arith in e)
    by Long = ap (λ q. laid_payload Long (stream_from port q 2352)) (let e : clock.sent + 2352 - 2352 ≡ clock.sent = omega arith in e)

-- what was put in a transit before stands among the near bytes, in two pieces at least
put_near : (port : Customer) (clock : Clock) (n t r rounds : ℕ) (form : ChunkForm) (h3 : List ℕ) → length h3 ≡ 3 → rounds + 3 ≤ 2 * n → n ≤ 16
    → 1 ≤ rounds → r + rounds ≡ t → IsNearRound r clock → is_torn (taken form (put_by port clock).payload h3) (near port t) ≡ true
put_near port clock n t r rounds form h3 three few small some ago steady =
    let least = steady.0 in
    let most = steady.1 in
    subst (λ x. is_torn (taken form x h3) (near port t) ≡ true) (sym (put_payload port clock))
    (torn_near port clock.sent t (next_form clock) (omega (arith, few, small, ago, least)) (omega (arith, some, ago, most)) form h3 three)

own_bytes_by : (n : ℕ) (circuits : List Provisioned) (clocks : PortId → ℕ → Clock) (t index : ℕ) (c : Provisioned) (e : End) (a : Au)
    (value : ℕ) (form : ChunkForm) (before : Delivered) → n ≤ 16 → slice_get circuits index ≡ Some c → 1 ≤ (arc_of n c).spans
    → (arc_of n c).spans < n → ((r : ℕ) → IsNearRound r (clocks (port_id index (other_end e)) r))
    → HoldsAfterTransit n circuits clocks t (port_id index (other_end e)) a
    → (let now : Delivered = Chunk (taken form a.payload (h3_of a.pointers)) in
    IsOfOnes now ⊎ (own_kind (near (customer_at c (other_end e)) t) before now ≢ None))
own_bytes_by n circuits clocks t index c e a value form before small get long short steady (transit.nobodys h) =
    inl (form, h3_of a.pointers, ap (λ x. Chunk (taken form x (h3_of a.pointers))) h.payload)
own_bytes_by n circuits clocks t index c e a value form before small get long short steady (transit.customers b r rounds there way ago h) =
    let same : c ≡ b = some_one (sym get ∙ there) in
    let port = customer_at c (other_end e) in
    let clock = clocks (port_id index (other_end e)) r in
    let goes : IsTransit n (arc_of n c).spans rounds = subst (λ (x : Provisioned). IsTransit n (arc_of n x).spans rounds) (sym same) way in
    let is : (put_by port clock).payload ≡ a.payload = sym (h.payload ∙ ap (λ (x : Provisioned). (put_by (customer_at x (other_end e)) clock).payload) (sym same)) in
    inr (kind_some (near port t) before (taken form a.payload (h3_of a.pointers))
    (subst (λ x. is_torn (taken form x (h3_of a.pointers)) (near port t) ≡ true) is
    (put_near port clock n t r rounds form (h3_of a.pointers) refl (transit_few n (arc_of n c).spans rounds (omega (arith, long, short)) short goes) small
    (transit_some n (arc_of n c).spans rounds long short goes) ago (steady r))))
  where
    some_one : {x y : Provisioned} → Some x ≡ Some y → x ≡ y
    some_one z = cc

pub own_bytes_are_own : OwnBytesAreOwn
own_bytes_are_own n circuits ss t index c e o before small get long short few (transit.ais_comes is) =
    inr (λ none. no (sym (ap (λ (x : Outlet). own_kind (near (customer_at c (other_end e)) t) before x.delivered) is) ∙ none))
  where
    no : Some kind.Ais ≡ None → ⊥
    no z = cc
own_bytes_are_own n circuits ss t index c e o before small get long short few (transit.bytes_come value form a is own) =
    subst (λ (x : Outlet). IsOfOnes x.delivered ⊎ (own_kind (near (customer_at c (other_end e)) t) before x.delivered ≢ None)) (sym is)
    (own_bytes_by n circuits (clocks_by circuits ss) t index c e a value form before small get long short
    (λ r. stays_near circuits ss (port_id index (other_end e)) r (few r)) own)
