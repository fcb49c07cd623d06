-- Bytes that are put in place of others, by turning the list.
use Rattle.std.proofs.Common.{◌≡◌, ℕ, ◌+◌, ◌≤◌, List, [], ◌∷◌, ◌++◌, length, take, drop, zero, suc, refl, sym, ap, ◌∙◌, arith, append_assoc}
use Rattle.std.proofs.Math.Seq.{take-append_seam, take-append-add, drop-append_seam}
use Rattle.std.proofs.lemmas.List.{append-nil, take-take, take-append-le, length-take-le}
use Rattle.sdh_payload.specs.declared.chunk.ChunkForm.{ChunkForm}
use Rattle.sdh_payload.specs.declared.chunk.ChunkForm.TheVariants.{Plain, Short, Long}
use Rattle.sdh_payload.specs.Chunk.{around, taken}
use Rattle.sdh_payload.specs.Room.{written}

drop-past : {X : Type 0} (n : ℕ) (xs : List X) → length xs ≤ n → drop n xs ≡ []
drop-past zero [] h = refl
drop-past zero (x ∷ xs) h = absurd (omega arith)
drop-past (suc n) [] h = refl
drop-past (suc n) (x ∷ xs) h = drop-past n xs (omega arith)

-- a room that is written whole
pub written_whole : (room bytes : List ℕ) → length bytes ≡ length room → written room bytes ≡ bytes
unfolding written
written_whole room bytes e =
    ap (λ rest. take (length room) (bytes ++ rest)) (drop-past (length bytes) room (omega arith))
    ∙ ap (take (length room)) (append-nil bytes) ∙ ap (λ n. take n bytes) (sym e)
    ∙ sym (ap (take (length bytes)) (append-nil bytes)) ∙ take-append_seam bytes []

-- the list of the bytes at the back, those at the front and the new ones, rotated back, has the new ones in between
pub turned : (front back behind : ℕ) (xs mid ys : List ℕ) → front ≤ back → behind ≡ length (drop back xs)
    → ys ≡ take (behind + front) (drop back xs ++ take back xs) ++ mid
    → drop behind ys ++ take behind ys ≡ around front mid back xs
unfolding around
turned front back behind xs mid ys h len is =
    let b = drop back xs in
    let cut : take (behind + front) (b ++ take back xs) ≡ b ++ take front xs =
    ap (λ n. take (n + front) (b ++ take back xs)) len ∙ take-append-add b (take back xs) front
    ∙ ap (λ r. b ++ r) (take-take front back xs h) in
    let all : ys ≡ b ++ (take front xs ++ mid) = is ∙ ap (λ r. r ++ mid) cut ∙ append_assoc b (take front xs) mid in
    let tail : drop behind ys ≡ take front xs ++ mid =
    ap (drop behind) all ∙ ap (λ n. drop n (b ++ (take front xs ++ mid))) len ∙ drop-append_seam b (take front xs ++ mid) in
    let head : take behind ys ≡ b =
    ap (take behind) all ∙ ap (λ n. take n (b ++ (take front xs ++ mid))) len ∙ take-append_seam b (take front xs ++ mid) in
    ap (λ r. r ++ take behind ys) tail ∙ ap (λ r. (take front xs ++ mid) ++ r) head

front_around : (middle payload : List ℕ) (back : ℕ) → 783 ≤ length payload → take 16 (around 783 middle back payload) ≡ take 16 payload
unfolding around
front_around middle payload back long =
    ap (take 16) (append_assoc (take 783 payload) middle (drop back payload))
    ∙ take-append-le 16 (take 783 payload) (middle ++ drop back payload) (omega (arith, length-take-le 783 payload long))
    ∙ take-take 16 783 payload (omega arith)

-- a chunk of any form begins as the payload does
pub front_taken : (form : ChunkForm) (payload h3 : List ℕ) → 783 ≤ length payload → take 16 (taken form payload h3) ≡ take 16 payload
front_taken Plain payload h3 long = refl
front_taken Short payload h3 long = front_around [] payload 786 long
front_taken Long payload h3 long = front_around h3 payload 783 long
