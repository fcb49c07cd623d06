-- What is kept of a history is enough.
use Rattle.std.proofs.Common.{◌≡◌, ℕ, List, ◌∷◌, refl}
use Rattle.sdh_request.specs.History.{LocalHappening, seen, commanded, reached, request_of}
use Rattle.sdh_request.specs.Kept.{LocalKept, kept_of, after_happening, kept_request}

after_happening-kept_of : (wait : ℕ) (x : LocalHappening) (history : List LocalHappening)
    → after_happening x (kept_of wait history) ≡ kept_of wait (x ∷ history)
after_happening-kept_of wait (seen d) history = refl
after_happening-kept_of wait (commanded c) history = refl
after_happening-kept_of wait (reached t) history = refl

-- what is kept goes on with the history
pub after_history : (k : LocalKept) (x : LocalHappening) (wait : ℕ) (history : List LocalHappening) → k ≡ kept_of wait history
    → after_happening x k ≡ kept_of wait (x ∷ history)
after_history k x wait history h = rw h (after_happening-kept_of wait x history)

-- the request by what is kept is that of the history
pub request_after : (k : LocalKept) (wait : ℕ) (history : List LocalHappening) → k ≡ kept_of wait history
    → kept_request k ≡ request_of wait history
request_after k wait history h = rw h refl
