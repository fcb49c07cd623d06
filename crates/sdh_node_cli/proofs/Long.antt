-- How many bytes a record has at least.
use Rattle.std.proofs.Common.{◌≡◌, ℕ, ◌+◌, ◌≤◌, ◌⊎◌, inl, inr, List, [], ◌∷◌, ◌++◌, length, drop, get_or, codes, refl, ap, ◌==◌, sym, subst, ◌∙◌, arith}
use Rattle.std.proofs.Common.{Bool, true, false, cond, ◌||◌}
use Rattle.std.specs.Prelude.{Option, Some, None, Result, Ok, Err, if◌then◌else◌}
use Rattle.std.specs.List.{list_any, join_with_byte}
use Rattle.std.specs.Str.{bytes_eq}
use Rattle.std.proofs.lemmas.Slice.Eq.{bytes_eq-Decides}
use Rattle.std.proofs.lemmas.List.{length-append, get_or_append_left}
use Rattle.std.proofs.lemmas.List.Splits.{join_with_byte-slice_split}
use Rattle.sdh_ringmap.specs.declared.Pos.{Pos}
use Rattle.sdh_circuits.specs.Provisioned.{Provisioned}
use Rattle.sdh_request.specs.declared.Command.TheVariants as command
use Rattle.sdh_node_cli.specs.Lines.{whole_line}
use Rattle.sdh_plan.specs.Words.{words, is_empty, numeral_in}
use Rattle.sdh_plan.specs.declared.reason.Reason.{Reason}
use Rattle.sdh_plan.specs.declared.reason.Reason.TheVariants as reason
use Rattle.sdh_node_cli.specs.declared.record.Came.{Came}
use Rattle.sdh_node_cli.specs.declared.record.Came.TheVariants as came
use Rattle.sdh_node_cli.specs.declared.record.Record.{Record}
use Rattle.sdh_node_cli.specs.declared.record.Record.TheVariants as what
use Rattle.sdh_node_cli.specs.Records.{came_at, round_by, round_in, command_in, moment_in, hold_in, slip_in, record_by, record_in, record_of}
use Rattle.sdh_node_cli.specs.declared.record.Told.TheVariants as told
use Rattle.sdh_node_cli.specs.Streams.{west_of, east_of, most_ahead, BeginsRecord, EachHas, MayRead}
use Rattle.sdh_node_cli.specs.Laws.{RecordsAreLong}

-- ---- the fewest bytes

-- The smallest number of bytes of a record with this line, by its first byte and its seventh: of the line with its
-- newline byte, and of a frame from the west, where one follows, the first byte.
unfoldable fewest : List ℕ → ℕ
fewest line = if get_or line 0 0 == 114 then if get_or line 6 0 == 102 then 18 else 16 else 7

-- ---- the words of a record

picked : (b : Bool) (x y : Result Record Reason) (r : Record) → cond b x y ≡ Ok r → ((b ≡ true) × (x ≡ Ok r)) ⊎ (y ≡ Ok r)
picked true x y r e = inl (refl, e)
picked false x y r e = inr e

no_form : (why : Reason) (r : Record) → Err why ≡ Ok r → ⊥
no_form why r e = cc

ok_same : (s r : Record) → ◌≡◌ {A = Result Record Reason} (Ok s) (Ok r) → r ≡ s
ok_same s r e = cc

-- the first word isn't `round`
record IsOther (first : List ℕ) : Type 0 where
  pub long : 4 ≤ length first
  pub led : (get_or first 0 0 == 114) ≡ false

named : (word first : List ℕ) (x y : Result Record Reason) (r : Record) → IsOther word → (y ≡ Ok r → IsOther first)
    → cond (bytes_eq first word) x y ≡ Ok r → IsOther first
named word first x y r is more e = by (picked (bytes_eq first word) x y r e)
  where
    by : ((bytes_eq first word ≡ true) × (x ≡ Ok r)) ⊎ (y ≡ Ok r) → IsOther first
    by (inl h) = subst IsOther (sym ((bytes_eq-Decides first word).0 h.0)) is
    by (inr h) = more h

-- what the other first words give
abbrev not_round : List Provisioned → Pos → List ℕ → List (List ℕ) → Result Record Reason
not_round circuits at first others =
    if bytes_eq first (codes "forced") then command_in command.Forced others
    else if bytes_eq first (codes "manual") then command_in command.Manual others
    else if bytes_eq first (codes "clear") then command_in command.Clear others
    else if bytes_eq first (codes "moment") then moment_in others
    else if bytes_eq first (codes "hold") then hold_in others
    else if bytes_eq first (codes "slip") then slip_in circuits at others
    else Err reason.StepWord

first_is : (circuits : List Provisioned) (at : Pos) (first : List ℕ) (others : List (List ℕ)) (r : Record) → record_by circuits at first others ≡ Ok r
    → ((first ≡ codes "round") × (round_in others ≡ Ok r)) ⊎ IsOther first
first_is circuits at first others r e =
    first_by (bytes_eq first (codes "round")) refl e
  where
    first_by : (b : Bool) → bytes_eq first (codes "round") ≡ b → cond b (round_in others) (not_round circuits at first others) ≡ Ok r
        → ((first ≡ codes "round") × (round_in others ≡ Ok r)) ⊎ IsOther first
    first_by true same h = inl ((bytes_eq-Decides first (codes "round")).0 same, h)
    first_by false same h =
        inr (named (codes "forced") first _ _ r (record { long = omega arith; led = refl })
        (named (codes "manual") first _ _ r (record { long = omega arith; led = refl })
        (named (codes "clear") first _ _ r (record { long = omega arith; led = refl })
        (named (codes "moment") first _ _ r (record { long = omega arith; led = refl })
        (named (codes "hold") first _ _ r (record { long = omega arith; led = refl })
        (named (codes "slip") first _ _ r (record { long = omega arith; led = refl })
        (λ (w : Err reason.StepWord ≡ Ok r). absurd (no_form reason.StepWord r w))))))) h)

neither : (b : Bool) (x y : Result Record Reason) (r : Record) → (x ≡ Ok r → ⊥) → (y ≡ Ok r → ⊥) → cond b x y ≡ Ok r → ⊥
neither true x y r f g e = f e
neither false x y r f g e = g e

-- a second word comes after the first one
never_alone : (circuits : List Provisioned) (at : Pos) (first : List ℕ) (r : Record) → record_by circuits at first [] ≡ Ok r → ⊥
never_alone circuits at first r e =
    let no = no_form reason.StepForm r in
    neither (bytes_eq first (codes "round")) _ _ r no
    (neither (bytes_eq first (codes "forced")) _ _ r no
    (neither (bytes_eq first (codes "manual")) _ _ r no
    (neither (bytes_eq first (codes "clear")) _ _ r no
    (neither (bytes_eq first (codes "moment")) _ _ r no
    (neither (bytes_eq first (codes "hold")) _ _ r no
    (neither (bytes_eq first (codes "slip")) _ _ r no
    (no_form reason.StepWord r))))))) e

-- ---- the words of a round

-- a word that says what came on a side has at least four bytes, and five and a frame where it begins with `f`
record IsCame (c : Came) (word : List ℕ) : Type 0 where
  pub long : 4 ≤ length word
  pub led : (get_or word 0 0 == 102) ≡ true → (5 ≤ length word) × (c ≡ came.Frame)

no_side : (c : Came) → None ≡ Some c → ⊥
no_side c e = cc

some_same : (a c : Came) → Some a ≡ Some c → c ≡ a
some_same a c e = cc

said : (text word : List ℕ) (x y : Option Came) (c : Came) → (x ≡ Some c → IsCame c text) → (y ≡ Some c → IsCame c word)
    → cond (bytes_eq word text) x y ≡ Some c → IsCame c word
said text word x y c is more e = by (bytes_eq word text) refl e
  where
    by : (b : Bool) → bytes_eq word text ≡ b → cond b x y ≡ Some c → IsCame c word
    by true same h = subst (IsCame c) (sym ((bytes_eq-Decides word text).0 same)) (is h)
    by false same h = more h

came_is : (word : List ℕ) (c : Came) → came_at word ≡ Some c → IsCame c word
came_is word c e =
    said (codes "none") word _ _ c (λ h. record { long = omega arith; led = λ f. cc })
    (said (codes "dark") word _ _ c (λ h. record { long = omega arith; led = λ f. cc })
    (said (codes "frame") word _ _ c (λ h. record { long = omega arith; led = λ f. (omega arith, some_same came.Frame c h) })
    (λ (n : None ≡ Some c). absurd (no_side c n)))) e

-- a record is a round of what came from the west and from the east
record Both (x y : Option Came) (r : Record) : Type 0 where
  pub west : x ≡ Some (west_of r)
  pub east : y ≡ Some (east_of r)

both : (x y : Option Came) (r : Record) → round_by x y ≡ Ok r → Both x y r
both (Some a) (Some b) r e =
    let is : r ≡ what.Round a b = ok_same (what.Round a b) r e in
    record { west = ap (λ s. Some (west_of s)) (sym is); east = ap (λ s. Some (east_of s)) (sym is) }
both (Some a) None r e = cc
both None y r e = cc

record IsRound (r : Record) (others : List (List ℕ)) : Type 0 where
  pub west : List ℕ
  pub east : List ℕ
  pub others_are : others ≡ west ∷ east ∷ []
  pub west_is : IsCame (west_of r) west
  pub east_is : IsCame (east_of r) east

round_is : (others : List (List ℕ)) (r : Record) → round_in others ≡ Ok r → IsRound r others
round_is [] r e = absurd (no_form _ r e)
round_is (west ∷ []) r e = absurd (no_form _ r e)
round_is (west ∷ east ∷ []) r e =
    let h = both (came_at west) (came_at east) r e in
    record {
      west = west;
      east = east;
      others_are = refl;
      west_is = came_is west (west_of r) h.west;
      east_is = came_is east (east_of r) h.east;
    }
round_is (west ∷ east ∷ more ∷ others) r e = absurd (no_form _ r e)

-- ---- the bytes of a record

other_fewest : (line : List ℕ) → (get_or line 0 0 == 114) ≡ false → fewest line ≡ 7
unfolding fewest
other_fewest line e = ap (λ b. cond b (cond (get_or line 6 0 == 102) 18 16) 7) e

round_fewest : (line : List ℕ) (f : Bool) → (get_or line 6 0 == 102) ≡ f → fewest line ≤ cond f 18 16
unfolding fewest
round_fewest line f e = subst (λ g. cond (get_or line 0 0 == 114) (cond g 18 16) 7 ≤ cond f 18 16) (sym e) (by (get_or line 0 0 == 114) f)
  where
    by : (r g : Bool) → cond r (cond g 18 16) 7 ≤ cond g 18 16
    by true true = omega arith
    by true false = omega arith
    by false true = omega arith
    by false false = omega arith

other_long : (line first tail : List ℕ) → line ≡ first ++ 32 ∷ tail → IsOther first → 1 ≤ length tail → fewest line ≤ length (whole_line line)
other_long line first tail is other some =
    let led : get_or line 0 0 ≡ get_or first 0 0 =
    ap (λ l. get_or l 0 0) is ∙ get_or_append_left first (32 ∷ tail) 0 0 (omega (arith, other.long)) in
    omega (
      arith,
      other_fewest line (ap (λ x. x == 114) led ∙ other.led),
      other.long,
      ap length is,
      length-append first (32 ∷ tail),
      length-append line (10 ∷ []),
    )

round_long : (line west east : List ℕ) (c d : Came) → line ≡ codes "round" ++ 32 ∷ (west ++ 32 ∷ east) → IsCame c west → IsCame d east
    → fewest line ≤ length (whole_line line) + most_ahead c
round_long line west east c d is w e = by (get_or line 6 0 == 102) refl
  where
    seventh : get_or line 6 0 ≡ get_or west 0 0
    seventh = ap (λ l. get_or l 6 0) is ∙ get_or_append_left west (32 ∷ east) 0 0 (omega (arith, w.long))

    size : length (whole_line line) ≡ 8 + (length west + length east)
    size = omega (
      arith,
      ap length is,
      length-append (codes "round") (32 ∷ (west ++ 32 ∷ east)),
      length-append west (32 ∷ east),
      length-append line (10 ∷ []),
    )

    by : (f : Bool) → (get_or line 6 0 == 102) ≡ f → fewest line ≤ length (whole_line line) + most_ahead c
    by true h =
        let led = w.led (sym (ap (λ x. x == 102) seventh) ∙ h) in
        omega (arith, round_fewest line true h, size, led.0, ap most_ahead led.1, e.long)
    by false h = omega (arith, round_fewest line false h, size, w.long, e.long)

-- the first word, and what comes after the first space
line_of : (line first second : List ℕ) (more : List (List ℕ)) → words line ≡ first ∷ second ∷ more
    → line ≡ first ++ 32 ∷ join_with_byte 32 (second ∷ more)
line_of line first second more e = sym (join_with_byte-slice_split 32 line) ∙ ap (λ ws. join_with_byte 32 ws) e

joined_long : (word : List ℕ) (more : List (List ℕ)) → length word ≤ length (join_with_byte 32 (word ∷ more))
joined_long word [] = omega arith
joined_long word (next ∷ more) = omega (arith, length-append word (32 ∷ join_with_byte 32 (next ∷ more)))

none_empty : (word : List ℕ) (b c : Bool) → (b || (is_empty word || c)) ≡ false → 1 ≤ length word
none_empty [] true c e = cc
none_empty [] false c e = cc
none_empty (x ∷ word) b c e = omega arith

words_long : (circuits : List Provisioned) (at : Pos) (line : List ℕ) (ws : List (List ℕ)) (r : Record) → words line ≡ ws → list_any is_empty ws ≡ false
    → record_in circuits at ws ≡ Ok r → fewest line ≤ length (whole_line line) + most_ahead (west_of r)
unfolding record_in
words_long circuits at line [] r is full e = absurd (no_form _ r e)
words_long circuits at line (first ∷ []) r is full e = absurd (never_alone circuits at first r e)
words_long circuits at line (first ∷ second ∷ more) r is full e = by (first_is circuits at first (second ∷ more) r e)
  where
    parts : line ≡ first ++ 32 ∷ join_with_byte 32 (second ∷ more)
    parts = line_of line first second more is

    rounds : first ≡ codes "round" → IsRound r (second ∷ more) → fewest line ≤ length (whole_line line) + most_ahead (west_of r)
    rounds same round =
        round_long line round.west round.east (west_of r) (east_of r)
        (parts ∙ ap (λ w. w ++ 32 ∷ join_with_byte 32 (second ∷ more)) same ∙ ap (λ ws. codes "round" ++ 32 ∷ join_with_byte 32 ws) round.others_are)
        round.west_is round.east_is

    by : ((first ≡ codes "round") × (round_in (second ∷ more) ≡ Ok r)) ⊎ IsOther first
        → fewest line ≤ length (whole_line line) + most_ahead (west_of r)
    by (inl h) = rounds h.0 (round_is (second ∷ more) r h.1)
    by (inr other) =
        omega (
          arith,
          other_long line first (join_with_byte 32 (second ∷ more)) parts other
              (omega (arith, joined_long second more, none_empty second (is_empty first) (list_any is_empty more) full)),
        )

-- a record has at least the fewest bytes of its line
line_long : (circuits : List Provisioned) (at : Pos) (line : List ℕ) (r : Record) → record_of circuits at line ≡ Ok r
    → fewest line ≤ length (whole_line line) + most_ahead (west_of r)
unfolding record_of
line_long circuits at line r e = by (list_any is_empty (words line)) refl e
  where
    by : (b : Bool) → list_any is_empty (words line) ≡ b → cond b (Err reason.StepForm) (record_in circuits at (words line)) ≡ Ok r
        → fewest line ≤ length (whole_line line) + most_ahead (west_of r)
    by true full h = absurd (no_form reason.StepForm r h)
    by false full h = words_long circuits at line (words line) r refl full h

-- ---- the bytes of each record that begins so

-- each record has at least 7 bytes
seven : (circuits : List Provisioned) (at : Pos) → EachHas circuits at [] 7
unfolding fewest
seven circuits at line r e =
    omega (arith, line_long circuits at line r e, by (get_or line 0 0 == 114) (get_or line 6 0 == 102))
  where
    by : (r f : Bool) → 7 ≤ cond r (cond f 18 16) 7
    by true true = omega arith
    by true false = omega arith
    by false f = omega arith

-- one that begins with `r` has at least 16
sixteen : (circuits : List Provisioned) (at : Pos) → EachHas circuits at (codes "r") 16
unfolding fewest
sixteen circuits at rest r e =
    omega (arith, line_long circuits at (codes "r" ++ rest) r e, by (get_or (codes "r" ++ rest) 6 0 == 102))
  where
    by : (f : Bool) → 16 ≤ cond f 18 16
    by true = omega arith
    by false = omega arith

-- one that begins with `round f` has at least 18
eighteen : (circuits : List Provisioned) (at : Pos) → EachHas circuits at (codes "round f") 18
unfolding fewest
eighteen circuits at rest r e = line_long circuits at (codes "round f" ++ rest) r e

pub records_are_long : RecordsAreLong
records_are_long circuits at = (seven circuits at, sixteen circuits at, eighteen circuits at)

-- ---- how many bytes may be read once a part of a line has come

begins_any : (circuits : List Provisioned) (at : Pos) → BeginsRecord circuits at []
unfolding record_of record_in numeral_in
begins_any circuits at = (codes "hold 1", what.Told (told.Hold 1), refl)

begins_round : (circuits : List Provisioned) (at : Pos) → BeginsRecord circuits at (codes "r")
unfolding record_of record_in
begins_round circuits at = (codes "ound none none", what.Round came.Nothing came.Nothing, refl)

begins_frame : (circuits : List Provisioned) (at : Pos) → BeginsRecord circuits at (codes "round f")
unfolding record_of record_in
begins_frame circuits at = (codes "rame none", what.Round came.Frame came.Nothing, refl)

module _ (line : List ℕ) (circuits : List Provisioned) (at : Pos) where
  pub may_any : MayRead circuits at line 7
  may_any = record { front = []; rest = line; line_is = refl; begins = begins_any circuits at; each = seven circuits at }

  pub may_round : line ≡ codes "r" ++ drop 1 line → MayRead circuits at line 16
  may_round is = record {
    front = codes "r";
    rest = drop 1 line;
    line_is = is;
    begins = begins_round circuits at;
    each = sixteen circuits at;
  }

  pub may_frame : line ≡ codes "round f" ++ drop 7 line → MayRead circuits at line 18
  may_frame is = record {
    front = codes "round f";
    rest = drop 7 line;
    line_is = is;
    begins = begins_frame circuits at;
    each = eighteen circuits at;
  }
