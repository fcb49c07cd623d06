-- One record, by its parts.
use Rattle.std.proofs.Common.{◌≡◌, ℕ, ◌+◌, ◌≤◌, List, [], ◌∷◌, ◌++◌, length, refl, ap, sym, subst, ◌∙◌, arith, inl, inr, append_assoc, append-nil}
use Rattle.std.specs.Prelude.{Option, Some, None, Result, Ok, Err, slice_get}
use Rattle.std.specs.Io.KnownBytes.{Appends, Consumes}
use Rattle.std.proofs.KnownBytes.{Appends-nil, Consumes-trans, Keeps-refl}
use Rattle.std.proofs.lemmas.List.{length-append}
use Rattle.sdh_outside.specs.Writing.{AppendsFewer}
use Rattle.sdh_ringmap.specs.declared.Pos.{Pos}
use Rattle.sdh_circuits.specs.Provisioned.{Provisioned}
use Rattle.sdh_node_cli.specs.Lines.{whole_line}
use Rattle.sdh_ringmap.specs.declared.Side.{Side}
use Rattle.sdh_ringmap.specs.declared.Side.TheVariants.{West, East}
use Rattle.sdh_request.specs.declared.settings.Settings.{Settings}
use Rattle.sdh_plan.specs.Check.{unless}
use Rattle.sdh_plan.specs.declared.reason.Reason.{Reason}
use Rattle.sdh_node.specs.Node.{Node, node_round, with_calm, after_crossing}
use Rattle.sdh_node_cli.specs.declared.ending.Flaw.TheVariants as flaw
use Rattle.sdh_node_cli.specs.declared.record.Came.{Came}
use Rattle.sdh_node_cli.specs.declared.record.Came.TheVariants as came
use Rattle.sdh_node_cli.specs.declared.record.Record.{Record}
use Rattle.sdh_node_cli.specs.declared.record.Record.TheVariants as what
use Rattle.sdh_node_cli.specs.declared.record.Told.{Told}
use Rattle.sdh_node_cli.specs.declared.record.Told.TheVariants as told
use Rattle.sdh_node_cli.specs.declared.stop.Stop.{Stop}
use Rattle.sdh_node_cli.specs.declared.stop.Stop.TheVariants as stop
use Rattle.sdh_node_cli.specs.Records.{record_of}
use Rattle.sdh_node_cli.specs.Bench.{Bench, refusal_of, after_told, after_coming, after_round, answer_to}
use Rattle.sdh_node_cli.specs.Streams.{GivenRecord, after_record, bench_after, west_of, IsLine, IsBehind, IsRefusedFor, IsRefusedLine, most_ahead}
use Rattle.sdh_node_cli.specs.Turns.{with_ahead, IsAhead, ReadsLine, HasLine, TakesPart, TakesBoth, both_sizes, Ran, RanCut, StopsRound, RecordGoes, Halts, TurnStopsBy}

-- ---- what stays

coming_settings : (side : Side) (c : Came) (bytes : List ℕ) (n : Node) → (after_coming side c bytes n).settings ≡ n.settings
unfolding after_coming
coming_settings side came.Nothing bytes n = refl
coming_settings side came.Dark bytes n = refl
coming_settings side came.Frame bytes n = refl

-- what came on a side leaves the rate
pub coming_rate : (side : Side) (c : Came) (bytes : List ℕ) (b d : Bench) → d ≡ record b { node = after_coming side c bytes b.node }
    → d.node.settings.rate ≡ b.node.settings.rate
coming_rate side c bytes b d is =
    ap (λ (x : Bench). x.node.settings.rate) is ∙ ap (λ (s : Settings). s.rate) (coming_settings side c bytes b.node)

coming_rounds : (side : Side) (c : Came) (bytes : List ℕ) (n : Node) → (after_coming side c bytes n).rounds ≡ n.rounds
unfolding after_coming
coming_rounds side came.Nothing bytes n = refl
coming_rounds side came.Dark bytes n = refl
coming_rounds side came.Frame bytes n = refl

told_node : (t : Told) (b : Bench) → ((after_told t b).node.settings ≡ b.node.settings) × ((after_told t b).node.rounds ≡ b.node.rounds)
unfolding after_told
told_node (told.Command side c) b = (refl, refl)
told_node (told.Moment m) b = (refl, refl)
told_node (told.Hold turns) b = (refl, refl)
told_node (told.Slip port turn count) b = (refl, refl)

round_settings : (now : ℕ) (n : Node) → (node_round now n).0.settings ≡ n.settings
unfolding node_round with_calm after_crossing
round_settings now n = refl

round_rounds : (now : ℕ) (n : Node) → (node_round now n).0.rounds ≡ n.rounds + 1
unfolding node_round with_calm after_crossing
round_rounds now n = refl

abbrev came_node : Came → List ℕ → Came → List ℕ → Bench → Node
came_node west w east e b = after_coming East east e (after_coming West west w b.node)

-- a record leaves the settings and the circuits, and runs at most one round
pub after_settings : (g : GivenRecord) (b : Bench) → (bench_after g b).node.settings ≡ b.node.settings
after_settings g b = by g.record_is
  where
    by : (r : Record) → (after_record r g.west g.east b).node.settings ≡ b.node.settings
    by (what.Told t) = (told_node t b).0
    by (what.Round west east) =
        round_settings b.moment (came_node west g.west east g.east b)
        ∙ coming_settings East east g.east (after_coming West west g.west b.node)
        ∙ coming_settings West west g.west b.node

pub after_rounds : (g : GivenRecord) (b : Bench) → (bench_after g b).node.rounds ≤ b.node.rounds + 1
after_rounds g b = by g.record_is
  where
    by : (r : Record) → (after_record r g.west g.east b).node.rounds ≤ b.node.rounds + 1
    by (what.Told t) = omega (arith, (told_node t b).1)
    by (what.Round west east) =
        omega (
          arith,
          round_rounds b.moment (came_node west g.west east g.east b),
          coming_rounds East east g.east (after_coming West west g.west b.node),
          coming_rounds West west g.west b.node,
        )

-- a record leaves the rate
pub rate_after : (g : GivenRecord) (b d : Bench) → d ≡ bench_after g b → d.node.settings.rate ≡ b.node.settings.rate
rate_after g b d is = ap (λ (x : Bench). x.node.settings.rate) is ∙ ap (λ (s : Settings). s.rate) (after_settings g b)

-- ---- a round

-- the round that runs over both, with its answer
pub ran_by : (b d new : Bench) (west east : Came) (left now old_text new_text : Option (List ℕ)) → TakesBoth b d west east left now
    → new ≡ after_round d → Appends old_text new_text (answer_to d) → Ran b new west east left now old_text new_text
ran_by b d new west east left now old_text new_text both is wrote = record {
  from_west = both.from_west;
  from_east = both.from_east;
  west_whole = both.west_whole;
  east_whole = both.east_whole;
  read = both.read;
  wrote = subst (λ x. Appends old_text new_text (answer_to x)) both.bench wrote;
  bench = is ∙ ap after_round both.bench;
}

pub cut_by : (b d : Bench) (west east : Came) (why : Stop) (left now old_text new_text : Option (List ℕ)) → why ≡ stop.WriteFault
    → TakesBoth b d west east left now → AppendsFewer old_text new_text (answer_to d)
    → StopsRound b west east why left now old_text new_text
cut_by b d west east why left now old_text new_text is both front =
    let cut : RanCut b west east left now old_text new_text = record {
      from_west = both.from_west;
      from_east = both.from_east;
      west_whole = both.west_whole;
      east_whole = both.east_whole;
      read = both.read;
      front = subst (λ x. AppendsFewer old_text new_text (answer_to x)) both.bench front;
    } in
    subst (λ x. StopsRound b west east x left now old_text new_text) (sym is) cut

pub part_stops : (b : Bench) (west east : Came) (why : Stop) (left now text : Option (List ℕ))
    → TakesPart (both_sizes b west east) left now why → StopsRound b west east why left now text text
part_stops b west east (stop.Bad flaw.Cut) left now text p = (p, Keeps-refl text)
part_stops b west east stop.ReadFault left now text p = (p, Keeps-refl text)
part_stops b west east (stop.Bad (flaw.Said r)) left now text p = absurd p
part_stops b west east (stop.Bad flaw.Long) left now text p = absurd p
part_stops b west east (stop.Bad flaw.Many) left now text p = absurd p
part_stops b west east stop.Done left now text p = absurd p
part_stops b west east stop.WriteFault left now text p = absurd p

-- after what came on both sides was kept, the number of rounds and the rate are as before
pub both_stay : (b d : Bench) (west east : Came) (left now : Option (List ℕ)) → TakesBoth b d west east left now
    → (d.node.rounds ≡ b.node.rounds) × (d.node.settings.rate ≡ b.node.settings.rate)
both_stay b d west east left now both =
    let node = came_node west both.from_west east both.from_east b in
    let rounds = coming_rounds East east both.from_east (after_coming West west both.from_west b.node)
    ∙ coming_rounds West west both.from_west b.node in
    let settings = coming_settings East east both.from_east (after_coming West west both.from_west b.node)
    ∙ coming_settings West west both.from_west b.node in (
      ap (λ (x : Bench). x.node.rounds) both.bench ∙ rounds,
      ap (λ (x : Bench). x.node.settings.rate) both.bench ∙ ap (λ (s : Settings). s.rate) settings,
    )

-- ---- a record

pub goes_round : (b new : Bench) (line : List ℕ) (west east : Came) (first : Option ℕ) (left mid now old_text new_text : Option (List ℕ))
    → HasLine b line (what.Round west east) first left mid → Ran b new west east (with_ahead first mid) now old_text new_text
    → RecordGoes b new left now old_text new_text
goes_round b new line west east first left mid now old_text new_text l ran = record {
  given = record { line = line; record_is = what.Round west east; west = ran.from_west; east = ran.from_east };
  is = record {
    said = record { line_is = l.line_is; reads = l.reads; may = refl };
    west_whole = ran.west_whole;
    east_whole = ran.east_whole;
  };
  read = Consumes-trans left (with_ahead first mid) now (whole_line line) (ran.from_west ++ ran.from_east) l.read ran.read;
  wrote = ran.wrote;
  bench = ran.bench;
}

-- no byte was read with a line after which no frame comes from the west
alone : (line : List ℕ) (first : Option ℕ) (left now : Option (List ℕ)) → first ≡ None → Consumes left (with_ahead first now) (whole_line line)
    → Consumes left now (whole_line line)
alone line first left now none read = subst (λ f. Consumes left (with_ahead f now) (whole_line line)) none read

pub goes_told : (b new : Bench) (line : List ℕ) (t : Told) (first : Option ℕ) (left now text : Option (List ℕ))
    → HasLine b line (what.Told t) first left now → refusal_of b t ≡ None → new ≡ after_told t b → RecordGoes b new left now text text
goes_told b new line t first left now text l may is = record {
  given = record { line = line; record_is = what.Told t; west = []; east = [] };
  is = record { said = record { line_is = l.line_is; reads = l.reads; may = may }; west_whole = refl; east_whole = refl };
  read = subst (Consumes left now) (sym (append-nil (whole_line line))) (alone line first left now l.ahead l.read);
  wrote = Appends-nil text;
  bench = is;
}

-- ---- where no more records are done

-- a line that can't be done
refused_line : (b : Bench) (line more : List ℕ) (why : Reason) → IsLine line → IsRefusedFor b line why → IsBehind b.circuits b.at line more
    → {tail : List ℕ} → whole_line line ++ more ≡ tail → IsRefusedLine b why tail
refused_line b line more why is refused few e = record { line = line; more = more; tail_is = sym e; line_is = is; refused = refused; few = few }

-- bytes that were read with a line and are no more than there may be of what came from the west
ahead_of : (c : Came) (more : List ℕ) → length more ≤ most_ahead c → IsAhead c (slice_get more 0)
ahead_of came.Nothing [] few = refl
ahead_of came.Nothing (x ∷ more) few = absurd (omega (arith, few))
ahead_of came.Dark [] few = refl
ahead_of came.Dark (x ∷ more) few = absurd (omega (arith, few))
ahead_of came.Frame more few = tt

at_most_one : (c : Came) → most_ahead c ≤ 1
at_most_one came.Nothing = omega arith
at_most_one came.Dark = omega arith
at_most_one came.Frame = omega arith

-- a byte that was read after a line is still to be taken
put_back : (line : List ℕ) (x : ℕ) (left now : Option (List ℕ)) → Consumes left now (line ++ x ∷ [])
    → Consumes left (with_ahead (Some x) now) line
put_back line x None now read = tt
put_back line x (Some old) None read = absurd read
put_back line x (Some old) (Some new) read = read ∙ append_assoc line (x ∷ []) new

ahead_left : (line more : List ℕ) (left now : Option (List ℕ)) → length more ≤ 1 → Consumes left now (line ++ more)
    → Consumes left (with_ahead (slice_get more 0) now) line
ahead_left line [] left now few read = subst (Consumes left now) (append-nil line) read
ahead_left line (x ∷ []) left now few read = put_back line x left now read
ahead_left line (x ∷ y ∷ more) left now few read = absurd (omega (arith, few))

-- no more was read after a line that is that of a record than of its frames may be
few_ahead : (circuits : List Provisioned) (at : Pos) (line more : List ℕ) (r : Record) → IsBehind circuits at line more
    → record_of circuits at line ≡ Ok r → length more ≤ most_ahead (west_of r)
few_ahead circuits at line more r (inl none) reads = omega (arith, ap length none)
few_ahead circuits at line more r (inr m) reads =
    let has = m.each m.rest r (ap (record_of circuits at) (sym m.line_is) ∙ reads) in
    omega (arith, has, ap length m.line_is, length-append (whole_line line) more, length-append line (10 ∷ []), length-append (m.front ++ m.rest) (10 ∷ []))

-- where a line is that of a record, nothing was read after it but the first byte of the frame from the west
pub has_line : (b : Bench) (line : List ℕ) (r : Record) (first : Option ℕ) (left now : Option (List ℕ)) → ReadsLine line first left now
    → record_of b.circuits b.at line ≡ Ok r → HasLine b line r first left now
has_line b line r first left now l reads =
    let few : length l.more ≤ most_ahead (west_of r) = few_ahead b.circuits b.at line l.more r (l.few b.circuits b.at) reads in
    record {
      line_is = l.line_is;
      reads = reads;
      ahead = subst (IsAhead (west_of r)) (sym l.first_is) (ahead_of (west_of r) l.more few);
      read =
          subst (λ f. Consumes left (with_ahead f now) (whole_line line)) (sym l.first_is)
          (ahead_left (whole_line line) l.more left now (omega (arith, few, at_most_one (west_of r))) l.read);
    }

-- a line that is no record
pub no_record : (b : Bench) (line : List ℕ) (why : Reason) (first : Option ℕ) (left now : Option (List ℕ)) → ReadsLine line first left now
    → record_of b.circuits b.at line ≡ Err why → Halts b (stop.Bad (flaw.Said why)) left now
no_record b line why first left now l reads =
    (whole_line line ++ l.more, (refused_line b line l.more why l.line_is (inl reads) (l.few b.circuits b.at) refl, tt), l.read)

pub line_stops : (b : Bench) (why : Stop) (left now text : Option (List ℕ)) → Halts b why left now → TurnStopsBy b why left now text text
line_stops b stop.Done left now text h = (h, Keeps-refl text)
line_stops b (stop.Bad f) left now text h = (h, Keeps-refl text)
line_stops b stop.ReadFault left now text h = (h, Keeps-refl text)
line_stops b stop.WriteFault left now text h = absurd h.1

pub told_stops : (b : Bench) (line : List ℕ) (t : Told) (why : Reason) (first : Option ℕ) (left now text : Option (List ℕ))
    → HasLine b line (what.Told t) first left now → refusal_of b t ≡ Some why → TurnStopsBy b (stop.Bad (flaw.Said why)) left now text text
told_stops b line t why first left now text l refused = (
  (
    whole_line line,
    (refused_line b line [] why l.line_is (inr (what.Told t, l.reads, refused)) (inl refl) (append-nil (whole_line line)), tt),
    alone line first left now l.ahead l.read,
  ),
  Keeps-refl text,
)

pub round_stops : (b : Bench) (line : List ℕ) (west east : Came) (why : Stop) (first : Option ℕ) (left mid now old_text new_text : Option (List ℕ))
    → HasLine b line (what.Round west east) first left mid → StopsRound b west east why (with_ahead first mid) now old_text new_text
    → TurnStopsBy b why left now old_text new_text
round_stops b line west east stop.WriteFault first left mid now old_text new_text l cut = record {
  given = record { line = line; record_is = what.Round west east; west = cut.from_west; east = cut.from_east };
  is = record {
    said = record { line_is = l.line_is; reads = l.reads; may = refl };
    west_whole = cut.west_whole;
    east_whole = cut.east_whole;
  };
  read = Consumes-trans left (with_ahead first mid) now (whole_line line) (cut.from_west ++ cut.from_east) l.read cut.read;
  front = cut.front;
}
round_stops b line west east (stop.Bad flaw.Cut) first left mid now old_text new_text l s =
    let p = s.0 in (
      (
        whole_line line ++ p.0,
        (
          inr
              (record {
                line = line;
                record_is = what.Round west east;
                part = p.0;
                said = record { line_is = l.line_is; reads = l.reads; may = refl };
                tail_is = refl;
                short = p.1;
              }),
          p.3,
        ),
        Consumes-trans left (with_ahead first mid) now (whole_line line) p.0 l.read p.2,
      ),
      s.1,
    )
round_stops b line west east stop.ReadFault first left mid now old_text new_text l s =
    let p = s.0 in (
      (
        whole_line line ++ p.0,
        inr
            (record {
              line = line;
              record_is = what.Round west east;
              part = p.0;
              said = record { line_is = l.line_is; reads = l.reads; may = refl };
              tail_is = refl;
              short = p.1;
            }),
        Consumes-trans left (with_ahead first mid) now (whole_line line) p.0 l.read p.2,
      ),
      s.1,
    )
round_stops b line west east (stop.Bad (flaw.Said r)) first left mid now old_text new_text l s = absurd s.0
round_stops b line west east (stop.Bad flaw.Long) first left mid now old_text new_text l s = absurd s.0
round_stops b line west east (stop.Bad flaw.Many) first left mid now old_text new_text l s = absurd s.0
round_stops b line west east stop.Done first left mid now old_text new_text l s = absurd s.0

-- ---- the result of telling the node something

pub unless_ok : (o : Option Reason) (r : Result (Unit {0}) Reason) → r ≡ unless o tt → r ≡ Ok tt → o ≡ None
unless_ok None r is e = refl
unless_ok (Some why) r is e = cc

pub unless_err : (o : Option Reason) (r : Result (Unit {0}) Reason) (why : Reason) → r ≡ unless o tt → r ≡ Err why → o ≡ Some why
unless_err None r why is e = cc
unless_err (Some other) r why is e = cc
