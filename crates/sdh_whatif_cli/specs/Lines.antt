-- The records of the table, and the lines of JSON. The texts are this project's own; those of the table are after RFC
-- 4180.
use Rattle.std.specs.Prelude.{ℕ, ◌<◌, ◌-◌, ◌*◌, zero, suc, Bool, true, false, ◌==◌, List, [], ◌∷◌, ◌++◌, codes, decimal, length, map}
use Rattle.std.specs.Prelude.{slice_index, if◌then◌else◌}
use Rattle.std.specs.List.{flat_map}
use Rattle.std.specs.Option.{option_map_or}
use Rattle.sdh_ringmap.specs.declared.Pos.{Pos}
use Rattle.sdh_ringmap.specs.declared.Side.{Side}
use Rattle.sdh_ringmap.specs.declared.Side.TheVariants.{East}
use Rattle.sdh_ringmap.specs.Places.{neighbour}
use Rattle.sdh_report.specs.Lines.{side_text}
use Rattle.sdh_ringmap.specs.declared.terms.Condition.{Condition}
use Rattle.sdh_ringmap.specs.declared.terms.Condition.TheVariants as condition
use Rattle.sdh_request.specs.declared.Command.{Command}
use Rattle.sdh_request.specs.declared.Command.TheVariants as command
use Rattle.sdh_circuits.specs.Provisioned.{Provisioned}
use Rattle.sdh_restoration.specs.Applied.{is_applied}
use Rattle.sdh_plan.specs.Planned.{Planned}
use Rattle.sdh_plan.specs.declared.step.Step.{Step}
use Rattle.sdh_plan.specs.declared.step.Step.TheVariants as step
use Rattle.sdh_verdicts.specs.declared.failure.Failure.{Failure}
use Rattle.sdh_verdicts.specs.declared.failure.Failure.TheVariants.{Degraded, Cut, Span, Node, Manual, Forced}
use Rattle.sdh_verdicts.specs.Failures.{failure_at, case_steps}
use Rattle.sdh_verdicts.specs.Verdicts.{requests_with, hops_of, places_below}
use Rattle.sdh_whatif_cli.specs.declared.ask.Ask.{Ask}
use Rattle.sdh_whatif_cli.specs.declared.ask.Form.{Form}
use Rattle.sdh_whatif_cli.specs.declared.ask.Form.TheVariants as form
use Rattle.sdh_whatif_cli.specs.declared.counting.Counts.{Counts}
use Rattle.sdh_whatif_cli.specs.declared.counting.Fate.{Fate}
use Rattle.sdh_whatif_cli.specs.declared.counting.Fate.TheVariants as fate
use Rattle.sdh_whatif_cli.specs.declared.forms.Digits.{Digits}
use Rattle.sdh_whatif_cli.specs.declared.forms.Entry.{Entry}
use Rattle.sdh_whatif_cli.specs.Counting.{fate_of, fate_counts}
use Rattle.sdh_whatif_cli.specs.Singles.{singles_text}
use Rattle.sdh_whatif_cli.specs.Cases.{case_numbers, is_of_ring, base_of, digits_at, case_at, entry_at}

-- the texts as one, with `between` between each two of them
abbrev pub joined : List ℕ → List (List ℕ) → List ℕ
joined between [] = []
joined between (text ∷ more) = text ++ flat_map (λ t. between ++ t) more

-- ---- forms

-- lines of JSON, or records of the table
abbrev pub is_json : Form → Bool
is_json form.Json = true
is_json form.Table = false
is_json form.Headed = false
is_json form.Summary = false

-- `json` where the form is JSON, and `table` where it is the table
abbrev pub either : Form → List ℕ → List ℕ → List ℕ
either f json table = if is_json f then json else table

-- The quotes around a name and around a step. In the table a name has none. A step has doubled ones there, since RFC
-- 4180 doubles a quote inside a field that stands in quotes.
abbrev pub quote : Form → List ℕ
quote f = either f (codes "\"") []

abbrev pub step_quote : Form → List ℕ
step_quote f = either f (codes "\"") (codes "\"\"")

-- ---- names

abbrev pub id_text : List ℕ → ℕ → List ℕ
id_text nodes p = decimal (slice_index nodes p)

-- the fibre that leaves a node on a side, or that side: the node, and its neighbour there
abbrev pub toward_text : List ℕ → Pos → Side → List ℕ
toward_text nodes at side = id_text nodes at.0 ++ codes ">" ++ id_text nodes (neighbour (length nodes) at.0 side)

-- a span: the nodes at its ends, the west one first
abbrev pub span_text : List ℕ → ℕ → List ℕ
span_text nodes s = id_text nodes s ++ codes "-" ++ id_text nodes (neighbour (length nodes) s East)

abbrev pub failure_text : List ℕ → Failure → List ℕ
failure_text nodes (Degraded at side) = codes "degraded " ++ toward_text nodes at side
failure_text nodes (Cut at side) = codes "fibre " ++ toward_text nodes at side
failure_text nodes (Span at) = codes "span " ++ span_text nodes at.0
failure_text nodes (Node at) = codes "node " ++ id_text nodes at.0
failure_text nodes (Manual at side) = codes "manual " ++ toward_text nodes at side
failure_text nodes (Forced at side) = codes "forced " ++ toward_text nodes at side

-- ---- steps, in the plan's own words

abbrev pub place_in_plan_text : List ℕ → List ℕ → Pos → Side → List ℕ
place_in_plan_text nodes verb at side = verb ++ id_text nodes at.0 ++ codes " " ++ side_text side

abbrev pub fibre_text : List ℕ → Pos → Side → Condition → List ℕ
fibre_text nodes at side condition.Clear = place_in_plan_text nodes (codes "mend ") at side
fibre_text nodes at side condition.Cut = place_in_plan_text nodes (codes "cut ") at side
fibre_text nodes at side (condition.Degraded k) = place_in_plan_text nodes (codes "degrade ") at side ++ codes " " ++ decimal k

abbrev pub order_text : List ℕ → Pos → Side → Command → List ℕ
order_text nodes at side command.Clear = place_in_plan_text nodes (codes "clear ") at side
order_text nodes at side command.Manual = place_in_plan_text nodes (codes "manual ") at side
order_text nodes at side command.Forced = place_in_plan_text nodes (codes "forced ") at side

-- a fibre or a side that the step is about is one of a ring of n
abbrev pub IsAt : ℕ → Step → Type 0
IsAt n (step.Fibre e) = e.at.0 < n
IsAt n (step.Order at side c) = at.0 < n
IsAt n s = Unit {0}

-- a failure has no other steps than those of the first two kinds
abbrev pub step_text : List ℕ → Step → List ℕ
step_text nodes (step.Fibre e) = fibre_text nodes e.at e.side e.condition
step_text nodes (step.Order at side c) = order_text nodes at side c
step_text nodes s = []

-- ---- the fields of a case

-- the name of a digit that isn't nothing: that of a failure of the ring, or `own` and the number of one of the user's
-- own, counted from 1
abbrev pub digit_text : List ℕ → ℕ → List ℕ
digit_text nodes d =
    if is_of_ring (length nodes) d then failure_text nodes (failure_at (length nodes) (d - 1)) else codes "own " ++ decimal (d - 10 * length nodes)

abbrev pub name_text : Form → List ℕ → ℕ → List ℕ
name_text f nodes d = quote f ++ digit_text nodes d ++ quote f

-- the names of a digit: one, or none where the digit is nothing
abbrev pub digit_names : Form → List ℕ → ℕ → List (List ℕ)
digit_names f nodes d = if d == 0 then [] else name_text f nodes d ∷ []

abbrev pub digits_in : Digits → List ℕ
digits_in ds = ds.first ∷ ds.second ∷ ds.third ∷ []

abbrev pub names_text : Form → List ℕ → Digits → List ℕ
names_text f nodes ds = joined (either f (codes ",") (codes " + ")) (flat_map (digit_names f nodes) (digits_in ds))

-- a step, and what parts it from the next
abbrev pub step_part : Form → List ℕ → Step → List ℕ
step_part f nodes s = step_quote f ++ step_text nodes s ++ step_quote f ++ either f (codes ",") (codes ", ")

-- the steps of a case, and the settle step after them
abbrev pub script_text : Form → Planned → List Failure → List ℕ
script_text f plan case =
    flat_map (step_part f plan.nodes) (case_steps (length plan.nodes) plan.settings.threshold case) ++ step_quote f ++ codes "settle"
    ++ step_quote f

abbrev pub span_part : Form → List ℕ → ℕ → List ℕ
span_part f nodes s = quote f ++ span_text nodes s ++ quote f

-- the applied spans
abbrev pub spans_text : Form → Planned → List Failure → List ℕ
spans_text f plan case =
    joined (either f (codes ",") (codes " "))
    (map (span_part f plan.nodes) (places_below (is_applied (requests_with plan case)) (length plan.nodes)))

-- the number of a case, its failures, its steps and the spans that are applied in it
abbrev pub case_text : Form → Planned → ℕ → Digits → List Failure → List ℕ
case_text f plan number ds case =
    either f (codes "{\"number\":") [] ++ decimal number ++ either f (codes ",\"failures\":[") (codes ",") ++ names_text f plan.nodes ds
    ++ either f (codes "],\"steps\":[") (codes ",\"") ++ script_text f plan case ++ either f (codes "],\"applied\":[") (codes "\",")
    ++ spans_text f plan case ++ either f (codes "]") []

-- the numbers of circuits that are kept, impaired, looped over protection and lost, and the number of spans of the
-- longest way
abbrev pub fate_counts_text : Form → Counts → List ℕ
fate_counts_text f k =
    either f (codes ",\"kept\":") (codes ",") ++ decimal k.kept ++ either f (codes ",\"impaired\":") (codes ",") ++ decimal k.impaired
    ++ either f (codes ",\"over\":") (codes ",") ++ decimal k.over ++ either f (codes ",\"lost\":") (codes ",") ++ decimal k.lost
    ++ either f (codes ",\"hops\":") (codes ",") ++ decimal k.hops

-- ---- the fields of circuits

-- what becomes of a circuit whose bytes go over `hops` spans; in the table there is nothing where it is kept
abbrev pub fate_cell : Form → Fate → ℕ → List ℕ
fate_cell f fate.Kept hops = either f (codes "\"kept\"") []
fate_cell f fate.Impaired hops = either f (codes "\"impaired\"") (codes "i")
fate_cell f fate.Over hops = decimal hops
fate_cell f fate.Lost hops = either f (codes "\"lost\"") (codes "x")

-- what stands before the fate of a circuit: in JSON the circuit's name, in the table a comma
abbrev pub before_fate : Form → List ℕ → List ℕ
before_fate f name = if is_json f then codes "\"" ++ name ++ codes "\":" else codes ","

abbrev pub fate_text : Form → Planned → List Failure → Provisioned → List ℕ
fate_text f plan case c = before_fate f c.name ++ fate_cell f (fate_of plan case c) (hops_of plan case c)

abbrev pub fates_text : Form → Planned → List Failure → List ℕ
fates_text f plan case = joined (either f (codes ",") []) (map (fate_text f plan case) plan.circuits)

-- ---- lines

-- the line of a case that these digits name, in a form and with the number that it has among those that are listed
abbrev pub line_text : Planned → Digits → List Failure → Entry → List ℕ
line_text plan ds case e =
    case_text e.form plan e.number ds case ++ fate_counts_text e.form (fate_counts plan case) ++ either e.form (codes ",\"circuits\":{") []
    ++ fates_text e.form plan case ++ either e.form (codes "}}\n") (codes "\r\n")

-- the line of the case of number c, where the case is listed in the part that is asked for, and else nothing
abbrev pub line_at : Planned → List (List Failure) → Ask → ℕ → List ℕ
line_at plan own ask c = option_map_or (line_text plan (digits_at plan own c) (case_at plan own c)) (entry_at plan own ask c) []

-- the lines of the cases of the numbers below k
abbrev pub lines_below : Planned → List (List Failure) → Ask → ℕ → List ℕ
lines_below plan own ask zero = []
lines_below plan own ask (suc k) = lines_below plan own ask k ++ line_at plan own ask k

abbrev pub cases_text : Planned → List (List Failure) → Ask → List ℕ
cases_text plan own ask = lines_below plan own ask (case_numbers (base_of plan own) ask.depth)

-- ---- all of it

-- the record of the fields' names
abbrev pub head_record : Planned → List ℕ
head_record plan =
    codes "number,failures,steps,applied,kept,impaired,over,lost,hops" ++ flat_map (λ c. codes "," ++ c.name) plan.circuits ++ codes "\r\n"

abbrev pub cases_table : Form → Planned → List (List Failure) → Ask → List ℕ
cases_table form.Table plan own ask = cases_text plan own ask
cases_table form.Headed plan own ask = head_record plan ++ cases_text plan own ask
cases_table form.Json plan own ask = cases_text plan own ask
cases_table form.Summary plan own ask = singles_text plan own ask.kinds

abbrev pub table_text : Planned → List (List Failure) → Ask → List ℕ
table_text plan own ask = cases_table ask.form plan own ask
