-- Rounds that are watched, in a course and one after the other.
use Rattle.std.proofs.Common.{◌≡◌, ℕ, zero, suc, ◌+◌, ◌<◌, ◌≤◌, List, [], ◌∷◌, ◌++◌, length, take, refl, ap, ap₂, sym, ◌∙◌, subst, arith}
use Rattle.std.proofs.lemmas.List.{length_push}
use Rattle.sdh_plant.specs.Fibres.{Arrival, Fibres}
use Rattle.sdh_circuits.specs.declared.PortId.{PortId}
use Rattle.sdh_node.specs.Stations.{adm}
use Rattle.sdh_node.specs.Rings.Rounds.{World, round_with}
use Rattle.sdh_node.specs.Rings.Runs.{run_with, course_with, ArriveIn, IsRound, IsBrokenOff}
use Rattle.sdh_node.specs.Rings.Quiet.{Settles}
use Rattle.sdh_rounds.specs.Runs.{Arrive}
use Rattle.sdh_rounds.proofs.Runs.{run_with_more, arrive_more, course_more, course_whole}
use Rattle.sdh_scripts.specs.Scripts.{Ended, BreaksBehind}
use Rattle.sdh_scripts.proofs.Frames.{run_on, take_past}
use Rattle.sdh_path.specs.History.{Given}
use Rattle.sdh_watch.specs.Shows.{Watched}
use Rattle.sdh_watch.specs.Watching.{given_of, Lead, BreaksAmong, heard_in, watched, watched_in}
use Rattle.sdh_watch.specs.Scripts.{watch_walk}
use Rattle.sdh_watch.proofs.Known.{heard_same}

-- ---- from a course to rounds one after the other

round_at : (rounds : List (List Arrival)) (w : World) (j : ℕ) → ArriveIn rounds w → j < length rounds
    → IsRound (course_with rounds w j) (course_with rounds w (suc j))
round_at [] w j arrive low = absurd (omega arith)
round_at (xs ∷ later) w zero arrive low = record { arrivals = xs; arrive = arrive.0; after_is = refl }
round_at (xs ∷ later) w (suc j) arrive low = round_at later (round_with xs w) j arrive.1 (omega arith)

lead_to : (rounds : List (List Arrival)) (w : World) (j : ℕ) → ArriveIn rounds w → j ≤ length rounds
    → Lead j w (course_with rounds w j) (heard_in j (course_with rounds w))
lead_to rounds w zero arrive low = (refl, λ port. refl)
lead_to rounds w (suc j) arrive low = (
  course_with rounds w j,
  heard_in j (course_with rounds w),
  lead_to rounds w j arrive (omega arith),
  round_at rounds w j arrive (omega arith),
  λ port. refl,
)

-- ---- and back

pub record IsLed (k : ℕ) (w left : World) (heard : PortId → List Given) : Type 0 where
  pub rounds : List (List Arrival)
  pub arrive : ArriveIn rounds w
  pub count : length rounds ≡ k
  pub left_is : left ≡ run_with rounds w
  pub heard_is : (port : PortId) → heard port ≡ heard_in k (course_with rounds w) port

led_by : (k : ℕ) (w left : World) (heard : PortId → List Given) → Lead k w left heard → IsLed k w left heard
led_by zero w left heard lead = record { rounds = []; arrive = tt; count = refl; left_is = lead.0; heard_is = lead.1 }
led_by (suc k) w left heard (mid, before, lead, is, more) =
    let led = led_by k w mid before lead in
    let old = led.rounds in
    let all = old ++ is.arrivals ∷ [] in
    let c = led.count in
    let size : length all ≡ suc k = length_push old is.arrivals ∙ omega (arith, c) in
    let here : left ≡ run_with all w = is.after_is ∙ ap (round_with is.arrivals) led.left_is ∙ sym (run_with_more adm old is.arrivals w) in
    let last : left ≡ course_with all w (suc k) = here ∙ course_whole adm all w ∙ ap (course_with all w) size in
    record {
      rounds = all;
      arrive = arrive_more adm old is.arrivals w led.arrive (subst (λ x. Arrive x is.arrivals) led.left_is is.arrive);
      count = size;
      left_is = here;
      heard_is = λ port. more port
          ∙ ap₂ (λ (v : World) l. given_of v.ring port ∷ l) last
          (led.heard_is port ∙ heard_same k (course_with old w) (course_with all w) port
          (λ j h. course_more adm old is.arrivals w j (omega (arith, h, c))));
    }

-- ---- a course after another

behind_at : (xs ys : List (List Arrival)) (w mid : World) (j : ℕ) → mid ≡ run_with xs w
    → course_with (xs ++ ys) w (length xs + j) ≡ course_with ys mid j
behind_at xs ys w mid j is = ap (λ rs. run_with rs w) (take_past xs ys j) ∙ run_on adm xs (take j ys) w ∙ ap (run_with (take j ys)) (sym is)

-- what is reported of a settle step is what its rounds and those after it show
told_at : (number limit : ℕ) (w mid : World) (s : Settles w limit mid) (behind : List (List Arrival)) → length behind ≡ 128
    → watched_in number (course_with (s.rounds ++ behind) w) (length s.rounds)
    ≡ watched number mid.ring (run_with behind mid).ring (heard_in 128 (course_with behind mid))
told_at number limit w mid s behind count =
    let k = length s.rounds in
    let at = course_with (s.rounds ++ behind) w in
    let none : k + 0 ≡ k = omega arith in
    let first : at k ≡ mid = ap at (sym none) ∙ behind_at s.rounds behind w mid 0 s.left_is in
    let last : at (k + 128) ≡ run_with behind mid =
    behind_at s.rounds behind w mid 128 s.left_is ∙ ap (course_with behind mid) (sym count) ∙ sym (course_whole adm behind mid) in
    let heard =
    λ (port : PortId). heard_same 128 (λ j. at (k + j)) (course_with behind mid) port
    (λ j h. behind_at s.rounds behind w mid j s.left_is) in
    λ i. watched number (first i).ring (last i).ring (λ port. heard port i)

-- ---- a settle step, and the rounds that are watched after it

-- a settle step ended, and its 128 rounds were run and showed this
pub record IsWatched (limit number : ℕ) (w : World) (told : Watched) (left : World) : Type 0 where
  pub mid : World
  pub heard : PortId → List Given
  pub settles : Settles w limit mid
  pub rounds : Lead 128 mid left heard
  pub told_is : told ≡ watched number mid.ring left.ring heard

pub watched_by : (limit number : ℕ) (w : World) (told : Watched) (left : World) → Ended watch_walk limit number w told left
    → IsWatched limit number w told left
watched_by limit number w told left e =
    let behind = e.behind in
    let last : left ≡ course_with behind e.mid 128 = e.left_is ∙ course_whole adm behind e.mid ∙ ap (course_with behind e.mid) e.count in
    record {
      mid = e.mid;
      heard = heard_in 128 (course_with behind e.mid);
      settles = e.settles;
      rounds =
          subst (λ v. Lead 128 e.mid v (heard_in 128 (course_with behind e.mid))) (sym last)
          (lead_to behind e.mid 128 e.arrive (let c = e.count in omega arith));
      told_is =
          e.told_is ∙ told_at number limit w e.mid e.settles behind e.count
          ∙ ap (λ (v : World). watched number e.mid.ring v.ring (heard_in 128 (course_with behind e.mid))) (sym e.left_is);
    }

pub ended_with : (limit number : ℕ) (w mid left : World) (heard : PortId → List Given) → Settles w limit mid → Lead 128 mid left heard
    → Ended watch_walk limit number w (watched number mid.ring left.ring heard) left
ended_with limit number w mid left heard s lead =
    let led = led_by 128 mid left heard lead in
    record {
      mid = mid;
      settles = s;
      behind = led.rounds;
      arrive = led.arrive;
      count = led.count;
      left_is = led.left_is;
      told_is =
          (λ i. watched number mid.ring (led.left_is i).ring (λ port. led.heard_is port i))
          ∙ sym (told_at number limit w mid s led.rounds led.count);
    }

pub breaks_with : (limit : ℕ) (w mid : World) (left : Fibres) → Settles w limit mid → BreaksAmong 128 mid left
    → BreaksBehind watch_walk limit w left
breaks_with limit w mid left s b =
    let led = led_by b.ran mid b.last b.heard b.rounds in
    record {
      mid = mid;
      settles = s;
      rounds = led.rounds;
      arrive = led.arrive;
      few = let c = led.count in let few = b.few in omega arith;
      off = subst (λ v. IsBrokenOff v left) led.left_is b.off;
    }
