-- What is promised of every run of the switch, and of two runs beside each other. Assumes nothing.
use Rattle.std.specs.Prelude.{◌≡◌, ℕ, ◌+◌, Bool, List, [], ◌∷◌, map, is_some}
use Rattle.cells.specs.declared.stores.Store.{Ghosts}
use Rattle.rules.specs.Cells.{Event}
use Rattle.rules.specs.Laws.{cleared_told, is_returned, laid_told, late_told, overdrawn_told}
use Rattle.rules.specs.Promises.{Promise, moments}
use Rattle.rules.specs.Runs.{bit, count, total}
use Rattle.rules.specs.Switch.{Behind, Gauged, State, new_state}
use Rattle.rules.specs.Twins.{Alike}
use Rattle.switch.specs.Answers.{gauged}
use Rattle.switch.specs.Switches as switch
use Rattle.switch.specs.declared.switches.starts.Settings.{Settings}
use Rattle.runs.specs.Turns.{AllMade, answered, asked}
use Rattle.runs.specs.declared.turns.Ended.{Ended}
use Rattle.runs.specs.declared.turns.Turn.{Turn}

-- a run as it is seen from outside: what stood behind the switch; the turns before and after the run; what Standing and Gauge answered at its end; which cells the store then had free; the state that the switch was then in
pub record View : Type 0 where
  pub behind : Behind
  pub before : List Turn
  pub after : List Turn
  pub standing : List (List ℕ)
  pub gauges : List Gauged
  pub marks : List Bool
  pub state : State

-- this view of a run, from what it was given and what it left
abbrev pub view : {S P R F : Type 0} {store : Ghosts S} → Behind → List Turn → List Turn → Ended S P R F store → View
view b before after e = record { behind = b; before = before; after = after; standing = e.standing; gauges = map gauged e.gauges; marks = switch.cells e.switch; state = switch.state e.switch }

-- the state that New leaves
abbrev pub started : Settings → State
started s = new_state s.slot s.number s.bucket.rate s.bucket.depth

-- the sum of a list
abbrev pub sum : List ℕ → ℕ
sum [] = 0
sum (n ∷ ns) = n + sum ns

-- what is promised of a run with these settings
pub record Statement (settings : Settings) (v : View) : Type 0 where
  -- the events of the run: for each call the states around it, its answer, and which cells the store had free before and after it
  pub events : List Event
  -- account, cells, admission, slots and order hold of them; they are the calls that the turns ask for
  pub promise : Promise v.behind settings.slot settings.number settings.bucket.rate settings.bucket.depth (map asked v.before) events v.marks v.state
  -- they are the turns, all of them and in their order, with the answers and buffers that were written into them
  pub turns : AllMade v.before (moments events) v.after
  -- laid in = sent + late + overdrawn + cleared + queued + out, by what the calls answered, and Standing and Gauge at the end
  pub sums : total laid_told (moments events) ≡ count is_returned (moments events) + total late_told (moments events) + total overdrawn_told (moments events) + total cleared_told (moments events) + sum (map sum v.standing) + total (λ g. bit (is_some g.out)) v.gauges

-- what is promised of two runs with the same settings, each over a store and kinds of its own
pub record Twins (settings : Settings) (v w : View) : Type 0 where
  pub one : Statement settings v
  pub two : Statement settings w
  -- where plan, rule and forwarding mean the same, and the turns ask for the same, every call is answered the same: answers, refusals and whole buffers
  pub alike : Alike v.behind w.behind → map asked v.before ≡ map asked w.before → map answered v.after ≡ map answered w.after
