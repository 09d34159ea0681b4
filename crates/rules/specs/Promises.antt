-- What is promised of a list of calls on a new switch, whoever makes them. Assumes nothing.
use Rattle.std.specs.Prelude.{◌≡◌, ℕ, Bool, List, map}
use Rattle.rules.specs.Switch.{Behind, State, new_state}
use Rattle.rules.specs.Runs.{Call, Moment, last, run}
use Rattle.rules.specs.Laws.{Account, Slots}
use Rattle.rules.specs.Cells.{Cells, Event}

-- the moments of these events
abbrev pub moments : List Event → List Moment
moments = map (λ e. e.moment)

-- the switch was new, with these settings, over this plan, rule and forwarding (b); these calls were made, and nothing else touched it; these are the events, the store's marks and the state at the end
pub record Promise (b : Behind) (slot number rate depth : ℕ) (calls : List Call) (events : List Event) (marks : List Bool) (t : State) : Type 0 where
  -- the events are these calls, all of them and in order, and each does what the definition says on what the one before it left
  pub made : moments events ≡ run b (new_state slot number rate depth) calls
  pub state : t ≡ last b (new_state slot number rate depth) calls
  -- every copy of a frame is accounted for
  pub account : Account slot number (moments events) t
  -- the cells of the store are accounted for, and decide who is admitted
  pub cells : Cells events marks t
  -- what happens in which slot and in which order, and what Look shows
  pub slots : Slots slot number (moments events) t
