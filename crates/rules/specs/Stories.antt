-- A run that is under way: what leads from its calls so far on to the next one. Assumes nothing.
use Rattle.std.specs.Prelude.{◌≡◌, ℕ, ◌<◌, Bool, true, false, not, List, map, length, is_some, Some, Option, slice_set}
use Rattle.cells.specs.Stores.{all_free, cell_count, free_at, free_count}
use Rattle.rules.specs.Switch.{Behind, State, free, new_state, numbers}
use Rattle.rules.specs.Runs.{Call, last, run}
use Rattle.rules.specs.Laws.{is_arrived, refuses}
use Rattle.rules.specs.Cells.{Accounted, Throughout, Chained, Event, GrantedTo, HasCopy}

-- the marks show which cells hold a frame, a frame in a cell has a copy, and a frame with a copy is in a cell
pub record Tied (s : State) (marks : List Bool) (contents : ℕ → Option ℕ) : Type 0 where
  pub wide : length marks ≡ cell_count
  pub marked : (c : ℕ) → c < cell_count → free_at marks c ≡ not (is_some (contents c))
  pub copied : (c n : ℕ) → contents c ≡ Some n → (c < cell_count) × HasCopy s n
  pub housed : (n : ℕ) → HasCopy s n → (c : ℕ) × (contents c ≡ Some n)
  pub count : free_count marks ≡ free s

-- a run that is under way, its calls from New, where it stands now, and what leads on to the next call
pub record Story (b : Behind) (slot number rate depth : ℕ) (calls : List Call) (s : State) (marks : List Bool) (contents : ℕ → Option ℕ) : Type 0 where
  pub events : List Event
  pub moments : map (λ e. e.moment) events ≡ run b (new_state slot number rate depth) calls
  pub state : s ≡ last b (new_state slot number rate depth) calls
  pub small : s.slot < numbers
  -- the laws on the cells that speak of each event
  pub chain : Chained all_free events marks
  pub granted : Throughout events (λ past e. is_arrived e.moment ≡ true → (c : ℕ) × (c < cell_count) × (free_at e.found c ≡ true) × (e.left ≡ slice_set e.found c false))
  pub given_back : Throughout events (λ past e. is_arrived e.moment ≡ false → (c : ℕ) → c < cell_count → free_at e.found c ≡ true → free_at e.left c ≡ true)
  pub refused : Throughout events (λ past e. refuses e.moment.answer ≡ true → e.left ≡ e.found)
  pub before : Throughout events (λ past e. Accounted past e.found e.moment.before)
  -- what a cell holds was granted it, under a number that was used once
  pub tied : Tied s marks contents
  pub origin : (c n : ℕ) → contents c ≡ Some n → GrantedTo events n c
  pub young : (n c : ℕ) → GrantedTo events n c → n < s.next
  pub one : (n c d : ℕ) → GrantedTo events n c → GrantedTo events n d → c ≡ d
