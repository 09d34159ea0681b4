-- The store's cells beside a run: which are free before and after each call, and to which frame each was granted. Assumes nothing.
use Rattle.std.specs.Prelude.{◌≡◌, ℕ, ◌+◌, ◌<◌, Bool, true, false, ◌⊎◌, ◌↔◌, List, [], ◌∷◌, ◌++◌, Some, None, Option, slice_set}
use Rattle.cells.specs.Stores.{all_free, cell_count, free_at, free_count}
use Rattle.rules.specs.Copies.{put}
use Rattle.rules.specs.Switch.{State, Arrived, free}
use Rattle.rules.specs.Runs.{Moment, arrived_in, queued, out_there}
use Rattle.rules.specs.Laws.{Admits, is_arrived, refuses}

-- x is one of the list xs, and these are the ones before it
abbrev pub Among : {A : Type 0} → List A → List A → A → Type 0
Among {A} xs past x = (future : List A) × (xs ≡ past ++ x ∷ future)

-- something holds of each one of the list xs and the ones before it
abbrev pub Throughout : {A : Type 0} → List A → (List A → A → Type 0) → Type 0
Throughout {A} xs P = (past : List A) (x : A) → Among xs past x → P past x

-- what each cell holds: the number of a frame that has a copy, or nothing where the cell is free.
-- A call that lets no frame in leaves every cell as it was, or free
abbrev pub OnlyFreed : (ℕ → Option ℕ) → (ℕ → Option ℕ) → Type 0
OnlyFreed before after = (c : ℕ) → (after c ≡ before c) ⊎ (after c ≡ None)

-- letting frame n in puts it into some cell that was free, and leaves every other cell as it was
abbrev pub LetIn : ℕ → (ℕ → Option ℕ) → (ℕ → Option ℕ) → Type 0
LetIn n before after = (c : ℕ) × (c < cell_count) × (before c ≡ None) × (after ≡ put before c (Some n))

-- which of the two happened, by what an Arrive was granted
abbrev pub ContentsAfter : Option Arrived → (ℕ → Option ℕ) → (ℕ → Option ℕ) → Type 0
ContentsAfter None before after = OnlyFreed before after
ContentsAfter (Some a) before after = LetIn a.number before after

-- a call of a run, and the store's marks before and after it: entry c is true where cell c is free
pub record Event : Type 0 where
  pub moment : Moment
  pub found : List Bool
  pub left : List Bool

-- the cells go from `first` to `last` by these events: each finds what the one before it left
abbrev pub Chained : List Bool → List Event → List Bool → Type 0
Chained first [] last = last ≡ first
Chained first (e ∷ es) last = (e.found ≡ first) × Chained e.left es last

-- cell c was granted to frame n: it was free before the Arrive that answered n, and not after it
pub record GrantedTo (es : List Event) (n c : ℕ) : Type 0 where
  pub past : List Event
  pub event : Event
  pub within : Among es past event
  pub answer : Arrived
  pub answered : arrived_in event.moment.answer ≡ Some answer
  pub number : answer.number ≡ n
  pub cell : c < cell_count
  pub was_free : free_at event.found c ≡ true
  pub now_taken : free_at event.left c ≡ false

-- frame n has a copy that is queued or out
abbrev pub HasCopy : State → ℕ → Type 0
HasCopy s n = (p : ℕ) × (p < 4) × (0 < queued n p s + out_there n p s)

-- after these events, with these marks, in this state:
pub record Accounted (es : List Event) (marks : List Bool) (s : State) : Type 0 where
  -- a cell is not free exactly if it was granted to a frame that has a copy queued or out
  pub taken : (c : ℕ) → c < cell_count → (free_at marks c ≡ false) ↔ ((n : ℕ) × GrantedTo es n c × HasCopy s n)
  -- two such frames never share a cell
  pub apart : (c n k : ℕ) → GrantedTo es n c → GrantedTo es k c → HasCopy s n → HasCopy s k → n ≡ k
  -- as many cells are free as 32 less the frames held
  pub count : free_count marks ≡ free s

-- what holds of the cells over a run: its events, the store's marks at the end, and the state at the end
pub record Cells (es : List Event) (marks : List Bool) (t : State) : Type 0 where
  -- at first every cell is free
  pub chain : Chained all_free es marks
  -- an accepted Arrive takes out one cell, which was free, and changes no other; no other call takes out any
  pub granted : Throughout es (λ past e. is_arrived e.moment ≡ true → (c : ℕ) × (c < cell_count) × (free_at e.found c ≡ true) × (e.left ≡ slice_set e.found c false))
  pub given_back : Throughout es (λ past e. is_arrived e.moment ≡ false → (c : ℕ) → c < cell_count → free_at e.found c ≡ true → free_at e.left c ≡ true)
  -- a refused call leaves the cells as they were
  pub refused : Throughout es (λ past e. refuses e.moment.answer ≡ true → e.left ≡ e.found)
  -- the cells are accounted for before each call, and at the end
  pub before : Throughout es (λ past e. Accounted past e.found e.moment.before)
  pub at_end : Accounted es marks t
  -- each Arrive admits by the cells that the store had free before it
  pub admission : Throughout es (λ past e. Admits (free_count e.found) e.moment)
