-- What a switch stands for: its state and what stands behind it, by the definition, and its store's cells. Assumes nothing.
use Rattle.std.specs.Prelude.{ℕ, Bool, List, Option}
use Rattle.buffers.specs.Holdings as buffers
use Rattle.buffers.specs.Holdings.{egress, next_number}
use Rattle.cells.specs.declared.stores.Store.{Ghosts}
use Rattle.forwarding.specs.Ways.{Way}
use Rattle.frame.specs.Numbers.{slot_number}
use Rattle.rules.specs.Switch.{Behind, State}
use Rattle.switch.specs.declared.switches.Kinds.{Kinds}
use Rattle.switch.specs.declared.switches.Switch.{Switch}

-- what a plan, a rule and a forwarding mean, by the meanings of their kinds
abbrev pub meant : {P R F : Type 0} → (P → ℕ → ℕ) → (P → ℕ → ℕ → Bool) → (R → ℕ → ℕ) → (F → ℕ → ℕ → Way) → Kinds P R F → Behind
meant fills opens floors forwards k = record { fill = fills k.plan; opens = opens k.plan; floor = floors k.rule; forward = forwards k.forwarding }

module _ {S P R F : Type 0} {store : Ghosts S} where
  -- the state that the definition speaks of
  abbrev pub state : Switch S P R F store → State
  state s = record { slot = slot_number s.slot; next = next_number s.pool.buffers; rate = s.bucket.rate; depth = s.bucket.depth; port = egress s.bucket.depth s.pool.buffers }

  -- the plan, the rule and the forwarding
  abbrev pub kinds : Switch S P R F store → Kinds P R F
  kinds s = s.kinds

  -- what they mean, by the meanings of the kinds
  abbrev pub behind : (P → ℕ → ℕ) → (P → ℕ → ℕ → Bool) → (R → ℕ → ℕ) → (F → ℕ → ℕ → Way) → Switch S P R F store → Behind
  behind fills opens floors forwards s = meant fills opens floors forwards s.kinds

  -- the store
  abbrev pub store_of : Switch S P R F store → S
  store_of s = s.pool.store

  -- the marks of the store, by its kind
  abbrev pub cells : Switch S P R F store → List Bool
  cells s = store.marks s.pool.store

  -- what each cell holds: the number of a frame that has a copy, or nothing where it is free
  abbrev pub contents : Switch S P R F store → ℕ → Option ℕ
  contents s = buffers.contents s.pool.buffers
