-- Worked examples at the edges of the rules, of the very definitions that the contracts cite. Assumes nothing.
use Rattle.std.specs.Prelude.{◌≡◌, ℕ, ◌-◌, ◌^◌, true, false, List, [], ◌∷◌, slice_index}
use Rattle.cells.specs.Rules.{admitted, ladder_floors, floors_under}
use Rattle.forwarding.specs.Flows.{flow_of}
use Rattle.frame.specs.Frames.{class, outer_type}
use Rattle.frame.specs.Refusals.{refused}
use Rattle.gates.specs.GateLists.{list_fills}
use Rattle.gates.specs.Loads.{load_as}
use Rattle.rules.specs.Copies.{refilled}

pub record Edges : Type 0 where
  -- under the fixed ladder best effort is admitted at 4 free cells and not at 3,
  pub ladder_best_effort : (admitted (ladder_floors 0) 4 ≡ true) × (admitted (ladder_floors 0) 3 ≡ false)
  -- reserved at 3 and not at 2,
  pub ladder_reserved : (admitted (ladder_floors 1) 3 ≡ true) × (admitted (ladder_floors 1) 2 ≡ false)
  -- and time-sensitive at 1 and not at 0
  pub ladder_time_sensitive : (admitted (ladder_floors 3) 1 ≡ true) × (admitted (ladder_floors 3) 0 ≡ false)
  -- thresholds R 10 and B 4 make both floors 10, and 0 and 0 make both 1
  pub thresholds_10_4 : (floors_under 10 4 1 ≡ 10) × (floors_under 10 4 0 ≡ 10)
  pub thresholds_0_0 : (floors_under 0 0 1 ≡ 1) × (floors_under 0 0 0 ≡ 1)
  -- under the gate list 0x01, 0x02 queue 1 fills in slot 0; the list 0x01, 0x03 is refused at place 1
  pub list_fills_one : list_fills (0x01 ∷ 0x02 ∷ []) 0 ≡ 1
  pub list_refused : load_as (0x01 ∷ 0x03 ∷ []) ≡ refused 10 1
  -- the destination 2^31 is flow 1, and all ones is flow 16,383
  pub flow_one : flow_of (2 ^ 31) ≡ 1
  pub flow_last : flow_of (2 ^ 48 - 1) ≡ 16383
  -- a tagged frame with tag bytes 0x6000 is reserved, and with 0x5FFF best effort
  pub tag_6000 : (f : List ℕ) → outer_type f ≡ 0x8100 → slice_index f 14 ≡ 0x60 → slice_index f 15 ≡ 0x00 → class f ≡ 1
  pub tag_5FFF : (f : List ℕ) → outer_type f ≡ 0x8100 → slice_index f 14 ≡ 0x5F → slice_index f 15 ≡ 0xFF → class f ≡ 0
  -- 50 tokens at depth 200 and rate 100 are 150 after a Tick and 200 after two
  pub refill_once : refilled 100 200 50 ≡ 150
  pub refill_twice : refilled 100 200 (refilled 100 200 50) ≡ 200
