-- A session: the planner's switch and buffer, in the definition's terms, and what performing calls on it means. Assumes nothing.
use Rattle.std.specs.Prelude.{◌≡◌, ℕ, Bool, List, ◌++◌}
use Rattle.cells.specs.Settings.{threshold_floors}
use Rattle.forwarding.specs.Ways.{Way}
use Rattle.gates.specs.Parities.{parity_fills, parity_opens}
use Rattle.lines.specs.Lines.{Outcome}
use Rattle.rules.specs.Runs.{Call, last, run}
use Rattle.rules.specs.Stories.{Story}
use Rattle.rules.specs.Switch.{Behind, State}
use Rattle.switch.specs.Switches as switch
use Rattle.planning.specs.Records.{buffer_left}
use Rattle.planning.specs.Schedules.{outcomes_of}
use Rattle.planning.specs.declared.sessions.Session.{Session}

module _ {F : Type 0} where
  abbrev pub state_in : Session F → State
  state_in s = switch.state s.switch

  abbrev pub buffer_in : Session F → List ℕ
  buffer_in s = s.buffer

  -- the cells that the session's store has free
  abbrev pub cells_in : Session F → List Bool
  cells_in s = switch.cells s.switch

  -- what stands behind its switch, by the meaning of the forwarding
  abbrev pub behind_in : (F → ℕ → ℕ → Way) → Session F → Behind
  behind_in forwards s = switch.behind (λ p. parity_fills) (λ p. parity_opens) threshold_floors forwards s.switch

  -- the session is under way: these calls were made since New, and nothing else touched its switch
  abbrev pub Underway : Behind → ℕ → ℕ → ℕ → ℕ → List Call → Session F → Type 0
  Underway b slot number rate depth calls s = Story b slot number rate depth calls (state_in s) (cells_in s) (switch.contents s.switch)

  -- these calls were performed: they came to these outcomes, and the session is as they leave it; a run that was under way goes on by them
  pub record Performed (b : Behind) (before : Session F) (calls : List Call) (outcomes : List Outcome) (after : Session F) : Type 0 where
    pub told : outcomes_of (run b (state_in before) calls) ≡ outcomes
    pub state : state_in after ≡ last b (state_in before) calls
    pub buffer : buffer_in after ≡ buffer_left b (buffer_in before) (run b (state_in before) calls)
    pub kinds : switch.kinds after.switch ≡ switch.kinds before.switch
    pub goes_on : (slot number rate depth : ℕ) (calls_before : List Call) → Underway b slot number rate depth calls_before before → Underway b slot number rate depth (calls_before ++ calls) after
