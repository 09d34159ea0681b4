use Rattle.std.proofs.Common.{◌≡◌}
use Rattle.rules.specs.Switch.{State}
use Rattle.switch.specs.Switches.{behind, kinds, state}
use Rattle.runs.proofs.Underway.{Underway}
use Rattle.runs.proofs.runs.run.Given as goal

-- the turns so far were made, from the new switch on, and its kinds are as they were
abbrev pub invariant-loop-turn : goal.invariant-loop-turn
invariant-loop-turn g l =
    let new : State = state l.initial.switch in
    Underway (behind g.P.Plan.fills g.P.Plan.opens g.R.Rule.floors g.F.Forwarding.forwards l.initial.switch) new.slot new.next new.rate new.depth l.initial.turns l.turns l.turn-index l.switch × (kinds l.switch ≡ kinds l.initial.switch)
