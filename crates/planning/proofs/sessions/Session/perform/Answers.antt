use Rattle.std.proofs.Common.{◌≡◌, Ok, Err, Result, sym, ap}
use Rattle.std.specs.Result.{MatchResult}
use Rattle.frame.specs.Refusals.{told}
use Rattle.frame.specs.declared.refusals.Refusal.{Refusal}
use Rattle.lines.specs.Outcomes.{outcome}
use Rattle.lines.specs.declared.outcomes.Outcome.{Outcome}
use Rattle.lines.specs.declared.outcomes.Outcome.TheVariants.{Refused}
use Rattle.planning.specs.Schedules.{by_answer}
use Rattle.planning.proofs.Performances.{performed_as, performed_call, performed_none}
use Rattle.planning.proofs.sessions.Session.perform.Goals as goal
use Rattle.planning.proofs.sessions.Session.perform.Goals.{in-Arrive, in-Tick, in-Send, in-Clear}

pub returns-in-New : goal.returns-in-New
returns-in-New g c = performed_as _ _ _ _ _ _ c.in-New.is (performed_none _ _)

-- what a call came to, or its refusal
came_to : (r : Result Outcome Refusal) (o : Outcome) {P : Refusal → Type 0} → MatchResult r (λ x. o ≡ x) P → ((e : Refusal) → P e → o ≡ Refused e) → by_answer (λ x. x) (told outcome r) ≡ outcome o
came_to (Ok x) o is or = ap outcome (sym is)
came_to (Err e) o is or = ap outcome (sym (or e is))

pub returns : goal.returns
returns g c =
    let came = came_to c.match-asked.performed c.unwrap_or_else.result c.unwrap_or_else.ensures (λ e h. h) in
    elim c.match-asked.branch [
      | in-Arrive w ↦ performed_call _ w.in-Arrive.is w.self-is w.performed-is came w.arrive-performed.ensures
      | in-Tick w ↦ performed_call _ w.in-Tick.is w.self-is w.performed-is came w.tick-performed.ensures
      | in-Send w ↦ performed_call _ w.in-Send.is w.self-is w.performed-is came w.send-performed.ensures
      | in-Clear w ↦ performed_call _ w.in-Clear.is w.self-is w.performed-is came w.clear-performed.ensures
    ]
