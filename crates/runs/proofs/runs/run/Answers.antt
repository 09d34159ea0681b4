use Rattle.std.proofs.Common.{◌≡◌, ℕ, ◌<◌, ◌≤◌, [], length, get_or, vec_items, sym, refl, ap, ◌∙◌, subst, arith}
use Rattle.frame.specs.Refusals.{accepted}
use Rattle.rules.specs.Laws.{Lawful}
use Rattle.rules.specs.Switch.{Behind, new_checks, numbers}
use Rattle.rules.proofs.Checks.{passed}
use Rattle.switch.specs.Switches.{behind, meant, state}
use Rattle.switch.specs.declared.switches.Kinds.{Kinds}
use Rattle.runs.proofs.Finished.{all_addressed, finished}
use Rattle.runs.proofs.Underway.{Answering, as_started, called_so, made_so, underway_as, underway_new, underway_on}
use Rattle.runs.specs.Statement.{started}
use Rattle.runs.specs.declared.turns.Turn.{Turn}
use Rattle.runs.proofs.runs.run.Given as given
use Rattle.runs.proofs.runs.run.Goals as goal

-- the laws of the plan and of the rule
lawful : (g : given.Over) (k : Kinds g.row.P.Denot g.row.R.Denot g.row.F.Denot) → Lawful (meant g.P.Plan.fills g.P.Plan.opens g.R.Rule.floors g.F.Forwarding.forwards k)
lawful g k = record { pair = g.met.P.Plan.pair k.plan; turns = g.met.P.Plan.turns k.plan; floor = (g.met.R.Rule.fair k.rule).time_sensitive }

pub loop-turn-init : goal.loop-turn-init
loop-turn-init g c =
    let switch = c.in_ok-switch.switch in
    let new = c.in_ok-switch.ensures in
    (underway_new switch switch.slot.within (g.met.S.Store.wide switch.pool.store) new.cells (as_started switch c.args.settings new.answer), refl)

pub loop-turn-preserved : goal.loop-turn-preserved
loop-turn-preserved g c =
    let b : Behind = behind g.P.Plan.fills g.P.Plan.opens g.R.Rule.floors g.F.Forwarding.forwards c.in_ok-switch.switch in
    let here : Behind = behind g.P.Plan.fills g.P.Plan.opens g.R.Rule.floors g.F.Forwarding.forwards c.loop-turn.switch in
    let same : here ≡ b = ap (meant g.P.Plan.fills g.P.Plan.opens g.R.Rule.floors g.F.Forwarding.forwards) c.loop-turn.invariant.1 in
    let now = c.loop-turn.turns in
    let i : ℕ = c.loop-turn.turn-index in
    let t : Turn = get_or now i c.turn-item.result in
    let make = c.make.ensures in
    let step : Answering here c.loop-turn.switch c.make.new.self t.call c.make.result c.as_mut_slice.result.now c.make.new.buffer =
    record { answer = make.answer; buffer = make.buffer; state_is = make.state; contents_are = make.contents; kept = make.kept; addressed = make.addressed } in
    let step-at : Answering b c.loop-turn.switch c.make.new.self t.call c.make.result (vec_items t.buffer) c.make.new.buffer =
    subst (λ x. Answering x c.loop-turn.switch c.make.new.self t.call c.make.result (vec_items t.buffer) c.make.new.buffer) same (subst (λ x. Answering here c.loop-turn.switch c.make.new.self t.call c.make.result x c.make.new.buffer) c.as_mut_slice.ensures.value step) in
    let low : i < length now = omega arith in
    let long : length c.make.new.buffer ≡ t.buffer.len = omega (arith, c.make.auto.buffer, c.as_mut_slice.ensures.len) in
    (underway_on (lawful g c.in_ok-switch.switch.kinds) c.loop-turn.invariant.0 low t (ap (get_or now i) (sym c.turn-item.is)) c.make.new.self _ (g.met.S.Store.wide c.make.new.self.pool.store) (made_so t step-at long) (called_so t step-at), make.kinds ∙ c.loop-turn.invariant.1)

pub returns : goal.returns
returns g c =
    let switch = c.in_ok-switch.switch in
    let new = c.in_ok-switch.ensures in
    let settings = c.args.settings in
    let before = c.args.turns.now in
    let now = c.loop-turn.turns in
    let is : state switch ≡ started settings = (passed (new_checks settings.slot settings.number) [] (state switch) (started settings) settings new.answer).0 in
    let b : Behind = meant g.P.Plan.fills g.P.Plan.opens g.R.Rule.floors g.F.Forwarding.forwards c.args.kinds in
    let same : behind g.P.Plan.fills g.P.Plan.opens g.R.Rule.floors g.F.Forwarding.forwards switch ≡ b = ap (meant g.P.Plan.fills g.P.Plan.opens g.R.Rule.floors g.F.Forwarding.forwards) new.kinds in
    let under = underway_as same (ap (λ x. x.slot) is) (ap (λ x. x.next) is) (ap (λ x. x.rate) is) (ap (λ x. x.depth) is) c.loop-turn.invariant.0 in
    let done : length before ≤ c.loop-turn.turn-index = omega (arith, c.loop-turn.auto.turns) in
    let all : length now ≤ c.loop-turn.turn-index = omega arith in
    record {
      answer = ap accepted (sym is) ∙ new.answer;
      statement = finished settings under done all (lawful g c.args.kinds) (subst (λ n. n < numbers) (ap (λ x. x.slot) is) switch.slot.within) c.standing.result c.gauge_all.result c.standing.ensures c.gauge_all.ensures;
      standing = c.standing.ensures;
      gauges = c.gauge_all.ensures;
      kinds = c.loop-turn.invariant.1 ∙ new.kinds;
      addressed = all_addressed settings under done all;
      kept = tt;
    }
