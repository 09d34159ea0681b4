use Rattle.std.proofs.Common.{◌≡◌, sym, ap, ◌∙◌, arith}
use Rattle.std.proofs.lemmas.Bool.{cond-false, cond-true, not_from_false, not_from_true}
use Rattle.cells.specs.Rules.{admitted}
use Rattle.frame.specs.Classes.{class_number}
use Rattle.frame.specs.Frames.{class}
use Rattle.frame.specs.Numbers.{address_bits, port_number, set_bits}
use Rattle.frame.specs.Refusals.{accepted, refused}
use Rattle.rules.specs.Switch.{Behind, State, free}
use Rattle.switch.proofs.Admitted.{Until, until}
use Rattle.switch.proofs.Tied.{tied}
use Rattle.switch.specs.Switches.{behind, state}
use Rattle.switch.proofs.switches.Switch.admit.Goals as goal
use Rattle.switch.proofs.switches.Switch.admit.Goals.{After-admits}

module _ (g : _) (c : After-admits g) where
  abbrev means : Behind
  means = behind g.P.Plan.fills g.P.Plan.opens g.R.Rule.floors g.F.Forwarding.forwards c.args.self.now

  abbrev stands : State
  stands = state c.args.self.now

  -- what the checks before the last one gave
  so_far : Until means stands c.args.port c.args.bytes.now (port_number c.in_ok-heading.heading.input) (address_bits c.in_ok-heading.heading.destination) (class_number c.in_ok-heading.heading.class) (set_bits c.in_ok-ports.ports)
  so_far = until means stands c.args.port c.args.bytes.now _ _ _ _ c.in_ok-heading.ensures (omega (arith, c.next.ensures, c.if-next-ge-NUMBERS.false)) c.in_ok-ports.ensures

  -- whether the last one holds is what the rule says
  last : admitted (means.floor (class c.args.bytes.now)) (free stands) ≡ c.admits.result
  last =
      sym (λ i. admitted (means.floor (so_far.class_is i)) ((c.free.ensures.answer ∙ (tied c.args.self.now (g.met.S.Store.wide c.args.self.now.pool.store)).count) i))
      ∙ sym c.admits.ensures

pub returns-then-not-admits : goal.returns-then-not-admits
returns-then-not-admits g c =
    let at = (goal.at.returns-then-not-admits g c).After-admits in
    let way = so_far g at in
    ap (refused 6) way.class_is ∙ sym (way.checks _ ∙ cond-true _ _ _ (not_from_false _ (last g at ∙ c.if-not-admits.true)))

pub returns : goal.returns
returns g c =
    let at = (goal.at.returns g c).After-admits in
    let way = so_far g at in
    (λ i. accepted (way.class_is i, way.set_is i)) ∙ sym (way.checks _ ∙ cond-false _ _ _ (not_from_true _ (last g at ∙ c.if-not-admits.false)))
