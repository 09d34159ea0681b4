use Rattle.std.proofs.Common.{◌≡◌, ℕ, [], ◌∷◌, length, None, sym, ap, ◌∙◌}
use Rattle.std.specs.Option.{option_map}
use Rattle.buffers.proofs.Changes.{mapped_none}
use Rattle.buffers.specs.Sent.{copy_sent}
use Rattle.frame.specs.Numbers.{port_number, queue_number}
use Rattle.frame.specs.Refusals.{accepted}
use Rattle.rules.specs.Copies.{Taking, put, take_at}
use Rattle.rules.specs.Switch.{Behind, State, Took, busy, judged, port_taking, take_answer, with_ports}
use Rattle.rules.proofs.Checks.{leaves_state, named_is, port_passes}
use Rattle.switch.specs.Switches.{behind, state}
use Rattle.switch.proofs.switches.Switch.take.Goals as goal

pub returns-clause-state : goal.returns-clause-state
returns-clause-state g c =
    let now = c.args.self.now in
    let b : Behind = behind g.P.Plan.fills g.P.Plan.opens g.R.Rule.floors g.F.Forwarding.forwards now in
    let s : State = state now in
    let p : ℕ = port_number c.in_ok-place.place in
    let named = named_is c.args.port p c.in_ok-place.ensures in
    let gates = c.of-gates.ensures in
    let take = c.take_at-taking.ensures.change in
    let taking : Taking = port_taking b s c.args.port in
    -- the gates of the slot, at the port that was named
    let is : take_at (queue_number c.of-gates.result.sending) c.of-gates.result.paid c.of-gates.result.best_effort (s.port p) ≡ taking =
    λ i. take_at (gates.sending i) (gates.paid i) (gates.best_effort i) (s.port (named.1 i)) in
    let here : Took = record { ticket = option_map (λ x. record { port = c.args.port; number = x.number; length = length x.bytes }) taking.taken; overdrawn = taking.overdrawn } in
    let idle : (s.port c.args.port).out ≡ None = ap (λ q. (s.port q).out) (sym named.1) ∙ mapped_none copy_sent (s.port p).out (sym (c.in_default.ensures s.depth)) in
    let answer : take_answer b s c.args.port ≡ accepted here = port_passes c.args.port (busy (s.port c.args.port).out ∷ []) here named.0 ∙ ap (λ o. judged (busy o ∷ []) here) idle in
    (λ i. record { slot = s.slot; next = take.number i; rate = s.rate; depth = s.depth; port = (take.state s.depth ∙ (λ j. put s.port (named.1 j) (is j).left)) i })
    ∙ leaves_state (take_answer b s c.args.port) here s (with_ports s (put s.port c.args.port taking.left)) answer
