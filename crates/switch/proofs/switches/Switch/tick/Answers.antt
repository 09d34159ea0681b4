use Rattle.std.proofs.Common.{◌≡◌, ◌+◌, leb, length, sym, ap, ◌∙◌, rules}
use Rattle.std.proofs.lemmas.Bool.{cond-false, lt-leb}
use Rattle.buffers.specs.Holdings.{egress}
use Rattle.frame.specs.Numbers.{queue_number, slot_number}
use Rattle.frame.specs.Refusals.{accepted, refused}
use Rattle.rules.specs.Switch.{Behind, State, Ticked, late_copies, numbers, over_ports, tick_answer, tick_port}
use Rattle.rules.proofs.Checks.{leaves_state, next_is}
use Rattle.egress.proofs.Each.{each_all, turned_empty}
use Rattle.egress.specs.Ports.{each_port, turned}
use Rattle.switch.specs.Switches.{behind, state}
use Rattle.switch.proofs.switches.Switch.tick.Goals as goal

pub returns : goal.returns
returns g c =
    let before = c.args.self.now in
    let b : Behind = behind g.P.Plan.fills g.P.Plan.opens g.R.Rule.floors g.F.Forwarding.forwards before in
    let s : State = state before in
    let slot = next_is s.slot (slot_number c.in_ok-slot.slot) c.in_ok-slot.ensures in
    let fills : queue_number c.fill-queue.result ≡ b.fill (s.slot + 1) = c.fill-queue.ensures ∙ ap b.fill slot.1 in
    let turn = c.turn_ports-late.ensures in
    let here : Ticked = record { slot = s.slot + 1; late = length (over_ports (late_copies b s)) } in
    let late : c.turn_ports-late.result ≡ length (over_ports (late_copies b s)) =
    turn.answer s.depth ∙ ap (λ j. length (over_ports (λ p. (s.port p).queue j))) fills in
    let answer : tick_answer b s ≡ accepted here = cond-false (leb numbers (s.slot + 1)) (refused 3 0) (accepted here) (lt-leb numbers (s.slot + 1) slot.0) in
    let ports : egress s.depth c.turn_ports-late.new.self.buffers ≡ tick_port b s =
    turn.state s.depth
    ∙ (λ i. each_port (λ p. turned (fills i) s.rate s.depth) 4 s.port)
    ∙ each_all (λ p. turned (b.fill (s.slot + 1)) s.rate s.depth) s.depth before.pool.buffers (λ p high. turned_empty _ s.rate s.depth) in
    record {
      answer = (λ i. accepted (record { slot = slot.1 i; late = late i })) ∙ sym answer;
      state =
          (λ i. record { slot = slot.1 i; next = turn.number i; rate = s.rate; depth = s.depth; port = ports i })
          ∙ leaves_state (tick_answer b s) here s _ answer;
      kinds = search rules;
      contents = search rules;
      kept = search rules;
    }
