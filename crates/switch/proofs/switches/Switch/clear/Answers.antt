use Rattle.std.proofs.Common.{◌≡◌, ℕ, ◌+◌, [], length, is_some, None, sym, refl, ap, ◌∙◌, arith, length-append}
use mir.Val.{bool_byte}
use Rattle.std.specs.Option.{option_to_list}
use Rattle.buffers.specs.Holdings.{changed}
use Rattle.frame.specs.Numbers.{port_number}
use Rattle.frame.specs.Refusals.{accepted}
use Rattle.rules.specs.Copies.{Egress, copies_at, queued_at, with_out}
use Rattle.rules.specs.Switch.{State, clear_answer}
use Rattle.rules.proofs.Checks.{leaves_state, named_is, port_passes}
use Rattle.egress.proofs.Changes.{changed_then, port_after}
use Rattle.egress.proofs.Emptied.{bit_few, out_counts, queued_few}
use Rattle.switch.specs.Switches.{state}
use Rattle.egress.specs.Ports.{unqueued}
use Rattle.switch.proofs.switches.Switch.clear.Goals as goal

pub overflow_add-result : goal.overflow_add-result
overflow_add-result g c =
    omega (arith, c.end_queues-queued.ensures.answer 0, queued_few c.args.self.now.pool.buffers 0 (port_number c.in_ok-port.port), c.from.ensures, bit_few c.end_out-out.result)

pub returns : goal.returns
returns g c =
    let s : State = state c.args.self.now in
    let p : ℕ = port_number c.in_ok-port.port in
    let named = named_is c.args.port p c.in_ok-port.ensures in
    let e : Egress = s.port p in
    let queues = c.end_queues-queued.ensures in
    let out = c.end_out-out.ensures in
    let both = changed_then queues.change out.change in
    let out-is : c.from.result ≡ length (option_to_list e.out) =
    c.from.ensures ∙ ap bool_byte (out.answer s.depth ∙ ap (λ x. is_some x.out) (port_after queues.change s.depth)) ∙ out_counts e.out in
    let count : c.end_queues-queued.result + c.from.result ≡ length (copies_at (s.port c.args.port)) =
    omega (arith, queues.answer s.depth, out-is, length-append (queued_at e) (option_to_list e.out), ap (λ q. length (copies_at (s.port q))) named.1) in
    let answer : clear_answer s c.args.port ≡ accepted (length (copies_at (s.port c.args.port))) = port_passes c.args.port [] _ named.0 in
    record {
      answer = ap accepted count ∙ sym answer;
      state =
          (λ i. record { slot = s.slot; next = both.number i; rate = s.rate; depth = s.depth; port = (both.state s.depth ∙ (λ j. changed s.port (named.1 j) (λ x. with_out (unqueued x) None))) i })
          ∙ leaves_state (clear_answer s c.args.port) (length (copies_at (s.port c.args.port))) s _ answer;
      kinds = refl;
      contents = both.cells;
      kept = tt;
    }
