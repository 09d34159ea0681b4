use Rattle.std.proofs.Common.{sym, ap, ◌∙◌}
use Rattle.std.specs.Option.{option_map}
use Rattle.buffers.specs.Holdings.{first_out}
use Rattle.frame.specs.Numbers.{queue_number}
use Rattle.buffers.specs.Sent.{copy_sent}
use Rattle.egress.proofs.Cells.{agree_moved}
use Rattle.egress.proofs.Changes.{changed_kept, port_after}
use Rattle.egress.proofs.pools.Pool.take_first.Goals as goal

pub invariant_of-self : goal.invariant_of-self
invariant_of-self g c = record { agree = agree_moved _ _ _ (sym c.take.ensures.cells) c.args.self.now.agree }

pub returns : goal.returns
returns g c =
    let take = c.take.ensures in
    let moved = changed_kept (first_out (queue_number c.args.queue)) take.state take.kept take.cells in
    record {
      answer = λ d. c.out.ensures d ∙ ap (λ e. option_map copy_sent e.out) (port_after moved d);
      change = moved;
    }
