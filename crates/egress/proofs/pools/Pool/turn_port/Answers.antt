use Rattle.std.proofs.Common.{ℕ, [], sym, ap, ◌∙◌}
use Rattle.buffers.specs.Holdings.{egress}
use Rattle.frame.specs.Numbers.{port_number, queue_number}
use Rattle.rules.specs.Copies.{Egress, refilled, with_queue, with_tokens}
use Rattle.egress.proofs.Cells.{agree_moved}
use Rattle.egress.proofs.Changes.{changed_kept, changed_so, changed_then, port_after}
use Rattle.egress.proofs.pools.Pool.turn_port.Goals as goal

pub invariant_of-self : goal.invariant_of-self
invariant_of-self g c = record { agree = agree_moved _ _ _ (sym c.set_tokens.ensures.cells) c.end_queue-late.new.self.agree }

pub returns : goal.returns
returns g c =
    let k : ℕ = queue_number c.args.queue in
    let before : ℕ → Egress = λ d. egress d c.args.self.now.buffers (port_number c.args.port) in
    let ended = c.end_queue-late.ensures in
    let set = c.set_tokens.ensures in
    let tokens = λ (d : ℕ). c.refill-tokens.ensures ∙ ap (refilled c.args.bucket.rate c.args.bucket.depth) (c.tokens.ensures d ∙ ap (λ e. e.tokens) (port_after ended.change d)) in
    record {
      answer = ended.answer;
      change = changed_so (changed_then ended.change (changed_kept (λ e. with_tokens e c.refill-tokens.result) set.state set.kept set.cells)) (λ d i. with_tokens (with_queue (before d) k []) (tokens d i));
    }
