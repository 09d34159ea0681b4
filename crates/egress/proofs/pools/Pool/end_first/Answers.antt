use Rattle.std.proofs.Common.{sym, ◌∙◌}
use Rattle.buffers.specs.Holdings.{first_gone, free}
use Rattle.frame.specs.Numbers.{queue_number}
use Rattle.egress.proofs.Cells.{agree_moved}
use Rattle.egress.proofs.Changes.{changed_ended}
use Rattle.egress.proofs.pools.Pool.end_first.Goals as goal

pub invariant_of-self : goal.invariant_of-self
invariant_of-self g c =
    let pool = c.args.self.now in
    let ended = c.end_first-ended.ensures in
    record { agree = agree_moved _ _ _ (sym ended.cells) (c.release.ensures.cells (free pool.buffers) pool.agree ended.held) }

pub returns : goal.returns
returns g c =
    let ended = c.end_first-ended.ensures in
    record {
      answer = λ d. c.release.ensures.answer ∙ ended.answer d;
      change = changed_ended (first_gone (queue_number c.args.queue)) ended.state ended.kept c.end_first-ended.result ended.cells;
    }
