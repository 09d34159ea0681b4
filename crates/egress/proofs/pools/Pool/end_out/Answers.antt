use Rattle.std.proofs.Common.{None, sym, ◌∙◌}
use Rattle.buffers.specs.Holdings.{free}
use Rattle.rules.specs.Copies.{with_out}
use Rattle.egress.proofs.Cells.{agree_moved}
use Rattle.egress.proofs.Changes.{changed_ended}
use Rattle.egress.proofs.pools.Pool.end_out.Goals as goal

pub invariant_of-self : goal.invariant_of-self
invariant_of-self g c =
    let pool = c.args.self.now in
    let ended = c.end_out-ended.ensures in
    record { agree = agree_moved _ _ _ (sym ended.cells) (c.release.ensures.cells (free pool.buffers) pool.agree ended.held) }

pub returns : goal.returns
returns g c =
    let ended = c.end_out-ended.ensures in
    record {
      answer = λ d. c.release.ensures.answer ∙ ended.answer d;
      change = changed_ended (λ e. with_out e None) ended.state ended.kept c.end_out-ended.result ended.cells;
    }
