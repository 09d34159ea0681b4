use Rattle.std.proofs.Common.{Some, sym, ap, ◌∙◌, subst}
use Rattle.buffers.proofs.Changes.{out_leaves, out_view}
use Rattle.buffers.proofs.Counts.{unused}
use Rattle.buffers.proofs.Leaving.{left_free, left_sound}
use Rattle.buffers.proofs.Soundness.{Sound}
use Rattle.buffers.specs.Boards.{lines}
use Rattle.buffers.specs.Endings.{freed}
use Rattle.buffers.specs.Holdings.{frame_at, free}
use Rattle.buffers.proofs.buffers.Buffers.end_out.Goals as goal

pub invariant_of-self : goal.invariant_of-self
invariant_of-self c =
    left_sound (out_leaves c.args.self.now c.args.port _ (sym c.in_err-sent.was ∙ c.take_out.ensures.answer)) c.take_out.new.self c.take_out.ensures.state

pub returns-in_err-sent-clause-state : goal.returns-in_err-sent-clause-state
returns-in_err-sent-clause-state c = out_view c.args.self.now c.args.port c.take_out.new.self c.take_out.ensures.state

pub invariant_of-self-2 : goal.invariant_of-self-2
invariant_of-self-2 c =
    let b = c.args.self.now in
    let left = out_leaves b c.args.port _ (sym c.in_ok-sent.was ∙ c.take_out.ensures.answer) in
    subst (Sound (lines c.take_out.new.self) (frame_at b)) (sym c.uncount.ensures.state) (left_sound left c.take_out.new.self c.take_out.ensures.state)

pub returns-clause-state : goal.returns-clause-state
returns-clause-state c = out_view c.args.self.now c.args.port c.take_out.new.self c.take_out.ensures.state

pub returns-clause-cells : goal.returns-clause-cells
returns-clause-cells c =
    let b = c.args.self.now in
    ap unused c.uncount.ensures.state
    ∙ left_free (out_leaves b c.args.port _ (sym c.in_ok-sent.was ∙ c.take_out.ensures.answer))
    ∙ sym (ap (λ r. freed (Some r) (free b)) c.uncount.ensures.answer)
