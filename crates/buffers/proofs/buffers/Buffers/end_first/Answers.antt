use Rattle.std.proofs.Common.{Some, sym, refl, ap, ◌∙◌, subst}
use Rattle.buffers.proofs.Changes.{first_leaves, first_view}
use Rattle.buffers.proofs.Counts.{unused}
use Rattle.buffers.proofs.Leaving.{is_counted, left_free, left_sound}
use Rattle.buffers.proofs.Soundness.{Sound}
use Rattle.buffers.specs.Boards.{lines}
use Rattle.buffers.specs.Endings.{freed}
use Rattle.buffers.specs.Holdings.{frame_at, free}
use Rattle.buffers.proofs.buffers.Buffers.end_first.Goals as goal

pub invariant_of-self : goal.invariant_of-self
invariant_of-self c =
    left_sound (first_leaves c.args.self.now c.args.port c.args.queue _ (sym c.in_err-first.was ∙ c.pop.ensures.answer)) c.pop.new.self c.pop.ensures.state

pub returns-in_err-first-clause-state : goal.returns-in_err-first-clause-state
returns-in_err-first-clause-state c = first_view c.args.self.now c.args.port c.args.queue c.pop.new.self c.pop.ensures.state

pub uncount-requires : goal.uncount-requires
uncount-requires c =
    is_counted (first_leaves c.args.self.now c.args.port c.args.queue _ (sym c.in_ok-first.was ∙ c.pop.ensures.answer)) _ refl

pub invariant_of-self-2 : goal.invariant_of-self-2
invariant_of-self-2 c =
    let b = c.args.self.now in
    let left = first_leaves b c.args.port c.args.queue _ (sym c.in_ok-first.was ∙ c.pop.ensures.answer) in
    subst (Sound (lines c.pop.new.self) (frame_at b)) (sym c.uncount.ensures.state) (left_sound left c.pop.new.self c.pop.ensures.state)

pub returns-clause-state : goal.returns-clause-state
returns-clause-state c = first_view c.args.self.now c.args.port c.args.queue c.pop.new.self c.pop.ensures.state

pub returns-clause-cells : goal.returns-clause-cells
returns-clause-cells c =
    let b = c.args.self.now in
    ap unused c.uncount.ensures.state
    ∙ left_free (first_leaves b c.args.port c.args.queue _ (sym c.in_ok-first.was ∙ c.pop.ensures.answer))
    ∙ sym (ap (λ r. freed (Some r) (free b)) c.uncount.ensures.answer)
