use Rattle.std.proofs.Common.{cond, eqb, ltb, replicate, refl}
use Rattle.buffers.proofs.Places.{same_everywhere}
use Rattle.buffers.proofs.Soundness.{new_sound}
use Rattle.buffers.proofs.Views.{new_view}
use Rattle.buffers.specs.Boards.{lines}
use Rattle.buffers.specs.Frames.{held}
use Rattle.buffers.proofs.buffers.Buffers.new.Goals as goal

pub invariant_of-result : goal.invariant_of-result
invariant_of-result c =
    new_sound (lines c.new.result) (held c.new-2.result) (replicate 32 0) (λ p. cond (ltb p 4) c.args.tokens 0) c.new.ensures refl (same_everywhere 32 0)

pub returns-clause-state : goal.returns-clause-state
returns-clause-state c = new_view c.args.tokens (held c.new-2.result) (lines c.new.result) c.new.ensures

pub returns-clause-cells : goal.returns-clause-cells
returns-clause-cells c = λ i q. eqb (same_everywhere 32 0 q i) 0
