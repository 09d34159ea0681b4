use Rattle.buffers.proofs.Filling.{none_known}
use Rattle.buffers.proofs.Places.{same_everywhere}
use Rattle.buffers.specs.Kept.{frame_with, nothing_kept}
use Rattle.buffers.proofs.frames.Frames.new.Goals as goal

pub invariant_of-result : goal.invariant_of-result
invariant_of-result c = none_known c.new.result _ (same_everywhere 32 nothing_kept) c.args.first c.requires

pub returns-clause-state : goal.returns-clause-state
returns-clause-state c = λ i q. frame_with c.new.result q (same_everywhere 32 nothing_kept q i)
