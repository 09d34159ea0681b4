use Rattle.std.proofs.Common.{◌*◌}
use Rattle.buffers.proofs.Places.{same_in_part}
use Rattle.buffers.proofs.memories.Memory.new.Goals as goal

pub returns : goal.returns
returns c = λ cell n i. same_in_part 0 n (cell * 1536) 49152 i
