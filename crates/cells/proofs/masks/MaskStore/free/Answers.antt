use Rattle.std.proofs.Common.{arith}
use Rattle.cells.specs.Digits.{digits_count}
use Rattle.cells.proofs.masks.MaskStore.free.Goals as goal

pub returns : goal.returns
returns c = record { answer = digits_count 32 c.args.self.now.bits (omega arith) }
