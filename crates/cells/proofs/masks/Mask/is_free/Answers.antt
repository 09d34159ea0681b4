use Rattle.std.proofs.Common.{sym, ap, ◌∙◌, arith}
use Rattle.cells.specs.Digits.{digit_is}
use Rattle.cells.specs.Stores.{free_at}
use Rattle.cells.specs.Masks.{digits}
use Rattle.cells.proofs.masks.Mask.is_free.Goals as goal

pub returns : goal.returns
returns c =
    let n = c.args.self.now.bits in
    sym (digit_is 32 n c.index.result (omega arith)) ∙ ap (free_at (digits 32 n)) c.index.ensures
