use Rattle.cells.specs.Digits.{digits_all}
use Rattle.cells.proofs.masks.MaskStore.fresh.Goals as goal

pub returns : goal.returns
returns c = record { answer = digits_all }
