use Rattle.std.proofs.Common.{◌<◌, true, set, w32, ap, ◌∙◌, arith}
use Rattle.std.specs.Bool.{◌==◌}
use Rattle.std.proofs.lemmas.Nat.Bits.{bit_at_set_same, bit_at_set_other}
use Rattle.cells.specs.Masks.{digits}
use Rattle.cells.specs.Digits.{digits_but_one}
use Rattle.cells.specs.Marks.{back_made}
use Rattle.cells.proofs.Granting.{held_told}
use Rattle.cells.proofs.masks.MaskStore.give_back.Goals as goal

pub returns : goal.returns
returns c =
    let n = c.args.self.now.bits in
    let k = c.args.cell.0 in
    let found = held_told (digits 32 n) k _ c.in_ok-held.ensures in
    let j = c.index.result in
    let within : j < 32 = omega (arith, c.index.ensures, c.in_ok-held.held.within) in
    let put = digits_but_one 32 n _ j true within (ap (λ b. b == 1) (bit_at_set_same w32 n j within)) (λ i l other. bit_at_set_other w32 n j within i other) in
    record { answer = back_made (digits 32 n) _ k found.1 (put ∙ ap (λ i. set (digits 32 n) i true) (c.index.ensures ∙ found.0)) }
