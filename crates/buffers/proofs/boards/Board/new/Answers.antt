use Rattle.std.proofs.Common.{◌≡◌, ℕ, ◌<◌, get_or, replicate, ap, ◌∙◌, rules}
use Rattle.buffers.specs.Lines.{empty_line, line}
use Rattle.buffers.proofs.FourPorts.{four_lines}
use Rattle.buffers.proofs.Places.{same_everywhere}
use Rattle.buffers.proofs.boards.Board.new.Goals as goal

pub returns : goal.returns
returns c =
    let made = c.map.ensures.items in
    let some = made.each.2 in
    let t = c.args.tokens in
    let each : (n : ℕ) → n < 4 → line (get_or c.map.result n some) ≡ empty_line (get_or (replicate 4 t) n t) = λ n low. let called = made.at n t some low in search rules in
    four_lines c.map.result some t (search rules) (λ n low. each n low ∙ ap empty_line (same_everywhere 4 t n))
