use Rattle.std.proofs.Common.{◌≡◌, ◌+◌, ◌-◌, ◌*◌, ◌≤◌, length, ap, ◌∙◌, arith}
use Rattle.buffers.proofs.Parts.{other_part}
use Rattle.buffers.proofs.memories.Memory.write.Goals as goal

pub returns-clause-others : goal.returns-clause-others
returns-clause-others c q n other =
    let xs = c.args.self.now.bytes in
    let at = c.index-at.result in
    let inside : at * 1536 ≤ length xs = omega (arith, c.index-at.ensures, c.args.cell.within) in
    let long : length c.copy_from_slice.new.self ≡ at * 1536 + length c.args.frame.now - at * 1536 = omega (arith, ap length c.copy_from_slice.ensures.after) in
    other_part xs c.copy_from_slice.new.self at _ inside long (omega (arith, c.requires)) q n (λ same. other (same ∙ c.index-at.ensures))
