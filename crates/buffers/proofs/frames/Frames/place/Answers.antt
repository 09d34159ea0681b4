use Rattle.std.proofs.Common.{◌+◌, length, set, sym, refl, ap, ◌∙◌, subst, arith}
use Rattle.frame.specs.Numbers.{cell_number}
use Rattle.frame.specs.Classes.{class_number}
use Rattle.rules.specs.Copies.{cost, put}
use Rattle.buffers.proofs.Filling.{Known, frames_placed, placed_known}
use Rattle.buffers.specs.Frames.{held}
use Rattle.buffers.specs.Kept.{frame_in, kept_at}
use Rattle.buffers.specs.declared.frames.Kept.{Kept}
use Rattle.buffers.proofs.frames.Frames.place.Goals as goal

pub invariant_of-self : goal.invariant_of-self
invariant_of-self c =
    let f = c.args.self.now in
    let k : Kept = record { number = record { 0 = f.next }; length = length c.args.frame.now; class = c.args.class; cost = c.cost_of.result } in
    let own = c.write.ensures.own in
    subst
    (λ n. Known c.write.new.self (kept_at (set f.kept n k)) (f.next + 1))
    (sym c.index.ensures)
    (placed_known f c.write.new.self (cell_number c.args.cell) k c.write.ensures.others c.requires.some c.requires.short refl c.requires.numbers (c.cost_of.ensures ∙ ap (λ bytes. cost (record { number = 0; class = class_number c.args.class; bytes = bytes })) (sym own)) (ap length own) (omega arith))

pub returns-clause-state : goal.returns-clause-state
returns-clause-state c =
    let f = c.args.self.now in
    let k : Kept = record { number = record { 0 = f.next }; length = length c.args.frame.now; class = c.args.class; cost = c.cost_of.result } in
    (λ i. frame_in c.write.new.self (set f.kept (c.index.ensures i) k))
    ∙ frames_placed f c.write.new.self (cell_number c.args.cell) k c.write.ensures.others (omega arith)
    ∙ (λ i. put (held f) (cell_number c.args.cell) (record { number = f.next; class = class_number c.args.class; bytes = c.write.ensures.own i }))
