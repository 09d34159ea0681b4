use Rattle.std.proofs.Common.{◌≡◌, ◌+◌, ◌++◌, [], ◌∷◌, true, length, set, sym, ap, ◌∙◌, arith}
use Rattle.std.proofs.lemmas.List.{length_push}
use Rattle.frame.specs.Numbers.{cell_number}
use Rattle.cells.specs.FreeCells.{given}
use Rattle.cells.specs.Orders.{order}
use Rattle.cells.specs.Rings.{marked}
use Rattle.cells.specs.Stores.{free_count}
use Rattle.cells.specs.Fifos.{queued}
use Rattle.cells.proofs.Granting.{held_told, length_order, order_pushed, ring_sound}
use Rattle.cells.proofs.rings.methods.RingStore.give_back.Goals as goal

pub push-requires : goal.push-requires
push-requires c =
    let r = c.args.self.now in
    let g = given c.args.cell.0 (order r) r.marks (ring_sound r (omega arith)) (held_told r.marks c.args.cell.0 _ c.in_ok-held.ensures).1 in
    (omega arith, omega (arith, g.room, length_order r.free r.cells (omega arith)))

pub invariant_of-self : goal.invariant_of-self
invariant_of-self c =
    let r = c.args.self.now in
    let found = held_told r.marks c.args.cell.0 _ c.in_ok-held.ensures in
    let g = given c.args.cell.0 (order r) r.marks (ring_sound r (omega arith)) found.1 in
    let at = c.index.ensures ∙ found.0 in
    let back = order_pushed r.free c.push.new.self r.cells c.push.new.entries c.in_ok-held.held c.push.ensures.state in
    let more : length (order r) + 1 ≡ queued c.push.new.self =
    omega (arith, ap length back, length_push (order r) (cell_number c.in_ok-held.held), length_order c.push.new.self c.push.new.entries c.push.ensures.wide) in
    record {
      exact = ap marked (back ∙ ap (λ n. order r ++ n ∷ []) found.0) ∙ g.exact ∙ ap (λ k. set r.marks k true) (sym at);
      counted = ap (λ k. free_count (set r.marks k true)) at ∙ g.counted ∙ more;
    }
