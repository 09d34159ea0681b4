use Rattle.std.proofs.Common.{◌+◌, get_or, set, sym, ap, ◌∙◌, subst}
use Rattle.frame.specs.Numbers.{cell_number, port_number, queue_number}
use Rattle.rules.specs.Copies.{laid}
use Rattle.buffers.proofs.Counts.{free_more, unused}
use Rattle.buffers.proofs.Changes.{queue_low}
use Rattle.buffers.proofs.Laying.{laid_sound}
use Rattle.buffers.proofs.Rooms.{room}
use Rattle.buffers.proofs.Soundness.{Sound, put_other}
use Rattle.buffers.proofs.Views.{shown_pushed, view_changed}
use Rattle.buffers.specs.Boards.{lines}
use Rattle.buffers.specs.Entries.{in_cell, over_line, shown}
use Rattle.buffers.specs.Holdings.{frame_at}
use Rattle.buffers.specs.declared.ports.Waiting.{Waiting}
use Rattle.buffers.proofs.buffers.Buffers.lay.Goals as goal

pub push-requires : goal.push-requires
push-requires c =
    room c.args.self.now (port_number c.args.port) (queue_number c.args.queue) c.args.cell (queue_low c.args.queue) c.requires.copies

pub invariant_of-self : goal.invariant_of-self
invariant_of-self c =
    let b = c.args.self.now in
    subst
    (λ n. Sound (lines c.push.new.self) (frame_at b) (set b.counts n (get_or b.counts n 0 + 1)))
    (sym c.index.ensures)
    (laid_sound b c.args.port c.args.queue c.args.cell c.get-kept.result c.get-kept.ensures c.requires.filled c.requires.copies c.push.new.self c.push.ensures)

pub returns-clause-state : goal.returns-clause-state
returns-clause-state c =
    let b = c.args.self.now in
    let p = port_number c.args.port in
    let k = queue_number c.args.queue in
    let e : Waiting = record { number = c.get-kept.result.number; cell = c.args.cell } in
    let frame = frame_at b (cell_number c.args.cell) in
    let seen = shown (frame_at b) (lines b.board p) in
    view_changed b p c.args.port.within _ c.push.new.self c.push.ensures (λ y. laid y k frame)
    (shown_pushed (frame_at b) (lines b.board p) k e c.get-kept.result.cost ∙ (λ i. laid seen k (record { number = c.get-kept.ensures.number i; class = frame.class; bytes = frame.bytes })))

pub returns-clause-cells : goal.returns-clause-cells
returns-clause-cells c =
    let b = c.args.self.now in
    (λ i. unused (set b.counts (c.index.ensures i) (get_or b.counts (c.index.ensures i) 0 + 1)))
    ∙ free_more b.counts b.wide (record { number = c.get-kept.result.number; cell = c.args.cell })

pub returns-clause-copies : goal.returns-clause-copies
returns-clause-copies c q y other =
    ap (λ ls. over_line (in_cell y) (ls q)) c.push.ensures
    ∙ ap (over_line (in_cell y)) (put_other (lines c.args.self.now.board) (port_number c.args.port) _ q other)
