use Rattle.frame.specs.Numbers.{port_number, queue_number}
use Rattle.buffers.proofs.Changes.{first_taken, none_out}
use Rattle.buffers.proofs.Leaving.{left_sound}
use Rattle.buffers.proofs.Views.{shown_outed, view_changed}
use Rattle.buffers.specs.Boards.{lines}
use Rattle.buffers.specs.Holdings.{first_out, frame_at}
use Rattle.buffers.proofs.buffers.Buffers.take.Goals as goal

pub take-requires : goal.take-requires
take-requires c = none_out c.args.self.now c.args.port (c.requires 0)

pub invariant_of-self : goal.invariant_of-self
invariant_of-self c =
    let b = c.args.self.now in
    left_sound (first_taken b c.args.port c.args.queue (none_out b c.args.port (c.requires 0))) c.take.new.self c.take.ensures

pub returns-clause-state : goal.returns-clause-state
returns-clause-state c =
    let b = c.args.self.now in
    let p = port_number c.args.port in
    let k = queue_number c.args.queue in
    view_changed b p c.args.port.within _ c.take.new.self c.take.ensures (first_out k) (shown_outed (frame_at b) (lines b.board p) k)
