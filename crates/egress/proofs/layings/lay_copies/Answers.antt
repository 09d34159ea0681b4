use Rattle.std.proofs.Common.{◌≡◌, ◌+◌, refl, sym, ap, ◌∙◌, subst, arith}
use Rattle.buffers.specs.Holdings.{egress, frame_at}
use Rattle.buffers.specs.declared.buffers.Buffers.{Buffers}
use Rattle.frame.proofs.Ports.{at_place}
use Rattle.frame.specs.Numbers.{cell_number, queue_number, set_bits}
use Rattle.egress.proofs.Laid.{Laying, laid_cells, laying_none, laying_on, left_out, put_in}
use Rattle.egress.specs.Ports.{each_port, laid_in}
use Rattle.egress.proofs.layings.lay_copies.Goals as goal
use Rattle.egress.proofs.layings.lay_copies.Goals.{then-has, else-has}

pub loop-port-init : goal.loop-port-init
loop-port-init c = (record { numbers = refl }, laying_none c.args.buffers.now _ _ (cell_number c.args.cell) c.requires.copies)

pub lay-requires : goal.lay-requires
lay-requires c =
    let so_far = c.loop-port.invariant.1 in
    let port = at_place c.loop-port.invariant.0 c.loop-port.port-index c.port-item.result c.loop-port-test.true in
    record {
      filled = ap (λ f. f (cell_number c.args.cell)) so_far.filled ∙ c.requires.filled;
      copies = so_far.copies _ (omega (arith, port)) (omega (arith, port, c.loop-port-test.true));
    }

pub loop-port-preserved : goal.loop-port-preserved
loop-port-preserved c =
    let so_far = c.loop-port.invariant.1 in
    let port = at_place c.loop-port.invariant.0 c.loop-port.port-index c.port-item.result c.loop-port-test.true in
    let on : Buffers → Type 0 = λ b. Laying c.args.buffers.now b (set_bits c.args.ports) (queue_number c.args.queue) (cell_number c.args.cell) (c.loop-port.port-index + 1) in
    elim c.if-has.branch [
      | then-has w ↦
          let lay = w.lay.ensures in
          (c.loop-port.invariant.0, subst on (sym w.buffers-is) (laying_on _ so_far port (put_in (sym w.if-has.ensures) lay.state lay.cells lay.kept lay.copies)))
      | else-has w ↦ (c.loop-port.invariant.0, subst on (sym w.buffers-is) (laying_on _ so_far port (left_out c.loop-port.buffers (sym w.if-has.ensures))))
    ]

pub returns : goal.returns
returns c =
    let four : c.loop-port.port-index ≡ 4 = omega arith in
    let laid = c.loop-port.invariant.1 in
    record {
      state = λ d. laid.ports d ∙ (λ i. each_port (laid_in (set_bits c.args.ports) (queue_number c.args.queue) (frame_at c.args.buffers.now (cell_number c.args.cell))) (four i) (egress d c.args.buffers.now));
      cells = λ p low. laid_cells laid p (omega arith);
      number = laid.number;
      frames = laid.frames;
    }
