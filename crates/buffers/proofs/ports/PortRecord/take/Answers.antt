use Rattle.buffers.specs.Lines.{with_out}
use Rattle.buffers.proofs.ports.PortRecord.take.Goals as goal

pub returns : goal.returns
returns c = λ i. with_out (c.pop-self.ensures.state i) (c.pop-self.ensures.answer i)
