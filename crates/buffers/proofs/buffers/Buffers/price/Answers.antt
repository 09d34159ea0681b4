use Rattle.std.proofs.Common.{ap, ◌∙◌}
use Rattle.frame.specs.Numbers.{port_number}
use Rattle.cells.specs.Fifos.{first_of}
use Rattle.buffers.proofs.Reading.{price_seen}
use Rattle.buffers.proofs.buffers.Buffers.price.Goals as goal

pub returns : goal.returns
returns c d =
    c.price.ensures ∙ ap (λ l. first_of l.prices) c.port.ensures ∙ price_seen c.args.self.now (port_number c.args.port) c.args.port.within d
