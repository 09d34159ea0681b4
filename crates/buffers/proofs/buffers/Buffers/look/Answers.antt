use Rattle.std.proofs.Common.{length, sym, ap, ◌∙◌, arith}
use Rattle.std.specs.Option.{option_map}
use Rattle.frame.specs.Numbers.{port_number}
use Rattle.rules.specs.Switch.{out_bytes}
use Rattle.buffers.proofs.Views.{at_port}
use Rattle.buffers.specs.Entries.{copy_of}
use Rattle.buffers.specs.Holdings.{frame_at}
use Rattle.buffers.proofs.buffers.Buffers.look.Goals as goal

pub read-requires : goal.read-requires
read-requires c =
    let b = c.args.self.now in
    let is = sym c.in-Some.is ∙ c.out.ensures ∙ ap (λ l. l.out) c.port.ensures in
    omega (arith, c.requires 0, ap (λ o. length (out_bytes (option_map (copy_of (frame_at b)) o))) is, ap (λ e. length (out_bytes e.out)) (at_port b (port_number c.args.port) c.args.port.within 0))
