use Rattle.std.proofs.Common.{refl}
use Rattle.frame.specs.Numbers.{port_number}
use Rattle.rules.specs.Copies as rules
use Rattle.buffers.proofs.Changes.{tokens_set}
use Rattle.buffers.proofs.Leaving.{left_sound}
use Rattle.buffers.proofs.Views.{view_changed}
use Rattle.buffers.proofs.buffers.Buffers.set_tokens.Goals as goal

pub invariant_of-self : goal.invariant_of-self
invariant_of-self c = left_sound (tokens_set c.args.self.now c.args.port c.args.tokens) c.set_tokens.new.self c.set_tokens.ensures

pub returns-clause-state : goal.returns-clause-state
returns-clause-state c =
    view_changed c.args.self.now (port_number c.args.port) c.args.port.within _ c.set_tokens.new.self c.set_tokens.ensures (λ e. rules.with_tokens e c.args.tokens) refl
