use Rattle.std.proofs.Common.{◌≡◌, length, sym, ap, ◌∙◌, arith}
use Rattle.buffers.specs.Holdings.{egress}
use Rattle.frame.specs.Numbers.{port_number}
use Rattle.rules.specs.Switch.{not_out, out_bytes}
use Rattle.rules.proofs.Checks.{one_accepted}
use Rattle.egress.proofs.Found.{found_out}
use Rattle.egress.specs.Sendings.{out_at}
use Rattle.switch.proofs.switches.Switch.look.Goals as goal

pub look-requires : goal.look-requires
look-requires g c d =
    let ports = egress d c.args.self.now.pool.buffers in
    let p = c.port.result in
    let n = c.number.result.0 in
    let found = c.in_ok-sending.sending in
    let is = one_accepted (not_out (out_at ports p n) p) _ (port_number found.port, found.length) n (c.in_ok-sending.ensures d) in
    let long : found.length ≡ length (out_bytes (ports (port_number found.port)).out) =
    ap (λ x. x.1) is.1 ∙ ap (λ o. length (out_bytes o)) (found_out ports p n is.0) ∙ ap (λ q. length (out_bytes (ports q).out)) (sym (ap (λ x. x.0) is.1)) in
    omega (arith, long, c.if-buffer-sending.false)
