use Rattle.std.proofs.Common.{◌≡◌, ℕ, true, length, sym, ap, ◌∙◌, arith}
use Rattle.buffers.specs.Holdings.{egress, first_gone}
use Rattle.frame.specs.Numbers.{port_number}
use Rattle.rules.specs.Copies.{Egress, affordable, too_dear, with_queue}
use Rattle.egress.proofs.Changes.{changed_so}
use Rattle.egress.proofs.Cuts.{cut_less, cut_none, cut_on, left_in}
use Rattle.buffers.proofs.Lengths.{queue_few}
use Rattle.egress.proofs.Taken.{dear_all, dear_none, dear_on, dear_there}
use Rattle.egress.specs.Changes.{ChangesPort}
use Rattle.egress.specs.Takings.{is_dear}
use Rattle.egress.proofs.pools.Pool.end_overdrawn.Goals as goal

pub loop-port-init : goal.loop-port-init
loop-port-init g c = record { gone = cut_none c.args.self.now.buffers _ 2; dear = λ d. dear_none _ _ }

pub overflow_add-overdrawn : goal.overflow_add-overdrawn
overflow_add-overdrawn g c = omega (arith, c.loop-port.invariant.gone.few 0, queue_few c.args.self.now.buffers 0 (port_number c.args.port) 2)

-- the copy that ended was in queue 2
ended : (g : _) (c : goal.After-end_first g) → ChangesPort c.loop-port.self.buffers c.end_first.new.self.buffers (port_number c.args.port) (first_gone 2)
ended g c = c.end_first.ensures.change

-- before it, a copy was there that cost too much
dear : (g : _) (c : goal.After-end_first g) (d : ℕ) → is_dear c.tokens-tokens.result ((egress d c.loop-port.self.buffers (port_number c.args.port)).queue 2) ≡ true
dear g c d = sym (c.loop-port-test.ensures d)

pub loop-port-smaller : goal.loop-port-smaller
loop-port-smaller g c = cut_less 2 (ended g c) 0 (dear_there _ _ (dear g c 0))

pub loop-port-preserved : goal.loop-port-preserved
loop-port-preserved g c =
    let before = c.loop-port.invariant in
    record {
      gone = cut_on before.gone (ended g c) (λ d. dear_there _ _ (dear g c d));
      dear = λ d. dear_on (before.dear d) (sym (ap (is_dear c.tokens-tokens.result) (left_in before.gone d)) ∙ dear g c d);
    }

pub returns : goal.returns
returns g c =
    let t : ℕ = c.tokens-tokens.result in
    let before : ℕ → Egress = λ d. egress d c.args.self.now.buffers (port_number c.args.port) in
    let gone = c.loop-port.invariant.gone in
    let all = λ (d : ℕ). dear_all (c.loop-port.invariant.dear d) (sym (ap (is_dear t) (left_in gone d)) ∙ sym (c.loop-port-test.ensures d)) in
    record {
      answer = λ d. (all d).0 ∙ ap (λ x. length (too_dear x ((before d).queue 2))) (c.tokens-tokens.ensures d);
      change = changed_so gone.change (λ d. (λ i. with_queue (before d) 2 (((all d).1 ∙ ap (λ x. affordable x ((before d).queue 2)) (c.tokens-tokens.ensures d)) i)));
    }
