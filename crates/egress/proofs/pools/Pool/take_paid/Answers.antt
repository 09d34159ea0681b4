use Rattle.std.proofs.Common.{ℕ, ◌-◌, sym, ap, ◌∙◌}
use Rattle.std.specs.Option.{option_map}
use Rattle.buffers.specs.Holdings.{egress}
use Rattle.cells.specs.Fifos.{first_of}
use Rattle.buffers.specs.Sent.{copy_sent}
use Rattle.frame.specs.Numbers.{port_number}
use Rattle.rules.specs.Copies.{Egress, with_tokens}
use Rattle.egress.proofs.Cells.{agree_moved}
use Rattle.egress.proofs.Changes.{changed_kept, changed_so, changed_then, port_after}
use Rattle.egress.proofs.Taken.{paid_out, payable}
use Rattle.egress.specs.Changes.{ChangesPort}
use Rattle.egress.specs.Takings.{is_dear}
use Rattle.egress.proofs.pools.Pool.take_paid.Goals as goal
use Rattle.egress.proofs.pools.Pool.take_paid.Goals.{After-set_tokens}

pub overflow_sub-tokens : goal.overflow_sub-tokens
overflow_sub-tokens g c =
    let e : Egress = egress 0 c.args.self.now.buffers (port_number c.args.port) in
    payable c.tokens-tokens.result c.in_ok-price.price (e.queue 2) (c.in_ok-price.ensures 0) (ap (λ t. is_dear t (e.queue 2)) (c.tokens-tokens.ensures 0) ∙ c.requires.tokens 0)

pub invariant_of-self : goal.invariant_of-self
invariant_of-self g c = record { agree = agree_moved _ _ _ (sym c.set_tokens.ensures.cells) c.args.self.now.agree }

-- the price is taken off the tokens
paid : (g : _) (c : After-set_tokens g) → ChangesPort c.args.self.now.buffers c.set_tokens.new.self (port_number c.args.port) (λ e. with_tokens e (c.tokens-tokens.result - c.in_ok-price.price))
paid g c =
    let set = c.set_tokens.ensures in
    changed_kept (λ e. with_tokens e (c.tokens-tokens.result - c.in_ok-price.price)) set.state set.kept set.cells

pub take_first-requires : goal.take_first-requires
take_first-requires g c d = ap (λ e. e.out) (port_after (paid g (goal.at.take_first-requires g c).After-set_tokens) d) ∙ c.requires.out d

pub returns : goal.returns
returns g c =
    let p : ℕ = port_number c.args.port in
    let before : ℕ → Egress = λ d. egress d c.args.self.now.buffers p in
    let t : ℕ = c.tokens-tokens.result - c.in_ok-price.price in
    let set = paid g (goal.at.returns g c).After-set_tokens in
    let take = c.take_first.ensures in
    record {
      answer = λ d. take.answer d ∙ (λ i. option_map copy_sent (first_of ((port_after set d i).queue 2)));
      change = changed_so (changed_then set take.change) (λ d.
          paid_out (before d) t c.in_ok-price.price ((before d).queue 2) (c.in_ok-price.ensures d) (ap (λ x. x - c.in_ok-price.price) (c.tokens-tokens.ensures d)));
    }
