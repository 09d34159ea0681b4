use Rattle.std.proofs.Common.{ℕ, sym, refl, ap, ◌∙◌}
use Rattle.buffers.specs.Holdings.{egress}
use Rattle.frame.specs.Numbers.{port_number}
use Rattle.rules.specs.Copies.{Egress, best_effort_part}
use Rattle.egress.proofs.Changes.{changed_so}
use Rattle.egress.proofs.Taken.{best_effort_first}
use Rattle.egress.specs.Takings.{shows}
use Rattle.egress.proofs.pools.Pool.best_effort_part.Goals as goal

pub returns-then-gates : goal.returns-then-gates
returns-then-gates g c =
    let n : ℕ = c.args.overdrawn in
    let before : ℕ → Egress = λ d. egress d c.args.self.now.buffers (port_number c.args.port) in
    let take = c.take_first-taken.ensures in
    let first = λ (d : ℕ). best_effort_first (before d) n ((before d).queue 3) refl (c.requires d) in
    record {
      answer = λ d. (λ i. (take.answer d i, n)) ∙ (first d).0 ∙ ap (λ o. shows (best_effort_part o (before d) n)) (sym c.if-gates.true);
      change = changed_so take.change (λ d. (first d).1 ∙ ap (λ o. (best_effort_part o (before d) n).left) (sym c.if-gates.true));
    }
