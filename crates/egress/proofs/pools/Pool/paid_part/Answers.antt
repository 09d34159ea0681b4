use Rattle.std.proofs.Common.{◌≡◌, ℕ, Bool, true, false, List, [], sym, ap, ◌∙◌}
use Rattle.std.proofs.lemmas.Bool.{not-false, not-true}
use Rattle.std.specs.Option.{option_map}
use Rattle.buffers.specs.Holdings.{egress}
use Rattle.cells.specs.Fifos.{first_of}
use Rattle.buffers.specs.Sent.{copy_sent, sent}
use Rattle.frame.specs.Numbers.{port_number}
use Rattle.rules.specs.Copies.{Copy, Egress, affordable, best_effort_part, paid_part, take_paid, with_queue}
use Rattle.egress.proofs.Changes.{changed_so, changed_then, port_after}
use Rattle.egress.proofs.Taken.{all_dear, both_paid, cheap_now, left_there, none_paid, paid_first}
use Rattle.egress.specs.Takings.{is_dear, shows}
use Rattle.egress.proofs.pools.Pool.paid_part.Goals as goal

pub returns-then-not-gates : goal.returns-then-not-gates
returns-then-not-gates g c =
    let o3 : Bool = c.args.gates.best_effort in
    let before : ℕ → Egress = λ d. egress d c.args.self.now.buffers (port_number c.args.port) in
    let shut : c.args.gates.paid ≡ false = not-true _ c.if-not-gates.true in
    let best = c.best_effort_part.ensures in
    record {
      answer = λ d. best.answer d ∙ ap (λ o. shows (paid_part o o3 (before d))) (sym shut);
      change = changed_so best.change (λ d i. (paid_part (sym shut i) o3 (before d)).left);
    }

pub take_paid-requires : goal.take_paid-requires
take_paid-requires g c =
    let before : ℕ → Egress = λ d. egress d c.args.self.now.buffers (port_number c.args.port) in
    let now = port_after c.end_overdrawn-overdrawn.ensures.change in
    record {
      out = λ d. ap (λ e. e.out) (now d) ∙ c.requires d;
      tokens = λ d. ap (λ e. is_dear e.tokens (e.queue 2)) (now d) ∙ cheap_now (before d).tokens ((before d).queue 2);
    }

pub best_effort_part-requires-in_default : goal.best_effort_part-requires-in_default
best_effort_part-requires-in_default g c d =
    let paid = c.in_default.ensures in
    ap (λ e. e.out) (port_after (none_paid c.end_overdrawn-overdrawn.ensures.change paid.change paid.answer) d) ∙ c.requires d

pub returns-in_default : goal.returns-in_default
returns-in_default g c =
    let n : ℕ = c.end_overdrawn-overdrawn.result in
    let o3 : Bool = c.args.gates.best_effort in
    let before : ℕ → Egress = λ d. egress d c.args.self.now.buffers (port_number c.args.port) in
    let opens : c.args.gates.paid ≡ true = not-false _ c.if-not-gates.false in
    let ended = c.end_overdrawn-overdrawn.ensures in
    let paid = c.in_default.ensures in
    let best = c.best_effort_part-in_default.ensures in
    let mid = none_paid ended.change paid.change paid.answer in
    let none = all_dear ended.change paid.change paid.answer in
    let is : (d : ℕ) → best_effort_part o3 (with_queue (before d) 2 []) n ≡ paid_part c.args.gates.paid o3 (before d) = λ d.
    (λ i. take_paid o3 (before d) (ended.answer d i) (sym (none d) i)) ∙ ap (λ o. paid_part o o3 (before d)) (sym opens) in
    record {
      answer = λ d. best.answer d ∙ ap (λ e. shows (best_effort_part o3 e n)) (port_after mid d) ∙ ap shows (is d);
      change = changed_so (changed_then mid best.change) (λ d. ap (λ t. t.left) (is d));
    }

pub returns : goal.returns
returns g c =
    let n : ℕ = c.end_overdrawn-overdrawn.result in
    let o3 : Bool = c.args.gates.best_effort in
    let before : ℕ → Egress = λ d. egress d c.args.self.now.buffers (port_number c.args.port) in
    let left : ℕ → List Copy = λ d. affordable (before d).tokens ((before d).queue 2) in
    let opens : c.args.gates.paid ≡ true = not-false _ c.if-not-gates.false in
    let ended = c.end_overdrawn-overdrawn.ensures in
    let paid = c.take_paid.ensures in
    let first = λ (d : ℕ). paid_first o3 (before d) n (left d) (sent c.in-Some.sent) (sym (ap (option_map sent) c.in-Some.is) ∙ paid.answer d ∙ ap (λ cs. option_map copy_sent (first_of cs)) (left_there ended.change paid.change d)) in
    let is : (d : ℕ) → take_paid o3 (before d) n (left d) ≡ paid_part c.args.gates.paid o3 (before d) = λ d.
    ap (λ m. take_paid o3 (before d) m (left d)) (ended.answer d) ∙ ap (λ o. paid_part o o3 (before d)) (sym opens) in
    record {
      answer = λ d. (first d).0 ∙ ap shows (is d);
      change = changed_so (both_paid ended.change paid.change) (λ d. (first d).1 ∙ ap (λ t. t.left) (is d));
    }
