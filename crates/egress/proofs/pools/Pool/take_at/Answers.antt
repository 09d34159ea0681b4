use Rattle.std.proofs.Common.{◌≡◌, ℕ, Bool, sym, ap, ◌∙◌}
use Rattle.std.specs.Option.{option_map}
use Rattle.buffers.specs.Holdings.{egress, first_out}
use Rattle.buffers.specs.Sent.{sent}
use Rattle.frame.specs.Numbers.{port_number, queue_number}
use Rattle.rules.specs.Copies.{Egress, paid_part, take_sending}
use Rattle.egress.proofs.Changes.{changed_so, changed_then, port_after}
use Rattle.egress.proofs.Taken.{none_first, nothing_out, sent_first}
use Rattle.egress.specs.Takings.{shows}
use Rattle.egress.proofs.pools.Pool.take_at.Goals as goal
use Rattle.egress.proofs.pools.Pool.take_at.Goals.{In_default}

-- where the queue that is sent is empty, nothing was moved out
still : (g : _) (c : In_default g) (d : ℕ) → first_out (queue_number c.args.gates.sending) (egress d c.args.self.now.buffers (port_number c.args.port)) ≡ egress d c.args.self.now.buffers (port_number c.args.port)
still g c d = nothing_out _ _ (none_first _ (c.in_default.ensures.answer d)) (c.requires d)

pub paid_part-requires : goal.paid_part-requires
paid_part-requires g c d =
    ap (λ e. e.out) (port_after c.in_default.ensures.change d ∙ still g (goal.at.paid_part-requires g c).In_default d) ∙ c.requires d

pub returns-in_default : goal.returns-in_default
returns-in_default g c =
    let k : ℕ = queue_number c.args.gates.sending in
    let o2 : Bool = c.args.gates.paid in
    let o3 : Bool = c.args.gates.best_effort in
    let before : ℕ → Egress = λ d. egress d c.args.self.now.buffers (port_number c.args.port) in
    let take = c.in_default.ensures in
    let paid = c.paid_part.ensures in
    let same = still g (goal.at.returns-in_default g c).In_default in
    let is : (d : ℕ) → paid_part o2 o3 (before d) ≡ take_sending k o2 o3 (before d) ((before d).queue k) = λ d.
    ap (take_sending k o2 o3 (before d)) (sym (none_first ((before d).queue k) (take.answer d))) in
    record {
      answer = λ d. paid.answer d ∙ ap (λ e. shows (paid_part o2 o3 e)) (port_after take.change d ∙ same d) ∙ ap shows (is d);
      change = changed_so (changed_then take.change paid.change) (λ d. ap (λ e. (paid_part o2 o3 e).left) (same d) ∙ ap (λ t. t.left) (is d));
    }

pub returns : goal.returns
returns g c =
    let k : ℕ = queue_number c.args.gates.sending in
    let before : ℕ → Egress = λ d. egress d c.args.self.now.buffers (port_number c.args.port) in
    let take = c.take_first.ensures in
    let first = λ (d : ℕ). sent_first k c.args.gates.paid c.args.gates.best_effort (before d) ((before d).queue k) (sent c.in-Some.sent) (sym (ap (option_map sent) c.in-Some.is) ∙ take.answer d) in
    record { answer = λ d. (first d).0; change = changed_so take.change (λ d. (first d).1) }
