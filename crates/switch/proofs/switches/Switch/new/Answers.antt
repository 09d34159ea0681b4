use Rattle.std.proofs.Common.{◌≡◌, ℕ, sym, ap, ◌∙◌}
use Rattle.std.proofs.lemmas.Bool.{cond-false, lt-leb}
use Rattle.std.specs.Option.{option_map}
use Rattle.buffers.specs.Holdings.{egress}
use Rattle.cells.specs.Stores.{free_at}
use Rattle.frame.specs.Numbers.{slot_number}
use Rattle.frame.specs.Refusals.{accepted}
use Rattle.rules.specs.Switch.{empty_port, numbers}
use Rattle.rules.proofs.Checks.{below_is}
use Rattle.egress.proofs.Cells.{all_free_at}
use Rattle.switch.proofs.switches.Switch.new.Goals as goal

pub invariant_of-result : goal.invariant_of-result
invariant_of-result g c =
    record { agree = λ cell low. ap (λ ms. free_at ms cell) c.fresh.ensures.answer ∙ all_free_at cell low ∙ sym (ap (λ f. f cell) c.new-2.ensures.cells) }

pub returns-clause-answer : goal.returns-clause-answer
returns-clause-answer g c =
    let settings = c.args.settings in
    let d : ℕ = settings.bucket.depth in
    let slot = below_is _ settings.slot (slot_number c.in_ok-slot.slot) (sym (ap (option_map slot_number) c.in_ok-slot.ensures.ok_part) ∙ c.new.ensures) in
    let ports : egress d c.new-2.result ≡ (λ p. empty_port d) =
    ap (λ x. egress x c.new-2.result) (sym c.from.ensures) ∙ c.new-2.ensures.state ∙ (λ i p. empty_port (c.from.ensures i)) in
    (λ i. accepted (record { slot = slot.1 i; next = c.new-2.ensures.number i; rate = settings.bucket.rate; depth = d; port = ports i }))
    ∙ sym (cond-false _ _ _ (lt-leb numbers settings.slot slot.0) ∙ cond-false _ _ _ (lt-leb numbers settings.number c.if-settings-ge-NUMBERS.false))
