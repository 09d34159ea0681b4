use Rattle.std.proofs.Common.{◌≡◌, ℕ, ◌<◌, ◌∙◌, arith, rules, get_or}
use Rattle.std.proofs.Math.ListN.{get_or-map, length-map}
use Rattle.std.proofs.lemmas.List.FromFn.{fill_by_all}
use Rattle.frame.specs.Numbers.{cell_number}
use Rattle.frame.specs.declared.numbers.Cell.{Cell}
use Rattle.cells.specs.Orders.{first_order}
use Rattle.cells.proofs.rings.methods.in_order.Goals as goal

pub returns : goal.returns
unfolding first_order
returns c =
    let cells = c.from_fn.result in
    let first : Cell = record { number = 0; within = omega arith } in
    let each : (i : ℕ) → i < 32 → cell_number (get_or cells i first) ≡ i = λ i l. let called = c.from_fn.ensures.items.at i first l in search rules in
    fill_by_all (λ i. i) _ 32 0 (length-map cells cell_number ∙ c.from_fn.ensures.items.long) (λ i l. get_or-map cell_number cells i first ∙ each i l)
