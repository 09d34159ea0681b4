use Rattle.std.proofs.Common.{◌≡◌, None, Some, rules, map, length, false, set, sym, ap, ◌∙◌, arith}
use Rattle.frame.specs.Numbers.{cell_number}
use Rattle.cells.specs.Fifos.{items, rest_of}
use Rattle.cells.specs.Rings.{marked}
use Rattle.cells.specs.Stores.{free_count}
use Rattle.cells.proofs.Granting.{length_order, taken_first}
use Rattle.cells.proofs.Queued.{none_first}
use Rattle.cells.proofs.rings.methods.RingStore.grant.Goals as goal

pub invariant_of-self : goal.invariant_of-self
invariant_of-self c =
    let r = c.args.self.now in
    let no : c.pop-first.result ≡ None = search rules in
    let none = none_first (items r.free r.cells) (sym no ∙ c.pop-first.ensures.answer) in
    let same = c.pop-first.ensures.state ∙ ap rest_of none ∙ sym none in
    record {
      exact = ap (λ l. marked (map cell_number l)) same ∙ r.exact;
      counted = r.counted ∙ sym (length_order r.free r.cells (omega arith)) ∙ sym (ap (λ l. length (map cell_number l)) same) ∙ length_order c.pop-first.new.self r.cells (omega arith);
    }

pub invariant_of-self-2 : goal.invariant_of-self-2
invariant_of-self-2 c =
    let r = c.args.self.now in
    let is : c.pop-first.result ≡ Some c.in_ok-cell.cell = search rules in
    let t = taken_first r c.in_ok-cell.cell (omega arith) (sym is ∙ c.pop-first.ensures.answer) in
    let left = c.pop-first.ensures.state in
    let at = c.index.ensures in
    record {
      exact = ap (λ l. marked (map cell_number l)) left ∙ t.exact ∙ ap (λ k. set r.marks k false) (sym at);
      counted = ap (λ k. free_count (set r.marks k false)) at ∙ t.counted ∙ sym (ap (λ l. length (map cell_number l)) left) ∙ length_order c.pop-first.new.self r.cells (omega arith);
    }
