use Rattle.std.proofs.Common.{refl, sym, ap, ◌∙◌, arith}
use Rattle.cells.specs.Stores.{all_free}
use Rattle.cells.specs.FreeCells.{first_marked}
use Rattle.cells.specs.Rings.{marked}
use Rattle.cells.proofs.Granting.{full_order}
use Rattle.cells.proofs.rings.methods.RingStore.fresh.Goals as goal

pub invariant_of-result : goal.invariant_of-result
unfolding all_free
invariant_of-result c =
    record { exact = ap marked (full_order c.full.result c.in_order.result (omega arith) c.full.ensures.first c.full.ensures.all c.in_order.ensures) ∙ first_marked; counted = sym c.full.ensures.all }

pub returns : goal.returns
unfolding all_free
returns c = record { answer = refl; order = full_order c.full.result c.in_order.result (omega arith) c.full.ensures.first c.full.ensures.all c.in_order.ensures }
