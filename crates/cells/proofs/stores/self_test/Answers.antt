use Rattle.std.proofs.Common.{◌≡◌, refl, ◌∙◌}
use Rattle.std.proofs.lemmas.Slice.Eq.{slice_eq-Decides}
use Rattle.cells.specs.Stores.{all_free}
use Rattle.cells.proofs.Drained.{grant_ends}
use Rattle.cells.proofs.stores.self_test.Goals as goal
use Rattle.cells.proofs.stores.self_test.Goals.{then-eq, else-eq}
use Rattle.std.specs.Cmp.{booleans_Decides}

pub returns : goal.returns
unfolding all_free
returns g c =
    let all : c.drain-came.result ≡ all_free = c.drain-came.ensures.answer ∙ c.fresh-store.ensures.answer in
    elim c.if-eq.branch [
      | then-eq w ↦ w.result-is ∙ w.is_err.ensures.value ∙ grant_ends _ _ w.grant.result c.drain-came.ensures.state w.grant.ensures.answer
      | else-eq w ↦ w.result-is ∙ c.eq.ensures ∙ (slice_eq-Decides booleans_Decides c.drain-came.result all_free _ refl).1 all
    ]
