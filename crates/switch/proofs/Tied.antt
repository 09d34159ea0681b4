-- What the pool keeps: the store's marks, the state and what the cells hold are tied together. Assumes nothing.
use Rattle.std.proofs.Common.{◌≡◌, ℕ, Bool, true, false, cond, not, length, is_some, Some, None, refl, ◌∙◌}
use Rattle.buffers.proofs.Contents.{has_copy, in_a_cell}
use Rattle.buffers.proofs.Held.{free_is}
use Rattle.buffers.specs.Holdings.{frame_at, free}
use Rattle.cells.specs.declared.stores.Store.{Ghosts}
use Rattle.rules.specs.Stories.{Tied}
use Rattle.switch.specs.Switches.{cells, contents, state}
use Rattle.switch.specs.declared.switches.Switch.{Switch}

marked : (t : Bool) (n : ℕ) → t ≡ not (is_some (cond t None (Some n)))
marked true n = refl
marked false n = refl

pub tied : {S P R F : Type 0} {store : Ghosts S} (s : Switch S P R F store) → length (cells s) ≡ 32 → Tied (state s) (cells s) (contents s)
tied s wide =
    let b = s.pool.buffers in
    let d : ℕ = s.bucket.depth in
    record {
      wide = wide;
      marked = λ c low. s.pool.agree c low ∙ marked (free b c) (frame_at b c).number;
      copied = has_copy b d;
      housed = λ n h. in_a_cell b d n h.0 h.1 h.2;
      count = free_is b d (cells s) wide s.pool.agree;
    }
