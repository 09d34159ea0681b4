-- What the entries at a port show of the definition's port. Assumes nothing.
use Rattle.std.proofs.Common.{◌≡◌, ℕ, ◌<◌, List, [], ◌∷◌, map, refl, ap, ◌∙◌, sym}
use Rattle.std.specs.Option.{option_map}
use Rattle.rules.specs.Copies.{Copy, cost}
use Rattle.buffers.proofs.Views.{at_port}
use Rattle.buffers.specs.Boards.{lines}
use Rattle.buffers.specs.Entries.{copy_of, price_of}
use Rattle.buffers.specs.Holdings.{egress, frame_at}
use Rattle.cells.specs.Fifos.{first_of}
use Rattle.buffers.specs.declared.buffers.Buffers.{Buffers}
use Rattle.buffers.specs.declared.ports.Waiting.{Waiting}

-- an entry costs what its copy does
first_price : (frames : ℕ → Copy) (es : List Waiting) → first_of (map (price_of frames) es) ≡ option_map cost (first_of (map (copy_of frames) es))
first_price frames [] = refl
first_price frames (e ∷ es) = refl

pub price_seen : (b : Buffers) (p : ℕ) → p < 4 → (d : ℕ) → first_of (lines b.board p).prices ≡ option_map cost (first_of ((egress d b p).queue 2))
price_seen b p low d =
    ap first_of (b.priced p low)
    ∙ first_price (frame_at b) ((lines b.board p).queue 2)
    ∙ ap (λ e. option_map cost (first_of (e.queue 2))) (sym (at_port b p low d))
