-- A copy laid at a port that has none of its frame. Assumes nothing.
use Rattle.std.proofs.Common.{◌≡◌, ℕ, ◌+◌, ◌≤◌, true, [], ◌∷◌, get_or, set, sum_by, sym, ap, ◌∙◌, ⊎_elim, arith, length-set}
use Rattle.std.proofs.lemmas.Bool.{cases_eq}
use Rattle.frame.specs.Numbers.{cell_number, port_number, queue_number}
use Rattle.frame.specs.declared.numbers.Cell.{Cell}
use Rattle.frame.specs.declared.numbers.Port.{Port}
use Rattle.frame.specs.declared.numbers.Queue.{Queue}
use Rattle.rules.specs.Copies.{put}
use Rattle.buffers.proofs.Changes.{pushed_prices, queue_low}
use Rattle.buffers.proofs.Counts.{more_counted}
use Rattle.buffers.proofs.Soundness.{Sound, in_other, in_own, moved, no_stray}
use Rattle.buffers.proofs.Sums.{pushed_sum}
use Rattle.buffers.specs.Boards.{lines}
use Rattle.buffers.specs.Entries.{in_cell, over_line, price_of}
use Rattle.buffers.specs.Frames.{Describes}
use Rattle.buffers.specs.Holdings.{filled, frame_at}
use Rattle.buffers.specs.Lines.{pushed}
use Rattle.buffers.specs.declared.boards.Board.{Board}
use Rattle.buffers.specs.declared.buffers.Buffers.{Buffers}
use Rattle.buffers.specs.declared.frames.Kept.{Kept}
use Rattle.buffers.specs.declared.ports.Waiting.{Waiting}

-- each cell is at most once there, since the entry's was not
once_more : (b : Buffers) (p : ℕ) (e : Waiting) → over_line (in_cell (cell_number e.cell)) (lines b.board p) ≡ 0 → (c : ℕ) → over_line (in_cell c) (lines b.board p) + sum_by (in_cell c) (e ∷ []) ≤ 1
once_more b p e absent c =
    ⊎_elim
    (λ same. omega (arith, in_own e c same, ap (λ d. over_line (in_cell d) (lines b.board p)) same, absent))
    (λ other. omega (arith, in_other e c other, b.once p c))
    (cases_eq c (cell_number e.cell))

pub laid_sound : (b : Buffers) (port : Port) (queue : Queue) (cell : Cell) (kept : Kept)
    → Describes kept (frame_at b (cell_number cell)) → filled b (cell_number cell) ≡ true → over_line (in_cell (cell_number cell)) (lines b.board (port_number port)) ≡ 0
    → (board : Board) → lines board ≡ put (lines b.board) (port_number port) (pushed (lines b.board (port_number port)) (queue_number queue) (record { number = kept.number; cell = cell }) kept.cost)
    → Sound (lines board) (frame_at b) (set b.counts (cell_number cell) (get_or b.counts (cell_number cell) 0 + 1))
laid_sound b port queue cell kept known filled absent board state =
    let p = port_number port in
    let k = queue_number queue in
    let l = lines b.board p in
    let x : Waiting = record { number = kept.number; cell = cell } in
    moved b p port.within (pushed l k x kept.cost) (x ∷ []) []
    (λ f. omega (arith, pushed_sum f l x kept.cost k (queue_low queue)))
    (pushed_prices l (price_of (frame_at b)) (b.priced p port.within) x kept.cost known.cost_is k (queue_low queue))
    (omega (arith, no_stray (frame_at b) x filled (sym known.number)))
    (once_more b p x absent)
    _ (length-set b.counts _ _ ∙ b.wide) (λ c. omega (arith, more_counted b.counts b.wide x c)) board state
