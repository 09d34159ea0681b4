-- A copy leaves a port, or there is none to leave. Every way in which copies end goes by this. Assumes nothing.
use Rattle.std.proofs.Common.{◌≡◌, ℕ, ◌+◌, ◌<◌, [], map, get_or, sum_by, Some, Option, refl, ap, arith}
use Rattle.std.specs.Option.{option_to_list}
use Rattle.frame.specs.Numbers.{cell_number}
use Rattle.rules.specs.Copies.{put}
use Rattle.buffers.proofs.Counts.{ending, uncounted, uncounted_free, uncounted_less, uncounted_wide, unused}
use Rattle.buffers.proofs.Soundness.{Sound, in_own, moved}
use Rattle.buffers.proofs.Sums.{line_in_lines}
use Rattle.buffers.specs.Boards.{lines}
use Rattle.buffers.specs.Endings.{freed}
use Rattle.buffers.specs.Entries.{in_cell, over_line, price_of}
use Rattle.buffers.specs.Holdings.{frame_at, free}
use Rattle.buffers.specs.Lines.{Line}
use Rattle.buffers.specs.declared.boards.Board.{Board}
use Rattle.buffers.specs.declared.buffers.Buffers.{Buffers}
use Rattle.buffers.specs.declared.ports.Waiting.{Waiting}

-- port p has the line l, which lacks the copy o, if there is one
pub record Leaves (b : Buffers) (p : ℕ) (l : Line) (o : Option Waiting) : Type 0 where
  pub low : p < 4
  pub sums : (f : Waiting → ℕ) → over_line f (lines b.board p) ≡ sum_by f (option_to_list o) + over_line f l
  pub prices : l.prices ≡ map (price_of (frame_at b)) (l.queue 2)

module _ {b : Buffers} {p : ℕ} {l : Line} {o : Option Waiting} (leaves : Leaves b p l o) where
  -- its cell counts it
  pub is_counted : (e : Waiting) → Some e ≡ o → 0 < get_or b.counts (cell_number e.cell) 0
  is_counted e is =
      let c = cell_number e.cell in
      omega (arith, b.counted c, line_in_lines (in_cell c) (lines b.board) p leaves.low, leaves.sums (in_cell c), ap (λ x. sum_by (in_cell c) (option_to_list x)) is, in_own e c refl)

  pub left_sound : (board : Board) → lines board ≡ put (lines b.board) p l → Sound (lines board) (frame_at b) (uncounted b.counts o)
  left_sound =
      moved b p leaves.low l [] (option_to_list o) (λ f. omega (arith, leaves.sums f)) leaves.prices refl (λ c. omega (arith, b.once p c)) (uncounted b.counts o) (uncounted_wide b.counts b.wide o) (λ c. omega (arith, uncounted_less b.counts b.wide o is_counted c))

  pub left_free : unused (uncounted b.counts o) ≡ freed (ending b.counts o) (free b)
  left_free = uncounted_free b.counts b.wide o is_counted
