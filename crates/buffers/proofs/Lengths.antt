-- The queues of a port: four of them, none longer than 32. Assumes nothing.
use Rattle.std.proofs.Common.{◌≡◌, ℕ, zero, suc, ◌≤◌, ltb, List, [], ◌∷◌, map, length, get_or, refl, ap, arith}
use Rattle.std.proofs.lemmas.List.{length-map}
use Rattle.std.proofs.lemmas.Bool.{cond_both}
use Rattle.cells.proofs.Queued.{length_items}
use Rattle.rules.specs.Switch.{empty_port}
use Rattle.buffers.proofs.FourPorts.{no_fifth}
use Rattle.buffers.specs.Boards.{lines}
use Rattle.buffers.specs.Entries.{copy_of, shown}
use Rattle.buffers.specs.Holdings.{egress, frame_at}
use Rattle.buffers.specs.Lanes.{waiting}
use Rattle.buffers.specs.Lines.{empty_line, line}
use Rattle.buffers.specs.declared.buffers.Buffers.{Buffers}
use Rattle.buffers.specs.declared.lanes.Lane.{Lane}
use Rattle.buffers.specs.declared.ports.PortRecord.{PortRecord}

lane_few : {E : Type 0} (l : Lane E) → length (waiting l) ≤ 32
lane_few l = omega (arith, length_items l.queue l.entries l.wide, l.queue.few)

line_few : (r : PortRecord) (k : ℕ) → length ((line r).queue k) ≤ 32
line_few r zero = lane_few r.cyclic0
line_few r (suc zero) = lane_few r.cyclic1
line_few r (suc (suc zero)) = omega (arith, length-map (waiting r.paid) (λ e. e.entry), lane_few r.paid)
line_few r (suc (suc (suc zero))) = lane_few r.best_effort
line_few r (suc (suc (suc (suc k)))) = omega arith

lines_few : (rs : List PortRecord) (p k : ℕ) → length ((get_or (map line rs) p (empty_line 0)).queue k) ≤ 32
lines_few [] p k = omega arith
lines_few (r ∷ rs) zero k = line_few r k
lines_few (r ∷ rs) (suc p) k = lines_few rs p k

module _ (b : Buffers) (d p k : ℕ) where
  pub queue_few : length ((egress d b p).queue k) ≤ 32
  queue_few =
      cond_both
      (ltb p 4)
      (shown (frame_at b) (lines b.board p))
      (empty_port d)
      (λ e. length (e.queue k) ≤ 32)
      (λ low. omega (arith, length-map ((lines b.board p).queue k) (copy_of (frame_at b)), lines_few b.board.ports p k))
      (λ high. omega arith)

  -- no port has a fifth queue
  pub no_more : (egress d b p).queue (suc (suc (suc (suc k)))) ≡ []
  no_more =
      cond_both
      (ltb p 4)
      (shown (frame_at b) (lines b.board p))
      (empty_port d)
      (λ e. e.queue (suc (suc (suc (suc k)))) ≡ [])
      (λ low. ap (map (copy_of (frame_at b))) (no_fifth b.board.ports p k))
      (λ high. refl)
