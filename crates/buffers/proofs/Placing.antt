-- A frame put into a free cell leaves the ports as they are. Assumes nothing.
use Rattle.std.proofs.Common.{◌≡◌, ℕ, zero, suc, ◌<◌, true, cond, ltb, map, get_or, sum_by, Some, None, Option, sym, refl, ap, ◌∙◌, ⊎_elim, arith}
use Rattle.std.proofs.lemmas.Bool.{cases_lt, cond-false, eqb-true, le-ltb}
use Rattle.std.specs.Option.{option_map, option_to_list}
use Rattle.frame.specs.Numbers.{cell_number}
use Rattle.rules.specs.Copies.{Copy, put}
use Rattle.rules.specs.Switch.{empty_port}
use Rattle.buffers.proofs.FourPorts.{no_fifth}
use Rattle.buffers.proofs.Soundness.{Sound, not_in, put_other}
use Rattle.buffers.proofs.Sums.{line_in_lines, lines_same, map_same}
use Rattle.buffers.specs.Boards.{lines}
use Rattle.buffers.specs.Entries.{copy_of, egress_of, frame_of, in_cell, over_line, over_lines, price_of, shown, stray}
use Rattle.buffers.specs.Holdings.{egress, frame_at, free}
use Rattle.buffers.specs.declared.buffers.Buffers.{Buffers}
use Rattle.buffers.specs.declared.ports.Waiting.{Waiting}

option_same : {B : Type 0} (f g : Waiting → B) (c : ℕ) → ((e : Waiting) → in_cell c e ≡ 0 → f e ≡ g e) → (o : Option Waiting) → sum_by (in_cell c) (option_to_list o) ≡ 0 → option_map f o ≡ option_map g o
option_same f g c same None none = refl
option_same f g c same (Some e) none = ap Some (same e (omega arith))

module _ (b : Buffers) (c : ℕ) (x : Copy) (unused : free b c ≡ true) where
  abbrev now : ℕ → Copy
  now = put (frame_at b) c x

  nowhere : over_lines (in_cell c) (lines b.board) ≡ 0
  nowhere = omega (arith, b.counted c, eqb-true (get_or b.counts c 0) 0 unused)

  pub not_at : (p : ℕ) → p < 4 → over_line (in_cell c) (lines b.board p) ≡ 0
  not_at p low = omega (arith, nowhere, line_in_lines (in_cell c) (lines b.board) p low)

  frame_kept : (e : Waiting) → in_cell c e ≡ 0 → frame_of now e ≡ frame_of (frame_at b) e
  frame_kept e none = put_other (frame_at b) c x (cell_number e.cell) (not_in e c none)

  kept : (e : Waiting) → in_cell c e ≡ 0 → copy_of now e ≡ copy_of (frame_at b) e
  kept e none = ap (λ f. record { number = e.number.0; class = f.class; bytes = f.bytes }) (frame_kept e none)

  pub sound_placed : Sound (lines b.board) now b.counts
  sound_placed = record {
    wide = b.wide;
    counted = b.counted;
    known = lines_same (stray now) (stray (frame_at b)) c (λ e none. ap (λ f. stray (λ n. f) e) (frame_kept e none)) (lines b.board) nowhere ∙ b.known;
    once = b.once;
    priced = λ p h. b.priced p h ∙ sym (map_same (price_of now) (price_of (frame_at b)) c (λ e none. ap (λ f. price_of (λ n. f) e) (frame_kept e none)) ((lines b.board p).queue 2) (omega (arith, not_at p h)));
  }

  queue_kept : (p : ℕ) → p < 4 → (k : ℕ) → map (copy_of now) ((lines b.board p).queue k) ≡ map (copy_of (frame_at b)) ((lines b.board p).queue k)
  queue_kept p low (suc (suc (suc (suc k)))) =
      ap (map (copy_of now)) (no_fifth b.board.ports p k) ∙ sym (ap (map (copy_of (frame_at b))) (no_fifth b.board.ports p k))
  queue_kept p low zero = map_same _ _ c kept ((lines b.board p).queue 0) (omega (arith, not_at p low))
  queue_kept p low (suc zero) = map_same _ _ c kept ((lines b.board p).queue 1) (omega (arith, not_at p low))
  queue_kept p low (suc (suc zero)) = map_same _ _ c kept ((lines b.board p).queue 2) (omega (arith, not_at p low))
  queue_kept p low (suc (suc (suc zero))) = map_same _ _ c kept ((lines b.board p).queue 3) (omega (arith, not_at p low))

  port_kept : (p : ℕ) → p < 4 → shown now (lines b.board p) ≡ shown (frame_at b) (lines b.board p)
  port_kept p low =
      let out = option_same (copy_of now) (copy_of (frame_at b)) c kept (lines b.board p).out (omega (arith, not_at p low)) in
      λ i. record { queue = λ k. queue_kept p low k i; tokens = (lines b.board p).tokens; out = out i }

  pub view_kept : (d : ℕ) → egress_of d now (lines b.board) ≡ egress d b
  view_kept d = λ i p. each p i
    where
      each : (p : ℕ) → egress_of d now (lines b.board) p ≡ egress d b p
      each p =
          ⊎_elim
          (λ low. ap (λ e. cond (ltb p 4) e (empty_port d)) (port_kept p low))
          (λ past. cond-false (ltb p 4) _ _ (le-ltb p 4 past) ∙ sym (cond-false (ltb p 4) _ _ (le-ltb p 4 past)))
          (cases_lt p 4)
