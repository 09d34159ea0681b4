-- A frame that is in a cell has a copy, and a frame that has a copy is in a cell. Assumes nothing.
use Rattle.std.proofs.Common.{◌≡◌, ℕ, ◌+◌, ◌<◌, ◌≤◌, Bool, true, false, cond, eqb, List, [], ◌∷◌, map, get_or, sum_by, Some, None, sym, refl, ap, ◌∙◌, ⊎_elim, arith}
use Rattle.std.proofs.lemmas.List.{get_or_past}
use Rattle.std.proofs.lemmas.List.Sums.{sum_by-append, sum_by-cons}
use Rattle.std.proofs.lemmas.Bool.{cases_Bool, cases_eq, cases_lt, cond-false, eq-eqb, eqb-false, eqb-true, ne_eqb}
use Rattle.std.specs.Option.{option_to_list}
use Rattle.frame.specs.Numbers.{cell_number}
use Rattle.rules.specs.Copies.{copies_at, queued_at}
use Rattle.rules.specs.Runs.{bit, count, numbered}
use Rattle.buffers.proofs.Held.{copies_line, copy, entries_at, sum_at}
use Rattle.buffers.proofs.Soundness.{fine, in_other, in_own}
use Rattle.buffers.proofs.Sums.{line_in_lines}
use Rattle.buffers.proofs.Views.{at_port}
use Rattle.buffers.specs.Boards.{lines}
use Rattle.buffers.specs.Entries.{in_cell, over_line, over_lines, stray}
use Rattle.buffers.specs.Holdings.{contents, egress, frame_at, free}
use Rattle.buffers.specs.Lines.{Line}
use Rattle.buffers.specs.declared.buffers.Buffers.{Buffers}
use Rattle.buffers.specs.declared.ports.Waiting.{Waiting}

-- how often frame n has a copy at port p
abbrev pub copies_of : ℕ → Buffers → ℕ → ℕ → ℕ
copies_of d b n p = count (numbered n) (queued_at (egress d b p)) + count (numbered n) (option_to_list (egress d b p).out)

module _ (b : Buffers) where
  -- each entry in a cell is a copy of the frame there
  in_cell_copies : (c : ℕ) (es : List Waiting) → sum_by (stray (frame_at b)) es ≡ 0 → sum_by (in_cell c) es ≤ count (numbered (frame_at b c).number) (map (copy b) es)
  in_cell_copies c [] clean = omega arith
  in_cell_copies c (e ∷ es) clean =
      let sums = sum_by-cons (stray (frame_at b)) e es in
      let entries = sum_by-cons (in_cell c) e es in
      let copies = sum_by-cons (λ x. bit (numbered (frame_at b c).number x)) (copy b e) (map (copy b) es) in
      let rest = in_cell_copies c es (omega arith) in
      ⊎_elim
      (λ same.
      let own = fine (frame_at b) e (omega arith) in
      let is : e.number.0 ≡ (frame_at b c).number = sym own.1 ∙ sym (ap (λ x. (frame_at b x).number) same) in
      omega (arith, rest, in_own e c same, ap bit (eq-eqb _ _ is)))
      (λ other. omega (arith, rest, in_other e c other))
      (cases_eq c (cell_number e.cell))

  -- a copy of frame n has an entry in the cell that holds n
  copies_in_cell : (n : ℕ) (es : List Waiting) → sum_by (stray (frame_at b)) es ≡ 0 → 0 < count (numbered n) (map (copy b) es) → (c : ℕ) × ((frame_at b c).number ≡ n) × (0 < sum_by (in_cell c) es)
  copies_in_cell n [] clean some = absurd (omega arith)
  copies_in_cell n (e ∷ es) clean some =
      let sums = sum_by-cons (stray (frame_at b)) e es in
      let copies = sum_by-cons (λ x. bit (numbered n x)) (copy b e) (map (copy b) es) in
      ⊎_elim
      (λ is.
      let own = fine (frame_at b) e (omega arith) in
      let c = cell_number e.cell in
      (c, own.1 ∙ eqb-true _ _ is, omega (arith, sum_by-cons (in_cell c) e es, in_own e c refl)))
      (λ other.
      let r = copies_in_cell n es (omega arith) (omega (arith, ap bit other)) in
      (r.0, r.1, omega (arith, sum_by-cons (in_cell r.0) e es, r.2)))
      (cases_Bool (eqb e.number.0 n))

  clean_at : (p : ℕ) → p < 4 → sum_by (stray (frame_at b)) (entries_at (lines b.board p)) ≡ 0
  clean_at p low =
      omega (arith, b.known, line_in_lines (stray (frame_at b)) (lines b.board) p low, sum_at (stray (frame_at b)) (lines b.board p))

  copies_are : (d n p : ℕ) → p < 4 → copies_of d b n p ≡ count (numbered n) (map (copy b) (entries_at (lines b.board p)))
  copies_are d n p low =
      let e = egress d b p in
      sym (sum_by-append (λ c. bit (numbered n c)) (queued_at e) (option_to_list e.out))
      ∙ ap (λ x. count (numbered n) (copies_at x)) (at_port b p low d)
      ∙ ap (count (numbered n)) (copies_line b (lines b.board p))

  some_port : (f : Waiting → ℕ) (ls : ℕ → Line) → 0 < over_lines f ls → (p : ℕ) × (p < 4) × (0 < over_line f (ls p))
  some_port f ls some =
      ⊎_elim (λ h. (0, omega arith, h)) (λ a. ⊎_elim (λ h. (1, omega arith, h)) (λ b. ⊎_elim (λ h. (2, omega arith, h)) (λ c. (3, omega arith, omega arith)) (cases_lt 0 (over_line f (ls 2)))) (cases_lt 0 (over_line f (ls 1)))) (cases_lt 0 (over_line f (ls 0)))

  -- what a cell holds
  held_there : (c n : ℕ) → contents b c ≡ Some n → (free b c ≡ false) × ((frame_at b c).number ≡ n)
  held_there c n = at (free b c) refl
    where
      at : (t : Bool) → free b c ≡ t → cond t None (Some (frame_at b c).number) ≡ Some n → (free b c ≡ false) × ((frame_at b c).number ≡ n)
      at true f e = cc
      at false f e = (f, cc)

  cell_below : (c : ℕ) → free b c ≡ false → c < 32
  cell_below c held =
      ⊎_elim (λ low. low) (λ high. absurd (eqb-false _ 0 held (get_or_past b.counts c 0 (omega (arith, b.wide))))) (cases_lt c 32)

  pub has_copy : (d c n : ℕ) → contents b c ≡ Some n → (c < 32) × ((p : ℕ) × (p < 4) × (0 < copies_of d b n p))
  has_copy d c n e =
      let h = held_there c n e in
      let some : 0 < over_lines (in_cell c) (lines b.board) = omega (arith, b.counted c, eqb-false _ 0 h.0) in
      let p = some_port (in_cell c) (lines b.board) some in
      (cell_below c h.0, (p.0, p.1, omega (arith, p.2, sum_at (in_cell c) (lines b.board p.0), in_cell_copies c (entries_at (lines b.board p.0)) (clean_at p.0 p.1), copies_are d n p.0 p.1, ap (λ k. count (numbered k) (map (copy b) (entries_at (lines b.board p.0)))) h.1)))

  pub in_a_cell : (d n p : ℕ) → p < 4 → 0 < copies_of d b n p → (c : ℕ) × (contents b c ≡ Some n)
  in_a_cell d n p low some =
      let es = entries_at (lines b.board p) in
      let r = copies_in_cell n es (clean_at p low) (omega (arith, copies_are d n p low)) in
      let used : 0 < get_or b.counts r.0 0 = omega (arith, r.2, sum_at (in_cell r.0) (lines b.board p), line_in_lines (in_cell r.0) (lines b.board) p low, b.counted r.0) in
      (r.0, cond-false (free b r.0) None (Some (frame_at b r.0).number) (ne_eqb _ 0 (λ z. omega arith)) ∙ ap Some r.1)
