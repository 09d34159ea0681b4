-- How the lines of the ports, the frames in the cells and the counts hang together, and that a change of one port keeps it. Assumes nothing.
use Rattle.std.proofs.Common.{◌≡◌, ℕ, ◌+◌, ◌<◌, ◌≤◌, true, ◌&&◌, eqb, ltb, List, map, length, get_or, sum_by, sym, ap, ◌∙◌, subst, ⊎_elim, arith}
use Rattle.std.proofs.lemmas.Bool.{and_from, and_parts, cases_Bool, cond_both, cond-false, cond-true, eq-eqb, eqb-true, ltb-true, ne_eqb}
use Rattle.frame.specs.Numbers.{cell_number}
use Rattle.rules.specs.Copies.{Copy, put}
use Rattle.buffers.proofs.Sums.{over_put}
use Rattle.buffers.specs.Boards.{lines}
use Rattle.buffers.specs.Entries.{frame_of, in_cell, over_line, over_lines, price_of, stray}
use Rattle.buffers.specs.Holdings.{frame_at}
use Rattle.buffers.specs.Lines.{Line, empty_line}
use Rattle.buffers.specs.declared.boards.Board.{Board}
use Rattle.buffers.specs.declared.buffers.Buffers.{Buffers}
use Rattle.buffers.specs.declared.ports.Waiting.{Waiting}

-- in_cell, at the cell of the entry and at another
pub in_own : (e : Waiting) (c : ℕ) → c ≡ cell_number e.cell → in_cell c e ≡ 1
in_own e c same = cond-true (eqb (cell_number e.cell) c) 1 0 (eq-eqb _ _ (sym same))

pub in_other : (e : Waiting) (c : ℕ) → (c ≡ cell_number e.cell → ⊥) → in_cell c e ≡ 0
in_other e c other = cond-false (eqb (cell_number e.cell) c) 1 0 (ne_eqb _ _ (λ same. other (sym same)))

pub not_in : (e : Waiting) (c : ℕ) → in_cell c e ≡ 0 → cell_number e.cell ≡ c → ⊥
not_in e c none same = omega (arith, none, in_own e c (sym same))

-- put, at its place and at another
pub put_same : {A : Type 0} (f : ℕ → A) (p : ℕ) (x : A) (q : ℕ) → q ≡ p → put f p x q ≡ x
put_same f p x q same = cond-true (eqb q p) x (f q) (eq-eqb q p same)

pub put_other : {A : Type 0} (f : ℕ → A) (p : ℕ) (x : A) (q : ℕ) → (q ≡ p → ⊥) → put f p x q ≡ f q
put_other f p x q other = cond-false (eqb q p) x (f q) (ne_eqb q p other)

-- what holds of x and of each f q holds of f with x put in
pub put_each : {A : Type 0} (P : A → Type 0) (f : ℕ → A) (p : ℕ) (x : A) → P x → ((q : ℕ) → P (f q)) → (q : ℕ) → P (put f p x q)
put_each P f p x here there q = cond_both (eqb q p) x (f q) P (λ same. here) (λ other. there q)

-- an entry that is no stray is for the frame in its cell
pub fine : (frames : ℕ → Copy) (e : Waiting) → stray frames e ≡ 0 → (0 < length (frame_of frames e).bytes) × ((frame_of frames e).number ≡ e.number.0)
fine frames e none =
    let b = ltb 0 (length (frame_of frames e).bytes) && eqb (frame_of frames e).number e.number.0 in
    let met : b ≡ true = ⊎_elim (λ t. t) (λ f. absurd (omega (arith, none, cond-false {A = ℕ} b 0 1 f))) (cases_Bool b) in
    let parts = and_parts _ _ met in
    (ltb-true _ _ parts.0, eqb-true _ _ parts.1)

pub no_stray : (frames : ℕ → Copy) (e : Waiting) → ltb 0 (length (frame_of frames e).bytes) ≡ true → (frame_of frames e).number ≡ e.number.0 → stray frames e ≡ 0
no_stray frames e filled same = cond-true {A = ℕ} _ 0 1 (and_from _ _ filled (eq-eqb _ _ same))

-- what the buffers keep
abbrev pub Sound : (ℕ → Line) → (ℕ → Copy) → List ℕ → Type 0
Sound ls frames counts = record {
  wide : length counts ≡ 32;
  counted : (c : ℕ) → get_or counts c 0 ≡ over_lines (in_cell c) ls;
  known : over_lines (stray frames) ls ≡ 0;
  once : (p c : ℕ) → over_line (in_cell c) (ls p) ≤ 1;
  priced : (p : ℕ) → p < 4 → (ls p).prices ≡ map (price_of frames) ((ls p).queue 2);
}

-- port p gets the line l, where some entries are gained and some are lost
pub moved : (b : Buffers) (p : ℕ) → p < 4 → (l : Line) (gained lost : List Waiting)
    → ((f : Waiting → ℕ) → over_line f l + sum_by f lost ≡ over_line f (lines b.board p) + sum_by f gained)
    → l.prices ≡ map (price_of (frame_at b)) (l.queue 2)
    → sum_by (stray (frame_at b)) gained ≡ 0
    → ((c : ℕ) → over_line (in_cell c) (lines b.board p) + sum_by (in_cell c) gained ≤ 1)
    → (counts : List ℕ) → length counts ≡ 32
    → ((c : ℕ) → get_or counts c 0 + sum_by (in_cell c) lost ≡ get_or b.counts c 0 + sum_by (in_cell c) gained)
    → (board : Board) → lines board ≡ put (lines b.board) p l
    → Sound (lines board) (frame_at b) counts
moved b p low l gained lost sums prices clean few counts wide count board state =
    let ls = lines b.board in
    let s : Sound (put ls p l) (frame_at b) counts = record {
      wide = wide;
      counted = λ c. omega (arith, count c, b.counted c, over_put (in_cell c) ls l p low, sums (in_cell c));
      known = omega (arith, b.known, over_put (stray (frame_at b)) ls l p low, sums (stray (frame_at b)), clean);
      once = λ q c. put_each (λ x. over_line (in_cell c) x ≤ 1) ls p l (omega (arith, sums (in_cell c), few c)) (λ r. b.once r c) q;
      priced = λ q h. cond_both (eqb q p) l (ls q) (λ x. x.prices ≡ map (price_of (frame_at b)) (x.queue 2)) (λ same. prices) (λ other. b.priced q h);
    } in
    subst (λ x. Sound x (frame_at b) counts) (sym state) s

-- nothing at the ports, no frame in a cell, and nothing counted
pub new_sound : (ls : ℕ → Line) (frames : ℕ → Copy) (counts : List ℕ) (tokens : ℕ → ℕ) → ((p : ℕ) → ls p ≡ empty_line (tokens p)) → length counts ≡ 32 → ((c : ℕ) → get_or counts c 0 ≡ 0) → Sound ls frames counts
new_sound ls frames counts tokens empty wide zeros =
    let none : (f : Waiting → ℕ) (p : ℕ) → over_line f (ls p) ≡ 0 = λ f p. ap (over_line f) (empty p) in
    record {
      wide = wide;
      counted = λ c. omega (arith, zeros c, none (in_cell c) 0, none (in_cell c) 1, none (in_cell c) 2, none (in_cell c) 3);
      known = omega (arith, none (stray frames) 0, none (stray frames) 1, none (stray frames) 2, none (stray frames) 3);
      once = λ p c. omega (arith, none (in_cell c) p);
      priced = λ p h. ap (λ l. l.prices) (empty p) ∙ sym (ap (λ l. map (price_of frames) (l.queue 2)) (empty p));
    }
