-- As many cells are in use as frames are held. Assumes nothing.
use Rattle.std.proofs.Common.{◌≡◌, ℕ, zero, suc, ◌+◌, ◌-◌, ◌<◌, Bool, true, false, cond, not, ◌||◌, eqb, List, [], ◌∷◌, ◌++◌, map, length, get_or, sum_by, Some, None, Option, sym, refl, ap, ◌∙◌, ⊎_elim, arith}
use Rattle.std.proofs.lemmas.List.{map-append}
use Rattle.std.proofs.lemmas.List.Sums.{sum_by-append, sum_by-cons}
use Rattle.std.proofs.lemmas.Bool.{cases_eq, cond-false, cond-true, eq-eqb, ne_eqb, or_left}
use Rattle.std.specs.Option.{option_map, option_to_list}
use Rattle.cells.specs.Stores.{cell_count, free_count}
use Rattle.frame.specs.Numbers.{cell_number}
use Rattle.rules.specs.Copies.{Copy, among, copies_at, distinct}
use Rattle.rules.specs.Switch.{over_ports}
use Rattle.buffers.proofs.Rooms.{only, upto, upto_add, upto_first, upto_none, upto_only, upto_same, upto_zero}
use Rattle.buffers.proofs.Soundness.{fine, in_other, in_own}
use Rattle.buffers.specs.Boards.{lines}
use Rattle.buffers.specs.Entries.{copy_of, in_cell, over_line, over_lines, shown, stray}
use Rattle.buffers.specs.Frames.{held}
use Rattle.buffers.specs.Holdings.{egress, frame_at, free}
use Rattle.buffers.specs.Lines.{Line}
use Rattle.buffers.specs.declared.buffers.Buffers.{Buffers}
use Rattle.buffers.specs.declared.frames.Frames.{Frames}
use Rattle.buffers.specs.declared.ports.Waiting.{Waiting}

abbrev number_of : Waiting → ℕ
number_of e = e.number.0

-- 1 for a number that is not 0
abbrev some : ℕ → ℕ
some n = cond (eqb n 0) 0 1

-- frames in different cells have different numbers
frames_apart : (f : Frames) (c d : ℕ) → (0 < length (held f c).bytes) × (0 < length (held f d).bytes) × ((held f c).number ≡ (held f d).number) → c ≡ d
frames_apart f c d both = f.apart c d (omega (arith, f.long c, both.0), omega (arith, f.long d, both.1), both.2)

module _ (f : Frames) where
  -- a frame has a copy among the entries if one of them is in its cell
  among_cell : (e : Waiting) → stray (held f) e ≡ 0 → (es : List Waiting) → sum_by (stray (held f)) es ≡ 0 → among (number_of e) (map number_of es) ≡ not (eqb (sum_by (in_cell (cell_number e.cell)) es) 0)
  among_cell e known [] clean = refl
  among_cell e known (x ∷ es) clean =
      let ours = fine (held f) e known in
      let sums = sum_by-cons (stray (held f)) x es in
      let theirs = fine (held f) x (omega arith) in
      let rest = among_cell e known es (omega arith) in
      let c = cell_number e.cell in
      let count = sum_by-cons (in_cell c) x es in
      ⊎_elim
      (λ same.
      let equal : number_of e ≡ number_of x = omega (arith, ours.1, theirs.1, ap (λ d. (held f d).number) same) in
      or_left (eqb (number_of e) (number_of x)) _ (eq-eqb _ _ equal)
      ∙ sym (ap not (ne_eqb (sum_by (in_cell c) (x ∷ es)) 0 (λ z. omega (arith, z, in_own x c same)))))
      (λ other.
      let differ : number_of e ≡ number_of x → ⊥ = λ q. other (frames_apart f c (cell_number x.cell) (ours.0, theirs.0, omega (arith, q, ours.1, theirs.1))) in
      ap (λ t. t || among (number_of e) (map number_of es)) (ne_eqb _ _ differ)
      ∙ rest
      ∙ ap (λ n. not (eqb n 0)) (omega (arith, in_other x c other)))
      (cases_eq c (cell_number x.cell))

  -- one entry more brings one more cell in use, if no other entry is in its cell
  more_cells : (g : ℕ → ℕ) (x : ℕ) → x < 32 → upto (λ c. some (only x 1 c + g c)) 32 ≡ cond (eqb (g x) 0) 1 0 + upto (λ c. some (g c)) 32
  more_cells g x low =
      upto_same (λ c. some (only x 1 c + g c)) (λ c. only x (cond (eqb (g x) 0) 1 0) c + some (g c)) 32 (λ c l. each c)
      ∙ upto_add (only x (cond (eqb (g x) 0) 1 0)) (λ c. some (g c)) 32
      ∙ ap (λ n. n + upto (λ c. some (g c)) 32) (upto_only x (cond (eqb (g x) 0) 1 0) 32 low)
    where
      one : (b : Bool) → 1 ≡ cond b 1 0 + cond b 0 1
      one true = refl
      one false = refl

      each : (c : ℕ) → some (only x 1 c + g c) ≡ only x (cond (eqb (g x) 0) 1 0) c + some (g c)
      each c =
          ⊎_elim
          (λ same.
          let here = cond-true {A = ℕ} (eqb x c) (cond (eqb (g x) 0) 1 0) 0 (eq-eqb x c same) in
          let at : some (only x 1 c + g c) ≡ 1 = cond-false {A = ℕ} (eqb (only x 1 c + g c) 0) 0 1 (ne_eqb _ 0 (λ z. omega (arith, z, cond-true {A = ℕ} (eqb x c) 1 0 (eq-eqb x c same)))) in
          omega (arith, at, here, one (eqb (g x) 0), ap (λ d. cond {A = ℕ} (eqb (g d) 0) 0 1) same))
          (λ other.
          let gone : only x 1 c + g c ≡ g c = omega (arith, cond-false {A = ℕ} (eqb x c) 1 0 (ne_eqb x c other)) in
          omega (arith, ap some gone, cond-false {A = ℕ} (eqb x c) (cond (eqb (g x) 0) 1 0) 0 (ne_eqb x c other)))
          (cases_eq x c)

  -- different numbers, and cells in use
  held_cells : (es : List Waiting) → sum_by (stray (held f)) es ≡ 0 → distinct (map number_of es) ≡ upto (λ c. some (sum_by (in_cell c) es)) 32
  held_cells [] clean = sym (upto_none (λ c. 0) (λ c. refl) 32)
  held_cells (e ∷ es) clean =
      let c = cell_number e.cell in
      let sums = sum_by-cons (stray (held f)) e es in
      let known : stray (held f) e ≡ 0 = omega arith in
      let is = among_cell e known es (omega arith) in
      (λ i. cond (is i) 0 1 + held_cells es (omega arith) i)
      ∙ ap (λ n. n + upto (λ d. some (sum_by (in_cell d) es)) 32) (turn (eqb (sum_by (in_cell c) es) 0))
      ∙ sym (more_cells (λ d. sum_by (in_cell d) es) c e.cell.within)
      ∙ upto_same _ (λ d. some (sum_by (in_cell d) (e ∷ es))) 32 (λ d l. ap some (sym (sum_by-cons (in_cell d) e es)))
    where
      turn : (b : Bool) → cond {A = ℕ} (not b) 0 1 ≡ cond b 1 0
      turn true = refl
      turn false = refl

-- the entries at a port, and at all ports, in the definition's order
abbrev pub entries_at : Line → List Waiting
entries_at l = (l.queue 0 ++ (l.queue 1 ++ (l.queue 2 ++ l.queue 3))) ++ option_to_list l.out

pub sum_at : (f : Waiting → ℕ) (l : Line) → sum_by f (entries_at l) ≡ over_line f l
sum_at f l =
    omega (arith, sum_by-append f (l.queue 0 ++ (l.queue 1 ++ (l.queue 2 ++ l.queue 3))) (option_to_list l.out), sum_by-append f (l.queue 0) (l.queue 1 ++ (l.queue 2 ++ l.queue 3)), sum_by-append f (l.queue 1) (l.queue 2 ++ l.queue 3), sum_by-append f (l.queue 2) (l.queue 3))

sum_all : (f : Waiting → ℕ) (ls : ℕ → Line) → sum_by f (over_ports (λ p. entries_at (ls p))) ≡ over_lines f ls
sum_all f ls =
    omega (arith, sum_by-append f (entries_at (ls 0)) (entries_at (ls 1) ++ (entries_at (ls 2) ++ entries_at (ls 3))), sum_by-append f (entries_at (ls 1)) (entries_at (ls 2) ++ entries_at (ls 3)), sum_by-append f (entries_at (ls 2)) (entries_at (ls 3)), sum_at f (ls 0), sum_at f (ls 1), sum_at f (ls 2), sum_at f (ls 3))

map_list_of : {A B : Type 0} (g : A → B) (o : Option A) → map g (option_to_list o) ≡ option_to_list (option_map g o)
map_list_of g None = refl
map_list_of g (Some x) = refl

-- the numbers of the copies are those of the entries
module _ (b : Buffers) where
  abbrev pub copy : Waiting → Copy
  copy = copy_of (frame_at b)

  numbers_list : (es : List Waiting) → map (λ c. c.number) (map copy es) ≡ map number_of es
  numbers_list [] = refl
  numbers_list (e ∷ es) = ap (λ l. number_of e ∷ l) (numbers_list es)

  pub copies_line : (l : Line) → copies_at (shown (frame_at b) l) ≡ map copy (entries_at l)
  copies_line l =
      sym (map-append copy (l.queue 0 ++ (l.queue 1 ++ (l.queue 2 ++ l.queue 3))) (option_to_list l.out)
      ∙ (λ i. (map-append copy (l.queue 0) (l.queue 1 ++ (l.queue 2 ++ l.queue 3)) ∙ ap (λ r. map copy (l.queue 0) ++ r) (map-append copy (l.queue 1) (l.queue 2 ++ l.queue 3) ∙ ap (λ r. map copy (l.queue 1) ++ r) (map-append copy (l.queue 2) (l.queue 3)))) i ++ map_list_of copy l.out i))

  copies_all : (d : ℕ) → over_ports (λ p. copies_at (egress d b p)) ≡ map copy (over_ports (λ p. entries_at (lines b.board p)))
  copies_all d =
      let at : ℕ → List Waiting = λ p. entries_at (lines b.board p) in
      (λ i. copies_line (lines b.board 0) i ++ (copies_line (lines b.board 1) i ++ (copies_line (lines b.board 2) i ++ copies_line (lines b.board 3) i)))
      ∙ sym (map-append copy (at 0) (at 1 ++ (at 2 ++ at 3)) ∙ ap (λ r. map copy (at 0) ++ r) (map-append copy (at 1) (at 2 ++ at 3) ∙ ap (λ r. map copy (at 1) ++ r) (map-append copy (at 2) (at 3))))

  -- as many frames are held as cells are in use
  held_is : (d : ℕ) → distinct (map (λ c. c.number) (over_ports (λ p. copies_at (egress d b p)))) ≡ upto (λ c. cond (free b c) 0 1) 32
  held_is d =
      let es = over_ports (λ p. entries_at (lines b.board p)) in
      ap (λ cs. distinct (map (λ c. c.number) cs)) (copies_all d)
      ∙ ap distinct (numbers_list es)
      ∙ held_cells b.frames es (sum_all (stray (frame_at b)) (lines b.board) ∙ b.known)
      ∙ upto_same (λ c. some (sum_by (in_cell c) es)) (λ c. cond (free b c) 0 1) 32 (λ c l. ap some (sum_all (in_cell c) (lines b.board) ∙ sym (b.counted c)))

-- the marks of a store, and those that are not set
marks_split : (ms : List Bool) (n : ℕ) → length ms ≡ n → free_count ms + upto (λ c. cond (get_or ms c false) 0 1) n ≡ n
marks_split [] n e = subst_zero n e
  where
    subst_zero : (n : ℕ) → 0 ≡ n → 0 + upto (λ c. 1) n ≡ n
    subst_zero zero h = ap (λ x. 0 + x) (upto_zero (λ c. 1))
    subst_zero (suc n) h = absurd (omega arith)
marks_split (m ∷ ms) zero e = absurd (omega arith)
marks_split (m ∷ ms) (suc n) e =
    omega (arith, upto_first (λ c. cond (get_or (m ∷ ms) c false) 0 1) n, marks_split ms n (omega arith), either m)
  where
    either : (m : Bool) → cond m 1 0 + cond m 0 1 ≡ 1
    either true = refl
    either false = refl

-- a store whose marks are those of the cells that are free has as many free as the definition
pub free_is : (b : Buffers) (d : ℕ) (ms : List Bool) → length ms ≡ 32 → ((c : ℕ) → c < 32 → get_or ms c false ≡ free b c) → free_count ms ≡ cell_count - distinct (map (λ c. c.number) (over_ports (λ p. copies_at (egress d b p))))
free_is b d ms wide same =
    omega (arith, held_is b d, marks_split ms 32 wide, upto_same (λ c. cond (get_or ms c false) 0 1) (λ c. cond (free b c) 0 1) 32 (λ c l. ap (λ m. cond m 0 1) (same c l)))
