-- A cell is at most once at a port, so that a queue with a place for each cell has room for one that is not there. Assumes nothing.
use Rattle.std.proofs.Common.{◌≡◌, ℕ, zero, suc, ◌+◌, ◌<◌, ◌≤◌, cond, eqb, ltb, List, [], ◌∷◌, length, sum_by, refl, ap, ⊎_elim, arith}
use Rattle.std.proofs.lemmas.Bool.{cases_eq, cases_lt, cond-false, cond-true, eq-eqb, le-ltb, lt-ltb, ne_eqb}
use Rattle.std.proofs.lemmas.List.Sums.{sum_by-cons}
use Rattle.frame.specs.Numbers.{cell_number}
use Rattle.frame.specs.declared.numbers.Cell.{Cell}
use Rattle.buffers.proofs.Sums.{queue_in_line}
use Rattle.buffers.specs.Boards.{lines}
use Rattle.buffers.specs.Entries.{in_cell, over_line}
use Rattle.buffers.specs.declared.buffers.Buffers.{Buffers}
use Rattle.buffers.specs.declared.ports.Waiting.{Waiting}

-- the sum of g over the numbers below n
unfoldable pub upto : (ℕ → ℕ) → ℕ → ℕ
upto g zero = 0
upto g (suc n) = g n + upto g n

pub upto_zero : (g : ℕ → ℕ) → upto g 0 ≡ 0
unfolding upto
upto_zero g = refl

pub upto_none : (g : ℕ → ℕ) → ((d : ℕ) → g d ≡ 0) → (n : ℕ) → upto g n ≡ 0
unfolding upto
upto_none g none zero = refl
upto_none g none (suc n) = omega (arith, none n, upto_none g none n)

pub upto_add : (g h : ℕ → ℕ) (n : ℕ) → upto (λ d. g d + h d) n ≡ upto g n + upto h n
unfolding upto
upto_add g h zero = refl
upto_add g h (suc n) = omega (arith, upto_add g h n)

pub upto_same : (g h : ℕ → ℕ) (n : ℕ) → ((d : ℕ) → d < n → g d ≡ h d) → upto g n ≡ upto h n
unfolding upto
upto_same g h zero same = refl
upto_same g h (suc n) same = omega (arith, same n (omega arith), upto_same g h n (λ d l. same d (omega arith)))

pub upto_first : (g : ℕ → ℕ) (n : ℕ) → upto g (suc n) ≡ g 0 + upto (λ d. g (suc d)) n
unfolding upto
upto_first g zero = refl
upto_first g (suc n) = omega (arith, upto_first g n)

-- v at x only
abbrev pub only : ℕ → ℕ → ℕ → ℕ
only x v d = cond (eqb x d) v 0

upto_past : (x v n : ℕ) → n ≤ x → upto (only x v) n ≡ 0
unfolding upto
upto_past x v zero h = refl
upto_past x v (suc n) h = omega (arith, cond-false (eqb x n) v 0 (ne_eqb x n (λ e. omega arith)), upto_past x v n (omega arith))

pub upto_only : (x v n : ℕ) → x < n → upto (only x v) n ≡ v
unfolding upto
upto_only x v zero h = absurd (omega arith)
upto_only x v (suc n) h =
    ⊎_elim
    (λ same. omega (arith, cond-true (eqb x n) v 0 (eq-eqb x n same), upto_past x v n (omega arith)))
    (λ other. omega (arith, cond-false (eqb x n) v 0 (ne_eqb x n other), upto_only x v n (omega (arith, other))))
    (cases_eq x n)

-- entries counted cell by cell
cells_all : (es : List Waiting) → upto (λ d. sum_by (in_cell d) es) 32 ≡ length es
cells_all [] = upto_none (λ d. 0) (λ d. refl) 32
cells_all (e ∷ es) =
    omega (arith, upto_same (λ d. sum_by (in_cell d) (e ∷ es)) (λ d. in_cell d e + sum_by (in_cell d) es) 32 (λ d l. sum_by-cons (in_cell d) e es), upto_add (λ d. in_cell d e) (λ d. sum_by (in_cell d) es) 32, upto_only (cell_number e.cell) 1 32 e.cell.within, cells_all es)

-- at most one each, and none of c
upto_less : (g : ℕ → ℕ) (c : ℕ) → ((d : ℕ) → g d ≤ 1) → g c ≡ 0 → (n : ℕ) → upto g n + cond (ltb c n) 1 0 ≤ n
unfolding upto
upto_less g c few none zero = omega (arith, cond-false {A = ℕ} (ltb c 0) 1 0 (le-ltb c 0 (omega arith)))
upto_less g c few none (suc n) =
    ⊎_elim
    (λ before. omega (arith, upto_less g c few none n, few n, cond-true {A = ℕ} (ltb c n) 1 0 (lt-ltb c n before), cond-true {A = ℕ} (ltb c (suc n)) 1 0 (lt-ltb c (suc n) (omega arith))))
    (λ past.
    ⊎_elim
    (λ same. omega (arith, upto_less g c few none n, cond-false {A = ℕ} (ltb c n) 1 0 (le-ltb c n past), cond-true {A = ℕ} (ltb c (suc n)) 1 0 (lt-ltb c (suc n) (omega arith)), none, ap g same))
    (λ other. omega (arith, upto_less g c few none n, few n, cond-false {A = ℕ} (ltb c n) 1 0 (le-ltb c n past), cond-false {A = ℕ} (ltb c (suc n)) 1 0 (le-ltb c (suc n) (omega (arith, other)))))
    (cases_eq c n))
    (cases_lt c n)

-- a queue of a port has room for the frame in a cell that is not there yet
pub room : (b : Buffers) (p k : ℕ) (c : Cell) → k < 4 → over_line (in_cell (cell_number c)) (lines b.board p) ≡ 0 → length ((lines b.board p).queue k) < 32
room b p k c low absent =
    let es = (lines b.board p).queue k in
    let few : (d : ℕ) → sum_by (in_cell d) es ≤ 1 = λ d. omega (arith, queue_in_line (in_cell d) (lines b.board p) k low, b.once p d) in
    let none : sum_by (in_cell (cell_number c)) es ≡ 0 = omega (arith, queue_in_line (in_cell (cell_number c)) (lines b.board p) k low, absent) in
    omega (arith, cells_all es, upto_less (λ d. sum_by (in_cell d) es) (cell_number c) few none 32, cond-true {A = ℕ} (ltb (cell_number c) 32) 1 0 (lt-ltb (cell_number c) 32 c.within))
