-- Numbers and rows that are read in a part of a list. Assumes nothing.
use Rattle.std.proofs.Common.{◌≡◌, ℕ, zero, suc, ◌+◌, ◌*◌, ◌/◌, ◌≤◌, List, ◌∷◌, length, get_or, drop, sym, refl, ap, ◌∙◌, add-zero, add_assoc, zero-add, arith, length-drop}
use Rattle.std.proofs.lemmas.List.{get_or-drop}
use Rattle.frame.specs.Numbers.{number_at}
use Rattle.records.specs.Format.{row_at, rows_at}

-- as `u16::from_be_bytes` has it
pub number_of_two : (bs : List ℕ) (i : ℕ) → get_or bs i 0 * 256 + get_or bs (i + 1) 0 ≡ number_at bs i 2
number_of_two bs i = rw (zero-add, add-zero)

pub number_drop : (bs : List ℕ) (p i n : ℕ) → number_at (drop p bs) i n ≡ number_at bs (p + i) n
number_drop bs p i zero = refl
number_drop bs p i (suc n) = rw (number_drop bs p i n, get_or-drop, add_assoc)

row_drop : (bs : List ℕ) (p i : ℕ) → row_at (drop p bs) i ≡ row_at bs (p + i)
row_drop bs p i = λ j. (number_drop bs p i 6 j, (get_or-drop p bs (i + 6) 0 ∙ ap (λ q. get_or bs q 0) (sym (add_assoc p i 6))) j)

pub rows_drop : (bs : List ℕ) (p i n : ℕ) → rows_at (drop p bs) i n ≡ rows_at bs (p + i) n
rows_drop bs p i zero = refl
rows_drop bs p i (suc n) =
    λ j. row_drop bs p i j ∷ (rows_drop bs p (i + 7) n ∙ ap (λ q. rows_at bs q n) (sym (add_assoc p i 7))) j

pub length_rows : (bs : List ℕ) (p n : ℕ) → length (rows_at bs p n) ≡ n
length_rows bs p zero = refl
length_rows bs p (suc n) = ap suc (length_rows bs (p + 7) n)

-- the first row, and those behind it
pub first_row : (bs rest : List ℕ) (row : ℕ × ℕ) → 7 ≤ length bs → rest ≡ drop 7 bs → row ≡ row_at bs 0 → rows_at bs 0 (length bs / 7) ≡ row ∷ rows_at rest 0 (length rest / 7)
first_row bs rest row room behind is =
    let n : ℕ = length rest / 7 in
    let more : length bs / 7 ≡ suc n = omega (arith, ap length behind, length-drop 7 bs) in
    ap (rows_at bs 0) more ∙ (λ j. sym is j ∷ (sym (rows_drop bs 7 0 n) ∙ ap (λ l. rows_at l 0 n) (sym behind)) j)
