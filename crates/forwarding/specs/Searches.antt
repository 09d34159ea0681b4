-- Going through rows from the front: what each of them says of the search. Assumes nothing.
use Rattle.std.specs.Prelude.{◌≡◌, ℕ, ◌+◌, ◌<◌, ◌≤◌, true, false, List, [], ◌∷◌, ◌++◌, length, is_some, IfSome, Some, None, ◌==◌}
use Rattle.std.proofs.Common.{sym, ap, ◌∙◌, add-zero, arith}
use Rattle.std.proofs.lemmas.Bool.{and_parts, cond_both, cond-true, ltb-true}
use Rattle.forwarding.specs.Rows.{first_row, first_wrong, fits_at}
use Rattle.forwarding.specs.declared.rows.Row.{Row}

-- where no row is wrong, neither is the first nor any of the others
both_fit : (i : ℕ) (row : Row) (rows : List Row) → is_some (first_wrong i (row ∷ rows)) ≡ false → (fits_at i row ≡ true) × (is_some (first_wrong (i + 1) rows) ≡ false)
both_fit i row rows e = (grind arith, grind arith)

-- and behind rows of which none is wrong it depends on the others
pub wrong_behind : (i : ℕ) (fit rows : List Row) → is_some (first_wrong i fit) ≡ false → first_wrong i (fit ++ rows) ≡ first_wrong (i + length fit) rows
wrong_behind i [] rows e = ap (λ k. first_wrong k rows) (sym (add-zero i))
wrong_behind i (row ∷ fit) rows e =
    let both = both_fit i row fit e in
    let place : i + 1 + length fit ≡ i + length (row ∷ fit) = omega arith in
    cond-true (fits_at i row) _ _ both.0 ∙ wrong_behind (i + 1) fit rows both.1 ∙ ap (λ k. first_wrong k rows) place

-- so there is room for them
all_fit : (i : ℕ) (rows : List Row) → i ≤ 12 → is_some (first_wrong i rows) ≡ false → i + length rows ≤ 12
all_fit i [] room e = omega arith
all_fit i (row ∷ rows) room e =
    let fit = both_fit i row rows e in
    let here = ltb-true i 12 (and_parts _ _ fit.0).0 in
    omega (arith, all_fit (i + 1) rows (omega arith) fit.1)

pub held_fit : (rows : List Row) → None ≡ first_wrong 0 rows → length rows ≤ 12
held_fit rows e = omega (arith, all_fit 0 rows (omega arith) (sym (ap is_some e)))

-- and the set that decides is one of the four ports
pub all_narrow : (i : ℕ) (rows : List Row) (d : ℕ) → is_some (first_wrong i rows) ≡ false → IfSome (first_row rows d) (λ s. s < 16)
all_narrow i [] d e = tt
all_narrow i (row ∷ rows) d e =
    let fit = both_fit i row rows e in
    cond_both (row.address.bits == d) (Some row.ports) (first_row rows d) (λ o. IfSome o (λ s. s < 16))
    (λ hit. ltb-true _ _ (and_parts _ _ fit.0).1)
    (λ miss. all_narrow (i + 1) rows d fit.1)
