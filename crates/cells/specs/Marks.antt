-- The marks of a store: which cells are held, and how many are free. Assumes nothing.
use Rattle.std.specs.Prelude.{◌≡◌, ℕ, zero, suc, ◌+◌, ◌<◌, ◌≤◌, Bool, true, false, not, ◌&&◌, List, [], ◌∷◌, length, nat_lt, slice_set, refl}
use Rattle.std.proofs.Common.{sym, ap, ◌∙◌, arith}
use Rattle.std.proofs.lemmas.Bool.{and_parts, cond-true, false≢true, lt-ltb, ltb-true, not-true, true≢false}
use Rattle.frame.specs.Refusals.{accepted}
use Rattle.cells.specs.Stores.{free_at, free_count, given_back, held_at}

-- what it means that a cell is held
pub held_parts : (ms : List Bool) (c : ℕ) → held_at ms c ≡ true → (c < 32) × (free_at ms c ≡ false)
held_parts ms c h =
    let parts = and_parts (nat_lt c 32) (not (free_at ms c)) h in
    (ltb-true c 32 parts.0, not-true (free_at ms c) parts.1)

-- and which cells that there are are held
pub held_from : (ms : List Bool) (c : ℕ) → c < 32 → held_at ms c ≡ not (free_at ms c)
held_from ms c l = ap (λ t. t && not (free_at ms c)) (lt-ltb c 32 l)

-- a held cell that was put in is given back
pub back_made : (ms after : List Bool) (c : ℕ) → held_at ms c ≡ true → after ≡ slice_set ms c true → (accepted tt, after) ≡ given_back ms c
back_made ms after c h e = ap (λ l. (accepted tt, l)) e ∙ sym (cond-true (held_at ms c) _ _ h)

-- a free cell is among those that there are
pub free_within : (ms : List Bool) (c : ℕ) → free_at ms c ≡ true → c < length ms
free_within [] c e = absurd (false≢true e)
free_within (m ∷ ms) zero e = omega arith
free_within (m ∷ ms) (suc c) e = omega (arith, free_within ms c e)

-- taking a free cell out leaves one less
pub count_cleared : (ms : List Bool) (c : ℕ) → free_at ms c ≡ true → free_count (slice_set ms c false) + 1 ≡ free_count ms
count_cleared [] c e = absurd (false≢true e)
count_cleared (true ∷ ms) zero e = omega arith
count_cleared (false ∷ ms) zero e = absurd (false≢true e)
count_cleared (m ∷ ms) (suc c) e = omega (arith, count_cleared ms c e)

-- putting a held cell in makes one more
pub count_set : (ms : List Bool) (c : ℕ) → c < length ms → free_at ms c ≡ false → free_count (slice_set ms c true) ≡ free_count ms + 1
count_set [] c l e = absurd (omega arith)
count_set (true ∷ ms) zero l e = absurd (true≢false e)
count_set (false ∷ ms) zero l e = omega arith
count_set (m ∷ ms) (suc c) l e = omega (arith, count_set ms c (omega arith) e)

pub count_set_le : (ms : List Bool) (c : ℕ) → free_count (slice_set ms c true) ≤ free_count ms + 1
count_set_le [] c = omega arith
count_set_le (true ∷ ms) zero = omega arith
count_set_le (false ∷ ms) zero = omega arith
count_set_le (m ∷ ms) (suc c) = omega (arith, count_set_le ms c)

-- where that makes one more, the cell was held
pub raised : (ms : List Bool) (c : ℕ) → free_count ms < free_count (slice_set ms c true) → (c < length ms) × (free_at ms c ≡ false)
raised [] c h = absurd (omega arith)
raised (true ∷ ms) zero h = absurd (omega arith)
raised (false ∷ ms) zero h = (omega arith, refl)
raised (m ∷ ms) (suc c) h = let up = raised ms c (omega arith) in (omega (arith, up.0), up.1)

pub count_le : (ms : List Bool) → free_count ms ≤ length ms
count_le [] = omega arith
count_le (true ∷ ms) = omega (arith, count_le ms)
count_le (false ∷ ms) = omega (arith, count_le ms)
