-- What has been granted of a store while none came back. Assumes nothing.
use Rattle.std.proofs.Common.{◌≡◌, ℕ, zero, suc, Bool, true, false, ◌||◌, List, length, get_or, replicate, is_err, Ok, Err, Result, sym, refl, ap, ◌∙◌, ⊎_elim, arith, ext_get_or}
use Rattle.std.proofs.lemmas.Bool.{cases_Bool}
use Rattle.std.proofs.Math.Bool.{or-false}
use Rattle.frame.specs.Refusals.{told}
use Rattle.frame.specs.Numbers.{cell_number}
use Rattle.frame.specs.declared.numbers.Cell.{Cell}
use Rattle.frame.specs.declared.refusals.Refusal.{Refusal}
use Rattle.cells.specs.Stores.{free_at, free_count, Granted}
use Rattle.cells.specs.Marks.{count_cleared}

-- of the cells that were free at first these came; they are no longer free, and the others still are
pub record Came (first marks came : List Bool) : Type 0 where
  pub long : length came ≡ 32
  pub parts : (k : ℕ) → free_at first k ≡ (get_or came k false || free_at marks k)

none_came : (n k : ℕ) → get_or (replicate n false) k false ≡ false
none_came zero k = refl
none_came (suc n) zero = refl
none_came (suc n) (suc k) = none_came n k

pub came_none : (marks : List Bool) → Came marks marks (replicate 32 false)
came_none marks =
    record { long = refl; parts = λ k. sym (ap (λ b. b || free_at marks k) (none_came 32 k)) }

none_at : (ms : List Bool) → free_count ms ≡ 0 → (k : ℕ) → free_at ms k ≡ false
none_at ms none k =
    ⊎_elim (λ is. absurd (omega (arith, count_cleared ms k is))) (λ is. is) (cases_Bool (free_at ms k))

-- where none is left, all that was free came
pub came_all : {first marks came : List Bool} → Came first marks came → length first ≡ 32 → free_count marks ≡ 0 → came ≡ first
came_all {first = first} {marks = marks} {came = came} s wide none =
    ext_get_or false came first (s.long ∙ sym wide) (λ k l. sym (s.parts k ∙ ap (λ b. get_or came k false || b) (none_at marks none k) ∙ or-false (get_or came k false)))

-- where no cell is free, a grant is refused
pub grant_ends : (marks after : List Bool) (r : Result Cell Refusal) → free_count marks ≡ 0 → Granted marks (told cell_number r) after → is_err r ≡ true
grant_ends marks after (Ok cell) none g = absurd (omega (arith, count_cleared marks (cell_number cell) g.0))
grant_ends marks after (Err e) none g = refl
