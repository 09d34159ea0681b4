-- The free cells of a ring, as its entries have them and as its marks have them. Assumes nothing.
use Rattle.std.specs.Prelude.{◌≡◌, ℕ, zero, suc, ◌+◌, ◌<◌, ◌≤◌, Bool, true, false, List, [], ◌∷◌, ◌++◌, length, set, slice_set, refl}
use Rattle.std.proofs.Common.{sym, ap, ◌∙◌, arith, length-set, get_or-set_same, set-set}
use Rattle.std.proofs.lemmas.List.{set-get_or}
use Rattle.cells.specs.Orders.{first_order}
use Rattle.cells.specs.Rings.{marked, none_free}
use Rattle.cells.specs.Stores.{all_free, free_at, free_count, held_at}
use Rattle.cells.specs.Marks.{count_le, count_set, count_set_le, held_parts, raised}

pub length_marked : (cs : List ℕ) → length (marked cs) ≡ 32
unfolding none_free
length_marked [] = refl
length_marked (c ∷ cs) = length-set (marked cs) c true ∙ length_marked cs

set_either : (ms : List Bool) (i j : ℕ) → slice_set (slice_set ms i true) j true ≡ slice_set (slice_set ms j true) i true
set_either [] i j = refl
set_either (m ∷ ms) zero zero = refl
set_either (m ∷ ms) zero (suc j) = refl
set_either (m ∷ ms) (suc i) zero = refl
set_either (m ∷ ms) (suc i) (suc j) = ap (λ l. m ∷ l) (set_either ms i j)

pub marked_put : (cs : List ℕ) (c : ℕ) → marked (cs ++ c ∷ []) ≡ slice_set (marked cs) c true
marked_put [] c = refl
marked_put (x ∷ cs) c = ap (λ l. set l x true) (marked_put cs c) ∙ set_either (marked cs) c x

marked_le : (cs : List ℕ) → free_count (marked cs) ≤ length cs
unfolding none_free
marked_le [] = omega arith
marked_le (c ∷ cs) = omega (arith, count_set_le (marked cs) c, marked_le cs)

-- the cells cs are those that are marked in ms, and none is among them twice, since as many are free
pub record Sound (cs : List ℕ) (ms : List Bool) : Type 0 where
  pub exact : marked cs ≡ ms
  pub counted : free_count ms ≡ length cs

-- what a grant of the first of them reads and leaves
pub record Taken (c : ℕ) (rest : List ℕ) (ms : List Bool) : Type 0 where
  pub was_free : free_at ms c ≡ true
  pub exact : marked rest ≡ slice_set ms c false
  pub counted : free_count (slice_set ms c false) ≡ length rest

pub taken : (c : ℕ) (rest : List ℕ) (ms : List Bool) → Sound (c ∷ rest) ms → Taken c rest ms
taken c rest ms s =
    let is : set (marked rest) c true ≡ ms = s.exact in
    let more = ap free_count is in
    let up = raised (marked rest) c (omega (arith, marked_le rest, s.counted)) in
    let back : set ms c false ≡ marked rest =
    ap (λ l. set l c false) (sym is) ∙ set-set (marked rest) c true false ∙ ap (set (marked rest) c) (sym up.1) ∙ set-get_or (marked rest) c false in
    record {
      was_free = ap (λ l. free_at l c) (sym is) ∙ get_or-set_same (marked rest) c true false up.0;
      exact = sym back;
      counted = omega (arith, ap free_count back, marked_le rest, count_set_le (marked rest) c, s.counted);
    }

-- what giving back cell c leaves
pub record Put (c : ℕ) (cs : List ℕ) (ms : List Bool) : Type 0 where
  pub room : length cs < 32
  pub exact : marked (cs ++ c ∷ []) ≡ slice_set ms c true
  pub counted : free_count (slice_set ms c true) ≡ length cs + 1

pub given : (c : ℕ) (cs : List ℕ) (ms : List Bool) → Sound cs ms → held_at ms c ≡ true → Put c cs ms
given c cs ms s held =
    let wide : length ms ≡ 32 = ap length (sym s.exact) ∙ length_marked cs in
    let parts = held_parts ms c held in
    let more = count_set ms c (omega (arith, parts.0, wide)) parts.1 in
    record {
      room = omega (arith, more, s.counted, count_le (slice_set ms c true), length-set ms c true, wide);
      exact = marked_put cs c ∙ ap (λ l. set l c true) s.exact;
      counted = omega (arith, more, s.counted);
    }

-- at first every cell is marked
pub first_marked : marked first_order ≡ all_free
unfolding first_order none_free all_free
first_marked = refl
