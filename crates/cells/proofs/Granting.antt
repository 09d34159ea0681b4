-- The free cells of a ring as its queue has them: what a grant and a give-back find and leave. Assumes nothing.
use Rattle.std.proofs.Common.{◌≡◌, ℕ, ◌<◌, Bool, true, List, [], ◌∷◌, ◌++◌, length, map, Some, Option, nat_lt, sym, ap, subst, ◌∙◌, ⊎_elim, arith}
use lib.ListN.{length-map}
use Rattle.std.proofs.lemmas.Bool.{cases_Bool, cond-false, cond-true, lt-ltb}
use Rattle.std.proofs.lemmas.List.{map_push, take_all, take-append-le}
use Rattle.std.specs.Option.{option_map}
use Rattle.frame.specs.Numbers.{below, cell_number}
use Rattle.frame.specs.Refusals.{accepted}
use Rattle.frame.specs.declared.numbers.Cell.{Cell}
use Rattle.cells.specs.Fifos.{first_of, first_place, items, queued, rest_of}
use Rattle.cells.specs.FreeCells.{Sound, Taken, taken}
use Rattle.cells.specs.Orders.{first_order, order}
use Rattle.cells.specs.Rings.{turn}
use Rattle.cells.specs.Stores.{held_at, held_in}
use Rattle.cells.specs.declared.fifos.Fifo.{Fifo}
use Rattle.cells.specs.declared.rings.Ring.{Ring}
use Rattle.cells.proofs.Queued.{first_rest, length_items}

-- as many numbers as entries are queued
pub length_order : (q : Fifo) (cells : List Cell) → length cells ≡ 32 → length (map cell_number (items q cells)) ≡ queued q
length_order q cells long = length-map (items q cells) cell_number ∙ length_items q cells long

pub ring_sound : (r : Ring) → length r.cells ≡ 32 → Sound (order r) r.marks
ring_sound r long = record { exact = r.exact; counted = r.counted ∙ sym (length_order r.free r.cells long) }

pub taken_first : (r : Ring) (cell : Cell) → length r.cells ≡ 32 → Some cell ≡ first_of (items r.free r.cells) → Taken (cell_number cell) (map cell_number (rest_of (items r.free r.cells))) r.marks
taken_first r cell long e =
    taken (cell_number cell) (map cell_number (rest_of (items r.free r.cells))) r.marks (subst (λ cs. Sound (map cell_number cs) r.marks) (first_rest (items r.free r.cells) cell e) (ring_sound r long))

-- what a look for the held cell of a number tells
pub held_told : (ms : List Bool) (k n : ℕ) → accepted n ≡ held_in ms k → (n ≡ k) × (held_at ms k ≡ true)
held_told ms k n e =
    ⊎_elim
    (λ is. let f = e ∙ cond-true (held_at ms k) _ _ is in (cc, is))
    (λ no. absurd (let f = e ∙ cond-false (held_at ms k) _ _ no in cc))
    (cases_Bool (held_at ms k))

-- the entries of a queue with one more at its back
pub order_pushed : (q after : Fifo) (cells put : List Cell) (cell : Cell) → items after put ≡ items q cells ++ cell ∷ [] → map cell_number (items after put) ≡ map cell_number (items q cells) ++ cell_number cell ∷ []
order_pushed q after cells put cell e = ap (map cell_number) e ∙ map_push cell_number (items q cells) cell

-- the cell of a number that one has
pub named : (n : ℕ) (o : Option Cell) (cell : Cell) → n < 32 → option_map cell_number o ≡ below 32 n → o ≡ Some cell → cell_number cell ≡ n
named n o cell within e is =
    let f = ap (option_map cell_number) (sym is) ∙ e ∙ cond-true (nat_lt n 32) _ _ (lt-ltb n 32 within) in cc

-- where every entry is queued, the order is that of the entries
pub full_order : (q : Fifo) (cells : List Cell) → length cells ≡ 32 → first_place q ≡ 0 → queued q ≡ 32 → map cell_number cells ≡ first_order → map cell_number (items q cells) ≡ first_order
full_order q cells long first all e =
    (λ i. map cell_number (turn cells (first i) (all i)))
    ∙ ap (map cell_number) (take-append-le 32 cells cells (omega arith) ∙ take_all 32 cells (omega arith))
    ∙ e
