-- How many entries a queue has, and what its first one tells. Assumes nothing.
use Rattle.std.proofs.Common.{◌≡◌, List, [], ◌∷◌, length, Some, None, refl}
use Rattle.cells.specs.Turns.{length_turn}
use Rattle.cells.specs.Fifos.{first_of, items, queued, rest_of}
use Rattle.cells.specs.declared.fifos.Fifo.{Fifo}

pub length_items : {E : Type 0} (q : Fifo) (es : List E) → length es ≡ 32 → length (items q es) ≡ queued q
length_items q es long = length_turn es long q.head q.len q.within q.few

-- a list with a first entry is that one and the others
pub first_rest : {A : Type 0} (xs : List A) (x : A) → Some x ≡ first_of xs → xs ≡ x ∷ rest_of xs
first_rest [] x e = cc
first_rest (y ∷ ys) x e = cc

-- without one it is empty
pub none_first : {A : Type 0} (xs : List A) → None ≡ first_of xs → xs ≡ []
none_first [] e = refl
none_first (y ∷ ys) e = cc
