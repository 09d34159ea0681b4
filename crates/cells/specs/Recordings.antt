-- What a recording layer wrote down. Assumes nothing.
use Rattle.std.specs.Prelude.{ℕ, cond, List, [], ◌∷◌, ◌++◌, map, length, nat_lt}
use Rattle.frame.specs.Refusals.{Told, accepted, refused}
use Rattle.frame.specs.Numbers.{id_number}
use Rattle.cells.specs.declared.recordings.Recording.{Recording}

-- the cells that were granted, the first grant first
abbrev pub recorded : {S : Type 0} → Recording S → List ℕ
recorded r = map id_number r.cells.items

-- one more, if there is room for 1,024 of them
abbrev pub written : List ℕ → ℕ → List ℕ
written cs c = cond (nat_lt (length cs) 1024) (cs ++ c ∷ []) cs

-- only a cell that is granted is written down
abbrev pub written_as : Told ℕ → List ℕ → List ℕ
written_as (accepted c) cs = written cs c
written_as (refused n v) cs = cs
