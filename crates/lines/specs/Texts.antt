-- Text that is written at the end of other text. Assumes nothing.
use Rattle.std.specs.Prelude.{◌≡◌, ℕ, ◌+◌, ◌<◌, ◌≤◌, List, ◌++◌, length, Ok, Err, vec_items, vec_len, vec_capacity, Result, Vec}
use Rattle.std.specs.declared.alloc.AllocError.{AllocError}
use Rattle.std.specs.declared.alloc.Global.{Global}

-- these bytes were written behind what a text held. It fails only where they do not fit into the room that the text had, and then the text holds what it held
abbrev pub Wrote : Result (Unit {0}) AllocError → Vec ℕ Global → List ℕ → Vec ℕ Global → Type 0
Wrote (Ok u) before bytes after = (vec_items after ≡ vec_items before ++ bytes) × (vec_capacity before ≤ vec_capacity after)
Wrote (Err e) before bytes after = (vec_items after ≡ vec_items before) × (vec_capacity before < vec_len before + length bytes)
