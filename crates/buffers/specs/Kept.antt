-- The frame in each cell, from its bytes and what is known of it. Assumes nothing.
use Rattle.std.specs.Prelude.{ℕ, List, slice_index_or}
use Rattle.frame.specs.Classes.{class_number}
use Rattle.frame.specs.declared.classes.Class.TheVariants.{BestEffort}
use Rattle.rules.specs.Copies.{Copy}
use Rattle.buffers.specs.Memories.{cell_bytes}
use Rattle.buffers.specs.declared.frames.Kept.{Kept}
use Rattle.buffers.specs.declared.memories.Memory.{Memory}

-- what is known of a cell that held no frame yet
abbrev pub nothing_kept : Kept
nothing_kept = record { number = record { 0 = 0 }; length = 0; class = BestEffort; cost = 0 }

-- what is known of the frame in cell c
abbrev pub kept_at : List Kept → ℕ → Kept
kept_at ks c = slice_index_or ks c nothing_kept

-- the frame in cell c, where k is known of it
abbrev pub frame_with : Memory → ℕ → Kept → Copy
frame_with m c k = record { number = k.number.0; class = class_number k.class; bytes = cell_bytes m c k.length }

-- the frame in cell c
abbrev pub frame_in : Memory → List Kept → ℕ → Copy
frame_in m ks c = frame_with m c (kept_at ks c)

-- a copy of this class with these bytes; its number has no part in its cost
abbrev pub copy_like : ℕ → List ℕ → Copy
copy_like class bytes = record { number = 0; class = class; bytes = bytes }
