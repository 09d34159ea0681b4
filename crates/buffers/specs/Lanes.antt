-- What waits in one queue. Assumes nothing.
use Rattle.std.specs.Prelude.{List}
use Rattle.cells.specs.Fifos.{items}
use Rattle.buffers.specs.declared.lanes.Lane.{Lane}

-- the entries queued, the first to leave first
abbrev pub waiting : {E : Type 0} → Lane E → List E
waiting l = items l.queue l.entries
