-- What loading a gate list answers. Assumes nothing.
use Rattle.std.specs.Prelude.{ℕ, List}
use Rattle.frame.specs.Refusals.{Told, unless_wrong}
use Rattle.gates.specs.GateLists.{first_wrong}
use Rattle.gates.specs.declared.gate_lists.GateList.{GateList}

-- the entries of a list that was loaded
abbrev pub listed : GateList → List ℕ
listed l = l.entries.items

-- a good list is loaded as it stands
abbrev pub load_as : List ℕ → Told (List ℕ)
load_as es = unless_wrong (first_wrong es) es
