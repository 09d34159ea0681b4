use Rattle.std.proofs.Common.{refl}
use Rattle.rules.proofs.Edges.{edges}
use Rattle.rules.proofs.edges_stand.Goals as goal

pub returns : goal.returns
returns c = record { answer = refl; edges = edges }
