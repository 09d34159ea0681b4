use Rattle.std.proofs.Common.{refl}
use Rattle.rules.proofs.Laws.{laws_hold}
use Rattle.rules.proofs.Twins.{twins_agree}
use Rattle.rules.proofs.laws_stand.Goals as goal

pub returns : goal.returns
returns c = record { answer = refl; laws = laws_hold; twins = twins_agree }
