use Rattle.std.proofs.Common.{◌≡◌, true, eqb, length, arith, rules}
use Rattle.std.proofs.lemmas.Bool.{eq-eqb}
use Rattle.std.proofs.lemmas.Slice.{between_to_end}
use Rattle.frame.proofs.readings.behind_type.Goals as goal

pub returns-in-len4-up : goal.returns-in-len4-up
returns-in-len4-up c =
    let is : ◌≡◌ (eqb c.args.kind 0x8100) true = eq-eqb _ _ c.if-kind-eq-TAG_TYPE.true in
    let all = between_to_end c.args.rest.now 4 (length c.args.rest.now) (omega arith) in
    let k = c.from_be_bytes.ensures in
    search (rules)
