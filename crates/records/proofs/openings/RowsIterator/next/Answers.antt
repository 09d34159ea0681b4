use Rattle.std.proofs.Common.{◌-◌, length, get_or, take, drop, ap, arith}
use Rattle.std.proofs.lemmas.List.{take_rest}
use Rattle.records.proofs.Places.{first_row}
use Rattle.records.proofs.openings.RowsIterator.next.Goals as goal

pub returns-clause-steps : goal.returns-clause-steps
returns-clause-steps c =
    let bs = c.args.self.now.bytes.now in
    first_row bs (take (length bs - 7) (drop 7 bs)) _ c.in-len7-up.len_at_least (take_rest bs 7) (ap (λ n. (n, get_or bs 6 0)) c.from.ensures)

pub returns-clause-goes : goal.returns-clause-goes
returns-clause-goes c =
    let behind = ap length (returns-clause-steps c) in
    record { on = λ _. (tt, tt, omega (arith, behind)); keeps = tt; rests = λ _. tt }
