use Rattle.runs.proofs.Alike.{twins_by}
use Rattle.runs.proofs.Underway.{slot_below}
use Rattle.runs.proofs.twins.run_twins.Goals as goal

pub returns : goal.returns
returns g c =
    let one = c.in_ok-one.ensures in
    let two = c.in_ok-two.ensures in
    record {
      answer = two.answer;
      statement = twins_by (slot_below c.args.settings two.answer) one.addressed one.statement two.statement;
      kept = (tt, tt);
    }
