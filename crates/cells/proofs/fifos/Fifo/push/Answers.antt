use Rattle.std.proofs.Common.{◌≡◌, length, ◌∙◌, arith, length-set}
use Rattle.cells.specs.Turns.{turn_put}
use Rattle.cells.proofs.fifos.Fifo.push.Goals as goal

pub returns : goal.returns
returns g c =
    let q = c.args.self.now in
    let es = c.args.entries.now in
    let long : length es ≡ 32 = omega arith in
    record {
      wide = length-set es _ c.args.e ∙ long;
      state = turn_put es long q.head q.len c.args.e q.within c.requires;
    }
