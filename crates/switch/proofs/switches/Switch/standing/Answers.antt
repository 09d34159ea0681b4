use Rattle.switch.proofs.switches.Switch.standing.Goals as goal

pub returns : goal.returns
returns g c = c.lengths.ensures c.args.self.now.bucket.depth
