-- What an answer of a forwarding stands for. Assumes nothing.
use Rattle.std.specs.Prelude.{Ok, Err, Result}
use Rattle.frame.specs.declared.numbers.PortSet.{PortSet}
use Rattle.frame.specs.Numbers.{set_bits}
use Rattle.forwarding.specs.Ways.{Way, to, unknown, tap}
use Rattle.forwarding.specs.declared.routes.NoRoute.{NoRoute}
use Rattle.forwarding.specs.declared.routes.NoRoute.TheVariants.{Unknown, Tap}

-- the way of each answer
abbrev pub way : Result PortSet NoRoute → Way
way (Ok s) = to (set_bits s)
way (Err Unknown) = unknown
way (Err Tap) = tap
