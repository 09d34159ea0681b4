-- What the code's outcomes stand for. Assumes nothing.
use Rattle.frame.specs.Classes.{class_number}
use Rattle.frame.specs.Numbers.{set_bits, slot_number}
use Rattle.frame.specs.Refusals.{says}
use Rattle.lines.specs.Lines as told
use Rattle.lines.specs.declared.outcomes.Outcome.{Outcome}
use Rattle.lines.specs.declared.outcomes.Outcome.TheVariants.{New, Laid, Slot, Sent, Idle, Cleared, Refused, Fault}

abbrev pub outcome : Outcome → told.Outcome
outcome New = told.new
outcome (Laid number class ports) = told.laid number.0 (class_number class) (set_bits ports)
outcome (Slot slot late) = told.slot (slot_number slot) late
outcome (Sent port number overdrawn) = told.sent port number.0 overdrawn
outcome (Idle port overdrawn) = told.idle port overdrawn
outcome (Cleared port count) = told.cleared port count
outcome (Refused r) = told.refused (says r).0
outcome (Fault r) = told.fault (says r).0 (says r).1
