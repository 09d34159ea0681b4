use Rattle.std.proofs.Common.{◌≡◌, ◌+◌, ◌*◌, ◌≤◌, ◌∷◌, ◌++◌, length, take, decimal}
use Rattle.lines.specs.Lines.{spaced, word}
use Rattle.lines.specs.Outcomes.{outcome}
use Rattle.lines.proofs.lines.Line.text.Given as goal

-- the line as far as it was written, and its length
abbrev pub invariant-loop-value : goal.invariant-loop-value
invariant-loop-value l = record {
  written : l.text.bytes ≡ decimal l.self.number ++ ((32 ∷ word (outcome l.self.outcome)) ++ spaced (take l.value-index l.value-items));
  short : length l.text.bytes ≤ 28 + 21 * l.value-index;
}
