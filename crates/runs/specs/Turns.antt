-- The turns of a run, in the definition's terms. Assumes nothing.
use Rattle.std.specs.Prelude.{◌≡◌, List, [], ◌∷◌, Some, vec_items, Option}
use Rattle.std.specs.Option.{option_map}
use Rattle.rules.specs.Runs.{Answer, Call, Moment}
use Rattle.switch.specs.Calls.{answer_with, buffer_after, call_with}
use Rattle.runs.specs.declared.turns.Turn.{Turn}

-- the call of a turn, with what its buffer holds, and the answer in it
abbrev pub asked : Turn → Call
asked t = call_with t.call (vec_items t.buffer)

abbrev pub answered : Turn → Option Answer
answered t = option_map (λ a. answer_with a (vec_items t.buffer)) t.answer

-- a turn before and after its call was made, as this moment of the run
pub record Made (before : Turn) (m : Moment) (after : Turn) : Type 0 where
  -- it is the call that the turn asks for, and the turn has its answer
  pub call : m.call ≡ asked before
  pub answer : answered after ≡ Some m.answer
  -- the turn keeps its call, and its buffer holds what Look left there, or else what it held
  pub kept : after.call ≡ before.call
  pub buffer : vec_items after.buffer ≡ buffer_after m.answer (vec_items before.buffer)

-- every turn was made, in this order, and each is a moment of the run, and there are no other moments
abbrev pub AllMade : List Turn → List Moment → List Turn → Type 0
AllMade [] [] [] = Unit {0}
AllMade [] [] (u ∷ us) = ⊥
AllMade [] (m ∷ ms) us = ⊥
AllMade (t ∷ ts) [] us = ⊥
AllMade (t ∷ ts) (m ∷ ms) [] = ⊥
AllMade (t ∷ ts) (m ∷ ms) (u ∷ us) = Made t m u × AllMade ts ms us
