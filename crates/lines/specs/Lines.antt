-- The lines of a schedule. Assumes nothing.
use Rattle.std.specs.Prelude.{ℕ, ◌+◌, List, [], ◌∷◌, ◌++◌, codes, decimal}

-- what a record came to: a new switch was made; a frame was laid in, with its number, its class and the set of ports that it goes to; a slot began, and so many copies ended late; a port sent a frame, after so many copies ended as overdrawn; a port had nothing to send, likewise; a port was cleared of so many copies; the call was refused by this number; the record is broken: a refusal by this number, with its place
pub data Outcome : Type 0 where
  new : Outcome
  laid : ℕ → ℕ → ℕ → Outcome
  slot : ℕ → ℕ → Outcome
  sent : ℕ → ℕ → ℕ → Outcome
  idle : ℕ → ℕ → Outcome
  cleared : ℕ → ℕ → Outcome
  refused : ℕ → Outcome
  fault : ℕ → ℕ → Outcome

-- the word of a line, and its numbers
abbrev pub word : Outcome → List ℕ
word new = codes "new"
word (laid number class set) = codes "laid"
word (slot s late) = codes "slot"
word (sent port number overdrawn) = codes "sent"
word (idle port overdrawn) = codes "idle"
word (cleared port count) = codes "cleared"
word (refused number) = codes "refused"
word (fault number place) = codes "fault"

abbrev pub values : Outcome → List ℕ
values new = []
values (laid number class set) = number ∷ class ∷ set ∷ []
values (slot s late) = s ∷ late ∷ []
values (sent port number overdrawn) = port ∷ number ∷ overdrawn ∷ []
values (idle port overdrawn) = port ∷ overdrawn ∷ []
values (cleared port count) = port ∷ count ∷ []
values (refused number) = number ∷ []
values (fault number place) = number ∷ place ∷ []

-- numbers in decimal digits, a space before each
abbrev pub spaced : List ℕ → List ℕ
spaced [] = []
spaced (n ∷ ns) = (32 ∷ decimal n) ++ spaced ns

-- the line of record k: its number, the word, the numbers, and the end of the line
abbrev pub line : ℕ → Outcome → List ℕ
line k o = decimal k ++ ((32 ∷ word o) ++ (spaced (values o) ++ 10 ∷ []))

-- the lines of records k, k + 1 and so on
abbrev pub lines : ℕ → List Outcome → List ℕ
lines k [] = []
lines k (o ∷ os) = line k o ++ lines (k + 1) os

-- the heading of a schedule
abbrev pub heading : List ℕ
heading = codes "schedule 1" ++ 10 ∷ []
