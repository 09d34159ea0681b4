-- A small run by evaluation: what its calls answer, and what the words of the laws make of it. Assumes nothing.
use Rattle.std.proofs.Common.{◌≡◌, ℕ, List, [], ◌∷◌, ◌++◌, map, replicate, Some, None, refl, arith}
use Rattle.cells.specs.Rules.{ladder_floors}
use Rattle.gates.specs.Parities.{parity_fills, parity_opens}
use Rattle.forwarding.specs.Ways.{to}
use Rattle.frame.specs.Refusals.{accepted}
use Rattle.rules.specs.Switch.{Behind, State, new_state, held}
use Rattle.rules.specs.Runs.{Call, arrive, tick, take, look, return, clear, Moment, run, last, count, lays, takes, sends, ends_late, ends_cleared, ends_overdrawn, slot_after, arrival, arrived, ticked, took, looked, returned, cleared}
use Rattle.rules.specs.Laws.{Lawful}

-- queues by the slot's parity, the fixed ladder, and every frame to port 1
abbrev b : Behind
b = record { fill = parity_fills; opens = parity_opens; floor = ladder_floors; forward = λ d p. to 2 }

-- it keeps what the laws ask
lawful : Lawful b
lawful = record { pair = λ s h. omega arith; turns = λ s h. omega arith; floor = refl }

-- a tagged frame of 60 bytes
abbrev frame : ℕ → List ℕ
frame tag = replicate 12 0 ++ (0x81 ∷ 0x00 ∷ tag ∷ replicate 45 0)

-- frame 0 is sent, 1 ends late, 2 is cleared, and 3 costs more than the tokens
abbrev calls : List Call
calls = arrive 0 (frame 224) ∷ take 1 ∷ tick ∷ take 1 ∷ look 1 0 (replicate 64 9) ∷ return 1 0 ∷ arrive 0 (frame 224) ∷ tick ∷ tick ∷ arrive 0 (frame 224) ∷ clear 1 ∷ arrive 0 (frame 100) ∷ take 1 ∷ []

abbrev start : State
start = new_state 0 0 0 50

abbrev ms : List Moment
ms = run b start calls

answers : map (λ m. m.answer) ms ≡ arrived (accepted (record { number = 0; class = 3; set = 2 })) ∷ took (accepted (record { ticket = None; overdrawn = 0 })) ∷ ticked (accepted (record { slot = 1; late = 0 })) ∷ took (accepted (record { ticket = Some (record { port = 1; number = 0; length = 60 }); overdrawn = 0 })) ∷ looked (accepted 60) (frame 224 ++ replicate 4 9) ∷ returned (accepted (record { port = 1; number = 0 })) ∷ arrived (accepted (record { number = 1; class = 3; set = 2 })) ∷ ticked (accepted (record { slot = 2; late = 0 })) ∷ ticked (accepted (record { slot = 3; late = 1 })) ∷ arrived (accepted (record { number = 2; class = 3; set = 2 })) ∷ cleared (accepted 1) ∷ arrived (accepted (record { number = 3; class = 1; set = 2 })) ∷ took (accepted (record { ticket = None; overdrawn = 1 })) ∷ []
answers = refl

fates : (count (lays 0 1) ms ≡ 1) × (count (takes 0 1) ms ≡ 1) × (count (sends 0 1) ms ≡ 1) × (count (ends_late 1 1) ms ≡ 1) × (count (ends_cleared 2 1) ms ≡ 1) × (count (ends_overdrawn 3 1) ms ≡ 1) × (slot_after 0 ms ≡ 3) × (arrival 0 1 ms ≡ Some (record { slot = 1; class = 3; bytes = frame 224 })) × (held (last b start calls) ≡ 0)
fates = (refl, refl, refl, refl, refl, refl, refl, refl, refl)
