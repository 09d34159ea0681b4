-- Two switches with the same settings, over kinds that mean the same. Assumes nothing.
use Rattle.std.specs.Prelude.{◌≡◌, ℕ, ◌^◌, ◌<◌, List, [], ◌∷◌, map}
use Rattle.frame.specs.Frames.{destination}
use Rattle.rules.specs.Switch.{Behind, new_state, numbers}
use Rattle.rules.specs.Runs.{Answer, Call, arrive, tick, take, look, return, clear, run}

-- two plans, rules and forwardings mean the same, for slots, queues, classes, destinations and ports that there are
pub record Alike (a b : Behind) : Type 0 where
  pub fill : (s : ℕ) → s < numbers → a.fill s ≡ b.fill s
  pub opens : (s q : ℕ) → s < numbers → q < 4 → a.opens s q ≡ b.opens s q
  pub floor : (c : ℕ) → c < 4 → a.floor c ≡ b.floor c
  pub forward : (d p : ℕ) → d < 2 ^ 48 → p < 4 → a.forward d p ≡ b.forward d p

-- a frame's destination is six bytes
abbrev pub Addressed : Call → Type 0
Addressed (arrive p f) = destination f < 2 ^ 48
Addressed tick = Unit {0}
Addressed (take p) = Unit {0}
Addressed (look p n buffer) = Unit {0}
Addressed (return p n) = Unit {0}
Addressed (clear p) = Unit {0}

abbrev pub AllAddressed : List Call → Type 0
AllAddressed [] = Unit {0}
AllAddressed (c ∷ cs) = Addressed c × AllAddressed cs

-- what the calls of a run were answered, one by one, with the buffers that Look left
abbrev pub answers : Behind → ℕ → ℕ → ℕ → ℕ → List Call → List Answer
answers b slot number rate depth calls = map (λ m. m.answer) (run b (new_state slot number rate depth) calls)

-- a list of calls is answered alike by both
abbrev pub TwinsAgree : Type 0
TwinsAgree = (a b : Behind) → Alike a b → (slot number rate depth : ℕ) → slot < numbers → (calls : List Call) → AllAddressed calls → answers a slot number rate depth calls ≡ answers b slot number rate depth calls
