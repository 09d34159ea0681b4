-- What holds of every run of the switch from New. Assumes nothing.
use Rattle.std.specs.Prelude.{◌≡◌, ℕ, ◌+◌, ◌-◌, ◌<◌, ◌≤◌, Bool, true, false, ◌↔◌, List, ◌∷◌, ◌++◌, length, drop, is_some, Some}
use Rattle.frame.specs.Frames.{class}
use Rattle.frame.specs.Numbers.{in_set}
use Rattle.frame.specs.Refusals.{Told, accepted, refused}
use Rattle.rules.specs.Switch.{Behind, State, Arrived, Ticked, Took, numbers, new_state, free, standing}
use Rattle.rules.specs.Runs.{Call, arrive, look, Answer, arrived, ticked, took, looked, returned, cleared, Moment, run, last, arrived_in, ticked_in, took_in, returned_in, cleared_in, total, bit, count, sum4, sum_below, amount, queued, out_there, lays, takes, sends, ends_late, ends_overdrawn, ends_cleared, slot_after, Arrival, arrival}

-- what is asked of the plan and the rule behind the switch: of queues 0 and 1 one fills in a slot, they take turns, and one free cell is enough for a time-sensitive frame. Nothing is asked of the forwarding
pub record Lawful (b : Behind) : Type 0 where
  pub pair : (s : ℕ) → s < numbers → b.fill s < 2
  pub turns : (s : ℕ) → s + 1 < numbers → b.fill (s + 1) ≡ 1 - b.fill s
  pub floor : b.floor 3 ≡ 1

-- m is a moment of the list ms, and these are the moments before it
abbrev pub Within : List Moment → List Moment → Moment → Type 0
Within ms past m = (future : List Moment) × (ms ≡ past ++ m ∷ future)

-- something holds of each moment of ms and the moments before it
abbrev pub Always : List Moment → (List Moment → Moment → Type 0) → Type 0
Always ms P = (past : List Moment) (m : Moment) → Within ms past m → P past m

-- frame n came as `a` among these moments, the first of them in this slot, and its Arrive answered class k
abbrev pub CameAs : ℕ → List Moment → ℕ → ℕ → Arrival → Type 0
CameAs slot past n k a = (arrival slot n past ≡ Some a) × (a.class ≡ k)

-- an accepted Arrive, Tick, Return
abbrev pub is_arrived : Moment → Bool
is_arrived m = is_some (arrived_in m.answer)

abbrev pub is_tick : Moment → Bool
is_tick m = is_some (ticked_in m.answer)

abbrev pub is_returned : Moment → Bool
is_returned m = is_some (returned_in m.answer)

-- a call was refused
abbrev pub is_refusal : {A : Type 0} → Told A → Bool
is_refusal (accepted x) = false
is_refusal (refused n v) = true

abbrev pub refuses : Answer → Bool
refuses (arrived t) = is_refusal t
refuses (ticked t) = is_refusal t
refuses (took t) = is_refusal t
refuses (looked t buffer) = is_refusal t
refuses (returned t) = is_refusal t
refuses (cleared t) = is_refusal t

-- what an answer adds to the account: the ports of the set that Arrive answered, and the counts that Tick, Take and Clear answered
abbrev pub laid_told : Moment → ℕ
laid_told m = amount (λ a. sum4 (λ p. bit (in_set a.set p))) (arrived_in m.answer)

abbrev pub late_told : Moment → ℕ
late_told m = amount (λ a. a.late) (ticked_in m.answer)

abbrev pub overdrawn_told : Moment → ℕ
overdrawn_told m = amount (λ a. a.overdrawn) (took_in m.answer)

abbrev pub cleared_told : Moment → ℕ
cleared_told m = amount (λ x. x) (cleared_in m.answer)

-- how many copies a test holds of: frame numbers below the bound, at ports 0 to 3
abbrev pub copies_that : (ℕ → ℕ → Bool) → ℕ → ℕ
copies_that test bound = sum4 (λ p. sum_below (λ n. bit (test n p)) bound)

-- where so many cells are free: a time-sensitive frame that none of the refusals 1 to 5 met is refused, by 6, if no cell is free, and else accepted
abbrev pub Admits : ℕ → Moment → Type 0
Admits cells m = (p : ℕ) (f : List ℕ) → m.call ≡ arrive p f → class f ≡ 3 → ((n v : ℕ) → m.answer ≡ arrived (refused n v) → 5 < n) → (cells ≡ 0 → m.answer ≡ arrived (refused 6 3)) × (0 < cells → is_arrived m ≡ true)

-- a run that begins with New in this slot, with this number for its first frame: its moments ms, and the state t after them
module _ (slot number : ℕ) (ms : List Moment) (t : State) where
  -- every copy, a frame number n at a port p, is accounted for
  pub record Account : Type 0 where
    -- accepted frames are numbered one after the other, from the first number on
    pub numbering : Always ms (λ past m. (a : Arrived) → arrived_in m.answer ≡ Some a → a.number ≡ number + count is_arrived past)
    -- each copy is laid at most once
    pub once : (n p : ℕ) → count (lays n p) ms ≤ 1
    -- and is then in exactly one of six: sent, late, overdrawn, cleared, queued, out
    pub copies : (n p : ℕ) → count (lays n p) ms ≡ count (sends n p) ms + count (ends_late n p) ms + count (ends_overdrawn n p) ms + count (ends_cleared n p) ms + queued n p t + out_there n p t
    -- a ticket is answered for a copy that was queued and is now out; Return is accepted for the copy that is out
    pub taken : Always ms (λ past m. (n p : ℕ) → takes n p m ≡ true → (queued n p m.before ≡ 1) × (out_there n p m.after ≡ 1))
    pub sent : Always ms (λ past m. (n p : ℕ) → sends n p m ≡ true → out_there n p m.before ≡ 1)
    -- each answered count is the number of copies that this very call ended so, whatever the bound from the next frame number on
    pub late : Always ms (λ past m. (a : Ticked) → ticked_in m.answer ≡ Some a → (bound : ℕ) → m.before.next ≤ bound → a.late ≡ copies_that (λ n p. ends_late n p m) bound)
    pub overdrawn : Always ms (λ past m. (a : Took) → took_in m.answer ≡ Some a → (bound : ℕ) → m.before.next ≤ bound → a.overdrawn ≡ copies_that (λ n p. ends_overdrawn n p m) bound)
    pub cleared : Always ms (λ past m. (x : ℕ) → cleared_in m.answer ≡ Some x → (bound : ℕ) → m.before.next ≤ bound → x ≡ copies_that (λ n p. ends_cleared n p m) bound)
    -- all that was laid in = sent + late + overdrawn + cleared + queued + out
    pub sums : total laid_told ms ≡ count is_returned ms + total late_told ms + total overdrawn_told ms + total cleared_told ms + sum4 (λ p. sum4 (λ k. standing t p k)) + sum4 (λ p. bit (is_some (t.port p).out))

  -- what happens in which slot; a copy is time-sensitive if the Arrive that laid it answered class 3
  pub record Slots : Type 0 where
    -- the slot of a call is the last answered slot before it, else the first; it is the first slot plus the accepted Ticks
    pub slots : Always ms (λ past m. (m.before.slot ≡ slot_after slot past) × (slot_after slot past ≡ slot + count is_tick past))
    pub last_slot : (t.slot ≡ slot_after slot ms) × (slot_after slot ms ≡ slot + count is_tick ms)
    -- a copy that is taken has arrived, and a time-sensitive one came one slot before
    pub taken : Always ms (λ past m. (n p : ℕ) → takes n p m ≡ true → (a : Arrival) × (arrival slot n past ≡ Some a) × (a.class ≡ 3 → slot_after slot past ≡ a.slot + 1))
    -- a time-sensitive copy that was laid ends late at a Tick exactly if this is the Tick into the second slot after its own, and it was neither taken nor cleared before
    pub late : Always ms (λ past m. (n p : ℕ) → 0 < count (lays n p) past → (a : Arrival) → CameAs slot past n 3 a → (e : Ticked) → ticked_in m.answer ≡ Some e → (ends_late n p m ≡ true) ↔ ((e.slot ≡ a.slot + 2) × (count (takes n p) past ≡ 0) × (count (ends_cleared n p) past ≡ 0)))
    -- nothing but time-sensitive copies ends late, and nothing but reserved ones (class 1) ends as overdrawn
    pub late_class : Always ms (λ past m. (n p : ℕ) → ends_late n p m ≡ true → (a : Arrival) × CameAs slot past n 3 a)
    pub overdrawn_class : Always ms (λ past m. (n p : ℕ) → ends_overdrawn n p m ≡ true → (a : Arrival) × CameAs slot past n 1 a)
    -- the time-sensitive copies that a port took have rising frame numbers, and so have those that it sent: k came after n
    pub taken_rising : Always ms (λ past m. Always past (λ earlier e. (n k p : ℕ) → takes n p e ≡ true → takes k p m ≡ true → (a c : Arrival) → CameAs slot past n 3 a → CameAs slot past k 3 c → n < k))
    pub sent_rising : Always ms (λ past m. Always past (λ earlier e. (n k p : ℕ) → sends n p e ≡ true → sends k p m ≡ true → (a c : Arrival) → CameAs slot past n 3 a → CameAs slot past k 3 c → n < k))
    -- an accepted Look shows the frame's bytes as they arrived, then the old rest of the buffer
    pub shown : Always ms (λ past m. (p n : ℕ) (buffer : List ℕ) → m.call ≡ look p n buffer → (x : ℕ) (after : List ℕ) → m.answer ≡ looked (accepted x) after → (a : Arrival) × (arrival slot n past ≡ Some a) × (x ≡ length a.bytes) × (after ≡ a.bytes ++ drop (length a.bytes) buffer))

  -- a time-sensitive frame that none of the refusals 1 to 5 met is refused, by 6, where no cell was free, and else accepted
  pub record Admission : Type 0 where
    pub cells : Always ms (λ past m. (p : ℕ) (f : List ℕ) → m.call ≡ arrive p f → class f ≡ 3 → ((n v : ℕ) → m.answer ≡ arrived (refused n v) → 5 < n) → (free m.before ≡ 0 → m.answer ≡ arrived (refused 6 3)) × (0 < free m.before → is_arrived m ≡ true))

  pub record Holds : Type 0 where
    pub account : Account
    pub slots : Slots
    pub admission : Admission

-- over any lawful plan and rule, from New in any slot, with any first number and settings, after any list of calls
abbrev pub LawsHold : Type 0
LawsHold = (b : Behind) → Lawful b → (slot number rate depth : ℕ) → slot < numbers → (calls : List Call) → Holds slot number (run b (new_state slot number rate depth) calls) (last b (new_state slot number rate depth) calls)
