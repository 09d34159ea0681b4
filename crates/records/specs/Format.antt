-- The planner's input, byte by byte. Assumes nothing.
--
-- An input has at most 65,536 bytes and is a sequence of records, each straight behind the one before.
-- A record is a length L in two bytes, which counts what follows them; a version byte, which is 1; a kind byte; and a body of L - 2 bytes.
-- In every number the highest byte comes first. The kinds, and the bytes of their bodies:
--
--   0 opening  0 to 5 first slot, 6 to 11 first frame number, 12 and 13 rate, 14 and 15 depth, 16 and 17 threshold for reserved, 18 and 19 threshold for best effort, 20 tap (0 or 1), 21 row count n, from 22 on n rows of 7 bytes: an address in 6, a port set in 1
--   1 arrive   0 port, from 1 on the frame, which may be of any length, 0 too
--   2 tick     no bytes
--   3 send     0 port
--   4 clear    0 port
--
-- The first record is an opening, and no other is. Ports, port sets, thresholds and the number of rows may have any value that their bytes hold: who uses them judges them.
use Rattle.std.specs.Prelude.{ℕ, zero, suc, ◌+◌, ◌-◌, ◌*◌, ◌/◌, Bool, true, false, cond, not, ◌&&◌, ◌||◌, List, [], ◌∷◌, length, take, drop, Some, None, Option, ◌==◌, nat_le, nat_lt, slice_index}
use Rattle.frame.specs.Numbers.{number_at, address_bits}
use Rattle.frame.specs.Refusals.{Told, accepted, refused}
use Rattle.records.specs.declared.cursors.Cursor.{Cursor}
use Rattle.forwarding.specs.declared.rows.Row.{Row}
use Rattle.records.specs.declared.openings.Rows.{Rows}
use Rattle.records.specs.declared.openings.Opening.{Opening}
use Rattle.records.specs.declared.kinds.Kind.{Kind}
use Rattle.records.specs.declared.kinds.Kind.TheVariants as kind
use Rattle.records.specs.declared.kinds.Record.{Record}
use Rattle.records.specs.declared.kinds.Record.TheVariants.{New, Arrive, Tick, Send, Clear}

-- what an opening says; a row is an address and a port set
pub record Opened : Type 0 where
  pub slot : ℕ
  pub number : ℕ
  pub rate : ℕ
  pub depth : ℕ
  pub reserved : ℕ
  pub best_effort : ℕ
  pub tap : Bool
  pub rows : List (ℕ × ℕ)

-- what a record asks for, in the order of the kinds: a new switch; a frame's arrival at a port; the next slot; a port to send; a port to be cleared
pub data Asked : Type 0 where
  new : Opened → Asked
  arrive : ℕ → List ℕ → Asked
  tick : Asked
  send : ℕ → Asked
  clear : ℕ → Asked

-- the row that stands in bs at place i, and the n rows from there on
abbrev pub row_at : List ℕ → ℕ → ℕ × ℕ
row_at bs i = (number_at bs i 6, slice_index bs (i + 6))

abbrev pub rows_at : List ℕ → ℕ → ℕ → List (ℕ × ℕ)
rows_at bs i zero = []
rows_at bs i (suc n) = row_at bs i ∷ rows_at bs (i + 7) n

-- the opening whose body is b
abbrev pub opening_in : List ℕ → Opened
opening_in b = record { slot = number_at b 0 6; number = number_at b 6 6; rate = number_at b 12 2; depth = number_at b 14 2; reserved = number_at b 16 2; best_effort = number_at b 18 2; tap = (slice_index b 20 == 1); rows = rows_at b 22 (slice_index b 21) }

-- b is an opening's body: it ends with its last row, and its tap byte is 0 or 1
abbrev pub opening_fits : List ℕ → Bool
opening_fits b = length b == 22 + 7 * slice_index b 21 && nat_le (slice_index b 20) 1

-- b is a body of this kind; a kind above 4 has none
abbrev pub fits : ℕ → List ℕ → Bool
fits kind b = cond (kind == 0) (opening_fits b) (cond (kind == 1) (nat_le 1 (length b)) (cond (kind == 2) (length b == 0) (nat_le kind 4 && length b == 1)))

-- what a record of this kind with this body asks for
abbrev pub asked_by : ℕ → List ℕ → Asked
asked_by kind b = cond (kind == 0) (new (opening_in b)) (cond (kind == 1) (arrive (slice_index b 0) (drop 1 b)) (cond (kind == 2) tick (cond (kind == 3) (send (slice_index b 0)) (clear (slice_index b 0)))))

-- of the record that begins at place p of the input bs: L, the version, the kind, the body and the place behind it
abbrev pub length_at : List ℕ → ℕ → ℕ
length_at bs p = number_at bs p 2

abbrev pub version_at : List ℕ → ℕ → ℕ
version_at bs p = slice_index bs (p + 2)

abbrev pub kind_at : List ℕ → ℕ → ℕ
kind_at bs p = slice_index bs (p + 3)

abbrev pub body_at : List ℕ → ℕ → List ℕ
body_at bs p = take (length_at bs p - 2) (drop (p + 4) bs)

abbrev pub place_behind : List ℕ → ℕ → ℕ
place_behind bs p = p + 2 + length_at bs p

abbrev pub asked_at : List ℕ → ℕ → Asked
asked_at bs p = asked_by (kind_at bs p) (body_at bs p)

-- an opening that is not the first record, or a first record that is no opening
abbrev pub misplaced : ℕ → ℕ → Bool
misplaced kind p = cond (kind == 0) (nat_le 1 p) (p == 0)

-- the record is broken: fewer than two bytes are left for L, or L is under 2, or fewer than L bytes follow, or the version is not 1, or the kind may not stand here, or the body is not one of the kind
abbrev pub broken : List ℕ → ℕ → Bool
broken bs p = nat_lt (length bs) (p + 2) || nat_lt (length_at bs p) 2 || nat_lt (length bs) (place_behind bs p) || not (version_at bs p == 1) || misplaced (kind_at bs p) p || not (fits (kind_at bs p) (body_at bs p))

-- x, unless there is a fault
abbrev pub unless : {A : Type 0} → Bool → A → Option A
unless fault x = cond fault None (Some x)

-- what the record at place p asks for, and the place behind it, unless it is broken
abbrev pub cut_at : List ℕ → ℕ → Option (Asked × ℕ)
cut_at bs p = unless (broken bs p) (asked_at bs p, place_behind bs p)

-- what stands at place p: refusal 12 with place 65,536 in an input that is too long, whatever it holds; no record at the end or beyond; else a record, or refusal 12 with its place
abbrev pub record_at : List ℕ → ℕ → Told (Option Asked)
record_at bs p = cond (nat_lt 65536 (length bs)) (refused 12 65536) (cond (nat_le (length bs) p) (accepted None) (cond (broken bs p) (refused 12 p) (accepted (Some (asked_at bs p)))))

-- where reading goes on: behind the record, or still at p where none was read
abbrev pub is_record : Told (Option Asked) → Bool
is_record (accepted (Some a)) = true
is_record (accepted None) = false
is_record (refused n v) = false

abbrev pub place_after : List ℕ → ℕ → ℕ
place_after bs p = cond (is_record (record_at bs p)) (place_behind bs p) p

-- what the code's values stand for: a kind, a cursor's input and place, a row, all rows, an opening, a record, a record with the place behind it
abbrev pub kind_number : Kind → ℕ
kind_number kind.Opening = 0
kind_number kind.Arrive = 1
kind_number kind.Tick = 2
kind_number kind.Send = 3
kind_number kind.Clear = 4

abbrev pub input_of : Cursor → List ℕ
input_of c = c.input.now

abbrev pub place_of : Cursor → ℕ
place_of c = c.place

abbrev pub row_of : Row → ℕ × ℕ
row_of r = (address_bits r.address, r.ports)

abbrev pub rows_of : Rows → List (ℕ × ℕ)
rows_of r = rows_at r.bytes.now 0 (length r.bytes.now / 7)

abbrev pub opens : Opening → Opened
opens o = record { slot = o.slot; number = o.number; rate = o.rate; depth = o.depth; reserved = o.reserved; best_effort = o.best_effort; tap = o.tap; rows = rows_of o.rows }

abbrev pub asks : Record → Asked
asks (New o) = new (opens o)
asks (Arrive port frame) = arrive port frame.now
asks Tick = tick
asks (Send port) = send port
asks (Clear port) = clear port

abbrev pub asks_up_to : Record × ℕ → Asked × ℕ
asks_up_to t = (asks t.0, t.1)
