-- How a frame is read. A frame is its bytes, without preamble and check sequence. Assumes nothing.
use Rattle.std.specs.Prelude.{ℕ, ◌/◌, Bool, cond, List, length, drop, ◌==◌, slice_index}
use Rattle.frame.specs.Classes.{from_to, class_of}
use Rattle.frame.specs.Numbers.{number_at}
use Rattle.frame.specs.Refusals.{Told, accepted, refused}
use Rattle.frame.specs.declared.readings.Frame.{Frame}
use Rattle.frame.specs.declared.readings.Reading.{Reading}
use Rattle.frame.specs.declared.readings.Reading.TheVariants.{Tagged, Clock, Plain}

-- a frame has 60 to 1,518 bytes
abbrev pub fits : List ℕ → Bool
fits f = from_to 60 1518 (length f)

-- bytes 0 to 5
abbrev pub destination : List ℕ → ℕ
destination f = number_at f 0 6

-- bytes 6 to 11
abbrev pub source : List ℕ → ℕ
source f = number_at f 6 6

-- bytes 12 and 13; 0x8100 makes the frame tagged (IEEE 802.1Q)
abbrev pub outer_type : List ℕ → ℕ
outer_type f = number_at f 12 2

abbrev pub tagged : List ℕ → Bool
tagged f = outer_type f == 0x8100

-- the upper three bits of byte 14 are a tagged frame's priority; an untagged one has none, shown as 0
abbrev pub priority : List ℕ → ℕ
priority f = cond (tagged f) (slice_index f 14 / 32) 0

-- the type of what the frame carries: a tagged frame has it in bytes 16 and 17
abbrev pub inner_type : List ℕ → ℕ
inner_type f = cond (tagged f) (number_at f 16 2) (outer_type f)

-- where the payload begins
abbrev pub payload_place : List ℕ → ℕ
payload_place f = cond (tagged f) 18 14

abbrev pub payload : List ℕ → List ℕ
payload f = drop (payload_place f) f

-- which of the three readings a frame has: 0 a tagged payload, 1 a clock message (untagged, type 0x88F7), 2 a plain payload
abbrev pub reading_number : List ℕ → ℕ
reading_number f = cond (tagged f) 0 (cond (outer_type f == 0x88F7) 1 2)

abbrev pub class : List ℕ → ℕ
class f = class_of (tagged f) (priority f) (inner_type f)

-- what a reading holds beside the two addresses
pub record Content : Type 0 where
  pub case : ℕ
  pub priority : ℕ
  pub kind : ℕ
  pub place : ℕ
  pub payload : List ℕ

-- the number of each case of a reading, and its values
abbrev pub shows : Reading → Content
shows (Tagged p k i b) = record { case = 0; priority = p; kind = k; place = i; payload = b.now }
shows (Clock k i b) = record { case = 1; priority = 0; kind = k; place = i; payload = b.now }
shows (Plain k i b) = record { case = 2; priority = 0; kind = k; place = i; payload = b.now }

-- the class of a frame, by its reading
abbrev pub reading_class : Content → ℕ
reading_class c = class_of (c.case == 0) c.priority c.kind

-- what a frame of this outer type holds, by the bytes behind the type
abbrev pub content_after : ℕ → List ℕ → Content
content_after t rest = cond (t == 0x8100) (record { case = 0; priority = slice_index rest 0 / 32; kind = number_at rest 2 2; place = 18; payload = drop 4 rest }) (record { case = cond (t == 0x88F7) 1 2; priority = 0; kind = t; place = 14; payload = rest })

-- the whole reading of a frame
pub record Read : Type 0 where
  pub destination : ℕ
  pub source : ℕ
  pub content : Content

abbrev pub frame_shows : Frame → Read
frame_shows f = record { destination = f.destination.bits; source = f.source.bits; content = shows f.reading }

abbrev pub content : List ℕ → Content
content f = record { case = reading_number f; priority = priority f; kind = inner_type f; place = payload_place f; payload = payload f }

-- the reading of these bytes, or refusal 2 with their number
abbrev pub read_as : List ℕ → Told Read
read_as f = cond (fits f) (accepted (record { destination = destination f; source = source f; content = content f })) (refused 2 (length f))

-- what the port card's firmware is told: the class, or 255 where the bytes are no frame
abbrev pub firmware_class : List ℕ → ℕ
firmware_class f = cond (fits f) (class f) 255
