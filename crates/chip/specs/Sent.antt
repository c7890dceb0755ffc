-- What is sent to a chip, and what comes back. Assumes nothing.
use Rattle.std.specs.Prelude.{◌≡◌, ℕ, List, [], length, Ok, Result}
use Rattle.fault.specs.declared.Fault.{Fault}
use Rattle.frame.specs.declared.burst.Burst.{Burst}
use Rattle.chip.specs.declared.bus_frame.Frame.{Frame}
use Rattle.chip.specs.declared.bus_frame.Frame.TheVariants as frame
use Rattle.chip.specs.declared.bus_frame.Reply.{Reply}

-- a frame, with its data and mask as lists; the count of a read is its buffer's length
pub data Sent : Type 0 where
  read : Burst → ℕ → ℕ → Sent
  write : Burst → ℕ → List ℕ → List ℕ → Sent
  register_read : ℕ → Sent
  register_write : ℕ → ℕ → Sent
  global_reset : Sent

abbrev pub sent : Frame → ℕ → Sent
sent (frame.Read b a) n = read b a n
sent (frame.Write b a d mask) n = write b a d.now mask.now
sent (frame.RegisterRead r) n = register_read r
sent (frame.RegisterWrite r v) n = register_write r v
sent frame.GlobalReset n = global_reset

-- the place of a fault: the start of a memory frame, else 0
abbrev pub place : Sent → ℕ
place (read b a n) = a
place (write b a d mask) = a
place _ = 0

-- what a frame is answered with
abbrev pub Answer : Type 0
Answer = Result Reply (Fault ℕ)

-- what happens to a chip: a frame is sent after a gap, with the buffer before it, the answer and the buffer after it;
-- or RESET# is pulsed for so many clocks, with the answer
pub data Event : Type 0 where
  sending : ℕ → Sent → List ℕ → Answer → List ℕ → Event
  resetting : ℕ → Result (Unit {0}) (Fault ℕ) → Event

-- one call of `send`: a read has as many bytes as its buffer
abbrev pub send_event : ℕ → Frame → List ℕ → Answer → List ℕ → Event
send_event gap f old r new = sending gap (sent f (length old)) old r new

-- a read has as many bytes as its buffer
abbrev pub FitsBuffer : Sent → List ℕ → Type 0
FitsBuffer (read b a n) buffer = n ≡ length buffer
FitsBuffer _ buffer = Unit {0}

-- what came of an answered read
abbrev pub read_bytes : Sent → Answer → List ℕ → List ℕ
read_bytes (read b a n) (Ok x) new = new
read_bytes _ _ new = []
