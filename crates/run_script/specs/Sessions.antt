-- A port that is woken and serves the commands of a script. Assumes nothing.
use Rattle.std.specs.Prelude.{◌≡◌, ℕ, List, map, replicate}
use Rattle.chip.specs.Meaning.{Meaning}
use Rattle.chip.specs.Sent.{Event}
use Rattle.model.specs.Contents.{meaning}
use Rattle.model.specs.Step.{Exactly}
use Rattle.port.specs.Acts.{Act}
use Rattle.port.specs.Requests.{Request}
use Rattle.port.specs.Requests as request
use Rattle.port.specs.Serves.{Woken, Transaction}
use Rattle.port.specs.Wakes.{Wakes}
use Rattle.runs.specs.Histories.{History}
use Rattle.runs.specs.Serving.{Asked, asked_in, Came, came_in}
use Rattle.script.specs.Commands.{Instruction, read, write, fill, latency_type, coverage, register, reset}
use Rattle.script.specs.Openings.{Fields}
use Rattle.script.specs.declared.opening.Stack.{Stack}
use Rattle.script.specs.declared.opening.Stack.TheVariants as stack
use Rattle.run_script.specs.Chips.{keyed_meaning, KeyedGives, IsModelOf, IsKeyedOf}

-- what a command asks of the port
abbrev pub request_of : Instruction → Request
request_of (read a n) = request.read a n
request_of (write a n d m) = request.write a d m
request_of (fill a n) = request.fill a n
request_of (latency_type v) = request.latency_type v
request_of (coverage v) = request.coverage v
request_of (register k) = request.register k
request_of reset = request.reset

-- the size of its buffer
abbrev pub room_of : Instruction → ℕ
room_of (read a n) = n
room_of (fill a n) = n
room_of _ = 0

-- the buffer begins as zeros
abbrev pub asked_by : Instruction → Asked
asked_by i = record { request = request_of i; before = replicate (room_of i) 0 }

abbrev pub asked_by_all : List (ℕ × Instruction) → List Asked
asked_by_all cs = map (λ c. asked_by c.1) cs

-- a port over this chip was woken, served these commands one after another and nothing else, and this came of each
pub record Session {X : Type 0} (meaning : X → Meaning) (gives : X → Event → X → Type 0) (c : X)
    (cs : List (ℕ × Instruction)) (rs : List Came) : Type 0 where
  pub woke : List Act
  pub woken : Woken X
  pub wakes : Wakes meaning gives c woke woken
  pub transactions : List Transaction
  pub last : Woken X
  pub history : History meaning gives woken transactions last
  pub asked : map asked_in transactions ≡ asked_by_all cs
  pub came : map came_in transactions ≡ rs

-- over the chip of an opening
abbrev pub SessionBy : Stack → Fields → List (ℕ × Instruction) → List Came → Type 0
SessionBy stack.Plain f cs rs = (m : _) × IsModelOf f m × Session meaning Exactly m cs rs
SessionBy (stack.Keyed key) f cs rs = (s : _) × IsKeyedOf key f s × Session keyed_meaning KeyedGives s cs rs

abbrev pub SessionOf : Fields → List (ℕ × Instruction) → List Came → Type 0
SessionOf f cs rs = SessionBy f.stack f cs rs
