-- What of a frame is on the wire: its five opening bytes, and what follows them. Assumes nothing.
use Rattle.std.specs.Prelude.{◌≡◌, ℕ, ◌<◌, Bool, true, false, if◌then◌else◌, List, [], ◌∷◌, Some, None, Option}
use Rattle.frame.specs.OpeningBytes.{last_address, opening_bytes, from_opening_bytes}
use Rattle.frame.specs.declared.burst.Burst.{Burst}
use Rattle.frame.specs.declared.burst.Burst.TheVariants.{Linear}
use Rattle.frame.specs.declared.command.Command.{Command}
use Rattle.frame.specs.declared.command.Command.TheVariants.{Read, LinearRead, Write, LinearWrite, RegisterRead, RegisterWrite, GlobalReset}
use Rattle.register.specs.Registers.{on_wire}
use Rattle.chip.specs.Meaning.{Meaning, Lawful}
use Rattle.chip.specs.Refused.{refused}
use Rattle.chip.specs.Sent.{Sent, read, write, register_read, register_write, global_reset, Answer}
use Rattle.chip.specs.Taken.{Sends}

abbrev pub is_linear : Burst → Bool
is_linear Linear = true
is_linear _ = false

-- the command: 20h and A0h of a linear frame, 00h and 80h of every other memory frame, whatever block it names
abbrev pub command_of_frame : Sent → Command
command_of_frame (read b a n) = if is_linear b then LinearRead else Read
command_of_frame (write b a d mask) = if is_linear b then LinearWrite else Write
command_of_frame (register_read r) = RegisterRead
command_of_frame (register_write r v) = RegisterWrite
command_of_frame global_reset = GlobalReset

-- what A3 to A0 carry: the start, the register's number, or nothing
abbrev pub address_of_frame : Sent → ℕ
address_of_frame (read b a n) = a
address_of_frame (write b a d mask) = a
address_of_frame (register_read r) = r
address_of_frame (register_write r v) = r
address_of_frame global_reset = 0

-- the five opening bytes, where the address fits
abbrev pub frame_opening_bytes : Sent → Option (List ℕ)
frame_opening_bytes f = opening_bytes (command_of_frame f) (address_of_frame f)

-- what follows: how many bytes are read, the bytes that are written, and their mask
pub record FollowingBytes : Type 0 where
  pub count : ℕ
  pub bytes : List ℕ
  pub mask : List ℕ

abbrev pub following_bytes : Sent → FollowingBytes
following_bytes (read b a n) = record { count = n; bytes = []; mask = [] }
following_bytes (write b a d mask) = record { count = 0; bytes = d; mask = mask }
following_bytes (register_read r) = record { count = 1; bytes = []; mask = [] }
following_bytes (register_write r v) = record { count = 0; bytes = v ∷ []; mask = [] }
following_bytes global_reset = record { count = 0; bytes = []; mask = [] }

-- opening bytes decode again to command and address; there are none only where the address does not fit
abbrev pub Decodes : Option (List ℕ) → Command → ℕ → Type 0
Decodes None c a = last_address c < a
Decodes (Some bytes) c a = from_opening_bytes bytes ≡ Some (c, a)

-- a frame that a chip takes has opening bytes
abbrev pub TakenHasOpening : Type 0
TakenHasOpening =
    (m : Meaning) (gap : ℕ) (f : Sent) → Lawful m → refused m.config m.state gap f ≡ None
    → (bytes : List ℕ) × (frame_opening_bytes f ≡ Some bytes)

-- what one frame may do, another may
abbrev pub DoesTheSame : Sent → Sent → Type 0
DoesTheSame f g =
    (m n : Meaning) (gap : ℕ) (old new : List ℕ) (r : Answer) → Sends m gap f old r n new → Sends m gap g old r n new

-- only what is on the wire counts
pub record SameOnTheWire : Type 0 where
  -- of two bursts that are both linear or both not
  pub bursts : (b c : Burst) → is_linear b ≡ is_linear c → (mr8 : ℕ) → on_wire b mr8 ≡ on_wire c mr8
  pub reads : (b c : Burst) (a n : ℕ) → is_linear b ≡ is_linear c → DoesTheSame (read b a n) (read c a n)
  pub writes : (b c : Burst) (a : ℕ) (d mask : List ℕ) → is_linear b ≡ is_linear c → DoesTheSame (write b a d mask)
      (write c a d mask)
  -- of two frames with the same opening bytes, and the same behind them
  pub frames : (f g : Sent) (bytes : List ℕ) →
      frame_opening_bytes f ≡ Some bytes → frame_opening_bytes g ≡ Some bytes
      → following_bytes f ≡ following_bytes g → DoesTheSame f g
