-- The commands, and the five bytes that open a frame. Assumes nothing.
use Rattle.std.specs.Prelude.{◌≡◌, ℕ, ◌+◌, ◌*◌, ◌/◌, ◌%◌, ◌≤◌, if◌then◌else◌, List, [], ◌∷◌, Some, None, Option, option_and_then, ◌≢◌, nat_le, slice_index}
use Rattle.fault.specs.Names.{named}
use Rattle.frame.specs.declared.command.Command.{Command}
use Rattle.frame.specs.declared.command.Command.TheVariants.{Read, LinearRead, Write, LinearWrite, RegisterRead, RegisterWrite, GlobalReset}

abbrev pub code : Command → ℕ
code Read = 0x00
code LinearRead = 0x20
code Write = 0x80
code LinearWrite = 0xA0
code RegisterRead = 0x40
code RegisterWrite = 0xC0
code GlobalReset = 0xFF

abbrev pub commands : List Command
commands = Read ∷ LinearRead ∷ Write ∷ LinearWrite ∷ RegisterRead ∷ RegisterWrite ∷ GlobalReset ∷ []

-- a memory frame carries a byte address of 24 bits, a register frame a register's number, a global reset nothing
abbrev pub last_address : Command → ℕ
last_address RegisterRead = 0xFF
last_address RegisterWrite = 0xFF
last_address GlobalReset = 0
last_address _ = 0xFFFFFF

-- the command, A3, A2, A1, A0: A3 is 0, and the address lies in the others, high byte first
abbrev pub opening_bytes : Command → ℕ → Option (List ℕ)
opening_bytes c a =
    if nat_le a (last_address c)
    then Some (code c ∷ 0 ∷ a / 65536 % 256 ∷ a / 256 % 256 ∷ a % 256 ∷ [])
    else None

-- a command with an address that it can carry
abbrev pub carried : ℕ → Command → Option (Command × ℕ)
carried a c = if nat_le a (last_address c) then Some (c, a) else None

abbrev pub address_of : List ℕ → ℕ
address_of bs =
    slice_index bs 1 * 16777216 + slice_index bs 2 * 65536 + slice_index bs 3 * 256 + slice_index bs 4

-- what five bytes open, if they open a frame: the command of the first, with the address in the others
abbrev pub from_opening_bytes : List ℕ → Option (Command × ℕ)
from_opening_bytes bs = option_and_then (carried (address_of bs)) (named code commands (slice_index bs 0))

-- a command and an address that it can carry have opening bytes, and those give back just these two
abbrev pub GivesBack : Type 0
GivesBack =
    (c : Command) (a : ℕ) → a ≤ last_address c
    → (bs : List ℕ) × (opening_bytes c a ≡ Some bs) × (from_opening_bytes bs ≡ Some (c, a))

-- no frame opens with these bytes
abbrev pub OpensNothing : List ℕ → Type 0
OpensNothing bs = (c : Command) (a : ℕ) → opening_bytes c a ≢ Some bs
