-- The refusals: the number, the layer, the good bytes and the reason of each. Assumes nothing.
use Rattle.std.specs.Prelude.{ℕ, List, [], ◌++◌, Option, Some, None, codes, decimal}
use Rattle.fault.specs.Names.{layer_name}
use Rattle.fault.specs.declared.Details.{Details}
use Rattle.fault.specs.declared.Fault.{Fault}
use Rattle.fault.specs.declared.Layer.{Layer}
use Rattle.fault.specs.declared.Layer.TheVariants.{Script, Port, Chip}
use Rattle.fault.specs.declared.Refusal.{Refusal}
use Rattle.fault.specs.declared.Refusal.TheVariants.{BadSetup, ClockOutOfRange, ClockTooSlow, UnknownCommand, CommandCutShort, StrobeStillLost, BadLength, BadFill, BadSetting, PastSize, BadMask, NotRefreshed, WrongPhase, TooSoon, BadStart, BadCount, TooLong, BadRegister, NoStrobe, WindowTooLarge}

abbrev pub refuses : Layer → ℕ → Details
refuses layer n = record { number = n; layer = layer; good = None }

abbrev pub details : Refusal → Details
details BadSetup = refuses Script 1
details ClockOutOfRange = refuses Chip 2
details ClockTooSlow = refuses Chip 3
details UnknownCommand = refuses Script 4
details CommandCutShort = refuses Script 5
details StrobeStillLost = refuses Port 6
details BadLength = refuses Port 7
details BadFill = refuses Port 8
details BadSetting = refuses Port 9
details PastSize = refuses Port 10
details BadMask = refuses Port 11
details NotRefreshed = refuses Port 12
details WrongPhase = refuses Chip 13
details TooSoon = refuses Chip 14
details BadStart = refuses Chip 15
details BadCount = refuses Chip 16
details TooLong = refuses Chip 17
details BadRegister = refuses Chip 18
details (NoStrobe k) = record { number = 19; layer = Chip; good = Some k }
details WindowTooLarge = refuses Chip 20

-- a refusal with its place
abbrev pub fault_at : {P : Type 0} → Refusal → P → Fault P
fault_at refusal place = record { refusal = refusal; place = place }

abbrev pub reason : Refusal → List ℕ
reason BadSetup =
    codes "the opening is short or holds a value not listed, or the size of the input or the store is wrong"
reason ClockOutOfRange = codes "the clock is 0 or above 133000 kHz"
reason ClockTooSlow = codes "tCEM is less than 35 + 2 LC clocks"
reason UnknownCommand = codes "no command has this letter"
reason CommandCutShort = codes "operands, data or mask pass the end of the script"
reason StrobeStillLost = codes "the strobe was lost, and there was no reset since"
reason BadLength = codes "the length is 0 or above 4096"
reason BadFill = codes "the line is not 16, 32 or 64, or its start is odd"
reason BadSetting = codes "no such latency type, coverage or register"
reason PastSize = codes "the range ends past the size, or the fill starts at or past it"
reason BadMask = codes "the size of the mask is wrong, or a bit is set past the length"
reason NotRefreshed = codes "a byte of the range or line is not refreshed"
reason WrongPhase = codes "the phase of the chip does not take this"
reason TooSoon = codes "the gap or the reset pulse is too short"
reason BadStart = codes "the start is odd, or at or past the size"
reason BadCount = codes "there are no bytes, or in a write an odd number of bytes or a mask of the wrong size"
reason TooLong = codes "CE# would be low for longer than tCEM"
reason BadRegister = codes "the register cannot be read or written, or the value is reserved"
reason (NoStrobe k) = codes "no strobe came"
reason WindowTooLarge = codes "the window hides all pages or more"

-- the good bytes, where a refusal has them
abbrev pub good_text : Option ℕ → List ℕ
good_text None = []
good_text (Some k) = codes ", " ++ (decimal k ++ codes " bytes are good")

-- refusal 7 of the port
abbrev pub number_and_layer : Details → List ℕ
number_and_layer d = codes "refusal " ++ (decimal d.number ++ (codes " of the " ++ layer_name d.layer))

-- the length is 0 or above 4096
abbrev pub reason_and_good : Refusal → List ℕ
reason_and_good r = reason r ++ good_text (details r).good

-- refusal 7 of the port: the length is 0 or above 4096
abbrev pub refusal_text : Refusal → List ℕ
refusal_text r = number_and_layer (details r) ++ (codes ": " ++ reason_and_good r)

-- refusal 7 of the port at 21: the length is 0 or above 4096
abbrev pub fault_text : Refusal → List ℕ → List ℕ
fault_text r place = number_and_layer (details r) ++ (codes " at " ++ (place ++ (codes ": " ++ reason_and_good r)))
