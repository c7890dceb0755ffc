-- A script as a list of commands. Assumes nothing.
use Rattle.std.specs.Prelude.{◌≡◌, ℕ, ◌+◌, ◌<◌, ◌≤◌, List, [], ◌∷◌, ◌++◌, length, map, Some, None, Option}
use Rattle.std.specs.List.{flat_map, AllByRecursion}
use Rattle.fault.specs.Refusals.{fault_at}
use Rattle.fault.specs.declared.Fault.{Fault}
use Rattle.fault.specs.declared.Refusal.TheVariants.{UnknownCommand}
use Rattle.clock.specs.Made as clock
use Rattle.script.specs.Openings.{Fields, bytes_of_fields, FieldsFit}
use Rattle.script.specs.Commands.{Instruction, instruction_of, command_refusal, bytes_of_instruction, InstructionFits}
use Rattle.script.specs.declared.listing.Placed.{Placed}

-- a list of commands as bytes
abbrev pub bytes_of_all : List Instruction → List ℕ
bytes_of_all commands = flat_map bytes_of_instruction commands

-- each with its place, that of its letter, the first one's being p
abbrev pub with_places : ℕ → List Instruction → List (ℕ × Instruction)
with_places p [] = []
with_places p (i ∷ rest) = (p, i) ∷ with_places (p + length (bytes_of_instruction i)) rest

-- what was read
abbrev pub placed_instruction : Placed → ℕ × Instruction
placed_instruction p = (p.place, instruction_of p.command)

abbrev pub placed_instructions : List Placed → List (ℕ × Instruction)
placed_instructions ps = map placed_instruction ps

-- ---- the reading of bytes as commands

-- the bytes begin with these commands, one behind the other, each with its place
pub record BeginsWith (bs : List ℕ) (cs : List (ℕ × Instruction)) (left : List ℕ) : Type 0 where
  pub instructions : List Instruction
  pub fit : AllByRecursion InstructionFits instructions
  pub whole : bs ≡ bytes_of_all instructions ++ left
  pub placed : cs ≡ with_places 0 instructions

-- how a script ends at place p, with these bytes left: there are none, or they begin with a command that is refused
abbrev pub EndsAt : ℕ → List ℕ → Option (Fault ℕ) → Type 0
EndsAt p left None = left ≡ []
EndsAt p left (Some f) = (f.place ≡ p) × (0 < length left) × (command_refusal left ≡ Some f.refusal)

pub record IsReading (bs : List ℕ) (cs : List (ℕ × Instruction)) (end : Option (Fault ℕ)) : Type 0 where
  pub left : List ℕ
  pub begins : BeginsWith bs cs left
  pub ends : EndsAt (length (bytes_of_all begins.instructions)) left end

-- ---- laws

-- a list of commands that is written as bytes comes back with its places
abbrev pub CommandsComeBack : List ℕ → List (ℕ × Instruction) → Option (Fault ℕ) → Type 0
CommandsComeBack bs cs end =
    (commands : List Instruction) → AllByRecursion InstructionFits commands → bs ≡ bytes_of_all commands
    → (cs ≡ with_places 0 commands) × (end ≡ None)

-- bytes have one reading
abbrev pub HasOneReading : List ℕ → List (ℕ × Instruction) → Option (Fault ℕ) → Type 0
HasOneReading bs cs end =
    (ds : List (ℕ × Instruction)) (other : Option (Fault ℕ)) → IsReading bs ds other → (ds ≡ cs) × (other ≡ end)

-- nothing more can be read: commands that the bytes begin with are the first of those that were read
abbrev pub IsLongest : List ℕ → List (ℕ × Instruction) → Type 0
IsLongest bs cs =
    (ds : List (ℕ × Instruction)) (left : List ℕ) → BeginsWith bs ds left
    → (more : List (ℕ × Instruction)) × (cs ≡ ds ++ more)

-- what follows the bytes changes nothing of the commands in them
abbrev pub LooksNoFurther : List ℕ → List (ℕ × Instruction) → Type 0
LooksNoFurther bs cs =
    (tail : List ℕ) (ds : List (ℕ × Instruction)) (end : Option (Fault ℕ)) → IsReading (bs ++ tail) ds end
    → (more : List (ℕ × Instruction)) × (ds ≡ cs ++ more)

-- nor, where they end by 4, anything at all
abbrev pub StaysUnknown : List ℕ → List (ℕ × Instruction) → Option (Fault ℕ) → Type 0
StaysUnknown bs cs end =
    (p : ℕ) (tail : List ℕ) → end ≡ Some (fault_at UnknownCommand p) → IsReading (bs ++ tail) cs end

pub record ReadingLaws (bs : List ℕ) (cs : List (ℕ × Instruction)) (end : Option (Fault ℕ)) : Type 0 where
  pub comes_back : CommandsComeBack bs cs end
  pub one_reading : HasOneReading bs cs end
  pub longest : IsLongest bs cs
  pub no_further : LooksNoFurther bs cs
  pub stays_unknown : StaysUnknown bs cs end

-- ---- what is listed

-- the commands of the bytes, up to how they end, are put behind those that were listed already
pub record ListsAll (bs : List ℕ) (old new : List Placed) (end : Option (Fault ℕ)) : Type 0 where
  pub added : List Placed
  pub behind : new ≡ old ++ added
  pub reading : IsReading bs (placed_instructions added) end
  pub laws : ReadingLaws bs (placed_instructions added) end

-- only the first of them are
pub record ListsFirst (bs : List ℕ) (old new : List Placed) : Type 0 where
  pub added : List Placed
  pub left : List ℕ
  pub behind : new ≡ old ++ added
  pub begins : BeginsWith bs (placed_instructions added) left

-- these commands, and no others, are put behind those that were listed already
abbrev pub ListsJust : List Instruction → List Placed → List Placed → Type 0
ListsJust commands old new =
    (added : List Placed) × (new ≡ old ++ added) × (placed_instructions added ≡ with_places 0 commands)

-- an opening and commands that are written one behind the other come back: where memory was there, up to the end
abbrev pub ScriptComesBack : List ℕ → List Placed → List Placed → Option (Fault ℕ) → Type 0
ScriptComesBack bs old new end =
    (f : Fields) (commands : List Instruction) → FieldsFit f → AllByRecursion InstructionFits commands
    → clock.refused f.khz f.range ≡ None → length bs ≤ 32768 → bs ≡ bytes_of_fields f ++ bytes_of_all commands
    → (end ≡ None) × ListsJust commands old new
