-- The codes of the fields of the mode registers, and what the codes stand for. Assumes nothing.
use Rattle.std.specs.Prelude.{ℕ, List, [], ◌∷◌, unwrap_or}
use Rattle.clock.specs.Times.{latencies}
use Rattle.clock.specs.declared.range.Latency.{Latency}
use Rattle.clock.specs.declared.range.Latency.TheVariants.{Three, Four, Five}
use Rattle.fault.specs.Names.{named}
use Rattle.frame.specs.declared.burst.Block.{Block}
use Rattle.frame.specs.declared.burst.Block.TheVariants as block
use Rattle.register.specs.declared.fields.Coverage.{Coverage}
use Rattle.register.specs.declared.fields.Coverage.TheVariants.{All, BottomHalf, BottomQuarter, BottomEighth, Nothing, TopHalf, TopQuarter, TopEighth}
use Rattle.register.specs.declared.fields.LatencyType.{LatencyType}
use Rattle.register.specs.declared.fields.LatencyType.TheVariants.{Variable, Fixed}

abbrev pub type_code : LatencyType → ℕ
type_code Variable = 0
type_code Fixed = 1

abbrev pub read_code : Latency → ℕ
read_code Three = 0b000
read_code Four = 0b001
read_code Five = 0b010

-- not the read codes: 4 is 100
abbrev pub write_code : Latency → ℕ
write_code Three = 0b000
write_code Four = 0b100
write_code Five = 0b010

abbrev pub coverage_code : Coverage → ℕ
coverage_code All = 0
coverage_code BottomHalf = 1
coverage_code BottomQuarter = 2
coverage_code BottomEighth = 3
coverage_code Nothing = 4
coverage_code TopHalf = 5
coverage_code TopQuarter = 6
coverage_code TopEighth = 7

abbrev pub coverages : List Coverage
coverages =
    All ∷ BottomHalf ∷ BottomQuarter ∷ BottomEighth ∷ Nothing ∷ TopHalf ∷ TopQuarter ∷ TopEighth ∷ []

abbrev pub block_code : Block → ℕ
block_code block.Bytes16 = 0
block_code block.Bytes32 = 1
block_code block.Bytes64 = 2
block_code block.Page = 3

abbrev pub blocks : List Block
blocks = block.Bytes16 ∷ block.Bytes32 ∷ block.Bytes64 ∷ block.Page ∷ []

-- what the codes stand for: a reserved latency code reads as 5

unfoldable pub read_latency : ℕ → Latency
read_latency code = unwrap_or (named read_code latencies code) Five

unfoldable pub write_latency : ℕ → Latency
write_latency code = unwrap_or (named write_code latencies code) Five

unfoldable pub coverage_of : ℕ → Coverage
coverage_of code = unwrap_or (named coverage_code coverages code) TopEighth

unfoldable pub block_of : ℕ → Block
block_of code = unwrap_or (named block_code blocks code) block.Page
