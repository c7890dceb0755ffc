use Rattle.std.proofs.Common.{◌≡◌, ℕ, ◌<◌, ◌≤◌, get_or}
use lib.Bits.{bit_xor}
use Rattle.frame.specs.Bursts.{burst_address}
use Rattle.scrambler.specs.Scramblers.{key_at}
use Rattle.scrambler.proofs.scrambling.Scrambler.combine.Given as goal

abbrev pub invariant-loop-i : goal.invariant-loop-i
invariant-loop-i g l =
    ((k : ℕ) → k < l.i → get_or l.bytes k 0 ≡ bit_xor (get_or l.initial.bytes k 0) (key_at l.self.key (burst_address l.make l.burst l.start k)))
    × ((k : ℕ) → l.i ≤ k → get_or l.bytes k 0 ≡ get_or l.initial.bytes k 0)
