use Rattle.std.proofs.Common.{◌≡◌, ℕ, get_or, ap, ◌∙◌, arith}
use lib.Bits.{bit_xor}
use Rattle.std.proofs.lemmas.List.FromFn.{fill_by_all}
use Rattle.chip.specs.Taken.{address}
use Rattle.frame.specs.Bursts.{burst_address}
use Rattle.register.specs.Registers.{on_wire}
use Rattle.scrambler.specs.Scramblers.{key_at}
use Rattle.scrambler.proofs.scrambling.Scrambler.combine.Goals as goal

pub returns : goal.returns
returns g c =
    let s = c.args.self.now in
    let m = g.C.Chip.meaning s.chip in
    let burst = c.on_wire-burst.ensures ∙ ap (λ x. on_wire c.args.burst x.mr8) c.state.ensures in
    let at : (k : ℕ) → burst_address c.config-make.result.make c.on_wire-burst.result c.args.start k ≡ address m.config m.state c.args.burst c.args.start k =
    λ k i. burst_address (c.config-make.ensures i).make (burst i) c.args.start k in
    fill_by_all _ _ _ 0 c.loop-i.auto.bytes
    (λ k h. c.loop-i.invariant.0 k (omega arith) ∙ ap (λ x. bit_xor (get_or c.args.bytes.now k 0) (key_at s.key x)) (at k))
