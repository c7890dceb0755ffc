use Rattle.std.proofs.Common.{◌≡◌, length, None, sym, ◌∙◌, subst}
use Rattle.chip.specs.Exchanges.{least_gap_of}
use Rattle.chip.specs.Refused.{least_gap, refused}
use Rattle.chip.specs.Sent.{sent}
use Rattle.port.proofs.Sends.{low_most}
use Rattle.port.proofs.sending.transmit.Goals as goal

pub returns-clause-short : goal.returns-clause-short
returns-clause-short g c =
    let m = g.C.Chip.meaning c.args.chip.now in
    let soonest : c.least_gap-gap.result ≡ least_gap_of m =
    c.least_gap-gap.ensures ∙ λ i. least_gap (c.config.ensures i) (c.state.ensures i) in
    let f = sent c.args.frame (length c.args.buffer.now) in
    let taken : refused m.config m.state c.least_gap-gap.result f ≡ None =
    subst (λ gap. refused m.config m.state gap f ≡ None) (sym soonest) c.requires.fit in
    low_most g.C.Chip.meaning g.C.Chip.gives _ _ _ (c.exchange.ensures.lengthens.is_exchange soonest taken)
