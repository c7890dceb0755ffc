use Rattle.std.proofs.Common.{◌∷◌, refl}
use Rattle.chip.specs.Sent.{global_reset}
use Rattle.port.specs.Plans.{send, set_up}
use Rattle.port.specs.Wakes.{wake_plan}
use Rattle.port.proofs.Carries.{carries_both, carries_by}
use Rattle.port.proofs.ports.UnwokenPort.wake.Goals as goal

pub returns-clause-wakes : goal.returns-clause-wakes
returns-clause-wakes g c =
    let same = g.met.C.Chip.means_the_same c.args.self.chip c.wake-first.new.chip c.wake-first.ensures.same in
    let carried =
    carries_by g.C.Chip.meaning g.C.Chip.gives _ _ _ (wake_plan (g.C.Chip.meaning c.args.self.chip).config) _ _
    (λ i. send global_reset ∷ set_up (same.config i)) c.and.ensures
    (carries_both g.C.Chip.meaning g.C.Chip.gives _ _ _ _ _ _ _ c.wake-first.ensures.carries
    c.set_up-second.ensures.carries) in (
      carried.did,
      (
        record {
          unwoken = c.args.self.unwoken;
          acts = carried.acts;
          follows = carried.follows;
          none_lost = refl;
        },
        carried.traffic_is,
      ),
    )
