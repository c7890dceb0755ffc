-- What a port promises of wake. Assumes nothing.
use Rattle.std.specs.Prelude.{◌≡◌, Bool, false, List, ◌∷◌}
use Rattle.chip.specs.Meaning.{Meaning, read_latency, write_latency}
use Rattle.chip.specs.Sent.{Event, global_reset}
use Rattle.chip.specs.declared.config.Config.{Config}
use Rattle.chip.specs.declared.state.Phase.TheVariants.{Unwoken, Awake}
use Rattle.port.specs.Acts.{Act, Acts, Follows}
use Rattle.port.specs.Plans.{Task, send, set_up}
use Rattle.port.specs.Answers.{traffic_of}
use Rattle.port.specs.Serves.{Woken, woken}
use Rattle.port.specs.declared.traffic.Traffic.{Traffic}

-- a chip that a woken port relies on: awake, with the latencies that its clock needs
pub record IsReady (m : Meaning) : Type 0 where
  pub awake : m.state.phase ≡ Awake
  pub reads : read_latency m.state ≡ m.config.clock.lc
  pub writes : write_latency m.state ≡ m.config.clock.wl

-- a global reset, and the two registers
abbrev pub wake_plan : Config → List Task
wake_plan k = send global_reset ∷ set_up k

-- a chip that is not awake is woken
pub record Wakes {X : Type 0} (meaning : X → Meaning) (gives : X → Event → X → Type 0)
    (c : X) (done : List Act) (p : Woken X) : Type 0 where
  pub unwoken : (meaning c).state.phase ≡ Unwoken
  pub acts : Acts meaning gives c done p.chip
  pub follows : Follows (wake_plan (meaning c).config) done
  pub none_lost : p.lost ≡ false

-- the same of a call, with the traffic that it answers
abbrev pub IsWoken : {X : Type 0} → (X → Meaning) → (X → Event → X → Type 0) → X → X → Bool → Traffic → Type 0
IsWoken meaning gives c d lost traffic =
    (done : List Act) × (Wakes meaning gives c done (woken d lost) × (traffic ≡ traffic_of done))
