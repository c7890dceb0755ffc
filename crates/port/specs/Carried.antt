-- What the parts of a port do to its chip. Assumes nothing.
use Rattle.std.specs.Prelude.{◌≡◌, ℕ, ◌*◌, ◌≤◌, false, if◌then◌else◌, List, [], None, Ok, length, ◌==◌}
use Rattle.std.specs.List.{flat_map}
use Rattle.chip.specs.Exchanges.{least_gap_of}
use Rattle.chip.specs.Meaning.{Meaning}
use Rattle.chip.specs.Refused.{refused}
use Rattle.chip.specs.Sizes.{most_clocks}
use Rattle.chip.specs.Sent.{Sent, Event, register_write}
use Rattle.chip.specs.declared.bus_frame.Reply.TheVariants.{Done}
use Rattle.chip.specs.declared.state.Phase.TheVariants.{Awake}
use Rattle.port.specs.Acts.{Act, Acts, any_lost, Follows}
use Rattle.port.specs.Answers.{traffic_of, bytes_in, last_answer}
use Rattle.port.specs.Plans.{Task}
use Rattle.port.specs.declared.traffic.Traffic.{Traffic}

-- a chip takes a frame after the least gap
abbrev pub IsFit : Meaning → Sent → Type 0
IsFit m f = refused m.config m.state (least_gap_of m) f ≡ None

-- tasks that read no bytes were carried out, all of them
pub record CarriesOut {X : Type 0} (meaning : X → Meaning) (gives : X → Event → X → Type 0)
    (c : X) (tasks : List Task) (traffic : Traffic) (d : X) : Type 0 where
  pub did : List Act
  pub acts : Acts meaning gives c did d
  pub follows : Follows tasks did
  pub none_lost : any_lost did ≡ false
  pub answered : last_answer did ≡ Ok Done
  pub silent : flat_map bytes_in did ≡ []
  pub traffic_is : traffic ≡ traffic_of did
  -- so the sums are in 64 bits
  pub few : traffic.frames ≤ length tasks
  pub short : traffic.clocks ≤ most_clocks * traffic.frames

-- what register r holds after a frame, where it held this value
abbrev pub set_by : Sent → ℕ → ℕ → ℕ
set_by (register_write q v) r old = if q == r then v else old
set_by _ r old = old

-- a chip that stays awake holds what a register write set, and else what it held
pub record Sets (r v : ℕ) (m n : Meaning) : Type 0 where
  pub awake : n.state.phase ≡ Awake
  pub config : n.config ≡ m.config
  pub mr0 : n.state.mr0 ≡ set_by (register_write r v) 0 m.state.mr0
  pub mr4 : n.state.mr4 ≡ set_by (register_write r v) 4 m.state.mr4
  pub mr8 : n.state.mr8 ≡ set_by (register_write r v) 8 m.state.mr8
