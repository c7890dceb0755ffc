-- What holds of each task of a plan.
use Rattle.std.proofs.Common.{ℕ, Bool, true, false, cond, ◌==◌, List, [], ◌∷◌, length}
use Rattle.std.specs.Prelude.{All, slice_index_or}
use Rattle.std.proofs.lemmas.List.Elements.{All-cons, All-nil, All-map, All-append}
use Rattle.frame.specs.declared.burst.Burst.{Burst}
use Rattle.frame.specs.declared.burst.Burst.TheVariants.{Wrapped}
use Rattle.frame.specs.declared.span.Span.{Span}
use Rattle.register.specs.Registers.{mr8_value, block_of_line}
use Rattle.chip.specs.Sent.{read, register_write}
use Rattle.chip.specs.declared.config.Config.{Config}
use Rattle.chip.specs.declared.state.State.{State}
use Rattle.split.specs.declared.direction.Direction.TheVariants.{Read, Write}
use Rattle.port.specs.Plans.{Task, send, plan, select_line, line_of, read_piece, write_piece, pieces_of}
use Rattle.port.specs.Requests as request

-- MR8 is written, or nothing is
written_or_not : (P : Task → Type 0) (b : Bool) (v : ℕ) → P (send (register_write 8 v))
    → All P (cond b [] (send (register_write 8 v) ∷ []))
written_or_not P true v one = All-nil P
written_or_not P false v one = All-cons P (send (register_write 8 v)) [] one (All-nil P)

-- what holds of each frame that a read, a write or a fill may send holds of each task of its plan
module _ (P : Task → Type 0) (k : Config) (s : State) where
  -- those of a read
  pub each_read : (a n : ℕ) → ((piece : Span) → P (read_piece piece)) → All P (plan k s (request.read a n))
  each_read a n one = All-map P read_piece (pieces_of Read k a n) (λ i d h. one (slice_index_or _ i d))

  -- those of a write
  pub each_write : (a : ℕ) (d mask : List ℕ) → ((piece : Span) → P (write_piece a d mask piece))
      → All P (plan k s (request.write a d mask))
  each_write a d mask one =
      All-map P (write_piece a d mask) (pieces_of Write k a (length d)) (λ i e h. one (slice_index_or _ i e))

  -- those of a fill
  pub each_fill : (a n : ℕ) → ((v : ℕ) → P (send (register_write 8 v))) → ((b : Burst) → P (send (read b a n)))
      → All P (plan k s (request.fill a n))
  each_fill a n setting one =
      All-append P (select_line s (line_of n)) _
      (written_or_not P (s.mr8 == mr8_value (line_of n)) (mr8_value (line_of n)) (setting (mr8_value (line_of n))))
      (All-cons P _ [] (one (Wrapped (block_of_line (line_of n)))) (All-nil P))
