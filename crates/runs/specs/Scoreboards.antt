-- What a memory is known to hold, by the requests, whether each is taken, and what each coverage refreshes. Assumes
-- nothing.
use Rattle.std.specs.Prelude.{ℕ, ◌+◌, ◌-◌, Bool, if◌then◌else◌, not, ◌&&◌, length, Some, None, Option, is_ok, slice_index}
use Rattle.frame.specs.Bursts.{wrapped}
use Rattle.mask.specs.Masks.{masked}
use Rattle.register.specs.Codes.{coverage_of}
use Rattle.register.specs.declared.fields.Coverage.{Coverage}
use Rattle.port.specs.Plans.{is_inside}
use Rattle.port.specs.Requests.{Request, read, write, fill, latency_type, coverage, register, reset, place}
use Rattle.port.specs.Serves.{Transaction}

-- the byte that an address is known to hold, or a blank
abbrev pub Scoreboard : Type 0
Scoreboard = ℕ → Option ℕ

abbrev pub blank : Scoreboard
blank x = None

-- after a request that is taken: a write enters its unmasked bytes, a coverage blanks all that it does not refresh, a
-- reset blanks all
abbrev pub board_if_taken : (Coverage → ℕ → Bool) → Request → Scoreboard → Scoreboard
board_if_taken refreshes (read a n) board x = board x
board_if_taken refreshes (write a d mask) board x =
    if is_inside a (length d) x && not (masked mask (x - a)) then Some (slice_index d (x - a)) else board x
board_if_taken refreshes (fill a n) board x = board x
board_if_taken refreshes (latency_type v) board x = board x
board_if_taken refreshes (coverage v) board x = if refreshes (coverage_of v) x then board x else None
board_if_taken refreshes (register v) board x = board x
board_if_taken refreshes reset board x = None

-- after a transaction: one that is refused, or lost, changes nothing
abbrev pub board_after : (Coverage → ℕ → Bool) → Transaction → Scoreboard → Scoreboard
board_after refreshes t board = if is_ok t.answer then board_if_taken refreshes t.request board else board

-- byte i of what a read or a fill brings lies at this address
abbrev pub address_read : Request → ℕ → ℕ
address_read (fill a n) i = wrapped n a i
address_read q i = place q + i
