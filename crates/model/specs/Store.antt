-- The store after a frame, and what a read takes from it. Assumes nothing.
use Rattle.std.specs.Prelude.{ℕ, zero, suc, if◌then◌else◌, List, map, length, slice_index, slice_set}
use Rattle.std.specs.List.{range_with_len}
use Rattle.frame.specs.declared.burst.Burst.{Burst}
use Rattle.mask.specs.Masks.{masked}
use Rattle.chip.specs.Sent.{Sent, write}
use Rattle.chip.specs.Taken.{address}
use Rattle.model.specs.Contents.{Contents}

-- a store after the first n bytes of d came each to its place, but for those that are masked
abbrev pub written_store : (ℕ → ℕ) → List ℕ → List ℕ → ℕ → List ℕ → List ℕ
written_store place d mask zero store = store
written_store place d mask (suc i) store =
    if masked mask i then written_store place d mask i store
    else slice_set (written_store place d mask i store) (place i) (slice_index d i)

-- the store after a frame that is taken: a write alone changes it
abbrev pub store_after : Contents → Sent → List ℕ
store_after m (write b a d mask) = written_store (address m.config m.state b a) d mask (length d) m.store
store_after m _ = m.store

-- the first n bytes of a burst, in its order
abbrev pub burst_bytes : Contents → Burst → ℕ → ℕ → List ℕ
burst_bytes m b a n = map (λ i. slice_index m.store (address m.config m.state b a i)) (range_with_len 0 n)
