-- A write: a chip takes the frame of each piece, none is lost, and none brings bytes.
use Rattle.std.proofs.Common.{◌≡◌, ℕ, ◌+◌, ◌-◌, ◌*◌, ◌&&◌, Bool, List, [], ◌∷◌, length, map, sym, ◌∙◌, ap, subst, arith}
use Rattle.std.specs.List.{range_with_len}
use Rattle.std.specs.Prelude.{nat_lt}
use Rattle.std.proofs.lemmas.List.FromFn.{length-map-range_with_len}
use Rattle.frame.specs.declared.burst.Burst.TheVariants.{Linear}
use Rattle.frame.specs.declared.span.Span.{Span}
use Rattle.mask.specs.Masks.{size as mask_size}
use Rattle.chip.specs.Chains.{Exchange, IsExchange}
use Rattle.chip.specs.Meaning.{Meaning}
use Rattle.chip.specs.Sent.{Event, Sent, write, read_bytes}
use Rattle.chip.specs.Taken.{is_answered, answer_by}
use Rattle.split.specs.declared.direction.Direction.TheVariants.{Write}
use Rattle.port.specs.Carried.{IsFit}
use Rattle.port.specs.Plans.{send, write_piece, byte_for, masks, bits_from, mask_by}
use Rattle.port.specs.Wakes.{IsReady}
use Rattle.port.specs.declared.traffic.Traffic.{Traffic}
use Rattle.port.proofs.ActLists.{with_frame}
use Rattle.port.proofs.Frames.{frame_facts}
use Rattle.port.proofs.Loops.{IsNext, IsUnderWay, goes_on}
use Rattle.port.proofs.MemoryFrames.{fit_write}
use Rattle.port.proofs.Ready.{KeepsLatencies}

-- the frame of a piece
abbrev pub frame_of : ℕ → List ℕ → List ℕ → Span → Sent
frame_of a bytes mask piece =
    write Linear piece.from (map (λ i. byte_for a bytes (piece.from + i)) (range_with_len 0 (piece.to - piece.from)))
    (mask_by (λ i. masks a bytes mask (piece.from + i)) (piece.to - piece.from))

-- a ready chip takes that of the next piece
pub fit_written : (m : Meaning) (a n : ℕ) (bytes mask : List ℕ) {piece : Span} {traffic : Traffic} → IsReady m
    → IsNext Write a n piece traffic m → IsFit m (frame_of a bytes mask piece)
fit_written m a n bytes mask {piece} ready is =
    let count = piece.to - piece.from in
    let long = length-map-range_with_len (λ i. byte_for a bytes (piece.from + i)) 0 count in
    let test : ℕ → Bool = λ i. nat_lt i count && masks a bytes mask (piece.from + i) in
    let mask_long = length-map-range_with_len (λ k. bits_from test (8 * k) 8) 0 (mask_size count) in
    fit_write m piece.from ready is.even is.in_chip _ _ (omega (arith, long, is.some))
    (omega (arith, long, is.even, is.even_end)) (mask_long ∙ ap mask_size (sym long)) (omega (arith, long, is.short))

-- it is sent: it is not lost, and brings no bytes
module _ {X : Type 0} {meaning : X → Meaning} {gives : X → Event → X → Type 0} {a : ℕ} (bytes mask : List ℕ)
    {c d e : X} {from : ℕ} {left rest : List Span} {piece : Span} {traffic : Traffic} {x : Exchange} where
  pub write_goes_on :
      IsUnderWay meaning gives Write (write_piece a bytes mask) a (length bytes) c [] from left traffic d
      → left ≡ piece ∷ rest → IsExchange meaning gives d x e → x.frame ≡ frame_of a bytes mask piece
      → IsUnderWay meaning gives Write (write_piece a bytes mask) a (length bytes) c [] piece.to rest
      (with_frame traffic x.low) e
  write_goes_on so_far first one is =
      let m = meaning d in
      let facts = frame_facts meaning gives d e x one so_far.ready.awake in
      let answer = facts.answer ∙ ap (λ f. answer_by m.config m.state (is_answered (meaning e) f) f) is in
      let keeps = subst (λ f. KeepsLatencies m.config f) (sym is) tt in
      let none = ap (λ f. read_bytes f x.answer x.after) is in
      let way_with : List ℕ → Type 0 = λ bs.
      IsUnderWay meaning gives Write (write_piece a bytes mask) a (length bytes) c bs piece.to rest
      (with_frame traffic x.low) e in
      subst way_with none (goes_on so_far first e x one (ap send is) keeps answer)
