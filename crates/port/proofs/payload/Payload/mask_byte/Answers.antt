use Rattle.std.proofs.Common.{◌≡◌, ℕ, ◌+◌, ◌-◌, ◌*◌, if◌then◌else◌, ap, ◌∙◌, subst, arith}
use Rattle.port.specs.Plans.{bits_from}
use Rattle.port.specs.Payloads.{masks_in}
use Rattle.port.proofs.MaskBits.{bits_from-one, bits_below, bool_byte_is, bool_byte_most}
use Rattle.port.proofs.payload.Payload.mask_byte.Goals as goal

pub overflow_mul-byte : goal.overflow_mul-byte
overflow_mul-byte c =
    let first = 8 * c.args.k + 8 - c.loop-j.j in
    let below = bits_below (masks_in c.args.self.now c.args.piece) first c.loop-j.j (omega arith) in
    omega (arith, below, c.loop-j.invariant)

pub overflow_add-byte : goal.overflow_add-byte
overflow_add-byte c =
    let first = 8 * c.args.k + 8 - c.loop-j.j in
    let below = bits_below (masks_in c.args.self.now c.args.piece) first c.loop-j.j (omega arith) in
    omega (arith, below, c.loop-j.invariant, c.from.ensures, bool_byte_most c.masks_in.result)

pub loop-j-preserved : goal.loop-j-preserved
loop-j-preserved c =
    let test = masks_in c.args.self.now c.args.piece in
    let i = 8 * c.args.k + 7 - c.loop-j.j in
    let before : c.loop-j.byte ≡ bits_from test (i + 1) c.loop-j.j =
    c.loop-j.invariant ∙ ap (λ n. bits_from test n c.loop-j.j) (omega arith) in
    let bit : c.from.result ≡ (if test i then 1 else 0) =
    c.from.ensures ∙ bool_byte_is c.masks_in.result ∙ ap (λ b. if b then 1 else 0) c.masks_in.ensures in
    let last : i ≡ 8 * c.args.k + 8 - (c.loop-j.j + 1) = omega arith in
    subst (λ n. 2 * c.loop-j.byte + c.from.result ≡ bits_from test n (c.loop-j.j + 1)) last
    (omega (arith, before, bit, bits_from-one test i c.loop-j.j))

pub returns : goal.returns
returns c =
    let test = masks_in c.args.self.now c.args.piece in
    let end : c.loop-j.j ≡ 8 = omega arith in
    let P : ℕ → Type 0 = λ j. c.loop-j.byte ≡ bits_from test (8 * c.args.k + 8 - j) j in
    let whole : c.loop-j.byte ≡ bits_from test (8 * c.args.k + 8 - 8) 8 = subst P end c.loop-j.invariant in
    subst (λ i. c.loop-j.byte ≡ bits_from test i 8) (omega arith) whole
