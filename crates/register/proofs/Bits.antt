-- The fields of a value by shifts and masks, and a value by its fields. Assumes nothing.
use Rattle.std.proofs.Common.{◌≡◌, ℕ, zero, suc, ◌+◌, ◌-◌, ◌*◌, ◌/◌, ◌%◌, ◌^◌, ◌<◌, ◌≤◌, bit_and, bit_or, refl, sym, ap, subst, ◌∙◌, arith}
use Rattle.std.proofs.lemmas.Nat.{and_mask, or_shifted}
use Rattle.std.proofs.lemmas.Bool.Decides.{nat_tests}
use Rattle.clock.specs.declared.range.Latency.{Latency}
use Rattle.clock.specs.declared.range.Latency.TheVariants.{Three, Four, Five}
use Rattle.register.specs.Codes.{read_latency, write_latency, coverage_of}
use Rattle.register.specs.Registers.{bits, mr0_value, mr4_value}
use Rattle.register.specs.Written.{WritesMr0, WritesMr4}
use Rattle.register.specs.declared.fields.Coverage.{Coverage}
use Rattle.register.specs.declared.fields.Coverage.TheVariants.{All}
use Rattle.register.specs.declared.fields.LatencyType.{LatencyType}
use Rattle.register.specs.declared.fields.LatencyType.TheVariants.{Variable, Fixed}

-- eight ones, moved down
ones : (k : ℕ) → k ≤ 7 → 255 / 2 ^ k ≡ 2 ^ (8 - k) - 1
ones zero h = refl
ones (suc zero) h = refl
ones (suc (suc zero)) h = refl
ones (suc (suc (suc zero))) h = refl
ones (suc (suc (suc (suc zero)))) h = refl
ones (suc (suc (suc (suc (suc zero))))) h = refl
ones (suc (suc (suc (suc (suc (suc zero)))))) h = refl
ones (suc (suc (suc (suc (suc (suc (suc zero))))))) h = refl
ones (suc (suc (suc (suc (suc (suc (suc (suc k)))))))) h = absurd (omega arith)

pub shifted_and_masked : (value high low : ℕ) → low ≤ high → high < 8 → bit_and (value / 2 ^ low) (255 / 2 ^ (7 + low - high)) ≡ bits value high low
shifted_and_masked value high low order most =
    let width : 8 - (7 + low - high) ≡ high + 1 - low = omega arith in
    ap (bit_and (value / 2 ^ low)) (ones (7 + low - high) (omega arith) ∙ ap (λ w. 2 ^ w - 1) width) ∙ and_mask (value / 2 ^ low) (high + 1 - low)

-- three fields side by side
pub fields_of_mr0 : (kind read drive : ℕ) → kind ≤ 1 → read < 8 → drive < 4 → bit_or (bit_or (kind * 32 % 256) (read * 4 % 256)) drive ≡ 32 * kind + 4 * read + drive
fields_of_mr0 kind read drive k r d =
    let high : kind * 32 % 256 ≡ kind * 2 ^ 5 = omega arith in
    let middle : read * 4 % 256 ≡ read * 4 = omega arith in
    let upper = ap (λ x. bit_or x (read * 4 % 256)) high ∙ or_shifted kind 5 (read * 4 % 256) (omega arith) in
    let whole : kind * 2 ^ 5 + read * 4 % 256 ≡ (kind * 8 + read) * 2 ^ 2 = omega arith in
    ap (λ x. bit_or x drive) (upper ∙ whole) ∙ or_shifted (kind * 8 + read) 2 drive (omega arith) ∙ omega arith

pub fields_of_mr4 : (write coverage : ℕ) → write < 8 → coverage < 8 → bit_or (write * 32 % 256) coverage ≡ 32 * write + coverage
fields_of_mr4 write coverage w c =
    let high : write * 32 % 256 ≡ write * 2 ^ 5 = omega arith in
    ap (λ x. bit_or x coverage) high ∙ or_shifted write 5 coverage (omega arith) ∙ omega arith

pub writes_mr0 : (lc : Latency) (latency_type : LatencyType) (drive v : ℕ) → v ≡ mr0_value lc latency_type drive → WritesMr0 lc latency_type drive v
unfolding read_latency
writes_mr0 Three Variable drive v is = record { taken = grind (arith, nat_tests); means = grind (arith, nat_tests) }
writes_mr0 Three Fixed drive v is = record { taken = grind (arith, nat_tests); means = grind (arith, nat_tests) }
writes_mr0 Four Variable drive v is = record { taken = grind (arith, nat_tests); means = grind (arith, nat_tests) }
writes_mr0 Four Fixed drive v is = record { taken = grind (arith, nat_tests); means = grind (arith, nat_tests) }
writes_mr0 Five Variable drive v is = record { taken = grind (arith, nat_tests); means = grind (arith, nat_tests) }
writes_mr0 Five Fixed drive v is = record { taken = grind (arith, nat_tests); means = grind (arith, nat_tests) }

writes_three : (coverage : Coverage) (v : ℕ) → v ≡ mr4_value Three coverage → WritesMr4 Three coverage v
unfolding write_latency coverage_of
writes_three All v is = subst (λ x. WritesMr4 Three All x) (sym is) (record { taken = refl; means = refl })
writes_three coverage v is = subst (λ x. WritesMr4 Three coverage x) (sym is) (record { taken = refl; means = refl })

writes_four : (coverage : Coverage) (v : ℕ) → v ≡ mr4_value Four coverage → WritesMr4 Four coverage v
unfolding write_latency coverage_of
writes_four All v is = subst (λ x. WritesMr4 Four All x) (sym is) (record { taken = refl; means = refl })
writes_four coverage v is = subst (λ x. WritesMr4 Four coverage x) (sym is) (record { taken = refl; means = refl })

writes_five : (coverage : Coverage) (v : ℕ) → v ≡ mr4_value Five coverage → WritesMr4 Five coverage v
unfolding write_latency coverage_of
writes_five All v is = subst (λ x. WritesMr4 Five All x) (sym is) (record { taken = refl; means = refl })
writes_five coverage v is = subst (λ x. WritesMr4 Five coverage x) (sym is) (record { taken = refl; means = refl })

pub writes_mr4 : (wl : Latency) (coverage : Coverage) (v : ℕ) → v ≡ mr4_value wl coverage → WritesMr4 wl coverage v
writes_mr4 Three coverage v is = writes_three coverage v is
writes_mr4 Four coverage v is = writes_four coverage v is
writes_mr4 Five coverage v is = writes_five coverage v is
