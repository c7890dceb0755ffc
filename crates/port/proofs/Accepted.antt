-- What holds of a request that nothing refuses.
use Rattle.std.proofs.Common.{◌≡◌, ℕ, ◌+◌, ◌%◌, ◌≤◌, ◌<◌, Bool, true, false, not, ◌==◌, List, length, nat_lt, None, refl, subst, Bor, pos_of_ne-zero, arith}
use Rattle.std.proofs.lemmas.Bool.{or_parts, not-false, ltb-false, leb-false, eqb-false, both_ways}
use Rattle.chip.specs.Meaning.{Meaning, size}
use Rattle.chip.proofs.Tests.{none_first}
use Rattle.port.specs.Requests.{Request, read, write, fill, latency_type, coverage, register, reset, requested, refusal, FitsRequest}
use Rattle.port.specs.declared.request.Request.{Request as Borrowed}
use Rattle.port.specs.declared.request.Request.TheVariants as borrowed
use Rattle.port.specs.Tests.{longest, bad_length, is_line}
use Rattle.register.specs.Registers.{readable}

-- a range of so many bytes from a
pub record Range (m : Meaning) (a n : ℕ) : Type 0 where
  pub some : 1 ≤ n
  pub most : n ≤ longest
  pub inside : a + n ≤ size m.config

-- a length that is not bad
some_bytes : (n : ℕ) → bad_length n ≡ false → (1 ≤ n) × (n ≤ longest)
some_bytes n good =
    let (some, most) = or_parts (n == 0) (nat_lt longest n) good in
    (pos_of_ne-zero (eqb-false n 0 some), ltb-false longest n most)

-- a request of this kind that nothing refuses, as the caller borrows it
abbrev pub IsAccepted : Meaning → Borrowed → ℕ → Type 0
IsAccepted m r n = refusal m false (requested r n) ≡ None

-- the same of a request that is this one
accepted : (m : Meaning) (r s : Borrowed) (n : ℕ) → r ≡ s → IsAccepted m r n → IsAccepted m s n
accepted m r s n is = subst (λ x. IsAccepted m x n) is

-- a read's range
pub read_range : (m : Meaning) (r : Borrowed) (a n : ℕ) → r ≡ borrowed.Read a → IsAccepted m r n → Range m a n
read_range m r a n is taken =
    let none = accepted m r (borrowed.Read a) n is taken in
    let long = none_first _ _ _ (none_first _ _ _ none).1 in
    let bytes = some_bytes n long.0 in
    record { some = bytes.0; most = bytes.1; inside = ltb-false _ _ (none_first _ _ _ long.1).0 }

-- and a write's
pub write_range : (m : Meaning) (r : Borrowed) (a n : ℕ) (d mask : Bor (List ℕ)) → r ≡ borrowed.Write a d mask
    → IsAccepted m r n → Range m a (length d.now)
write_range m r a n d mask is taken =
    let none = accepted m r (borrowed.Write a d mask) n is taken in
    let long = none_first _ _ _ (none_first _ _ _ none).1 in
    let bytes = some_bytes (length d.now) long.0 in
    record { some = bytes.0; most = bytes.1; inside = ltb-false _ _ (none_first _ _ _ long.1).0 }

-- a fill of a line from a
pub record Line (m : Meaning) (a n : ℕ) : Type 0 where
  pub line : is_line n ≡ true
  pub even : a % 2 ≡ 0
  pub inside : a < size m.config

-- what nothing refuses, whether a strobe was lost or not
pub line_of_fill : (m : Meaning) (lost : Bool) (a n : ℕ) → refusal m lost (fill a n) ≡ None → Line m a n
line_of_fill m lost a n taken =
    let first = none_first _ _ _ (none_first lost _ _ taken).1 in
    let (line, even) = or_parts (not (is_line n)) (a % 2 == 1) first.0 in
    let not_odd = eqb-false (a % 2) 1 even in
    record {
      line = not-false (is_line n) line;
      even = omega arith;
      inside = leb-false _ _ (none_first _ _ _ first.1).0;
    }

-- a fill's line
pub fill_line : (m : Meaning) (r : Borrowed) (a n : ℕ) → r ≡ borrowed.Fill a → IsAccepted m r n → Line m a n
fill_line m r a n is taken =
    line_of_fill m false a n (accepted m r (borrowed.Fill a) n is taken)

-- a register that is read can be read
pub register_there : (m : Meaning) (r : Borrowed) (number n : ℕ) → r ≡ borrowed.Register number → IsAccepted m r n
    → readable number ≡ true
register_there m r number n is taken =
    let none = accepted m r (borrowed.Register number) n is taken in
    not-false (readable number) (none_first _ _ _ (none_first _ _ _ none).1).0

-- a coverage has a code
pub coverage_fits : (m : Meaning) (r : Borrowed) (v n : ℕ) → r ≡ borrowed.Coverage v → IsAccepted m r n → v ≤ 7
coverage_fits m r v n is taken =
    let none = accepted m r (borrowed.Coverage v) n is taken in
    ltb-false 7 v (none_first _ _ _ (none_first _ _ _ none).1).0

-- a read and a fill, as the caller borrows them, have as many bytes as their buffer
pub requested_fits : (r : Borrowed) (buffer : List ℕ) → FitsRequest (requested r (length buffer)) buffer
requested_fits (borrowed.Read a) buffer = refl
requested_fits (borrowed.Write a d mask) buffer = tt
requested_fits (borrowed.Fill a) buffer = refl
requested_fits (borrowed.LatencyType v) buffer = tt
requested_fits (borrowed.Coverage v) buffer = tt
requested_fits (borrowed.Register number) buffer = tt
requested_fits borrowed.Reset buffer = tt

-- what nothing refuses while a strobe is known to be lost, nothing refuses else
pub found_too : (m : Meaning) (lost : Bool) (q : Request) → refusal m lost q ≡ None → refusal m false q ≡ None
found_too m false q none = none
found_too m true (read a n) none = absurd (both_ways true (none_first _ _ _ none).0 refl)
found_too m true (write a d mask) none = absurd (both_ways true (none_first _ _ _ none).0 refl)
found_too m true (fill a n) none = absurd (both_ways true (none_first _ _ _ none).0 refl)
found_too m true (latency_type v) none = absurd (both_ways true (none_first _ _ _ none).0 refl)
found_too m true (coverage v) none = absurd (both_ways true (none_first _ _ _ none).0 refl)
found_too m true (register r) none = absurd (both_ways true (none_first _ _ _ none).0 refl)
found_too m true reset none = none
