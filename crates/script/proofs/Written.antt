-- A command that is written is read again, and what was read was written so. Assumes nothing.
use Rattle.std.proofs.Common.{◌≡◌, ℕ, ◌+◌, ◌*◌, ◌/◌, ◌%◌, ◌<◌, ◌≤◌, ◌⊎◌, Bool, true, false, cond, eqb, leb, List, [], ◌∷◌, ◌++◌, length, get_or, take, drop, Some, None, Option, sym, refl, ap, ◌∙◌, subst, inl, inr, ⊎_elim, append_assoc, add_assoc, arith, length-append, length-drop, take-append-drop, length-take-le}
use Rattle.std.proofs.lemmas.List.{take_at, drop_at, drop-drop}
use Rattle.std.proofs.lemmas.Bool.{le-leb, leb-true, eqb-true, ne_eqb}
use Rattle.std.proofs.lemmas.Option.{same_Some, none-some}
use Rattle.fault.specs.declared.Refusal.{Refusal}
use Rattle.fault.specs.declared.Refusal.TheVariants.{CommandCutShort}
use Rattle.mask.specs.Masks as mask
use Rattle.script.proofs.Numbers.{u16_of_bytes, u24_of_bytes}
use Rattle.script.specs.Numbers.{u16_at, u24_at}
use Rattle.script.specs.Commands.{Instruction, read, write, fill, latency_type, coverage, register, reset, width_of, write_at_front, instruction_at_front, refusal_of, command_refusal, bytes_of_instruction, InstructionFits}

-- the bytes begin with this command, which is not refused, and the rest follows
pub record Front (bs : List ℕ) (a : Instruction) (rest : List ℕ) : Type 0 where
  pub taken : command_refusal bs ≡ None
  pub says : instruction_at_front bs ≡ Some a
  pub left : drop (width_of a) bs ≡ rest

-- ---- what is written is read

-- a write, by the bytes behind its operands
record WriteFront (bs : List ℕ) (a n : ℕ) (d m rest : List ℕ) : Type 0 where
  pub inside : 6 + (n + mask.size n) ≤ length bs
  pub says : write_at_front bs ≡ write a n d m
  pub left : drop (6 + (n + mask.size n)) bs ≡ rest

write_by_parts : (bs d m rest : List ℕ) (a n : ℕ) → 6 ≤ length bs → u24_at bs 1 ≡ a → u16_at bs 4 ≡ n → drop 6 bs ≡ (d ++ m) ++ rest → length d ≡ n → length m ≡ mask.size n → WriteFront bs a n d m rest
write_by_parts bs d m rest a n six a_is n_is behind d_long m_long =
    let parts : drop 6 bs ≡ d ++ (m ++ rest) = behind ∙ append_assoc d m rest in
    let second : drop (6 + u16_at bs 4) bs ≡ m ++ rest = sym (drop-drop (u16_at bs 4) 6 bs) ∙ ap (drop (u16_at bs 4)) parts ∙ drop_at d (m ++ rest) (u16_at bs 4) (d_long ∙ sym n_is) in
    let sized : mask.size (u16_at bs 4) ≡ mask.size n = ap mask.size n_is in
    let long : length (drop 6 bs) ≡ length d + (length m + length rest) = ap length parts ∙ length-append d (m ++ rest) ∙ ap (λ k. length d + k) (length-append m rest) in
    let both : length (d ++ m) ≡ n + mask.size n = length-append d m ∙ (λ i. d_long i + m_long i) in
    record {
      inside = omega (arith, length-drop 6 bs);
      says = λ i. write (a_is i) (n_is i) ((ap (take (u16_at bs 4)) parts ∙ take_at d (m ++ rest) (u16_at bs 4) (d_long ∙ sym n_is)) i) ((ap (take (mask.size (u16_at bs 4))) second ∙ take_at m rest (mask.size (u16_at bs 4)) (m_long ∙ sym sized)) i);
      left = sym (drop-drop (n + mask.size n) 6 bs) ∙ ap (drop (n + mask.size n)) behind ∙ drop_at (d ++ m) rest (n + mask.size n) both;
    }

-- a letter that is known, and its bytes are there
taken_by : (bs : List ℕ) (a : Instruction) → 0 < length bs → instruction_at_front bs ≡ Some a → width_of a ≤ length bs → command_refusal bs ≡ None
taken_by bs a some says inside =
    let letter : eqb (length bs) 0 ≡ false = ne_eqb (length bs) 0 (λ e. omega arith) in
    let there : leb (width_of a) (length bs) ≡ true = le-leb (width_of a) (length bs) inside in
    (λ i. cond (letter i) (Some CommandCutShort) (refusal_of (says i) (length bs))) ∙ (λ i. cond (there i) None (Some CommandCutShort))

front : (bs : List ℕ) (a : Instruction) (rest : List ℕ) → 0 < length bs → instruction_at_front bs ≡ Some a → width_of a ≤ length bs → drop (width_of a) bs ≡ rest → Front bs a rest
front bs a rest some says inside left = record { taken = taken_by bs a some says inside; says = says; left = left }

pub read_again : (a : Instruction) (rest : List ℕ) → InstructionFits a → Front (bytes_of_instruction a ++ rest) a rest
read_again (read a n) rest fits = front _ (read a n) rest (omega arith) (λ i. Some (read (u24_of_bytes a i) (u16_of_bytes n i))) (omega arith) refl
read_again (write a n d m) rest fits =
    let bs : List ℕ = bytes_of_instruction (write a n d m) ++ rest in
    let w : WriteFront bs a n d m rest = write_by_parts bs d m rest a n (omega arith) (u24_of_bytes a) (u16_of_bytes n) refl fits.2 fits.3 in
    front bs (write a n d m) rest (omega arith) (ap Some w.says) w.inside w.left
read_again (fill a n) rest fits = front _ (fill a n) rest (omega arith) (λ i. Some (fill (u24_of_bytes a i) n)) (omega arith) refl
read_again (latency_type k) rest fits = front _ (latency_type k) rest (omega arith) refl (omega arith) refl
read_again (coverage k) rest fits = front _ (coverage k) rest (omega arith) refl (omega arith) refl
read_again (register k) rest fits = front _ (register k) rest (omega arith) refl (omega arith) refl
read_again reset rest fits = front _ reset rest (omega arith) refl (omega arith) refl

-- ---- what is read was written

not_first : (t : Bool) (x : Refusal) (o : Option Refusal) → cond t (Some x) o ≡ None → o ≡ None
not_first true x o e = absurd (none-some x (sym e))
not_first false x o e = e

test_holds : (t : Bool) (x : Refusal) → cond t None (Some x) ≡ None → t ≡ true
test_holds true x e = refl
test_holds false x e = absurd (none-some x (sym e))

-- the bytes of what is not refused are there
all_there : (bs : List ℕ) (a : Instruction) → command_refusal bs ≡ None → instruction_at_front bs ≡ Some a → width_of a ≤ length bs
all_there bs a taken says =
    let one : refusal_of (instruction_at_front bs) (length bs) ≡ None = not_first (eqb (length bs) 0) CommandCutShort _ taken in
    leb-true _ _ (test_holds (leb (width_of a) (length bs)) CommandCutShort (ap (λ o. refusal_of o (length bs)) (sym says) ∙ one))

abbrev pub Bytes : List ℕ → Type 0
Bytes bs = (i : ℕ) → get_or bs i 0 < 256

pub record Back (bs : List ℕ) (a : Instruction) : Type 0 where
  pub same : bs ≡ bytes_of_instruction a ++ drop (width_of a) bs
  pub fits : InstructionFits a

-- the bytes of a number are those that made it
high_of_two : (h l : ℕ) → l < 256 → h ≡ (h * 256 + l) / 256
high_of_two h l lt = omega arith

low_of_two : (h l : ℕ) → l < 256 → l ≡ (h * 256 + l) % 256
low_of_two h l lt = omega arith

high_of_three : (h m l : ℕ) → m < 256 → l < 256 → h ≡ (h * 65536 + m * 256 + l) / 65536
high_of_three h m l mt lt = omega arith

middle_of_three : (h m l : ℕ) → m < 256 → l < 256 → m ≡ (h * 65536 + m * 256 + l) / 256 % 256
middle_of_three h m l mt lt = omega arith

low_of_three : (h m l : ℕ) → l < 256 → l ≡ (h * 65536 + m * 256 + l) % 256
low_of_three h m l lt = omega arith

-- data, mask and rest, one behind the other
join : (bs : List ℕ) (n k : ℕ) → drop 6 bs ≡ (take n (drop 6 bs) ++ take k (drop (6 + n) bs)) ++ drop (6 + (n + k)) bs
join bs n k =
    sym (take-append-drop n (drop 6 bs))
    ∙ ap (λ l. take n (drop 6 bs) ++ l) (drop-drop n 6 bs ∙ sym (take-append-drop k (drop (6 + n) bs)) ∙ ap (λ l. take k (drop (6 + n) bs) ++ l) (drop-drop k (6 + n) bs ∙ ap (λ j. drop j bs) (add_assoc 6 n k)))
    ∙ sym (append_assoc (take n (drop 6 bs)) (take k (drop (6 + n) bs)) (drop (6 + (n + k)) bs))

-- by the letter
back_read : (t : List ℕ) → Bytes (82 ∷ t) → 6 ≤ length (82 ∷ t) → Back (82 ∷ t) (read (u24_at (82 ∷ t) 1) (u16_at (82 ∷ t) 4))
back_read (h ∷ m ∷ l ∷ x ∷ y ∷ rest) b long = record {
  same = (λ i. 82 ∷ high_of_three h m l (b 2) (b 3) i ∷ middle_of_three h m l (b 2) (b 3) i ∷ low_of_three h m l (b 3) i ∷ high_of_two x y (b 5) i ∷ low_of_two x y (b 5) i ∷ rest);
  fits = (omega (arith, b 1, b 2, b 3), omega (arith, b 4, b 5));
}
back_read [] b long = absurd (omega arith)
back_read (h ∷ []) b long = absurd (omega arith)
back_read (h ∷ m ∷ []) b long = absurd (omega arith)
back_read (h ∷ m ∷ l ∷ []) b long = absurd (omega arith)
back_read (h ∷ m ∷ l ∷ x ∷ []) b long = absurd (omega arith)

back_fill : (t : List ℕ) → Bytes (70 ∷ t) → 5 ≤ length (70 ∷ t) → Back (70 ∷ t) (fill (u24_at (70 ∷ t) 1) (get_or (70 ∷ t) 4 0))
back_fill (h ∷ m ∷ l ∷ n ∷ rest) b long = record {
  same = (λ i. 70 ∷ high_of_three h m l (b 2) (b 3) i ∷ middle_of_three h m l (b 2) (b 3) i ∷ low_of_three h m l (b 3) i ∷ n ∷ rest);
  fits = (omega (arith, b 1, b 2, b 3), b 4);
}
back_fill [] b long = absurd (omega arith)
back_fill (h ∷ []) b long = absurd (omega arith)
back_fill (h ∷ m ∷ []) b long = absurd (omega arith)
back_fill (h ∷ m ∷ l ∷ []) b long = absurd (omega arith)

back_write : (t : List ℕ) → Bytes (87 ∷ t) → 6 + (u16_at (87 ∷ t) 4 + mask.size (u16_at (87 ∷ t) 4)) ≤ length (87 ∷ t) → Back (87 ∷ t) (write_at_front (87 ∷ t))
back_write (h ∷ m ∷ l ∷ x ∷ y ∷ rest) b long =
    let bs : List ℕ = 87 ∷ h ∷ m ∷ l ∷ x ∷ y ∷ rest in
    let n : ℕ = x * 256 + y in
    record {
      same = (λ i. 87 ∷ high_of_three h m l (b 2) (b 3) i ∷ middle_of_three h m l (b 2) (b 3) i ∷ low_of_three h m l (b 3) i ∷ high_of_two x y (b 5) i ∷ low_of_two x y (b 5) i ∷ join bs n (mask.size n) i);
      fits = (omega (arith, b 1, b 2, b 3), omega (arith, b 4, b 5), length-take-le n (drop 6 bs) (omega arith), length-take-le (mask.size n) (drop (6 + n) bs) (omega (arith, length-drop (6 + n) bs)));
    }
back_write [] b long = absurd (omega arith)
back_write (h ∷ []) b long = absurd (omega arith)
back_write (h ∷ m ∷ []) b long = absurd (omega arith)
back_write (h ∷ m ∷ l ∷ []) b long = absurd (omega arith)
back_write (h ∷ m ∷ l ∷ x ∷ []) b long = absurd (omega arith)

back_latency : (t : List ℕ) → Bytes (76 ∷ t) → 2 ≤ length (76 ∷ t) → Back (76 ∷ t) (latency_type (get_or (76 ∷ t) 1 0))
back_latency [] b long = absurd (omega arith)
back_latency (k ∷ rest) b long = record { same = refl; fits = b 1 }

back_coverage : (t : List ℕ) → Bytes (80 ∷ t) → 2 ≤ length (80 ∷ t) → Back (80 ∷ t) (coverage (get_or (80 ∷ t) 1 0))
back_coverage [] b long = absurd (omega arith)
back_coverage (k ∷ rest) b long = record { same = refl; fits = b 1 }

back_register : (t : List ℕ) → Bytes (81 ∷ t) → 2 ≤ length (81 ∷ t) → Back (81 ∷ t) (register (get_or (81 ∷ t) 1 0))
back_register [] b long = absurd (omega arith)
back_register (k ∷ rest) b long = record { same = refl; fits = b 1 }

back_reset : (t : List ℕ) → Bytes (90 ∷ t) → 1 ≤ length (90 ∷ t) → Back (90 ∷ t) reset
back_reset t b long = record { same = refl; fits = tt }

-- the first command that has the letter, or one after it
pick : (t : Bool) (y a : Instruction) (o : Option Instruction) → cond t (Some y) o ≡ Some a → ((t ≡ true) × (y ≡ a)) ⊎ (o ≡ Some a)
pick true y a o e = inl (refl, same_Some y a e)
pick false y a o e = inr e

by_letter : (x letter : ℕ) (t : List ℕ) (y : ℕ → Instruction) (a : Instruction) → (Bytes (letter ∷ t) → width_of (y letter) ≤ length (letter ∷ t) → Back (letter ∷ t) (y letter)) → Bytes (x ∷ t) → width_of a ≤ length (x ∷ t) → (eqb x letter ≡ true) × (y x ≡ a) → Back (x ∷ t) a
by_letter x letter t y a back b long (is, same) =
    let e : x ≡ letter = eqb-true x letter is in
    let said : y letter ≡ a = ap y (sym e) ∙ same in
    subst (λ v. Back (v ∷ t) a) (sym e) (subst (λ i. Back (letter ∷ t) i) said (back (subst (λ v. Bytes (v ∷ t)) e b) (subst (λ i. width_of i ≤ length (letter ∷ t)) (sym said) long)))

pub written_so : (bs : List ℕ) (a : Instruction) → Bytes bs → command_refusal bs ≡ None → instruction_at_front bs ≡ Some a → Back bs a
written_so [] a b taken says = absurd (none-some a says)
written_so (x ∷ t) a b taken says =
    let long : width_of a ≤ length (x ∷ t) = all_there (x ∷ t) a taken says in
    let s : ℕ → List ℕ = λ v. v ∷ t in
    ⊎_elim (by_letter x 82 t (λ v. read (u24_at (s v) 1) (u16_at (s v) 4)) a (back_read t) b long)
    (λ e. ⊎_elim (by_letter x 87 t (λ v. write_at_front (s v)) a (back_write t) b long)
    (λ e. ⊎_elim (by_letter x 70 t (λ v. fill (u24_at (s v) 1) (get_or (s v) 4 0)) a (back_fill t) b long)
    (λ e. ⊎_elim (by_letter x 76 t (λ v. latency_type (get_or (s v) 1 0)) a (back_latency t) b long)
    (λ e. ⊎_elim (by_letter x 80 t (λ v. coverage (get_or (s v) 1 0)) a (back_coverage t) b long)
    (λ e. ⊎_elim (by_letter x 81 t (λ v. register (get_or (s v) 1 0)) a (back_register t) b long)
    (λ e. ⊎_elim (by_letter x 90 t (λ v. reset) a (back_reset t) b long)
    (λ e. absurd (none-some a e)) (pick _ _ _ _ e)) (pick _ _ _ _ e)) (pick _ _ _ _ e)) (pick _ _ _ _ e)) (pick _ _ _ _ e)) (pick _ _ _ _ e)) (pick _ _ _ _ says)
