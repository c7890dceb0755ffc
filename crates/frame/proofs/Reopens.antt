-- A command and its address come back from the bytes that open their frame. Assumes nothing.
use Rattle.std.proofs.Common.{◌≡◌, ℕ, ◌+◌, ◌*◌, ◌/◌, ◌%◌, ◌<◌, ◌≤◌, List, [], ◌∷◌, length, get_or, Some, None, Option, option_and_then, ◌≢◌, sym, refl, ap, ◌∙◌, arith}
use Rattle.std.proofs.lemmas.List.{same_lists, places}
use Rattle.std.proofs.lemmas.Bool.{le-leb, cond-true}
use Rattle.std.proofs.lemmas.Bool.Decides.{nat_tests}
use Rattle.fault.specs.Names.{named}
use Rattle.frame.specs.OpeningBytes.{code, last_address, address_of, opening_bytes, commands, carried, GivesBack}
use Rattle.frame.specs.declared.command.Command.{Command}
use Rattle.frame.specs.declared.command.Command.TheVariants.{Read, LinearRead, Write, LinearWrite, RegisterRead, RegisterWrite, GlobalReset}

low_bytes : (c : Command) (a : ℕ) → a ≤ last_address c → a ≤ 0xFFFFFF
low_bytes Read a h = h
low_bytes _ a h = omega arith

code_back : (c : Command) → named code commands (code c) ≡ Some c
code_back Read = refl
code_back _ = refl

joined : (a : ℕ) → a ≤ 0xFFFFFF → 0 * 16777216 + a / 65536 % 256 * 65536 + a / 256 % 256 * 256 + a % 256 ≡ a
joined a h = omega arith

carried_back : (o : Option Command) (c : Command) (x a : ℕ) → o ≡ Some c → x ≡ a → a ≤ last_address c → option_and_then (carried x) o ≡ Some (c, a)
carried_back o c x a e f h = ap (option_and_then (carried x)) e ∙ ap (λ y. carried y c) f ∙ cond-true _ _ _ (le-leb a (last_address c) h)

pub gives_back : GivesBack
gives_back c a h = (
  code c ∷ 0 ∷ a / 65536 % 256 ∷ a / 256 % 256 ∷ a % 256 ∷ [],
  cond-true _ _ _ (le-leb a (last_address c) h),
  carried_back _ c _ a (code_back c) (joined a (low_bytes c a h)) h,
)

pub command_at : (c : Command) (b : ℕ) → code c ≡ b → named code commands b ≡ Some c
command_at c b e = ap (named code commands) (sym e) ∙ code_back c

-- a byte that is no code has no command
pub no_command : (b : ℕ) → ((c : Command) → code c ≢ b) → named code commands b ≡ None
no_command b h = grind (arith, nat_tests, h Read, h LinearRead, h Write, h LinearWrite, h RegisterRead, h RegisterWrite, h GlobalReset)

-- a code has one command
code_of : (b : ℕ) (c : Command) → named code commands b ≡ Some c → code c ≡ b
code_of b c e = grind (arith, nat_tests)

five : (bs : List ℕ) → length bs ≡ 5 → bs ≡ get_or bs 0 0 ∷ get_or bs 1 0 ∷ get_or bs 2 0 ∷ get_or bs 3 0 ∷ get_or bs 4 0 ∷ []
five bs e = same_lists _ _ e (λ k d h. grind (arith, places))

same_five : (v w x y z v' w' x' y' z' : ℕ) → v ≡ v' → w ≡ w' → x ≡ x' → y ≡ y' → z ≡ z' → ◌≡◌ {A = List ℕ} (v ∷ w ∷ x ∷ y ∷ z ∷ []) (v' ∷ w' ∷ x' ∷ y' ∷ z' ∷ [])
same_five v w x y z v' w' x' y' z' a b c d e = cc

-- five bytes that open a frame are its opening bytes
pub reopened : (bs : List ℕ) (c : Command) (a : ℕ) → length bs ≡ 5 → get_or bs 2 0 < 256 → get_or bs 3 0 < 256 → get_or bs 4 0 < 256 → named code commands (get_or bs 0 0) ≡ Some c → a ≡ address_of bs → a ≤ last_address c → opening_bytes c a ≡ Some bs
reopened bs c a long f2 f1 f0 e is h =
    let top = low_bytes c a h in
    cond-true _ _ _ (le-leb a (last_address c) h) ∙ ap Some (same_five _ _ _ _ _ _ _ _ _ _ (code_of _ c e) (omega arith) (omega arith) (omega arith) (omega arith) ∙ sym (five bs long))
