-- The bytes that a fill brings are those that the scoreboard has.
use Rattle.std.proofs.Common.{◌≡◌, ℕ, ◌<◌, Bool, true, false, if◌then◌else◌, List, [], ◌∷◌, ◌++◌, length, sym, refl, ap, ◌∙◌, subst, ◌==◌, inl, inr}
use Rattle.std.specs.List.{flat_map}
use Rattle.std.specs.Prelude.{◌||◌}
use Rattle.std.proofs.lemmas.Bool.{eqb-true, or_cases, or_parts}
use Rattle.std.proofs.lemmas.List.{append-nil}
use Rattle.chip.specs.Meaning.{Meaning}
use Rattle.chip.specs.Sent.{read}
use Rattle.chip.specs.Taken.{address}
use Rattle.chip.specs.declared.config.Config.{Config}
use Rattle.chip.specs.declared.state.State.{State}
use Rattle.frame.specs.Bursts.{bytes, wrapped, burst_address}
use Rattle.frame.specs.declared.burst.Burst.{Burst}
use Rattle.frame.specs.declared.burst.Burst.TheVariants.{Wrapped}
use Rattle.frame.specs.declared.make.Make.{Make}
use Rattle.register.specs.Codes.{block_of}
use Rattle.register.specs.Registers.{mr8, mr8_value, block_of_line}
use Rattle.register.specs.declared.fields.CacheLine.{CacheLine}
use Rattle.register.specs.declared.fields.CacheLine.TheVariants as line
use Rattle.port.specs.Acts.{Act, is_lost, any_lost}
use Rattle.port.specs.Answers.{bytes_in}
use Rattle.port.specs.Plans.{send, set, line_of, plan}
use Rattle.port.specs.Requests.{fill}
use Rattle.port.specs.Tests.{is_line}
use Rattle.runs.specs.Scoreboards.{Scoreboard}
use Rattle.runs.proofs.Agreements.{Agrees, agrees_still, quiet_read, quiet_set_8}
use Rattle.runs.proofs.Courses.{Course, answered, unanswered, alone}
use Rattle.runs.proofs.ReadBytes.{AreKnown, known_at, brings_known}

-- ---- lines

-- how a line of n bytes is read
abbrev burst_of : ℕ → Burst
burst_of n = Wrapped (block_of_line (line_of n))

-- the block of a line of n bytes has n
line_bytes : (m : Make) (n : ℕ) → is_line n ≡ true → bytes m (block_of_line (line_of n)) ≡ n
line_bytes m n is =
    let P : ℕ → Type 0 = λ k. bytes m (block_of_line (line_of k)) ≡ k in
    elim (or_cases (n == 16) (n == 32 || n == 64) is) [
      | inl e ↦ subst P (sym (eqb-true n 16 e)) refl
      | inr other ↦ elim (or_cases (n == 32) (n == 64) other) [
        | inl e ↦ subst P (sym (eqb-true n 32 e)) refl
        | inr e ↦ subst P (sym (eqb-true n 64 e)) refl
      ]
    ]

-- what MR8 means once it holds the value of a line
line_of_mr8 : (line : CacheLine) → mr8 (mr8_value line) ≡ Wrapped (block_of_line line)
unfolding block_of
line_of_mr8 line.Bytes16 = refl
line_of_mr8 line.Bytes32 = refl
line_of_mr8 line.Bytes64 = refl

-- ---- a fill

-- acts that bring a number of bytes, and end in agreement
pub record BringAll (board : Scoreboard) (place : ℕ → ℕ) (count : ℕ) (acts : List Act) (o : Meaning) : Type 0 where
  pub known : AreKnown board place (flat_map bytes_in acts)
  pub long : any_lost acts ≡ false → length (flat_map bytes_in acts) ≡ count
  pub agrees : Agrees board o

module _ (board : Scoreboard) (a n : ℕ) (is : is_line n ≡ true) where
  -- where the bytes of a line lie, if MR8 holds the line
  line_address : (k : Config) (s : State) (i : ℕ) → mr8 s.mr8 ≡ burst_of n
      → address k s (burst_of n) a i ≡ wrapped n a i
  line_address k s i holds =
      ap (λ b. burst_address k.make b a i) holds ∙ ap (λ size. wrapped size a i) (line_bytes k.make n is)

  -- a read of a line that MR8 holds
  line_known : (m o : Meaning) (acts : List Act) → mr8 m.state.mr8 ≡ burst_of n → Agrees board m
      → Course m (send (read (burst_of n) a n) ∷ []) acts o → BringAll board (wrapped n a) n acts o
  line_known m o acts holds agrees course =
      let one = alone course in
      let came = bytes_in one.act in
      let place = address m.config m.state (burst_of n) a in
      let bring = brings_known board (burst_of n) a n agrees one.does in
      let places : (i : ℕ) → i < length came → wrapped n a i ≡ place i =
      λ i h. sym (line_address m.config m.state i holds) in
      let known = known_at board place (wrapped n a) came places bring.known in
      subst (λ xs. BringAll board (wrapped n a) n xs o) (sym one.only)
      (record {
        known = subst (AreKnown board (wrapped n a)) (sym (append-nil came)) known;
        long = λ none. ap length (append-nil came) ∙ bring.long (or_parts (is_lost one.act) false none).0;
        agrees = agrees_still one.does (quiet_read (burst_of n) a n) agrees;
      })

  -- MR8 holds the line, or is written first
  fill_by : (m o : Meaning) (acts : List Act) (held : Bool) → (m.state.mr8 == mr8_value (line_of n)) ≡ held
      → Agrees board m
      → Course m ((if held then [] else set 8 (mr8_value (line_of n)) ∷ []) ++ send (read (burst_of n) a n) ∷ []) acts o
      → BringAll board (wrapped n a) n acts o
  fill_by m o acts true held agrees course =
      let holds = ap mr8 (eqb-true m.state.mr8 (mr8_value (line_of n)) held) ∙ line_of_mr8 (line_of n) in
      line_known m o acts holds agrees course
  fill_by m o acts false held agrees (answered {n = q} {act = act} {rest = rest} does found more) =
      let holds = ap mr8 does.mr8 ∙ line_of_mr8 (line_of n) in
      let bring = line_known q o rest holds (agrees_still does (quiet_set_8 (mr8_value (line_of n))) agrees) more in
      let others = flat_map bytes_in rest in
      record {
        known = subst (λ xs. AreKnown board (wrapped n a) (xs ++ others)) (sym does.brings) bring.known;
        long = λ none.
            ap (λ xs. length (xs ++ others)) does.brings
            ∙ bring.long (or_parts (is_lost act) (any_lost rest) none).1;
        agrees = bring.agrees;
      }
  fill_by m o acts false held agrees (unanswered does lost) = cc (does.lost)

  -- what follows the plan of a fill
  pub fill_known : (m o : Meaning) (acts : List Act) → Agrees board m
      → Course m (plan m.config m.state (fill a n)) acts o → BringAll board (wrapped n a) n acts o
  fill_known m o acts = fill_by m o acts (m.state.mr8 == mr8_value (line_of n)) refl
