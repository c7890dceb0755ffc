-- Bytes have one reading as commands, and how it is found, one command after the other. Assumes nothing.
use Rattle.std.proofs.Common.{◌≡◌, ℕ, ◌+◌, ◌-◌, ◌<◌, Bool, true, false, cond, eqb, leb, List, [], ◌∷◌, ◌++◌, length, get_or, suc, drop, Some, None, Ok, Err, Option, Result, sym, refl, ap, ◌∙◌, subst, append_assoc, append-nil, add-zero, add_assoc, arith, length-append}
use Rattle.std.specs.Prelude.{IfOk, OnErr, IfNone}
use Rattle.std.proofs.slice.Lists.{all_by_recursion_push}
use Rattle.std.proofs.lemmas.List.{get_or-append-add, map-append}
use Rattle.std.proofs.lemmas.Bool.{ne_eqb}
use Rattle.std.proofs.lemmas.Option.{same_Some, none-some}
use Rattle.std.specs.List.{AllByRecursion}
use Rattle.std.specs.declared.alloc.AllocError.{AllocError}
use Rattle.fault.specs.Refusals.{fault_at}
use Rattle.fault.specs.declared.Fault.{Fault}
use Rattle.fault.specs.declared.Refusal.{Refusal}
use Rattle.fault.specs.declared.Refusal.TheVariants.{UnknownCommand, CommandCutShort}
use Rattle.script.specs.Numbers.{u16_at, u24_at}
use Rattle.script.specs.Openings.{Fields, fields_at_front, opening_length, commands_of, opening_refusal, OpeningComesBack}
use Rattle.script.specs.Commands.{Instruction, read, write, fill, latency_type, coverage, register, reset, instruction_of, width_of, write_at_front, instruction_at_front, refusal_of, command_refusal, bytes_of_instruction, InstructionFits}
use Rattle.script.specs.Scripts.{bytes_of_all, with_places, placed_instruction, placed_instructions, EndsAt, BeginsWith, IsReading, ReadingLaws, ListsAll, ListsFirst, ScriptComesBack}
use Rattle.script.specs.declared.listing.Placed.{Placed}
use Rattle.script.proofs.Written.{read_again, Bytes, written_so}

-- ---- a script has one reading

some_written : (a : Instruction) (rest : List ℕ) → 0 < length (bytes_of_instruction a ++ rest)
some_written (read a n) rest = omega arith
some_written (write a n d m) rest = omega arith
some_written (fill a n) rest = omega arith
some_written (latency_type k) rest = omega arith
some_written (coverage k) rest = omega arith
some_written (register k) rest = omega arith
some_written reset rest = omega arith

-- where a script ends, no command begins
no_command : (a : Instruction) (rest left : List ℕ) (p : ℕ) (e : Option (Fault ℕ)) → InstructionFits a → EndsAt p left e → left ≡ bytes_of_instruction a ++ rest → ⊥
no_command a rest left p None fits end is = let long : length left ≡ length (bytes_of_instruction a ++ rest) = ap length is in let none : length left ≡ 0 = ap length end in omega (arith, some_written a rest)
no_command a rest left p (Some f) fits end is = none-some f.refusal (sym (sym end.2 ∙ ap command_refusal is ∙ (read_again a rest fits).taken))

-- the commands of a reading are the first of every other reading that has them in front
record More (commands others : List Instruction) (left last : List ℕ) : Type 0 where
  pub tail : List Instruction
  pub fit : AllByRecursion InstructionFits tail
  pub listed : others ≡ commands ++ tail
  pub behind : left ≡ bytes_of_all tail ++ last

prefix : (commands others : List Instruction) (left last : List ℕ) (p : ℕ) (e : Option (Fault ℕ)) → AllByRecursion InstructionFits commands → AllByRecursion InstructionFits others → EndsAt p last e → bytes_of_all commands ++ left ≡ bytes_of_all others ++ last → More commands others left last
prefix [] others left last p e fa fo end is = record { tail = others; fit = fo; listed = refl; behind = is }
prefix (a ∷ commands) [] left last p e fa fo end is = absurd (no_command a (bytes_of_all commands ++ left) last p e fa.0 end (sym is ∙ append_assoc (bytes_of_instruction a) (bytes_of_all commands) left))
prefix (a ∷ commands) (b ∷ others) left last p e fa fo end is =
    let both : bytes_of_instruction a ++ (bytes_of_all commands ++ left) ≡ bytes_of_instruction b ++ (bytes_of_all others ++ last) = sym (append_assoc (bytes_of_instruction a) (bytes_of_all commands) left) ∙ is ∙ append_assoc (bytes_of_instruction b) (bytes_of_all others) last in
    let one = read_again a (bytes_of_all commands ++ left) fa.0 in
    let two = read_again b (bytes_of_all others ++ last) fo.0 in
    let same : b ≡ a = same_Some b a (sym two.says ∙ sym (ap instruction_at_front both) ∙ one.says) in
    let rest : bytes_of_all commands ++ left ≡ bytes_of_all others ++ last = sym one.left ∙ (λ i. drop (width_of (sym same i)) (both i)) ∙ two.left in
    let more = prefix commands others left last p e fa.1 fo.1 end rest in
    record { tail = more.tail; fit = more.fit; listed = λ i. same i ∷ more.listed i; behind = more.behind }

same_ends : (p q : ℕ) (l k : List ℕ) (e f : Option (Fault ℕ)) → p ≡ q → l ≡ k → EndsAt p l e → EndsAt q k f → f ≡ e
same_ends p q l k None None at is one two = refl
same_ends p q l k None (Some f) at is one two = let none : length k ≡ 0 = ap length (sym is ∙ one) in absurd (omega (arith, two.1))
same_ends p q l k (Some f) None at is one two = let none : length l ≡ 0 = ap length (is ∙ two) in absurd (omega (arith, one.1))
same_ends p q l k (Some f) (Some g) at is one two =
    let both : Some g.refusal ≡ Some f.refusal = sym two.2 ∙ ap command_refusal (sym is) ∙ one.2 in
    let which : g.refusal ≡ f.refusal = cc in
    λ i. Some (fault_at (which i) ((two.0 ∙ sym at ∙ sym one.0) i))

none_more : (tail : List Instruction) (last left : List ℕ) (p : ℕ) (e : Option (Fault ℕ)) → AllByRecursion InstructionFits tail → EndsAt p left e → left ≡ bytes_of_all tail ++ last → tail ≡ []
none_more [] last left p e fit end is = refl
none_more (a ∷ tail) last left p e fit end is = absurd (no_command a (bytes_of_all tail ++ last) left p e fit.0 end (is ∙ append_assoc (bytes_of_instruction a) (bytes_of_all tail) last))

same_reading : (bs : List ℕ) (cs ds : List (ℕ × Instruction)) (e f : Option (Fault ℕ)) → IsReading bs cs e → IsReading bs ds f → (ds ≡ cs) × (f ≡ e)
same_reading bs cs ds e f one two =
    let more = prefix one.begins.instructions two.begins.instructions one.left two.left (length (bytes_of_all two.begins.instructions)) f one.begins.fit two.begins.fit two.ends (sym one.begins.whole ∙ two.begins.whole) in
    let end = none_more more.tail two.left one.left (length (bytes_of_all one.begins.instructions)) e more.fit one.ends more.behind in
    let same : two.begins.instructions ≡ one.begins.instructions = more.listed ∙ ap (λ t. one.begins.instructions ++ t) end ∙ append-nil one.begins.instructions in
    let rest : one.left ≡ two.left = more.behind ∙ ap (λ t. bytes_of_all t ++ two.left) end in
    (two.begins.placed ∙ ap (with_places 0) same ∙ sym one.begins.placed, same_ends (length (bytes_of_all one.begins.instructions)) (length (bytes_of_all two.begins.instructions)) one.left two.left e f (ap (λ a. length (bytes_of_all a)) (sym same)) rest one.ends two.ends)

places_append : (p : ℕ) (commands tail : List Instruction) → with_places p (commands ++ tail) ≡ with_places p commands ++ with_places (p + length (bytes_of_all commands)) tail
places_append p [] tail = ap (λ q. with_places q tail) (sym (add-zero p))
places_append p (a ∷ commands) tail =
    ap (λ l. (p, a) ∷ l) (places_append (p + length (bytes_of_instruction a)) commands tail
    ∙ ap (λ q. with_places (p + length (bytes_of_instruction a)) commands ++ with_places q tail) (add_assoc p (length (bytes_of_instruction a)) (length (bytes_of_all commands)) ∙ ap (λ q. p + q) (sym (length-append (bytes_of_instruction a) (bytes_of_all commands)))))

places_first : (commands tail : List Instruction) → with_places 0 (commands ++ tail) ≡ with_places 0 commands ++ with_places (length (bytes_of_all commands)) tail
places_first commands tail = let at : 0 + length (bytes_of_all commands) ≡ length (bytes_of_all commands) = omega arith in places_append 0 commands tail ∙ ap (λ q. with_places 0 commands ++ with_places q tail) at

-- a letter that is unknown stays so, whatever follows
not_cut_short : (t : Bool) → cond t None (Some CommandCutShort) ≡ Some UnknownCommand → ⊥
not_cut_short true e = none-some UnknownCommand e
not_cut_short false e = let no : ◌≡◌ {A = ℕ} 1 0 = cc in omega arith

is_unknown : (o : Option Instruction) (n : ℕ) → refusal_of o n ≡ Some UnknownCommand → o ≡ None
is_unknown None n e = refl
is_unknown (Some a) n e = absurd (not_cut_short (leb (width_of a) n) e)

past_first : (t : Bool) (a b : Instruction) (o p : Option Instruction) → (o ≡ None → p ≡ None) → cond t (Some a) o ≡ None → cond t (Some b) p ≡ None
past_first true a b o p rest e = absurd (none-some a (sym e))
past_first false a b o p rest e = rest e

still_unknown : (x : ℕ) (t more : List ℕ) → instruction_at_front (x ∷ t) ≡ None → instruction_at_front (x ∷ t ++ more) ≡ None
still_unknown x t more =
    let s : List ℕ = x ∷ t in
    let l : List ℕ = x ∷ t ++ more in
    past_first (eqb x 82) (read (u24_at s 1) (u16_at s 4)) (read (u24_at l 1) (u16_at l 4)) _ _
    (past_first (eqb x 87) (write_at_front s) (write_at_front l) _ _
    (past_first (eqb x 70) (fill (u24_at s 1) (get_or s 4 0)) (fill (u24_at l 1) (get_or l 4 0)) _ _
    (past_first (eqb x 76) (latency_type (get_or s 1 0)) (latency_type (get_or l 1 0)) _ _
    (past_first (eqb x 80) (coverage (get_or s 1 0)) (coverage (get_or l 1 0)) _ _
    (past_first (eqb x 81) (register (get_or s 1 0)) (register (get_or l 1 0)) _ _
    (past_first (eqb x 90) reset reset None None (λ e. e)))))))

unknown_stays : (left more : List ℕ) → 0 < length left → command_refusal left ≡ Some UnknownCommand → command_refusal (left ++ more) ≡ Some UnknownCommand
unknown_stays [] more some e = absurd (omega arith)
unknown_stays (x ∷ left) more some e =
    let letter : (n : ℕ) → eqb (suc n) 0 ≡ false = λ n. ne_eqb (suc n) 0 (λ no. omega arith) in
    let one : refusal_of (instruction_at_front (x ∷ left)) (length (x ∷ left)) ≡ Some UnknownCommand = (λ i. cond (sym (letter (length left)) i) (Some CommandCutShort) (refusal_of (instruction_at_front (x ∷ left)) (length (x ∷ left)))) ∙ e in
    (λ i. cond (letter (length (left ++ more)) i) (Some CommandCutShort) (refusal_of (instruction_at_front (x ∷ left ++ more)) (length (x ∷ left ++ more))))
    ∙ ap (λ o. refusal_of o (length (x ∷ left ++ more))) (still_unknown x left more (is_unknown _ _ one))

unknown_end_stays : (bs more : List ℕ) (cs : List (ℕ × Instruction)) (p : ℕ) → IsReading bs cs (Some (fault_at UnknownCommand p)) → IsReading (bs ++ more) cs (Some (fault_at UnknownCommand p))
unknown_end_stays bs more cs p one = record {
  left = one.left ++ more;
  begins = record { instructions = one.begins.instructions; fit = one.begins.fit; whole = ap (λ l. l ++ more) one.begins.whole ∙ append_assoc (bytes_of_all one.begins.instructions) one.left more; placed = one.begins.placed };
  ends = (one.ends.0, (let some = one.ends.1 in omega (arith, length-append one.left more)), unknown_stays one.left more one.ends.1 one.ends.2);
}

laws : (bs : List ℕ) (cs : List (ℕ × Instruction)) (e : Option (Fault ℕ)) → IsReading bs cs e → ReadingLaws bs cs e
laws bs cs e one = record {
  comes_back = λ commands fit is.
      let other : IsReading bs (with_places 0 commands) None = record { left = []; begins = record { instructions = commands; fit = fit; whole = is ∙ sym (append-nil (bytes_of_all commands)); placed = refl }; ends = refl } in
      let same = same_reading bs cs (with_places 0 commands) e None one other in
      (sym same.0, sym same.1);
  one_reading = λ ds f two. same_reading bs cs ds e f one two;
  longest = λ ds left two.
      let front = prefix two.instructions one.begins.instructions left one.left (length (bytes_of_all one.begins.instructions)) e two.fit one.begins.fit one.ends (sym two.whole ∙ one.begins.whole) in
      (with_places (length (bytes_of_all two.instructions)) front.tail, one.begins.placed ∙ ap (with_places 0) front.listed ∙ places_first two.instructions front.tail ∙ ap (λ l. l ++ with_places (length (bytes_of_all two.instructions)) front.tail) (sym two.placed));
  no_further = λ more ds f two.
      let front = prefix one.begins.instructions two.begins.instructions (one.left ++ more) two.left (length (bytes_of_all two.begins.instructions)) f one.begins.fit two.begins.fit two.ends (sym (append_assoc (bytes_of_all one.begins.instructions) one.left more) ∙ ap (λ l. l ++ more) (sym one.begins.whole) ∙ two.begins.whole) in
      (with_places (length (bytes_of_all one.begins.instructions)) front.tail, two.begins.placed ∙ ap (with_places 0) front.listed ∙ places_first one.begins.instructions front.tail ∙ ap (λ l. l ++ with_places (length (bytes_of_all one.begins.instructions)) front.tail) (sym one.begins.placed));
  stays_unknown = λ p more is. subst (IsReading (bs ++ more) cs) (sym is) (unknown_end_stays bs more cs p (subst (IsReading bs cs) is one));
}

-- ---- reading one command after the other

bytes_behind : (bs front rest : List ℕ) → Bytes bs → bs ≡ front ++ rest → Bytes rest
bytes_behind bs front rest b is = λ i. subst (λ x. x < 256) (ap (λ l. get_or l (length front + i) 0) is ∙ get_or-append-add front rest i 0) (b (length front + i))

bytes_of_all-append : (commands tail : List Instruction) → bytes_of_all (commands ++ tail) ≡ bytes_of_all commands ++ bytes_of_all tail
bytes_of_all-append [] tail = refl
bytes_of_all-append (a ∷ commands) tail = ap (λ l. bytes_of_instruction a ++ l) (bytes_of_all-append commands tail) ∙ sym (append_assoc (bytes_of_instruction a) (bytes_of_all commands) (bytes_of_all tail))

one_more : (bs rest after : List ℕ) (ps : List Placed) (p : Placed) → Bytes bs → BeginsWith bs (placed_instructions ps) rest → p.place ≡ length bs - length rest → command_refusal rest ≡ None → instruction_at_front rest ≡ Some (instruction_of p.command) → after ≡ drop (width_of (instruction_of p.command)) rest → BeginsWith bs (placed_instructions (ps ++ p ∷ [])) after
one_more bs rest after ps p b so at taken says behind =
    let a = instruction_of p.command in
    let back = written_so rest a (bytes_behind bs (bytes_of_all so.instructions) rest b so.whole) taken says in
    let long : length bs ≡ length (bytes_of_all so.instructions) + length rest = ap length so.whole ∙ length-append (bytes_of_all so.instructions) rest in
    let place : p.place ≡ length (bytes_of_all so.instructions) = omega arith in
    record {
      instructions = so.instructions ++ a ∷ [];
      fit = all_by_recursion_push InstructionFits so.instructions a so.fit back.fits;
      whole =
          so.whole ∙ ap (λ l. bytes_of_all so.instructions ++ l) (back.same ∙ ap (λ l. bytes_of_instruction a ++ l) (sym behind))
          ∙ sym (append_assoc (bytes_of_all so.instructions) (bytes_of_instruction a) after)
          ∙ ap (λ l. (bytes_of_all so.instructions ++ l) ++ after) (sym (append-nil (bytes_of_instruction a)))
          ∙ ap (λ l. l ++ after) (sym (bytes_of_all-append so.instructions (a ∷ [])));
      placed =
          map-append placed_instruction ps (p ∷ []) ∙ (λ i. so.placed i ++ (place i, a) ∷ []) ∙ sym (places_first so.instructions (a ∷ []));
    }

pub shorter : (bs rest after : List ℕ) (ps : List Placed) (a : Instruction) → Bytes bs → BeginsWith bs (placed_instructions ps) rest → command_refusal rest ≡ None → instruction_at_front rest ≡ Some a → after ≡ drop (width_of a) rest → length after < length rest
shorter bs rest after ps a b so taken says behind =
    let back = written_so rest a (bytes_behind bs (bytes_of_all so.instructions) rest b so.whole) taken says in
    let long : length rest ≡ length (bytes_of_instruction a) + length after = ap length (back.same ∙ ap (λ l. bytes_of_instruction a ++ l) (sym behind)) ∙ length-append (bytes_of_instruction a) after in
    let some : 0 < length (bytes_of_instruction a) = subst (λ l. 0 < length l) (append-nil (bytes_of_instruction a)) (some_written a []) in
    omega arith

at_end : (bs rest : List ℕ) (ps : List Placed) → BeginsWith bs (placed_instructions ps) rest → length rest ≡ 0 → IsReading bs (placed_instructions ps) None
at_end bs [] ps so none = record { left = []; begins = so; ends = refl }
at_end bs (x ∷ rest) ps so none = absurd (omega arith)

stopped : (bs rest : List ℕ) (ps : List Placed) (r : Refusal) (p : ℕ) → BeginsWith bs (placed_instructions ps) rest → 0 < length rest → command_refusal rest ≡ Some r → p ≡ length bs - length rest → IsReading bs (placed_instructions ps) (Some (fault_at r p))
stopped bs rest ps r p so some refused at =
    let long : length bs ≡ length (bytes_of_all so.instructions) + length rest = ap length so.whole ∙ length-append (bytes_of_all so.instructions) rest in
    record { left = rest; begins = so; ends = (omega arith, some, refused) }

-- ---- a list that is being filled

pub record Filling (bs : List ℕ) (old new : List Placed) (rest : List ℕ) : Type 0 where
  pub added : List Placed
  pub behind : new ≡ old ++ added
  pub begins : BeginsWith bs (placed_instructions added) rest

pub next : (bs rest after : List ℕ) (old new : List Placed) (p : Placed) → Bytes bs → Filling bs old new rest → p.place ≡ length bs - length rest → command_refusal rest ≡ None → instruction_at_front rest ≡ Some (instruction_of p.command) → after ≡ drop (width_of (instruction_of p.command)) rest → Filling bs old (new ++ p ∷ []) after
next bs rest after old new p b so at taken says behind = record {
  added = so.added ++ p ∷ [];
  behind = ap (λ l. l ++ p ∷ []) so.behind ∙ append_assoc old so.added (p ∷ []);
  begins = one_more bs rest after so.added p b so.begins at taken says behind;
}

pub done : (bs rest : List ℕ) (old new : List Placed) → Filling bs old new rest → length rest ≡ 0 → ListsAll bs old new None
done bs rest old new so none =
    let read = at_end bs rest so.added so.begins none in
    record { added = so.added; behind = so.behind; reading = read; laws = laws _ _ _ read }

pub refused : (bs rest : List ℕ) (old new : List Placed) (r : Refusal) (p : ℕ) (f : Fault ℕ) → Filling bs old new rest → 0 < length rest → command_refusal rest ≡ Some r → p ≡ length bs - length rest → f ≡ fault_at r p → ListsAll bs old new (Some f)
refused bs rest old new r p f so some unread at is =
    let read = stopped bs rest so.added r p so.begins some unread at in
    subst (λ g. ListsAll bs old new (Some g)) (sym is) (record { added = so.added; behind = so.behind; reading = read; laws = laws _ _ _ read })

-- ---- a whole script

pub ok_listed : (bs commands : List ℕ) (f : Fields) (old new : List Placed) (r : Result (Option (Fault ℕ)) AllocError) → opening_refusal bs ≡ None → f ≡ fields_at_front bs → commands ≡ drop (opening_length f.stack) bs → IfOk r (λ end. ListsAll commands old new end) → IfNone (opening_refusal bs) (IfOk r (λ end. ListsAll (commands_of bs) old new end))
ok_listed bs commands f old new r none is behind listed =
    subst (λ o. IfNone o (IfOk r (λ end. ListsAll (commands_of bs) old new end))) (sym none) (subst (λ l. IfOk r (λ end. ListsAll l old new end)) (behind ∙ ap (λ g. drop (opening_length g.stack) bs) is) listed)

pub err_listed : (bs commands : List ℕ) (f : Fields) (old new : List Placed) (r : Result (Option (Fault ℕ)) AllocError) → opening_refusal bs ≡ None → f ≡ fields_at_front bs → commands ≡ drop (opening_length f.stack) bs → OnErr r (ListsFirst commands old new) → IfNone (opening_refusal bs) (OnErr r (ListsFirst (commands_of bs) old new))
err_listed bs commands f old new r none is behind listed =
    subst (λ o. IfNone o (OnErr r (ListsFirst (commands_of bs) old new))) (sym none) (subst (λ l. OnErr r (ListsFirst l old new)) (behind ∙ ap (λ g. drop (opening_length g.stack) bs) is) listed)

pub script_back : (bs : List ℕ) (old new : List Placed) (r : Result (Option (Fault ℕ)) AllocError) → opening_refusal bs ≡ None → IfNone (opening_refusal bs) (IfOk r (λ end. ListsAll (commands_of bs) old new end)) → OpeningComesBack bs → IfOk r (λ end. ScriptComesBack bs old new end)
script_back bs old new (Err x) none listed back = tt
script_back bs old new (Ok end) none listed back = λ f is fits fit clock few bytes.
    let all : ListsAll (commands_of bs) old new end = subst (λ o. IfNone o (ListsAll (commands_of bs) old new end)) none listed in
    let opening = back f (bytes_of_all is) fits few bytes in
    let behind : commands_of bs ≡ bytes_of_all is = ap (λ g. drop (opening_length g.stack) bs) opening.fields ∙ opening.rest in
    let same = all.laws.comes_back is fit behind in
    (same.1, (all.added, all.behind, same.0))

pub no_script : (bs : List ℕ) (e : Refusal) (old new : List Placed) (end : Option (Fault ℕ)) → opening_refusal bs ≡ Some e → OpeningComesBack bs → ScriptComesBack bs old new end
no_script bs e old new end is back f commands fits fit clock few bytes = absurd (none-some e (sym (sym is ∙ (back f (bytes_of_all commands) fits few bytes).refusal ∙ clock)))
