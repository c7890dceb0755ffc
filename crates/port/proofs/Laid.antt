-- Bytes that come into a buffer part by part.
use Rattle.std.proofs.Common.{◌≡◌, ℕ, ◌+◌, ◌-◌, ◌≤◌, List, ◌++◌, length, take, drop, sym, ◌∙◌, ap, inl, inr, arith, append_assoc, length-append, length-drop}
use Rattle.std.proofs.Math.Seq.{take-append_seam, drop-append_seam, take-append-add, drop-append-add}
use Rattle.std.proofs.lemmas.Bool.{cases_lt}
use Rattle.std.proofs.lemmas.List.{take_all, drop_all, drop-drop, drop-append-le}
use Rattle.port.specs.Answers.{buffer_with}

-- bytes that the buffer has room for stand in front of the rest
pub laid_in : (old bytes : List ℕ) → length bytes ≤ length old → buffer_with old bytes ≡ bytes ++ drop (length bytes) old
laid_in old bytes room = ap (λ xs. xs ++ drop (length bytes) old) (take_all (length old) bytes room)

-- more bytes, laid behind these
laid_more : (old bytes more : List ℕ) → length bytes ≤ length old
    → buffer_with old (bytes ++ more)
    ≡ take (length bytes) (buffer_with old bytes) ++ buffer_with (drop (length bytes) (buffer_with old bytes)) more
laid_more old bytes more room =
    let rest = drop (length bytes) old in
    let is = laid_in old bytes room in
    let taken = ap (take (length bytes)) is ∙ take-append_seam bytes rest in
    let dropped = ap (drop (length bytes)) is ∙ drop-append_seam bytes rest in
    let long : length old ≡ length bytes + length rest = omega (arith, length-drop (length bytes) old) in
    let front = ap (λ n. take n (bytes ++ more)) long ∙ take-append-add bytes more (length rest) in
    let back = ap (λ n. drop n old) (length-append bytes more) ∙ sym (drop-drop (length more) (length bytes) old) in
    cc (append_assoc bytes (take (length rest) more) (drop (length more) rest))

-- from the end of the front part on
drop-append : (n : ℕ) (xs ys : List ℕ) → drop n (xs ++ ys) ≡ drop n xs ++ drop (n - length xs) ys
drop-append n xs ys =
    elim (cases_lt (length xs) n) [
      | inl h ↦
          let long : n ≡ length xs + (n - length xs) = omega arith in
          ap (λ k. drop k (xs ++ ys)) long ∙ drop-append-add xs ys (n - length xs)
          ∙ ap (λ l. l ++ drop (n - length xs) ys) (sym (drop_all n xs (omega arith)))
      | inr h ↦
          let none : 0 ≡ n - length xs = omega arith in
          drop-append-le n xs ys h ∙ ap (λ k. drop n xs ++ drop k ys) none
    ]

-- the same without the first few of all bytes: the next bytes are laid behind those that came, without what is still to
-- be left out
pub laid_on : (old bytes more : List ℕ) (cut place skip : ℕ) → place ≡ length bytes - cut → skip ≡ cut - length bytes
    → place ≤ length old
    → take place (buffer_with old (drop cut bytes)) ++ buffer_with (drop place (buffer_with old (drop cut bytes))) (drop skip more)
    ≡ buffer_with old (drop cut (bytes ++ more))
laid_on old bytes more cut place skip place_is skip_is room =
    let came = drop cut bytes in
    let long : place ≡ length came = place_is ∙ sym (length-drop cut bytes) in
    let laid_behind : ℕ → ℕ → List ℕ = λ p k. take p (buffer_with old came) ++ buffer_with (drop p (buffer_with old came)) (drop k more) in
    ap (λ p. laid_behind p skip) long ∙ ap (laid_behind (length came)) skip_is
    ∙ sym (laid_more old came (drop (cut - length bytes) more) (omega arith))
    ∙ ap (buffer_with old) (sym (drop-append cut bytes more))
