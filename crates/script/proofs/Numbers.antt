-- Numbers and places in bytes that are read from their front. Assumes nothing.
use Rattle.std.proofs.Common.{◌≡◌, ℕ, ◌+◌, ◌*◌, ◌/◌, ◌%◌, List, get_or, drop, ap, ◌∙◌, arith}
use Rattle.std.proofs.lemmas.List.{drop-drop, get_or-drop}
use Rattle.script.specs.Numbers.{u16_at, u32_at}

-- a number is that of its bytes
pub u16_of_bytes : (n : ℕ) → n / 256 * 256 + n % 256 ≡ n
u16_of_bytes n = omega arith

pub u24_of_bytes : (n : ℕ) → n / 65536 * 65536 + n / 256 % 256 * 256 + n % 256 ≡ n
u24_of_bytes n = omega arith

pub u32_of_bytes : (n : ℕ) → n / 16777216 * 16777216 + n / 65536 % 256 * 65536 + n / 256 % 256 * 256 + n % 256 ≡ n
u32_of_bytes n = omega arith

-- further on
pub further : (bs r s : List ℕ) (k n : ℕ) → r ≡ drop k bs → s ≡ drop n r → s ≡ drop (k + n) bs
further bs r s k n r_is s_is = s_is ∙ ap (drop n) r_is ∙ drop-drop n k bs

-- what stands at the front of the rest stands at its place
pub byte_at_place : (bs r : List ℕ) (k : ℕ) → r ≡ drop k bs → get_or r 0 0 ≡ get_or bs (k + 0) 0
byte_at_place bs r k is = ap (λ l. get_or l 0 0) is ∙ get_or-drop k bs 0 0

pub u16_at_place : (bs r : List ℕ) (k : ℕ) → r ≡ drop k bs → u16_at r 0 ≡ get_or bs (k + 0) 0 * 256 + get_or bs (k + 1) 0
u16_at_place bs r k is = ap (λ l. u16_at l 0) is ∙ (λ i. get_or-drop k bs 0 0 i * 256 + get_or-drop k bs 1 0 i)

pub u32_at_place : (bs r : List ℕ) (k : ℕ) → r ≡ drop k bs → u32_at r 0 ≡ get_or bs (k + 0) 0 * 16777216 + get_or bs (k + 1) 0 * 65536 + get_or bs (k + 2) 0 * 256 + get_or bs (k + 3) 0
u32_at_place bs r k is = ap (λ l. u32_at l 0) is ∙ (λ i. get_or-drop k bs 0 0 i * 16777216 + get_or-drop k bs 1 0 i * 65536 + get_or-drop k bs 2 0 i * 256 + get_or-drop k bs 3 0 i)

-- what is left behind each part of an opening
pub record Parts (bs at_make at_pages at_khz at_range at_refresh at_strobes at_stack : List ℕ) : Type 0 where
  pub make : at_make ≡ bs
  pub pages : at_pages ≡ drop 1 bs
  pub khz : at_khz ≡ drop 3 bs
  pub range : at_range ≡ drop 7 bs
  pub refresh : at_refresh ≡ drop 8 bs
  pub strobes : at_strobes ≡ drop 12 bs
  pub stack : at_stack ≡ drop 14 bs

pub parts : (bs m p k r w s t : List ℕ) → m ≡ bs → p ≡ drop 1 m → k ≡ drop 2 p → r ≡ drop 4 k → w ≡ drop 1 r → s ≡ drop 4 w → t ≡ drop 2 s → Parts bs m p k r w s t
parts bs m p k r w s t make pages khz range refresh strobes stack =
    let at_1 = further bs m p 0 1 make pages in
    let at_3 = further bs p k 1 2 at_1 khz in
    let at_7 = further bs k r 3 4 at_3 range in
    let at_8 = further bs r w 7 1 at_7 refresh in
    let at_12 = further bs w s 8 4 at_8 strobes in
    record { make = make; pages = at_1; khz = at_3; range = at_7; refresh = at_8; strobes = at_12; stack = further bs s t 12 2 at_12 stack }
