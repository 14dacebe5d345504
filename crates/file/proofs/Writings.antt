-- The file of some clips, written part by part.
use Rattle.std.proofs.Common.{◌≡◌, ℕ, suc, ◌+◌, ◌*◌, ◌/◌, ◌%◌, ◌<◌, ◌≤◌, List, [], ◌∷◌, ◌++◌, length, get_or, take, drop, sym, refl, ap, ◌∙◌, ap₂, mul-zero, zero-add, mul-suc, add-one, arith}
use Rattle.std.specs.List.{AllByRecursion}
use Rattle.std.proofs.lemmas.List.{append_assoc, length-append, length-map, length-take-le, map_more, flat_map_more}
use Rattle.space.specs.Row.{Row, stored_row, stored_rows}
use Rattle.space.specs.declared.clip.StoredClip.{StoredClip}
use Rattle.rules.specs.File.{bytes_of, header, number_bytes, letter_bytes}
use Rattle.file.specs.Writes.{written, file_length, put}
use Rattle.file.specs.LawsFile.{WrittenSaves}
use Rattle.file.proofs.Puts.{put_then}

-- ---- how long the parts are
length_numbers : (rs : List Row) → length (number_bytes rs) ≡ 4 * length rs
length_numbers [] = refl
length_numbers (r ∷ rs) = let more = length_numbers rs in omega arith

length_letters : (d : ℕ) (rs : List Row) → AllByRecursion (λ r. length r.letters ≡ d) rs → length (letter_bytes rs) ≡ d * length rs
length_letters d [] a = sym (mul-zero d)
length_letters d (r ∷ rs) a =
    let more = length_letters d rs a.1 in
    omega (arith, length-append r.letters (letter_bytes rs), a.0, mul-suc d (length rs))

length_front : (plan : List ℕ) (n : ℕ) → length (header plan ++ bytes_of 2 n) ≡ 3 + length plan
length_front plan n = let l = length-append plan (bytes_of 2 n) in omega arith

pub length_written : (plan : List ℕ) (rs : List Row) → length (letter_bytes rs) ≡ length plan * length rs → length (written plan rs) ≡ file_length (length plan) (length rs)
length_written plan rs e =
    let a = length-append plan (bytes_of 2 (length rs) ++ (number_bytes rs ++ letter_bytes rs)) in
    let b = length-append (number_bytes rs) (letter_bytes rs) in
    let c = length_numbers rs in
    omega arith

pub written_saves : WrittenSaves
written_saves = ((λ plan rows. refl), (λ plan rows a. length_written plan rows (length_letters (length plan) rows a)))

-- ---- one clip more
abbrev blank : StoredClip
blank = record { number = 0; letters = [] }

module _ (d : ℕ) (clips : List StoredClip) (i : ℕ) (h : i < length clips) where
  rows_more : stored_rows d (take (i + 1) clips) ≡ stored_rows d (take i clips) ++ (stored_row d (get_or clips i blank) ∷ [])
  rows_more = map_more (stored_row d) clips i blank h

  rows_long : length (stored_rows d (take i clips)) ≡ i
  rows_long = length-map (take i clips) (stored_row d) ∙ length-take-le i clips (omega arith)

  numbers_more : number_bytes (stored_rows d (take i clips)) ++ bytes_of 4 (get_or clips i blank).number ≡ number_bytes (stored_rows d (take (i + 1) clips))
  numbers_more =
      flat_map_more (λ (r : Row). bytes_of 4 r.number) [] (stored_rows d (take i clips)) (stored_row d (get_or clips i blank)) ∙ ap number_bytes (sym rows_more)

  letters_more : letter_bytes (stored_rows d (take i clips)) ++ take d (get_or clips i blank).letters ≡ letter_bytes (stored_rows d (take (i + 1) clips))
  letters_more = flat_map_more (λ (r : Row). r.letters) [] (stored_rows d (take i clips)) (stored_row d (get_or clips i blank)) ∙ ap letter_bytes (sym rows_more)

  -- new is what one write more leaves of the output, at the place behind what is written
  module _ (at p : ℕ) (slots output new bytes : List ℕ) (k : at ≤ length slots) (w : new ≡ put p bytes output) where
    pub number_step : p ≡ at + 4 * i → output ≡ put at (number_bytes (stored_rows d (take i clips))) slots → bytes ≡ bytes_of 4 (get_or clips i blank).number
        → new ≡ put at (number_bytes (stored_rows d (take (i + 1) clips))) slots
    number_step q o b =
        let n = number_bytes (stored_rows d (take i clips)) in
        let l : length n ≡ 4 * i = length_numbers (stored_rows d (take i clips)) ∙ ap (λ x. 4 * x) rows_long in
        w
        ∙ ap₂ (put p) b o
        ∙ put_then at p n (bytes_of 4 (get_or clips i blank).number) slots k (omega arith)
        ∙ ap (λ x. put at x slots) numbers_more

    module _ (b : bytes ≡ take d (get_or clips i blank).letters) (long : length (letter_bytes (stored_rows d (take i clips))) ≡ d * i) where
      pub letter_step : p ≡ at + d * i → output ≡ put at (letter_bytes (stored_rows d (take i clips))) slots
          → new ≡ put at (letter_bytes (stored_rows d (take (i + 1) clips))) slots
      letter_step q o =
          w
          ∙ ap₂ (put p) b o
          ∙ put_then at p (letter_bytes (stored_rows d (take i clips))) (take d (get_or clips i blank).letters) slots k (omega arith)
          ∙ ap (λ x. put at x slots) letters_more

      pub letter_long : length bytes ≡ d → length (letter_bytes (stored_rows d (take (i + 1) clips))) ≡ d * (i + 1)
      letter_long l =
          let a = length-append (letter_bytes (stored_rows d (take i clips))) (take d (get_or clips i blank).letters) in
          let e = ap length letters_more in
          let f = ap length b in
          let m : d * (i + 1) ≡ d * i + d = ap (λ x. d * x) (add-one i) ∙ mul-suc d i in
          omega arith

-- a number in four bytes, as a program takes it apart
pub four_apart : (x : ℕ) → x % 256 ∷ (x / 256 % 256 ∷ (x / 65536 % 256 ∷ (x / 16777216 % 256 ∷ []))) ≡ bytes_of 4 x
four_apart x =
    let a : x / 65536 % 256 ≡ x / 256 / 256 % 256 = omega arith in
    let b : x / 16777216 % 256 ≡ x / 256 / 256 / 256 % 256 = omega arith in
    ap₂ (λ y z. x % 256 ∷ (x / 256 % 256 ∷ (y ∷ (z ∷ [])))) a b

-- ---- the parts one behind the other
pub front_put : (plan two bytes slots one sizes new : List ℕ) (p q : ℕ) → one ≡ put 0 (length plan ∷ []) slots → p ≡ 1 → sizes ≡ put p plan one
    → q ≡ 1 + length plan → new ≡ put q bytes sizes → bytes ≡ two → new ≡ put 0 (header plan ++ two) slots
front_put plan two bytes slots one sizes new p q a e b f c g =
    let z : 0 ≤ length slots = omega arith in
    let h : q ≡ 0 + length (header plan) = let x : 1 + length plan ≡ 0 + suc (length plan) = omega arith in f ∙ x in
    c
    ∙ ap₂ (put q) g (b ∙ ap (put p plan) a ∙ put_then 0 p (length plan ∷ []) plan slots z e)
    ∙ put_then 0 q (header plan) two slots z h

module _ (plan : List ℕ) (clips : List StoredClip) (slots : List ℕ) where
  abbrev rs : List Row
  rs = stored_rows (length plan) clips

  rows_count : length rs ≡ length clips
  rows_count = length-map clips (stored_row (length plan))

  pub whole_put : (front numbers letters : List ℕ) (p q : ℕ) → front ≡ put 0 (header plan ++ bytes_of 2 (length clips)) slots
      → p ≡ 3 + length plan → numbers ≡ put p (number_bytes rs) front
      → q ≡ p + 4 * length clips → letters ≡ put q (letter_bytes rs) numbers
      → letters ≡ written plan rs ++ drop (length (written plan rs)) slots
  whole_put front numbers letters p q f d n e l =
      let z : 0 ≤ length slots = omega arith in
      let two = bytes_of 2 (length clips) in
      let start = header plan ++ two in
      let g = length_front plan (length clips) in
      let a : p ≡ 0 + length start = omega arith in
      let b : q ≡ 0 + length (start ++ number_bytes rs) =
      let h = length-append start (number_bytes rs) in
      let k = length_numbers rs in
      let m = rows_count in
      omega arith in
      let same : (start ++ number_bytes rs) ++ letter_bytes rs ≡ written plan rs =
      append_assoc start (number_bytes rs) (letter_bytes rs)
      ∙ append_assoc (header plan) two (number_bytes rs ++ letter_bytes rs)
      ∙ ap (λ k. header plan ++ (bytes_of 2 k ++ (number_bytes rs ++ letter_bytes rs))) (sym rows_count) in
      l
      ∙ ap (put q (letter_bytes rs)) (n ∙ ap (put p (number_bytes rs)) f ∙ put_then 0 p start (number_bytes rs) slots z a)
      ∙ put_then 0 q (start ++ number_bytes rs) (letter_bytes rs) slots z b
      ∙ ap (λ x. put 0 x slots) same
      ∙ ap (λ k. written plan rs ++ drop k slots) (zero-add (length (written plan rs)))

  pub whole_long : length (letter_bytes rs) ≡ length plan * length clips
      → 3 + length plan + 4 * length clips + length plan * length clips ≡ length (written plan rs)
  whole_long e =
      let a = length_written plan rs (e ∙ ap (λ k. length plan * k) (sym rows_count)) in
      let b = ap (file_length (length plan)) rows_count in
      omega arith
