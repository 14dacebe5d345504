-- A row that is read from a file.
use Rattle.std.proofs.Common.{◌≡◌, ℕ, ◌+◌, ◌-◌, ◌*◌, ◌<◌, ◌≤◌, Bool, true, false, ◌&&◌, eqb, ltb, leb, List, [], ◌++◌, length, get_or, take, drop, replicate, Some, None, Ok, Err, Result, sym, ap, ◌∙◌, ap₂, arith}
use Rattle.std.proofs.lemmas.List.{length-take-le, drop-replicate}
use Rattle.std.proofs.lemmas.Bool.{and_from, and_left, and_right, le-leb, eq-eqb, ne_eqb, lt-ltb}
use Rattle.std.specs.Result.{result_ok, MatchResult}
use Rattle.file.specs.declared.fault.FileFault.{FileFault}
use Rattle.std.proofs.lemmas.Bool.Decides.{nat_tests}
use Rattle.space.specs.Boxes.{given}
use Rattle.space.specs.Row.{Row}
use Rattle.rules.specs.File.{number_of, body, announced, file_rows, body_length}
use Rattle.file.specs.Checked.{length_fault}
use Rattle.file.specs.Cut.{Cut}
use Rattle.file.specs.Reads.{no_row, row_at}
use Rattle.space.specs.Row.{stored_as}
use Rattle.file.proofs.Listed.{row_is, row_long, chunk_at}

-- ---- a length without fault is the one that the rows ask for
pub long_from_none : (d : ℕ) (rest : List ℕ) → length_fault d rest ≡ None → length rest ≡ body_length d (number_of (take 2 rest))
long_from_none d rest e = grind (arith, nat_tests)

none_from_long : (d : ℕ) (rest : List ℕ) → length rest ≡ body_length d (number_of (take 2 rest)) → length_fault d rest ≡ None
none_from_long d rest e = grind (arith, nat_tests)

-- what follows the plan has a fault where it is not cut
pub uncut : {A : Type 0} (P : A → Type 0) (d : ℕ) (rest : List ℕ) (r : Result A FileFault) → result_ok r ≡ None
    → MatchResult r P (λ e. length_fault d rest ≡ Some e) → length_fault d rest ≡ None → ⊥
uncut P d rest (Ok x) e m n = cc
uncut P d rest (Err f) e m n = cc

-- as many zeros as there are letters to come
pub room_long : (d n i : ℕ) (L ls : List ℕ) → d ≤ 10 → i < n → length L ≡ d * n → ls ≡ take d (drop (d * i) L) → length {A = ℕ} (take d (replicate 10 0)) ≡ length ls
room_long d n i L ls w h l e =
    let z : length {A = ℕ} (take d (replicate 10 0)) ≡ d = length-take-le d (replicate 10 0) w in
    z ∙ sym (ap length e ∙ row_long d n i L h (omega arith))

-- ---- where there is no row, and where there is one
module _ (plan file : List ℕ) (i : ℕ) where
  abbrev wide : Bool
  wide = leb (length plan) 10

  abbrev long : Bool
  long = eqb (length (body plan file)) (body_length (length plan) (announced plan file))

  abbrev there : Bool
  there = ltb i (announced plan file)

  row_when : (t : Bool) → (wide && (long && there)) ≡ t → row_at plan file i ≡ given t (stored_as (get_or (file_rows plan file) i no_row))
  row_when t e = ap (λ s. given s (stored_as (get_or (file_rows plan file) i no_row))) e

  pub no_row_uncut : (rest : List ℕ) → rest ≡ body plan file → (length_fault (length plan) rest ≡ None → ⊥) → None ≡ row_at plan file i
  no_row_uncut rest q f =
      let n : length (body plan file) ≡ body_length (length plan) (announced plan file) → ⊥ =
      λ l. f (ap (length_fault (length plan)) q ∙ none_from_long (length plan) (body plan file) l) in
      sym (row_when false (and_right wide (long && there) (and_left long there (ne_eqb _ _ n))))

  pub row_stored : length plan ≤ 10 → length (body plan file) ≡ body_length (length plan) (announced plan file) → i < announced plan file
      → row_at plan file i ≡ Some (stored_as (get_or (file_rows plan file) i no_row))
  row_stored w l h = row_when true (and_from wide (long && there) (le-leb (length plan) 10 w) (and_from long there (eq-eqb _ _ l) (lt-ltb i (announced plan file) h)))

  module _ (rest : List ℕ) (q : rest ≡ body plan file) where
    -- the bytes of the rows, as a program reads them
    module _ (numbers : List (List ℕ)) (letters : List ℕ) (c : Cut (length plan) rest numbers letters) where
      abbrev n : ℕ
      n = length numbers

      announced_is : n ≡ announced plan file
      announced_is = c.announces ∙ ap (λ b. number_of (take 2 b)) q

      module _ (h : i < n) where
        number_cut : get_or numbers i [] ≡ take 4 (drop (4 * i) (drop 2 rest))
        number_cut = ap (λ N. get_or N i []) c.front ∙ chunk_at n i (drop 2 rest) h

        row_read : get_or (file_rows plan file) i no_row ≡ record { number = number_of (get_or numbers i []); letters = take (length plan) (drop (length plan * i) letters) }
        row_read =
            let d = length plan in
            let row : List ℕ → List ℕ → Row = λ a b. record { number = number_of a; letters = take d (drop (d * i) b) } in
            let at : i < announced plan file = let a = announced_is in omega arith in
            row_is (announced plan file) d (drop 2 (body plan file)) (drop (2 + 4 * announced plan file) (body plan file)) i no_row at
            ∙ ap (λ k. row (take 4 (drop (4 * i) (drop 2 (body plan file)))) (drop (2 + 4 * k) (body plan file))) (sym announced_is)
            ∙ ap (λ b. row (take 4 (drop (4 * i) (drop 2 b))) (drop (2 + 4 * n) b)) (sym q)
            ∙ ap₂ row (sym number_cut) (sym c.back)

        pub row_there : (x : ℕ) (ls : List ℕ) → x ≡ number_of (get_or numbers i []) → ls ≡ take (length plan) (drop (length plan * i) letters) → length plan ≤ 10
            → Some (record { number = x; letters = ls ++ drop (length plan) (replicate 10 0) }) ≡ row_at plan file i
        row_there x ls xs es w =
            let d = length plan in
            let is : length (take d (drop (d * i) letters)) ≡ d = row_long d n i letters h (let m = c.many in omega arith) in
            let fits = long_from_none d (body plan file) (ap (length_fault d) (sym q) ∙ c.fits) in
            let v = take d (drop (d * i) letters) in
            ap₂ (λ a b. Some (record { number = x; letters = a ++ b })) es (drop-replicate d 10 0 ∙ ap (λ k. replicate (10 - k) 0) (sym is))
            ∙ ap (λ y. Some (stored_as (record { number = y; letters = v }))) xs
            ∙ ap (λ r. Some (stored_as r)) (sym row_read)
            ∙ sym (row_stored w fits (let a = announced_is in omega arith))
