-- What follows the plan of a file, cut into the numbers and the letters of its rows.
use Rattle.std.proofs.Common.{◌≡◌, ℕ, zero, suc, ◌+◌, ◌*◌, ◌≤◌, List, [], ◌∷◌, length, get_or, take, drop, sym, refl, ap, ◌∙◌, ap₂, arith}
use Rattle.std.specs.Simd.{first_chunks}
use Rattle.std.proofs.lemmas.List.{length-drop, drop-drop, drop-take, take-take}
use Rattle.std.proofs.lemmas.Bool.Decides.{nat_tests}
use Rattle.rules.specs.File.{number_of, body_length}
use Rattle.file.specs.Cut.{Cut}

-- the first n chunks are those of the bytes that they take
chunks_within : (n : ℕ) (s : List ℕ) → first_chunks 4 n (take (4 * n) s) ≡ first_chunks 4 n s
chunks_within zero s = refl
chunks_within (suc n) s =
    let e : 4 * suc n ≡ 4 + 4 * n = omega arith in
    let l : 4 ≤ 4 * suc n = omega arith in
    ap₂ (λ x xs. x ∷ first_chunks 4 n xs) (take-take 4 (4 * suc n) s l) (ap (λ k. drop 4 (take k s)) e ∙ drop-take 4 (4 * n) s)
    ∙ ap (λ xs. take 4 s ∷ xs) (chunks_within n (drop 4 s))

-- a number in two bytes
pub two_bytes : (bs : List ℕ) → 2 ≤ length bs → number_of (take 2 bs) ≡ get_or bs 0 0 + get_or bs 1 0 * 256
two_bytes [] h = absurd (omega arith)
two_bytes (a ∷ []) h = absurd (omega arith)
two_bytes (a ∷ (b ∷ bs)) h = omega arith

-- s is what follows the two bytes that announce n rows, as a program reads it
pub cut : (d n : ℕ) (rest s : List ℕ) (numbers : List (List ℕ)) (letters : List ℕ) → 2 ≤ length rest → s ≡ drop 2 rest → n ≡ number_of (take 2 rest)
    → length s ≡ 4 * n + d * n → length numbers ≡ n → numbers ≡ first_chunks 4 n (take (4 * n) s) → letters ≡ drop (4 * n) s → Cut d rest numbers letters
cut d n rest s numbers letters h q e l m f b =
    let a = ap length q ∙ length-drop 2 rest in
    let k : length rest ≡ body_length d n = omega arith in
    let w = ap (body_length d) e in
    let x = ap length b ∙ length-drop (4 * n) s in
    record {
      fits = grind (arith, nat_tests);
      announces = m ∙ e;
      front = f ∙ chunks_within n s ∙ ap₂ (first_chunks 4) (sym m) q;
      back = b ∙ ap (drop (4 * n)) q ∙ drop-drop (4 * n) 2 rest ∙ ap (λ j. drop (2 + 4 * j) rest) (sym m);
      many = grind arith;
    }
