-- Numbers as bytes, the low byte first, and back.
use Rattle.std.proofs.Common.{◌≡◌, ℕ, zero, suc, ◌+◌, ◌*◌, ◌/◌, ◌%◌, ◌^◌, ◌<◌, ◌≤◌, List, [], ◌∷◌, length, take, sym, refl, ap, ◌∙◌, subst, ap₂, pow-suc, arith}
use Rattle.std.specs.List.{AllByRecursion}
use Rattle.std.proofs.lemmas.List.{length-take-le}
use Rattle.std.proofs.ByRecursion.{All-take}
use Rattle.rules.specs.File.{bytes_of, number_of}

abbrev pub Bytes : List ℕ → Type 0
Bytes bs = AllByRecursion (λ b. b < 256) bs

pub number_back : (k x : ℕ) → x < 256 ^ k → number_of (bytes_of k x) ≡ x
number_back zero x h = omega arith
number_back (suc k) x h =
    let p = pow-suc 256 k in
    let more = number_back k (x / 256) (omega arith) in
    omega arith

bytes_back : (bs : List ℕ) → Bytes bs → bytes_of (length bs) (number_of bs) ≡ bs
bytes_back [] a = refl
bytes_back (b ∷ bs) a =
    let p : (b + 256 * number_of bs) % 256 ≡ b = omega (arith, a.0) in
    let q : (b + 256 * number_of bs) / 256 ≡ number_of bs = omega (arith, a.0) in
    ap₂ (λ x y. x ∷ y) p (ap (bytes_of (length bs)) q ∙ bytes_back bs a.1)

number_below : (bs : List ℕ) → Bytes bs → number_of bs < 256 ^ length bs
number_below [] a = omega arith
number_below (b ∷ bs) a =
    let p = pow-suc 256 (length bs) in
    let more = number_below bs a.1 in
    omega (arith, a.0)

-- ---- the first k of some bytes
module _ (k : ℕ) (bs : List ℕ) (a : Bytes bs) (h : k ≤ length bs) where
  pub bytes_front : bytes_of k (number_of (take k bs)) ≡ take k bs
  bytes_front =
      ap (λ n. bytes_of n (number_of (take k bs))) (sym (length-take-le k bs h)) ∙ bytes_back (take k bs) (All-take (λ b. b < 256) k bs a)

  pub number_front : number_of (take k bs) < 256 ^ k
  number_front = subst (λ n. number_of (take k bs) < 256 ^ n) (length-take-le k bs h) (number_below (take k bs) (All-take (λ b. b < 256) k bs a))
