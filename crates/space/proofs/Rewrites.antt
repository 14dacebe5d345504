-- Lists written anew by what stood there and by another list.
use Rattle.std.proofs.Common.{◌≡◌, ℕ, suc, List, [], ◌∷◌, sym, refl, ◌∙◌, ap₂, arith}
use lib.Bits.{bit_or}
use Rattle.space.specs.Boxes.{join, only}
use Rattle.space.specs.Rewritten.{Rewritten}
use Rattle.space.proofs.Sets.{pointed, fill_nil}

module _ {Y : Type 0} (R : ℕ → Y → ℕ → Type 0) where
  -- what is left of the lists behind their first elements
  pub behind : (x y : ℕ) (z : Y) (old new : List ℕ) (other : List Y) → Rewritten R (x ∷ old) (z ∷ other) (y ∷ new) → Rewritten R old other new
  behind x y z old new other w = record {
    long = omega (arith, w.long);
    written = λ k d h l. w.written (suc k) d (omega arith) (omega arith);
    kept = λ k h. w.kept (suc k) (omega arith);
  }

  -- nothing is written where the other list is at its end
  pub stays : (old new : List ℕ) → Rewritten R old [] new → new ≡ old
  stays [] [] w = refl
  stays [] (y ∷ new) w = absurd (omega (arith, w.long))
  stays (x ∷ old) [] w = absurd (omega (arith, w.long))
  stays (x ∷ old) (y ∷ new) w =
      ap₂ (λ a s. a ∷ s) (w.kept 0 (omega arith)) (stays old new (record { long = omega (arith, w.long); written = λ k d h l. absurd (omega arith); kept = λ k h. w.kept (suc k) (omega arith) }))

pub joins : (R : ℕ → ℕ → ℕ → Type 0) → ((x y z : ℕ) → R x y z → z ≡ bit_or x y) → (old other new : List ℕ) → Rewritten R old other new → new ≡ join old other
joins R is [] other [] w = refl
joins R is [] other (y ∷ new) w = absurd (omega (arith, w.long))
joins R is (x ∷ old) other [] w = absurd (omega (arith, w.long))
joins R is (x ∷ old) [] (y ∷ new) w = stays R (x ∷ old) (y ∷ new) w
joins R is (x ∷ old) (z ∷ other) (y ∷ new) w =
    ap₂ (λ a s. a ∷ s) (is x z y (w.written 0 0 (omega arith) (omega arith))) (joins R is old other new (behind R x y z old new other w))

pub points : (R : ℕ → ℕ → ℕ → Type 0) → ((x l z : ℕ) → R x l z → z ≡ only l) → (old v new : List ℕ) → Rewritten R old v new → new ≡ pointed old v
points R is old [] new w = stays R old new w ∙ sym (fill_nil old)
points R is [] (l ∷ v) [] w = refl
points R is [] (l ∷ v) (y ∷ new) w = absurd (omega (arith, w.long))
points R is (x ∷ old) (l ∷ v) [] w = absurd (omega (arith, w.long))
points R is (x ∷ old) (l ∷ v) (y ∷ new) w =
    ap₂ (λ a s. a ∷ s) (is x l y (w.written 0 0 (omega arith) (omega arith))) (points R is old v new (behind R x y l old new v w))
