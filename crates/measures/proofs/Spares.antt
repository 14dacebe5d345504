-- What is left of a set without its barred letters.
use Rattle.std.proofs.Common.{◌≡◌, ℕ, ◌-◌, ◌^◌, ◌<◌, sym, ap, ◌∙◌, arith}
use Rattle.std.specs.Prelude.{bit_and}
use Rattle.std.specs.Int.Bits.{xor_add_and, and_self}
use Rattle.std.proofs.lemmas.Nat.{and-not, and_comm, and_assoc}
use Rattle.measures.specs.Layers.{without}

-- the letters of m that are not in x, as the code takes them
pub without_is : (m x : ℕ) → m < 2 ^ 64 → x < 2 ^ 64 → bit_and m (2 ^ 64 - 1 - x) ≡ without m x
without_is m x h k =
    let a = and-not 64 x m k h in
    let b = xor_add_and m (bit_and m x) in
    let i : bit_and m (bit_and m x) ≡ bit_and m x = sym (and_assoc x m m) ∙ ap (λ n. bit_and n x) (and_self m) in
    let c = and_comm m (2 ^ 64 - 1 - x) in
    let d = and_comm m x in
    omega arith
