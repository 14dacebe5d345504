-- The tests of whole lists, said as the code makes them.
use Rattle.std.proofs.Common.{◌≡◌, ℕ, ◌&&◌, ◌||◌, leb, List, [], ◌∷◌, refl, ap}
use Rattle.std.specs.List.{list_all, list_any, zip}
use Rattle.space.specs.Boxes.{has, small}
use Rattle.measures.specs.Layers.{barred}

pub small_all : (v : List ℕ) → list_all (λ l. leb l 63) v ≡ small v
small_all [] = refl
small_all (l ∷ v) = ap (λ t. leb l 63 && t) (small_all v)

pub barred_any : (bars v : List ℕ) → list_any (λ p. has p.1 p.0) (zip v bars) ≡ barred bars v
barred_any bars [] = refl
barred_any [] (l ∷ v) = refl
barred_any (m ∷ bars) (l ∷ v) = ap (λ t. has m l || t) (barred_any bars v)
