-- What the order of finds says of their distances.
use Rattle.std.proofs.Common.{◌≡◌, ◌<◌, ◌≤◌, false, arith}
use Rattle.std.proofs.lemmas.Bool.Decides.{nat_tests}
use Rattle.ranked.specs.declared.find.Find.{Find}
use Rattle.ranked.specs.Find.{ahead}
use Rattle.ranked.specs.Rank.{Order, Tie}

pub ahead_order : Order ahead
ahead_order = record { one_way = λ x y h. grind (arith, nat_tests); chain = λ x y z h k. grind (arith, nat_tests) }

pub ahead_tie : Tie ahead
ahead_tie x y h k = grind (arith, nat_tests)

-- one that does not stand before another is no nearer
pub not_nearer : (x y : Find) → ahead y x ≡ false → x.distance ≤ y.distance
not_nearer x y h = grind (arith, nat_tests)

-- a farther one does not stand before
pub farther : (x y : Find) → x.distance < y.distance → ahead y x ≡ false
farther x y h = grind (arith, nat_tests)
