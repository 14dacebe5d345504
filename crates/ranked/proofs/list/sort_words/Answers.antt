use Rattle.std.proofs.Common.{ltb, arith}
use Rattle.std.proofs.lemmas.List.Sorted.{IsNonDecreasingBy-from_sort}
use Rattle.std.proofs.lemmas.Bool.Decides.{nat_tests}
use Rattle.ranked.specs.Rank.{Order}
use Rattle.ranked.proofs.Sorted.{sorted_is}
use Rattle.ranked.proofs.list.sort_words.Goals as goal

numbers : Order ltb
numbers = record { one_way = λ x y h. grind (arith, nat_tests); chain = λ x y z h k. grind (arith, nat_tests) }

pub returns : goal.returns
returns c =
    sorted_is numbers c.args.list.now c.sort_unstable.new.self c.sort_unstable.ensures.permutation
    (IsNonDecreasingBy-from_sort (λ x. x) c.sort_unstable.new.self c.sort_unstable.ensures.sorted)
