use Rattle.std.proofs.Common.{◌≡◌, ◌+◌, min, length, take, drop}
use Rattle.ranked.specs.Rank.{keep_first}
use Rattle.ranked.proofs.list.insert_all.Given as goal

abbrev pub invariant-loop-item : goal.invariant-loop-item
invariant-loop-item g l =
    let b = g.T.Ranked.before in
    let cap = length l.initial.list in
    (l.held ≡ min (l.len + l.item-index) cap)
    × (keep_first b cap (take l.held l.list) (drop l.item-index l.items) ≡ keep_first b cap (take l.len l.initial.list) l.items)
    × (drop l.held l.list ≡ drop l.held l.initial.list)
