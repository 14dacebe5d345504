use Rattle.std.proofs.Common.{◌≡◌, ◌+◌, min, [], ◌∷◌, length, take, arith}
use Rattle.std.specs.List.{insert}
use Rattle.ranked.proofs.Steps.{insert_fits, insert_front, first_from, stays_from}
use Rattle.ranked.proofs.list.insert.Goals as goal
use Rattle.ranked.proofs.list.insert.Goals.{then-held-list, else-held-list}

pub put-requires : goal.put-requires
put-requires g c =
    let end : c.if-held-list.end ≡ min (c.min-held.result + 1) (length c.args.list.now) =
    elim c.if-held-list.branch [ then-held-list w ↦ omega (arith, w.end-is) | else-held-list w ↦ omega (arith, w.end-is) ] in
    let fits =
    insert_fits g.T.Ranked.before c.args.list.now c.min-held.result c.rank-at.result c.if-held-list.end c.args.item
    (omega arith) c.rank-at.ensures end in
    (omega arith, omega arith)

pub returns : goal.returns
returns g c =
    let before = g.T.Ranked.before in
    let l = c.args.list.now in
    let s = c.put.new.list in
    let at = c.rank-at.result in
    let end = c.if-held-list.end in
    let held-is : c.min-held.result ≡ min c.args.len (length l) = omega arith in
    let end_is : end ≡ min (c.min-held.result + 1) (length l) =
    elim c.if-held-list.branch [ then-held-list w ↦ omega (arith, w.end-is) | else-held-list w ↦ omega (arith, w.end-is) ] in
    let put : take end s ≡ take end (insert l at c.args.item) = cc c.put.ensures.front in
    let front = insert_front before l s c.args.len c.min-held.result at end c.args.item held-is c.rank-at.ensures end_is put in
    let law = g.met.T.Ranked in
    record {
      count = omega arith;
      front = front;
      back = c.put.ensures.back;
      first = first_from before law.order law.tie l _ (c.args.item ∷ []) c.args.len front;
      stays = stays_from before law.order law.tie l _ (c.args.item ∷ []) c.args.len front;
    }
