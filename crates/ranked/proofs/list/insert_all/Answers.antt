use Rattle.std.proofs.Common.{length, take, drop, refl, ap, ◌∙◌, arith}
use Rattle.ranked.specs.Rank.{keep_first}
use Rattle.ranked.proofs.Steps.{take_held, insert_more, insert_done, drop_later, first_from, stays_from}
use Rattle.ranked.proofs.list.insert_all.Goals as goal

pub loop-item-init : goal.loop-item-init
loop-item-init g c =
    let l = c.args.list.now in (
      omega arith,
      ap (λ kept. keep_first g.T.Ranked.before (length l) kept c.args.items.now) (take_held c.args.len c.min-held.result l c.min-held.ensures),
      refl {a = drop c.min-held.result l},
    )

pub loop-item-preserved : goal.loop-item-preserved
loop-item-preserved g c =
    let l = c.args.list.now in
    let n = c.insert-held.ensures.count in
    let k = c.loop-item.auto.list in
    let i = c.loop-item.invariant.0 in (
      omega arith,
      insert_more g.T.Ranked.before (length l) (length c.loop-item.list) (take c.loop-item.held c.loop-item.list) _
          c.args.items.now c.loop-item.item-index c.item-item.result k (omega arith) c.item-item.is c.insert-held.ensures.front
          ∙ c.loop-item.invariant.1,
      c.insert-held.ensures.back ∙ drop_later c.loop-item.held c.insert-held.result c.loop-item.list l (omega arith) c.loop-item.invariant.2,
    )

pub returns : goal.returns
returns g c =
    let before = g.T.Ranked.before in
    let l = c.args.list.now in
    let items = c.args.items.now in
    let held = take c.loop-item.held c.loop-item.list in
    let front =
    insert_done before (length l) held items (keep_first before (length l) (take c.args.len l) items) c.loop-item.item-index
    (omega arith) c.loop-item.invariant.1 in
    let law = g.met.T.Ranked in
    record {
      count = (let n = c.loop-item.invariant.0 in omega arith);
      front = front;
      back = c.loop-item.invariant.2;
      first = first_from before law.order law.tie l held items c.args.len front;
      stays = stays_from before law.order law.tie l held items c.args.len front;
    }
