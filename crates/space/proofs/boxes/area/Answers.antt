use Rattle.std.proofs.Common.{◌≡◌, ◌+◌, ◌*◌, ◌^◌, ◌<◌, ◌≤◌, length, get_or, drop, Some, sym, ap, ◌∙◌, arith}
use lib.Count.{ones-le}
use Rattle.space.specs.Boxes.{area, given}
use Rattle.space.proofs.Areas.{dimensions_most, power_more, power_fits, area_more, area_all}
use Rattle.space.proofs.boxes.area.Goals as goal

-- the product of one dimension more is within its bound
next_most : (c : goal.After-from-product) → c.loop-set.product * c.from-product.result ≤ 64 ^ (c.loop-set.set-index + 1)
next_most c =
    let fits : get_or c.args.sets.now c.loop-set.set-index 0 < 2 ^ 64 = omega (arith, c.type_inv.sets c.loop-set.set-index) in
    let k = ones-le 64 (get_or c.args.sets.now c.loop-set.set-index 0) fits in
    power_more c.loop-set.product c.from-product.result c.loop-set.set-index c.loop-set.invariant.1 (omega (arith, c.from-product.ensures))

pub overflow_mul-product : goal.overflow_mul-product
overflow_mul-product c =
    let d = dimensions_most (length c.args.sets.now) (sym c.if-not-is_dimensions.ensures) in
    let p = power_fits (c.loop-set.product * c.from-product.result) (c.loop-set.set-index + 1) (next_most c) (omega arith) in
    omega arith

pub loop-set-preserved : goal.loop-set-preserved
loop-set-preserved c =
    let b = c.args.sets.now in
    let i = c.loop-set.set-index in (
      ap (λ x. c.loop-set.product * x * area (drop (i + 1) b)) c.from-product.ensures
          ∙ sym (area_more c.loop-set.product i b (omega arith)) ∙ c.loop-set.invariant.0,
      next_most c,
    )
