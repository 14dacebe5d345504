use Rattle.std.proofs.Common.{◌≡◌, length, get_or, Ok, refl, ap, ◌∙◌, arith}
use Rattle.std.proofs.lemmas.Iterator.{items_from_collect, YieldsList-from_range}
use Rattle.std.proofs.lemmas.List.FromFn.{length-range_with_len, get_or-range_with_len}
use Rattle.std.specs.List.{range_with_len}
use Rattle.std.specs.declared.alloc.AllocError.{AllocError}
use Rattle.tree.proofs.table.Table.new.Goals as goal

pub invariant_of-result : goal.invariant_of-result
invariant_of-result c =
    let nodes = c.in_ok-nodes.nodes in let free = c.in_ok-free.free in
    let made : c.in_ok-free.free.items ≡ range_with_len 0 c.len.result =
    items_from_collect {E = AllocError} (Ok c.in_ok-free.free) c.in_ok-free.ensures.ran (YieldsList-from_range 0 c.len.result c.len.result refl (omega arith)) in
    let long : c.in_ok-free.free.len ≡ c.in_ok-nodes.nodes.len = omega (arith, free.ok.0, ap length made, length-range_with_len 0 c.len.result, c.len.ensures) in
    record {
      room = omega (arith, c.in_ok-nodes.ensures.len, c.saturating_add.ensures);
      long = long;
      each = λ k l. ap (λ xs. get_or xs k 0) made ∙ get_or-range_with_len 0 c.len.result k 0 (omega (arith, c.len.ensures)) ∙ omega arith;
    }
