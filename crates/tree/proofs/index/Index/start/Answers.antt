use Rattle.std.proofs.Common.{◌≡◌, ◌-◌, [], length, take, sym, ap, ◌∙◌, subst, arith, rules}
use Rattle.rules.specs.Refusals.{of_fit}
use Rattle.rules.specs.State.{standing}
use Rattle.rules.specs.Tree.{empty}
use Rattle.tree.specs.Nodes.{tree_of}
use Rattle.tree.specs.Standing.{reserve, Whole}
use Rattle.tree.proofs.Starts.{fit_open, started}
use Rattle.tree.proofs.Writes.{put_length}
use Rattle.tree.proofs.index.Index.start.Goals as goal

pub invariant_of-result-2 : goal.invariant_of-result-2
invariant_of-result-2 c =
    let s = started c.args.plan.now c.args.capacity c.boxes.result c.args.table c.write.new.self.places.items c.padded.result c.in_ok-fit.ensures c.boxes.ensures c.write.ensures.written c.padded.ensures in
    let fit = fit_open c.args.plan.now c.args.capacity c.boxes.result (sym c.in_ok-fit.ensures) in
    let long : length c.padded.result ≡ 10 = search rules in
    let whole = subst (λ d. Whole (take d c.padded.result) c.args.capacity 0 0 c.write.new.self.places.items c.args.table.free.items 1 0 0) (sym c.write.ensures.dims) s.0 in
    record { long = long; some = omega (arith, fit.some, c.write.ensures.dims); whole = ∣ whole ∣₁ }

pub returns : goal.returns
returns c =
    let s = started c.args.plan.now c.args.capacity c.boxes.result c.args.table c.write.new.self.places.items c.padded.result c.in_ok-fit.ensures c.boxes.ensures c.write.ensures.written c.padded.ensures in
    let seen = subst (λ d. standing (take d c.padded.result) c.args.capacity (tree_of (length (take d c.padded.result)) c.write.new.self.places.items 0 0) ≡ standing c.args.plan.now c.args.capacity (empty (length c.args.plan.now)))
    (sym c.write.ensures.dims) s.1 in
    let boxes = ap (λ n. n - reserve) (c.write.new.self.places.ok.0 ∙ put_length (length c.args.plan.now) _ _ 0 0 [] c.write.ensures.written ∙ sym c.args.table.nodes.ok.0) in
    record { told = c.in_ok-fit.ensures ∙ ap (of_fit c.args.plan.now c.args.capacity) c.boxes.ensures; made = (seen, boxes) }
