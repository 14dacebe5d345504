use Rattle.std.proofs.Common.{◌≡◌, suc, ◌<◌, ◌++◌, length, take, drop, ap, ◌∙◌, arith, rules}
use Rattle.std.proofs.lemmas.List.{length-take-le}
use Rattle.tree.proofs.Lists.{rotated_out}
use Rattle.tree.proofs.entries.Entries.remove.Goals as goal

pub returns : goal.returns
returns c =
    let all = c.self.inside.items in let n = c.self.inside.len in
    let nine : length c.self.inside.items ≡ 9 = search rules in
    let within : c.args.p < c.self.inside.len = omega (arith, c.requires, ap length c.self.view_is, length-take-le n all (omega (arith, c.self.invariant))) in
    rotated_out all _ n c.args.p within (omega (arith, c.self.invariant)) c.rotate_left.ensures.after
    ∙ ap (λ xs. take c.args.p xs ++ drop (suc c.args.p) xs) c.self.view_is
