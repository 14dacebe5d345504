use Rattle.std.proofs.Common.{◌-◌, length, arith}
use Rattle.rules.specs.Tree.{rows_in}
use Rattle.rules.proofs.Times.{listed_some}
use Rattle.tree.specs.Seen.{plan_of, tree_in}
use Rattle.tree.proofs.Changes.{whole_empty}
use Rattle.tree.proofs.Wholes.{whole_of, ask_withdraw, ask_rows, left_whole, same_whole}
use Rattle.tree.proofs.index.Index.withdraw_one.Goals as goal

pub withdraw-self-requires : goal.withdraw-self-requires
withdraw-self-requires c =
    let x = c.args.self.now in
    let r = ask_rows x c.args.number (length c.args.worklist.now) c.requires.listed c.requires.words in
    record { stands = ask_withdraw x; once = r.0; listed = r.1; words = r.2 }

pub overflow_sub-self : goal.overflow_sub-self
overflow_sub-self c = let x = c.args.self.now in omega (arith, (whole_of x).count, listed_some c.args.number (rows_in (tree_in x)) c.requires.listed)

pub invariant_of-self : goal.invariant_of-self
invariant_of-self c =
    let x = c.args.self.now in let M = c.withdraw-self.new.self in let G = c.withdraw-self.new.free in let r = c.withdraw-self.result in
    let dims = c.withdraw-self.ensures.dims in let withdrew = c.withdraw-self.ensures.withdrew in
    let w = left_whole x M.places.items G.places.items c.args.number G.used r.height r.place withdrew c.requires.listed in
    let v = whole_empty (plan_of x) x.capacity _ x.highest M.places.items G.places.items G.used r.height r.place c.if-self-eq0.true w in
    record { long = x.long; some = omega (arith, x.some, dims); whole = ∣ same_whole x M dims G (x.clips - 1) 0 r v ∣₁ }

pub invariant_of-self-else-self-eq0 : goal.invariant_of-self-else-self-eq0
invariant_of-self-else-self-eq0 c =
    let x = c.args.self.now in let M = c.withdraw-self.new.self in let G = c.withdraw-self.new.free in let r = c.withdraw-self.result in
    let dims = c.withdraw-self.ensures.dims in let withdrew = c.withdraw-self.ensures.withdrew in
    let w = left_whole x M.places.items G.places.items c.args.number G.used r.height r.place withdrew c.requires.listed in
    record { long = x.long; some = omega (arith, x.some, dims); whole = ∣ same_whole x M dims G (x.clips - 1) x.highest r w ∣₁ }
