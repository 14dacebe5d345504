use Rattle.std.proofs.Common.{◌≡◌, ℕ, suc, ◌+◌, [], ◌∷◌, get_or, sym, subst, subst₂, add-one, arith}
use Rattle.tree.specs.Nodes.{Written, EnteredRoot, spot}
use Rattle.tree.proofs.Siblings.{held_more}
use Rattle.tree.proofs.EntersRoot.{rose_two}
use Rattle.tree.proofs.nodes.Nodes.enter_root.Goals as goal

pub enter_below-used-requires-clause-apart : goal.enter_below-used-requires-clause-apart
enter_below-used-requires-clause-apart c = λ k. omega (arith, c.requires.apart k, held_more c.args.spare.now (suc c.args.root.height) k c.requires.room)

pub returns-clause-entered : goal.returns-clause-entered
returns-clause-entered c =
    let all : c.enter_below-used.result ≡ suc c.args.root.height = omega (arith, c.enter_below-used.ensures.entered.used, c.if-used-root.false) in
    let m = add-one c.args.root.height in
    let two : c.args.root.height + 2 ≡ suc (suc c.args.root.height) = omega arith in
    let P : ℕ → Type 0 = λ n. Written c.args.self.now.dims c.enter_below-used.new.self.places.items c.write.new.self.places.items n (get_or c.args.spare.now n 0) (spot c.args.root.place ∷ spot (get_or c.args.spare.now c.args.root.height 0) ∷ []) in
    let q = rose_two c.args.self.now.dims c.args.self.now.places.items c.enter_below-used.new.self.places.items c.args.spare.now c.args.root.height c.args.root.place c.args.clip c.enter_below-used.result c.enter_below-used.ensures.entered all c.requires.room (c.requires.spares (suc c.args.root.height) c.requires.room) c.requires.apart c.write.new.self.places.items (subst P m (subst (λ d. Written d c.enter_below-used.new.self.places.items c.write.new.self.places.items (c.args.root.height + 1) (get_or c.args.spare.now (c.args.root.height + 1) 0) (spot c.args.root.place ∷ spot (get_or c.args.spare.now c.args.root.height 0) ∷ [])) c.enter_below-used.ensures.dims c.write.ensures.written)) in
    let Q : ℕ → ℕ → Type 0 = λ n v. EnteredRoot c.args.self.now.dims c.args.self.now.places.items c.write.new.self.places.items c.args.spare.now c.args.root.height c.args.root.place c.args.clip n (get_or c.args.spare.now n 0) v in
    subst₂ Q (sym m) (sym two) q
