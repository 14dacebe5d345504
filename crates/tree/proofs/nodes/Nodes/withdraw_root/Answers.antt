use Rattle.std.proofs.Common.{◌≤◌, ◌-◌, length, set, sym, ap, ◌∙◌, subst, subst₂, arith}
use Rattle.tree.specs.declared.node.Node.{Node}
use Rattle.tree.specs.Leaving.{WithdrawnRoot}
use Rattle.tree.proofs.ReadNodes.{read}
use Rattle.tree.proofs.EntersAt.{sound_parts}
use Rattle.tree.proofs.WithdrawsRoot.{root_in, sunk_leaf, sunk_wide, ask_lower, done_lower}
use Rattle.tree.proofs.nodes.Nodes.withdraw_root.Goals as goal
use Rattle.tree.proofs.nodes.Nodes.withdraw_root.Goals.{then-root-eq0-via-then-root-eq0, then-root-eq0-via-else-root-eq0+then-index-ne1}

pub returns-then-root-eq0-clause-withdrawn : goal.returns-then-root-eq0-clause-withdrawn
returns-then-root-eq0-clause-withdrawn c =
    let d = c.args.self.now.dims in let N = c.args.self.now.places.items in let i = c.args.root.place in let h = c.args.root.height in
    let W = c.args.worklist.now in let F = c.args.free.now in let M = c.withdraw_below.new.self.places.items in let V = c.withdraw_below.new.worklist in let G = c.withdraw_below.new.free in
    let taken = c.withdraw_below.ensures.withdrawn in
    let in-N = (sound_parts N h i c.requires.sound).0 in
    elim c.then-root-eq0.branch [
      | then-root-eq0-via-then-root-eq0 w ↦ sunk_leaf d N M h i c.args.number W.words.now V.words.now W.clips V.clips F.places.items G.places.items F.used G.used taken in-N w.if-root-eq0.true
      | then-root-eq0-via-else-root-eq0+then-index-ne1 w ↦
          let same = ap (λ (n : Node). n.len) (read M i w.index.result.now (root_in d N M h i c.args.number W.words.now V.words.now W.clips V.clips F.places.items G.places.items F.used G.used taken in-N) w.index.ensures) in
          sunk_wide d N M h i c.args.number W.words.now V.words.now W.clips V.clips F.places.items G.places.items F.used G.used taken in-N w.if-root-eq0.false (c.requires.two w.if-root-eq0.false) (λ e. w.if-index-ne1.true (same ∙ e))
    ]

pub put_back-requires : goal.put_back-requires
put_back-requires c =
    let d = c.args.self.now.dims in let N = c.args.self.now.places.items in let i = c.args.root.place in let h = c.args.root.height in
    let W = c.args.worklist.now in let F = c.args.free.now in let M = c.withdraw_below.new.self.places.items in let V = c.withdraw_below.new.worklist in let G = c.withdraw_below.new.free in
    let taken = c.withdraw_below.ensures.withdrawn in
    let in-M = root_in d N M h i c.args.number W.words.now V.words.now W.clips V.clips F.places.items G.places.items F.used G.used taken (sound_parts N h i c.requires.sound).0 in
    let one = sym (ap (λ (n : Node). n.len) (read M i c.index.result.now in-M c.index.ensures)) ∙ c.if-index-ne1.false in
    let stack : c.args.free.now.used ≤ length c.args.free.now.places.items = omega (arith, F.within, F.places.ok.0) in
    (ask_lower d N M h i c.args.number W.words.now V.words.now W.clips V.clips F.places.items G.places.items F.used G.used one stack c.if-root-eq0.false taken c.requires.room.1).0

pub returns-clause-withdrawn : goal.returns-clause-withdrawn
returns-clause-withdrawn c =
    let d = c.args.self.now.dims in let N = c.args.self.now.places.items in let i = c.args.root.place in let h = c.args.root.height in
    let W = c.args.worklist.now in let F = c.args.free.now in let M = c.withdraw_below.new.self.places.items in let V = c.withdraw_below.new.worklist in let G = c.withdraw_below.new.free in
    let taken = c.withdraw_below.ensures.withdrawn in
    let in-M = root_in d N M h i c.args.number W.words.now V.words.now W.clips V.clips F.places.items G.places.items F.used G.used taken (sound_parts N h i c.requires.sound).0 in
    let one = sym (ap (λ (n : Node). n.len) (read M i c.index.result.now in-M c.index.ensures)) ∙ c.if-index-ne1.false in
    let stack : c.args.free.now.used ≤ length c.args.free.now.places.items = omega (arith, F.within, F.places.ok.0) in
    let H = c.put_back.new.self in
    let low = done_lower d N M h i c.args.number W.words.now V.words.now W.clips V.clips F.places.items G.places.items F.used G.used one stack c.if-root-eq0.false taken c.requires.room.1 in
    let there = subst (λ j. WithdrawnRoot d N M h i c.args.number W.words.now V.words.now W.clips V.clips F.places.items (set G.places.items (G.used - 1) i) F.used (G.used - 1) (h - 1) j) (sym c.child_of.ensures) low in
    subst₂ (λ A u. WithdrawnRoot d N M h i c.args.number W.words.now V.words.now W.clips V.clips F.places.items A F.used u (h - 1) c.child_of.result) (sym c.put_back.ensures.places) (sym c.put_back.ensures.used) there
