use Rattle.std.proofs.Common.{ℕ, suc, ◌+◌, ◌<◌, ◌≤◌, List, length, get_or, drop, sym, ap, ◌∙◌, subst, arith}
use Rattle.std.proofs.lemmas.List.{take_rest, length-drop}
use Rattle.tree.specs.Nodes.{spot, times, held, EnteredRoot}
use Rattle.tree.proofs.Stacks.{ask_apart, ask_spares, placed}
use Rattle.tree.proofs.nodes.Nodes.enter_clip.Goals as goal

pub enter_root-used-requires : goal.enter_root-used-requires
enter_root-used-requires c =
    let N = c.args.self.now.places.items in
    let F = c.args.free.now.places.items in
    let t = c.args.free.now.used in
    let e = take_rest c.deref.result.now c.args.free.now.used ∙ ap (drop c.args.free.now.used) c.deref.ensures.value in
    let P : List ℕ → Type 0 = λ s. (suc c.args.root.height < length s) × ((k : ℕ) → k < length s → get_or s k 0 < length c.args.self.now.places.items)
    × ((k : ℕ) → times c.args.self.now.places.items (suc c.args.root.height) (spot c.args.root.place) k + held s (suc (suc c.args.root.height)) k ≤ 1) in
    let r = subst P (sym e)
    (omega (arith, length-drop t F, c.requires.room), ask_spares N F t c.args.root.height c.args.root.place c.requires.spread, ask_apart N F t c.args.root.height c.args.root.place c.requires.spread) in
    record { clip = c.requires.clip; sound = c.requires.sound; room = r.0; spares = r.1; apart = r.2 }

pub returns-clause-entered : goal.returns-clause-entered
returns-clause-entered c =
    placed c.args.self.now.places.items c.args.free.now.places.items c.args.free.now.used c.args.root.height c.args.root.place c.requires.spread c.args.self.now.dims c.args.clip c.enter_root-used.new.self.places.items c.enter_root-used.result.0.height c.enter_root-used.result.0.place c.enter_root-used.result.1 c.requires.room
    (subst (λ s. EnteredRoot c.args.self.now.dims c.args.self.now.places.items c.enter_root-used.new.self.places.items s c.args.root.height c.args.root.place c.args.clip c.enter_root-used.result.0.height c.enter_root-used.result.0.place c.enter_root-used.result.1) (take_rest c.deref.result.now c.args.free.now.used ∙ ap (drop c.args.free.now.used) c.deref.ensures.value) c.enter_root-used.ensures.entered)
