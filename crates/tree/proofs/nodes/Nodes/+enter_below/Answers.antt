use Rattle.std.proofs.Common.{ℕ, suc, [], ◌∷◌, ◌++◌, ◌+◌, ◌-◌, ◌≤◌, get_or, true, false, sym, subst, add-one, arith}
use Rattle.tree.specs.Nodes.{Sound, Written, Fitted, EnteredBelow, spot, times, held, inside, node}
use Rattle.tree.proofs.EntersAt.{some_above, ask_leaf, done_leaf, sound_parts, ask_child, ask_keep, done_keep, ask_more, done_more}
use Rattle.tree.proofs.nodes.Nodes.+enter_below.Goals as goal

pub add-requires : goal.add-requires
add-requires t c =
    let N = c.args.self.now.places.items in let at = c.args.at in
    let p = sound_parts N at.height at.place c.requires.sound in
    let q = ask_leaf c.args.self.now.dims N c.args.spare.now at.place c.args.clip at.height c.if-height-eq0.true c.requires.room c.requires.clip c.requires.sound c.requires.apart in
    record { sound = q.0; within = p.0; room = c.requires.spares at.height c.requires.room; apart = q.1 }

pub returns-then-add-clause-entered : goal.returns-then-add-clause-entered
returns-then-add-clause-entered t c =
    done_leaf c.args.self.now.dims c.args.self.now.places.items c.args.spare.now c.args.at.place c.args.clip c.args.at.height c.if-height-eq0.true c.requires.room
    c.add.new.self.places.items true c.if-add.ensures.fitted

pub returns-then-height-eq0-clause-entered : goal.returns-then-height-eq0-clause-entered
returns-then-height-eq0-clause-entered t c =
    done_leaf c.args.self.now.dims c.args.self.now.places.items c.args.spare.now c.args.at.place c.args.clip c.args.at.height c.if-height-eq0.true c.requires.room
    c.add.new.self.places.items false c.if-add.ensures.fitted

pub choose_child-requires : goal.choose_child-requires
choose_child-requires t c =
    let N = c.args.self.now.places.items in let at = c.args.at in
    let p = sound_parts N at.height at.place c.requires.sound in
    record { clip = c.requires.clip; some = some_above N at.height at.place c.if-height-eq0.false c.requires.sound; sound = (p.0, p.3) }

pub enter_below-used-requires : goal.enter_below-used-requires
enter_below-used-requires t c =
    let N = c.args.self.now.places.items in let at = c.args.at in
    let q = ask_child c.args.self.now.dims N c.args.spare.now at.place c.args.clip at.height (c.if-height-eq0.false, c.requires.room, c.requires.apart, c.choose_child.ensures.place, c.requires.sound) in
    let P : ℕ → Type 0 = λ x. Sound c.args.self.now.places.items (suc (c.args.at.height - 1)) (spot x)
    × ((k : ℕ) → times c.args.self.now.places.items (suc (c.args.at.height - 1)) (spot x) k + held c.args.spare.now (suc (c.args.at.height - 1)) k ≤ 1) in
    let r = subst P (sym c.choose_child.ensures.child) q in
    (omega (arith, c.decreases), (c.requires.clip, (r.0, (omega (arith, c.requires.room), (c.requires.spares, r.1)))))

pub rebox-requires : goal.rebox-requires
rebox-requires t c =
    let d = c.args.self.now.dims in let N = c.args.self.now.places.items in let at = c.args.at in let in-child = c.enter_below-used in
    let below = subst (λ x. EnteredBelow c.args.self.now.dims c.args.self.now.places.items c.enter_below-used.new.self.places.items c.args.spare.now (c.args.at.height - 1) x c.args.clip c.enter_below-used.result) c.choose_child.ensures.child in-child.ensures.entered in
    let q = ask_keep d N c.args.spare.now at.place c.args.clip in-child.new.self.places.items in-child.result at.height
    (c.if-height-eq0.false, c.requires.room, c.requires.apart, c.choose_child.ensures.place, c.requires.sound) below c.if-used-height.true in
    (q.0, q.3)

pub returns-then-used-height-clause-entered : goal.returns-then-used-height-clause-entered
returns-then-used-height-clause-entered t c =
    let d = c.args.self.now.dims in let N = c.args.self.now.places.items in let at = c.args.at in let in-child = c.enter_below-used in
    let below = subst (λ x. EnteredBelow c.args.self.now.dims c.args.self.now.places.items c.enter_below-used.new.self.places.items c.args.spare.now (c.args.at.height - 1) x c.args.clip c.enter_below-used.result) c.choose_child.ensures.child in-child.ensures.entered in
    let made = subst (λ d. Written d c.enter_below-used.new.self.places.items c.rebox.new.self.places.items c.args.at.height c.args.at.place (inside (node c.enter_below-used.new.self.places.items c.args.at.place))) in-child.ensures.dims c.rebox.ensures.written in
    done_keep d N c.args.spare.now at.place c.args.clip in-child.new.self.places.items in-child.result at.height
    (c.if-height-eq0.false, c.requires.room, c.requires.apart, c.choose_child.ensures.place, c.requires.sound) below c.if-used-height.true c.rebox.new.self.places.items made

pub add-requires-2 : goal.add-requires-2
add-requires-2 t c =
    let d = c.args.self.now.dims in let N = c.args.self.now.places.items in let at = c.args.at in let in-child = c.enter_below-used in
    let below = subst (λ x. EnteredBelow c.args.self.now.dims c.args.self.now.places.items c.enter_below-used.new.self.places.items c.args.spare.now (c.args.at.height - 1) x c.args.clip c.enter_below-used.result) c.choose_child.ensures.child in-child.ensures.entered in
    let q = ask_more d N c.args.spare.now at.place c.args.clip in-child.new.self.places.items in-child.result at.height
    (c.if-height-eq0.false, c.requires.room, c.requires.apart, c.choose_child.ensures.place, c.requires.sound) below c.if-used-height.false in
    record { sound = q.2; within = q.0; room = omega (arith, c.requires.spares at.height c.requires.room, in-child.ensures.entered.long); apart = q.3 }

pub returns-then-add-2-clause-entered : goal.returns-then-add-2-clause-entered
returns-then-add-2-clause-entered t c =
    let d = c.args.self.now.dims in let N = c.args.self.now.places.items in let at = c.args.at in let in-child = c.enter_below-used in
    let below = subst (λ x. EnteredBelow c.args.self.now.dims c.args.self.now.places.items c.enter_below-used.new.self.places.items c.args.spare.now (c.args.at.height - 1) x c.args.clip c.enter_below-used.result) c.choose_child.ensures.child in-child.ensures.entered in
    let made = subst (λ d. Fitted d c.enter_below-used.new.self.places.items c.add-2.new.self.places.items c.args.at.height c.args.at.place (get_or c.args.spare.now c.args.at.height 0)
    (inside (node c.enter_below-used.new.self.places.items c.args.at.place) ++ spot (get_or c.args.spare.now (c.args.at.height - 1) 0) ∷ []) true) in-child.ensures.dims c.if-add-2.ensures.fitted in
    subst (EnteredBelow c.args.self.now.dims c.args.self.now.places.items c.add-2.new.self.places.items c.args.spare.now c.args.at.height c.args.at.place c.args.clip) (sym (add-one c.args.at.height))
    (done_more d N c.args.spare.now at.place c.args.clip in-child.new.self.places.items in-child.result at.height
    (c.if-height-eq0.false, c.requires.room, c.requires.apart, c.choose_child.ensures.place, c.requires.sound) below c.if-used-height.false c.add-2.new.self.places.items true made)

pub returns-clause-entered : goal.returns-clause-entered
returns-clause-entered t c =
    let d = c.args.self.now.dims in let N = c.args.self.now.places.items in let at = c.args.at in let in-child = c.enter_below-used in
    let below = subst (λ x. EnteredBelow c.args.self.now.dims c.args.self.now.places.items c.enter_below-used.new.self.places.items c.args.spare.now (c.args.at.height - 1) x c.args.clip c.enter_below-used.result) c.choose_child.ensures.child in-child.ensures.entered in
    let made = subst (λ d. Fitted d c.enter_below-used.new.self.places.items c.add-2.new.self.places.items c.args.at.height c.args.at.place (get_or c.args.spare.now c.args.at.height 0)
    (inside (node c.enter_below-used.new.self.places.items c.args.at.place) ++ spot (get_or c.args.spare.now (c.args.at.height - 1) 0) ∷ []) false) in-child.ensures.dims c.if-add-2.ensures.fitted in
    done_more d N c.args.spare.now at.place c.args.clip in-child.new.self.places.items in-child.result at.height
    (c.if-height-eq0.false, c.requires.room, c.requires.apart, c.choose_child.ensures.place, c.requires.sound) below c.if-used-height.false c.add-2.new.self.places.items false made
