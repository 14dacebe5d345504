use Rattle.std.proofs.Common.{◌≡◌, ℕ, suc, ◌+◌, ◌-◌, ◌*◌, ◌<◌, ◌≤◌, true, length, sym, ap, subst, arith}
use Rattle.tree.specs.declared.node.Node.{Node}
use Rattle.tree.specs.Nodes.{node, inside, spot, Sound, Written, times}
use Rattle.tree.specs.Leaving.{listed_in, clips_in, count_in, Within, SetAside, WithdrawnBelow}
use Rattle.tree.proofs.ReadNodes.{read}
use Rattle.tree.proofs.EntersAt.{sound_parts}
use Rattle.tree.proofs.WithdrawsUp.{but}
use Rattle.tree.proofs.WithdrawsAt.{known, ask_down, ask_len, ask_keep, done_keep, ask_spill, ask_out, done_out, ask_strip, done_strip}
use Rattle.tree.proofs.nodes.Nodes.+withdraw_below.Goals as goal

pub remove_clip-requires : goal.remove_clip-requires
remove_clip-requires t c =
    let p = ask_strip c.args.self.now.places.items c.args.at.height c.args.at.place c.if-at-eq0.true c.requires.sound in
    (p.0, p.2)

pub returns-then-at-eq0-clause-withdrawn : goal.returns-then-at-eq0-clause-withdrawn
returns-then-at-eq0-clause-withdrawn t c =
    let W = c.args.worklist.now in let F = c.args.free.now in
    done_strip c.args.self.now.dims c.args.self.now.places.items c.remove_clip.new.self.places.items c.args.at.height c.args.at.place c.args.number W.words.now W.clips F.places.items F.used
    c.if-at-eq0.true c.requires.sound c.remove_clip.ensures.written

pub holder_of-p-requires : goal.holder_of-p-requires
holder_of-p-requires t c =
    let p = sound_parts c.args.self.now.places.items c.args.at.height c.args.at.place c.requires.sound in
    (p.0, p.3)

pub child_of-requires : goal.child_of-requires
child_of-requires t c =
    let d = c.args.self.now.dims in let N = c.args.self.now.places.items in let i = c.args.at.place in let h = c.args.at.height in let p = c.holder_of-p.result in
    let w = known d N i c.args.number p h c.if-at-eq0.false c.requires.apart c.requires.sound c.holder_of-p.ensures c.requires.listed in
    record { within = (sound_parts N h i c.requires.sound).0; place = w.within }

pub withdraw_below-requires : goal.withdraw_below-requires
withdraw_below-requires t c =
    let d = c.args.self.now.dims in let N = c.args.self.now.places.items in let i = c.args.at.place in let h = c.args.at.height in let p = c.holder_of-p.result in
    let w = known d N i c.args.number p h c.if-at-eq0.false c.requires.apart c.requires.sound c.holder_of-p.ensures c.requires.listed in
    let P : ℕ → Type 0 = λ x. Sound c.args.self.now.places.items (suc (c.args.at.height - 1)) (spot x)
    × (listed_in c.args.self.now.dims c.args.self.now.places.items (suc (c.args.at.height - 1)) c.args.number (spot x) ≡ true)
    × ((k : ℕ) → times c.args.self.now.places.items (suc (c.args.at.height - 1)) (spot x) k ≤ 1)
    × (length (clips_in c.args.self.now.places.items (suc (c.args.at.height - 1)) (spot x)) ≤ length (clips_in c.args.self.now.places.items (suc c.args.at.height) (spot c.args.at.place)))
    × (count_in c.args.self.now.places.items (suc (c.args.at.height - 1)) (spot x) ≤ count_in c.args.self.now.places.items (suc c.args.at.height) (spot c.args.at.place)) in
    let r = subst P (sym c.child_of.ensures) (ask_down d N i c.args.number p h w) in
    (omega (arith, c.decreases), (r.0, (r.1, (r.2, (omega (arith, r.3, c.requires.room.0), omega (arith, r.4, c.requires.room.1))))))

pub index-requires : goal.index-requires
index-requires t c =
    let d = c.args.self.now.dims in let N = c.args.self.now.places.items in let i = c.args.at.place in let h = c.args.at.height in let p = c.holder_of-p.result in
    let w = known d N i c.args.number p h c.if-at-eq0.false c.requires.apart c.requires.sound c.holder_of-p.ensures c.requires.listed in
    let W = c.args.worklist.now in let F = c.args.free.now in let M = c.withdraw_below.new.self.places.items in let V = c.withdraw_below.new.worklist in let G = c.withdraw_below.new.free in
    let taken = subst (λ x. WithdrawnBelow d N M (h - 1) x c.args.number W.words.now V.words.now W.clips V.clips F.places.items G.places.items F.used G.used) c.child_of.ensures c.withdraw_below.ensures.withdrawn in
    let l = subst (λ x. x < length M) (sym c.child_of.ensures) (ask_len d N i c.args.number p M W.words.now V.words.now W.clips V.clips F.places.items G.places.items F.used G.used h w taken) in
    omega (arith, l, c.withdraw_below.new.self.places.ok.0)

pub rebox-requires : goal.rebox-requires
rebox-requires t c =
    let d = c.args.self.now.dims in let N = c.args.self.now.places.items in let i = c.args.at.place in let h = c.args.at.height in let p = c.holder_of-p.result in
    let w = known d N i c.args.number p h c.if-at-eq0.false c.requires.apart c.requires.sound c.holder_of-p.ensures c.requires.listed in
    let W = c.args.worklist.now in let F = c.args.free.now in let M = c.withdraw_below.new.self.places.items in let V = c.withdraw_below.new.worklist in let G = c.withdraw_below.new.free in
    let taken = subst (λ x. WithdrawnBelow d N M (h - 1) x c.args.number W.words.now V.words.now W.clips V.clips F.places.items G.places.items F.used G.used) c.child_of.ensures c.withdraw_below.ensures.withdrawn in
    let l = subst (λ x. x < length M) (sym c.child_of.ensures) (ask_len d N i c.args.number p M W.words.now V.words.now W.clips V.clips F.places.items G.places.items F.used G.used h w taken) in
    let same = read M c.child_of.result c.index.result.now l c.index.ensures in
    let three = subst (λ x. 3 ≤ (node M x).len) c.child_of.ensures (subst (λ n. 3 ≤ n) (ap (λ (n : Node). n.len) same) c.if-index-ge3.true) in
    let q = ask_keep d N i c.args.number p M W.words.now V.words.now W.clips V.clips F.places.items G.places.items F.used G.used h w taken three in
    (q.0, q.2)

pub returns-then-index-ge3-clause-withdrawn : goal.returns-then-index-ge3-clause-withdrawn
returns-then-index-ge3-clause-withdrawn t c =
    let d = c.args.self.now.dims in let N = c.args.self.now.places.items in let i = c.args.at.place in let h = c.args.at.height in let p = c.holder_of-p.result in
    let w = known d N i c.args.number p h c.if-at-eq0.false c.requires.apart c.requires.sound c.holder_of-p.ensures c.requires.listed in
    let W = c.args.worklist.now in let F = c.args.free.now in let M = c.withdraw_below.new.self.places.items in let V = c.withdraw_below.new.worklist in let G = c.withdraw_below.new.free in
    let taken = subst (λ x. WithdrawnBelow d N M (h - 1) x c.args.number W.words.now V.words.now W.clips V.clips F.places.items G.places.items F.used G.used) c.child_of.ensures c.withdraw_below.ensures.withdrawn in
    let l = subst (λ x. x < length M) (sym c.child_of.ensures) (ask_len d N i c.args.number p M W.words.now V.words.now W.clips V.clips F.places.items G.places.items F.used G.used h w taken) in
    let same = read M c.child_of.result c.index.result.now l c.index.ensures in
    let three = subst (λ x. 3 ≤ (node M x).len) c.child_of.ensures (subst (λ n. 3 ≤ n) (ap (λ (n : Node). n.len) same) c.if-index-ge3.true) in
    let made = subst (λ d. Written d M c.rebox.new.self.places.items h i (inside (node M i))) c.withdraw_below.ensures.dims c.rebox.ensures.written in
    done_keep d N i c.args.number p M W.words.now V.words.now W.clips V.clips F.places.items G.places.items F.used G.used h w taken three c.rebox.new.self.places.items made

pub set_aside-requires : goal.set_aside-requires
set_aside-requires t c =
    let d = c.args.self.now.dims in let N = c.args.self.now.places.items in let i = c.args.at.place in let h = c.args.at.height in let p = c.holder_of-p.result in
    let w = known d N i c.args.number p h c.if-at-eq0.false c.requires.apart c.requires.sound c.holder_of-p.ensures c.requires.listed in
    let W = c.args.worklist.now in let F = c.args.free.now in let M = c.withdraw_below.new.self.places.items in let V = c.withdraw_below.new.worklist in let G = c.withdraw_below.new.free in
    let taken = subst (λ x. WithdrawnBelow d N M (h - 1) x c.args.number W.words.now V.words.now W.clips V.clips F.places.items G.places.items F.used G.used) c.child_of.ensures c.withdraw_below.ensures.withdrawn in
    let stack : c.args.free.now.used ≤ length c.args.free.now.places.items = omega (arith, F.within, F.places.ok.0) in
    let q = ask_spill d N i c.args.number p M W.words.now V.words.now W.clips V.clips F.places.items G.places.items F.used G.used h w taken c.requires.room.0 c.requires.room.1 stack in
    let P : ℕ → Type 0 = λ x. Within c.withdraw_below.new.self.places.items c.args.at.height (spot x)
    × (2 * (c.withdraw_below.new.worklist.clips + length (clips_in c.withdraw_below.new.self.places.items c.args.at.height (spot x))) ≤ length c.withdraw_below.new.worklist.words.now)
    × (count_in c.withdraw_below.new.self.places.items c.args.at.height (spot x) ≤ c.withdraw_below.new.free.used) × (c.withdraw_below.new.free.used ≤ length c.withdraw_below.new.free.places.items) in
    let r = subst P (sym c.child_of.ensures) q in
    record { within = r.0; room = (r.1, r.2) }

pub remove_entry-requires : goal.remove_entry-requires
remove_entry-requires t c =
    let d = c.args.self.now.dims in let N = c.args.self.now.places.items in let i = c.args.at.place in let h = c.args.at.height in let p = c.holder_of-p.result in
    let w = known d N i c.args.number p h c.if-at-eq0.false c.requires.apart c.requires.sound c.holder_of-p.ensures c.requires.listed in
    let W = c.args.worklist.now in let F = c.args.free.now in let M = c.withdraw_below.new.self.places.items in let V = c.withdraw_below.new.worklist in let G = c.withdraw_below.new.free in
    let taken = subst (λ x. WithdrawnBelow d N M (h - 1) x c.args.number W.words.now V.words.now W.clips V.clips F.places.items G.places.items F.used G.used) c.child_of.ensures c.withdraw_below.ensures.withdrawn in
    let q = ask_out d N i c.args.number p M W.words.now V.words.now W.clips V.clips F.places.items G.places.items F.used G.used h w taken in
    record { place = q.2; sound = q.3; within = q.0 }

pub returns-clause-withdrawn : goal.returns-clause-withdrawn
returns-clause-withdrawn t c =
    let d = c.args.self.now.dims in let N = c.args.self.now.places.items in let i = c.args.at.place in let h = c.args.at.height in let p = c.holder_of-p.result in
    let w = known d N i c.args.number p h c.if-at-eq0.false c.requires.apart c.requires.sound c.holder_of-p.ensures c.requires.listed in
    let W = c.args.worklist.now in let F = c.args.free.now in let M = c.withdraw_below.new.self.places.items in let V = c.withdraw_below.new.worklist in let G = c.withdraw_below.new.free in
    let taken = subst (λ x. WithdrawnBelow d N M (h - 1) x c.args.number W.words.now V.words.now W.clips V.clips F.places.items G.places.items F.used G.used) c.child_of.ensures c.withdraw_below.ensures.withdrawn in
    let l = subst (λ x. x < length M) (sym c.child_of.ensures) (ask_len d N i c.args.number p M W.words.now V.words.now W.clips V.clips F.places.items G.places.items F.used G.used h w taken) in
    let same = read M c.child_of.result c.index.result.now l c.index.ensures in
    let few = subst (λ x. (node M x).len < 3) c.child_of.ensures (subst (λ n. n < 3) (ap (λ (n : Node). n.len) same) c.if-index-ge3.false) in
    let X = c.set_aside.new.worklist in let H = c.set_aside.new.free in
    let spilled = subst (λ x. SetAside M h (spot x) V.words.now X.words.now V.clips X.clips G.places.items H.places.items G.used H.used) c.child_of.ensures c.set_aside.ensures in
    let made = subst (λ d. Written d M c.remove_entry.new.self.places.items h i (but p (inside (node M i)))) c.withdraw_below.ensures.dims c.remove_entry.ensures.written in
    done_out d N i c.args.number p M W.words.now V.words.now W.clips V.clips F.places.items G.places.items F.used G.used h w taken few c.remove_entry.new.self.places.items X.words.now X.clips H.places.items H.used spilled made
