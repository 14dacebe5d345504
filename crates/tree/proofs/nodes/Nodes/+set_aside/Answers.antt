use Rattle.std.proofs.Common.{◌-◌, ◌≤◌, ◌<◌, length, sym, subst, arith}
use Rattle.std.specs.List.{AllByRecursion}
use Rattle.std.proofs.ByRecursion.{All-get_or}
use Rattle.tree.specs.Nodes.{no_entry, Lettered}
use Rattle.tree.specs.Leaving.{Within, SetAside}
use Rattle.tree.proofs.ReadNodes.{read_entries}
use Rattle.tree.proofs.SetsAside.{Walk, within_leaf, within_up, clips_leaf_long, spilled_leaf, walk_start, walk_step, walk_end, walk_room, count_up}
use Rattle.tree.proofs.nodes.Nodes.+set_aside.Goals as goal

pub lay-requires : goal.lay-requires
lay-requires t c = record {
  letters = subst Lettered (sym c.clip.ensures) (within_leaf c.args.self.now.places.items c.args.height c.args.e c.if-height-eq0.true c.requires.within);
  room = omega (arith, c.requires.room.0, clips_leaf_long c.args.self.now.places.items c.args.height c.args.e c.if-height-eq0.true);
}

pub returns-then-height-eq0 : goal.returns-then-height-eq0
returns-then-height-eq0 t c =
    let W = c.args.worklist.now in let F = c.args.free.now in
    let made = spilled_leaf c.args.self.now.places.items c.args.height c.args.e W.words.now c.lay.new.self.words.now W.clips F.places.items F.used c.clip.result
    c.if-height-eq0.true c.clip.ensures c.lay.ensures.aside c.lay.ensures.words in
    subst (λ m. SetAside c.args.self.now.places.items c.args.height c.args.e c.args.worklist.now.words.now c.lay.new.self.words.now c.args.worklist.now.clips m
    c.args.free.now.places.items c.args.free.now.places.items c.args.free.now.used c.args.free.now.used) (sym c.lay.ensures.clips) made

pub put_back-requires : goal.put_back-requires
put_back-requires t c = omega (arith, c.requires.room.1, count_up c.args.self.now.places.items c.args.height c.args.e c.place-at.result c.place-at.ensures c.if-height-eq0.false)

pub index-requires : goal.index-requires
index-requires t c = omega (arith, (within_up c.args.self.now.places.items c.args.height c.args.e c.if-height-eq0.false c.requires.within c.place-at.result c.place-at.ensures).0)

pub loop-entry-init : goal.loop-entry-init
loop-entry-init t c =
    let N = c.args.self.now.places.items in let W = c.args.worklist.now in let q = c.place-at.result in let es = c.entries-entry-items.result.now in let G = c.put_back.new.self.places.items in
    let some : 0 < c.args.free.now.used = omega (arith, c.requires.room.1, count_up N c.args.height c.args.e q c.place-at.ensures c.if-height-eq0.false) in
    subst (λ u. Walk c.args.self.now.places.items (c.args.height - 1) c.place-at.result c.entries-entry-items.result.now c.args.worklist.now.words.now c.args.worklist.now.words.now
    c.args.worklist.now.clips c.args.worklist.now.clips c.put_back.new.self.places.items c.put_back.new.self.places.items c.args.free.now.used u 0) (sym c.put_back.ensures.used)
    (walk_start N (c.args.height - 1) q es W.words.now W.clips G c.args.free.now.used some)

pub set_aside-requires : goal.set_aside-requires
set_aside-requires t c =
    let N = c.args.self.now.places.items in let W = c.args.worklist.now in let F = c.args.free.now in let q = c.place-at.result in let es = c.entries-entry-items.result.now in
    let V = c.loop-entry.worklist in let G = c.loop-entry.free in let S = Within c.args.self.now.places.items (c.args.height - 1) in
    let p = within_up N c.args.height c.args.e c.if-height-eq0.false c.requires.within q c.place-at.ensures in
    let same = read_entries N q c.index.result.now p.0 c.index.ensures _ c.entries-entry-items.ensures.entries in
    let stack : c.args.free.now.used ≤ length c.args.free.now.places.items = omega (arith, F.within, F.places.ok.0) in
    let walk = subst (λ A. Walk c.args.self.now.places.items (c.args.height - 1) c.place-at.result c.entries-entry-items.result.now c.args.worklist.now.words.now c.loop-entry.worklist.words.now
    c.args.worklist.now.clips c.loop-entry.worklist.clips A c.loop-entry.free.places.items c.args.free.now.used c.loop-entry.free.used c.loop-entry.entry-index) c.put_back.ensures.places c.loop-entry.invariant in
    let r = walk_room N c.args.height q c.args.e es W.words.now V.words.now W.clips V.clips F.places.items G.places.items F.used G.used c.loop-entry.entry-index
    c.if-height-eq0.false c.place-at.ensures same c.loop-entry-test.true walk c.requires.room.0 c.requires.room.1 stack in
    (omega (arith, c.decreases, c.if-height-eq0.false), (All-get_or S es c.loop-entry.entry-index no_entry c.loop-entry-test.true (subst (AllByRecursion S) (sym same) p.2), (r.0, r.1)))

pub loop-entry-preserved : goal.loop-entry-preserved
loop-entry-preserved t c =
    let W = c.args.worklist.now in let V = c.loop-entry.worklist in let G = c.loop-entry.free in let out = c.set_aside.new in
    walk_step c.args.self.now.places.items (c.args.height - 1) c.place-at.result c.entries-entry-items.result.now W.words.now V.words.now out.worklist.words.now W.clips V.clips out.worklist.clips
    c.put_back.new.self.places.items G.places.items out.free.places.items c.args.free.now.used G.used out.free.used c.loop-entry.entry-index c.loop-entry-test.true c.loop-entry.invariant c.set_aside.ensures

pub returns : goal.returns
returns t c =
    let N = c.args.self.now.places.items in let W = c.args.worklist.now in let F = c.args.free.now in let q = c.place-at.result in let es = c.entries-entry-items.result.now in
    let V = c.loop-entry.worklist in let G = c.loop-entry.free in
    let p = within_up N c.args.height c.args.e c.if-height-eq0.false c.requires.within q c.place-at.ensures in
    let same = read_entries N q c.index.result.now p.0 c.index.ensures _ c.entries-entry-items.ensures.entries in
    let stack : c.args.free.now.used ≤ length c.args.free.now.places.items = omega (arith, F.within, F.places.ok.0) in
    let walk = subst (λ A. Walk c.args.self.now.places.items (c.args.height - 1) c.place-at.result c.entries-entry-items.result.now c.args.worklist.now.words.now c.loop-entry.worklist.words.now
    c.args.worklist.now.clips c.loop-entry.worklist.clips A c.loop-entry.free.places.items c.args.free.now.used c.loop-entry.free.used c.loop-entry.entry-index) c.put_back.ensures.places c.loop-entry.invariant in
    walk_end N c.args.height q c.args.e es W.words.now V.words.now W.clips V.clips F.places.items G.places.items F.used G.used c.loop-entry.entry-index
    c.if-height-eq0.false c.place-at.ensures same c.loop-entry-test.false stack walk
