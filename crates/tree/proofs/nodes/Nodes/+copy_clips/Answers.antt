use Rattle.std.proofs.Common.{◌≡◌, ◌-◌, length, sym, ap, ◌∙◌, subst, arith}
use Rattle.std.proofs.lemmas.Grind.{common_steps}
use Rattle.std.specs.List.{AllByRecursion}
use Rattle.std.proofs.ByRecursion.{All-get_or}
use Rattle.std.proofs.lemmas.List.{take_rest, length-drop}
use Rattle.tree.specs.Nodes.{no_entry}
use Rattle.tree.specs.Leaving.{Within}
use Rattle.tree.proofs.ReadNodes.{read_entries}
use Rattle.tree.proofs.SetsAside.{within_up, clips_leaf_long}
use Rattle.tree.proofs.Listings.{copied_leaf, copied_of, copying_step, copying_end, copying_room}
use Rattle.tree.proofs.nodes.Nodes.+copy_clips.Goals as goal

pub bounds-out-0 : goal.bounds-out-0
bounds-out-0 t c = omega (arith, c.requires.room, clips_leaf_long c.args.self.now.places.items c.args.height c.args.e c.if-height-eq0.true)

pub returns-then-height-eq0 : goal.returns-then-height-eq0
returns-then-height-eq0 t c =
    copied_leaf c.args.self.now.places.items c.args.height c.args.e c.args.out.now c.clip.result c.if-height-eq0.true c.clip.ensures
    (omega (arith, c.requires.room, clips_leaf_long c.args.self.now.places.items c.args.height c.args.e c.if-height-eq0.true))

pub index-requires : goal.index-requires
index-requires t c = omega (arith, (within_up c.args.self.now.places.items c.args.height c.args.e c.if-height-eq0.false c.requires.within c.place.result c.place.ensures).0)

pub offset_bounds-out-many : goal.offset_bounds-out-many
offset_bounds-out-many t c =
    let N = c.args.self.now.places.items in let es = copied_of c.loop-entry.invariant in
    let p = within_up N c.args.height c.args.e c.if-height-eq0.false c.requires.within c.place.result c.place.ensures in
    let s : es ≡ c.entries-entries.result.now = grind (arith, common_steps) in
    let w = s ∙ read_entries N c.place.result c.index.result.now p.0 c.index.ensures _ c.entries-entries.ensures.entries in
    let room = copying_room N c.args.height c.place.result c.args.e es c.args.out.now c.loop-entry.out c.loop-entry.many c.loop-entry.entry-index
    c.if-height-eq0.false c.place.ensures w c.loop-entry.invariant c.loop-entry-test.true c.requires.room in
    omega (arith, room)

pub slice_bounds-copy_clips-count : goal.slice_bounds-copy_clips-count
slice_bounds-copy_clips-count t c =
    let N = c.args.self.now.places.items in let es = copied_of c.loop-entry.invariant in
    let p = within_up N c.args.height c.args.e c.if-height-eq0.false c.requires.within c.place.result c.place.ensures in
    let s : es ≡ c.entries-entries.result.now = grind (arith, common_steps) in
    let w = s ∙ read_entries N c.place.result c.index.result.now p.0 c.index.ensures _ c.entries-entries.ensures.entries in
    let room = copying_room N c.args.height c.place.result c.args.e es c.args.out.now c.loop-entry.out c.loop-entry.many c.loop-entry.entry-index
    c.if-height-eq0.false c.place.ensures w c.loop-entry.invariant c.loop-entry-test.true c.requires.room in
    omega (arith, room)

pub slice_bounds-copy_clips-start : goal.slice_bounds-copy_clips-start
slice_bounds-copy_clips-start t c =
    let N = c.args.self.now.places.items in let es = copied_of c.loop-entry.invariant in
    let p = within_up N c.args.height c.args.e c.if-height-eq0.false c.requires.within c.place.result c.place.ensures in
    let s : es ≡ c.entries-entries.result.now = grind (arith, common_steps) in
    let w = s ∙ read_entries N c.place.result c.index.result.now p.0 c.index.ensures _ c.entries-entries.ensures.entries in
    let room = copying_room N c.args.height c.place.result c.args.e es c.args.out.now c.loop-entry.out c.loop-entry.many c.loop-entry.entry-index
    c.if-height-eq0.false c.place.ensures w c.loop-entry.invariant c.loop-entry-test.true c.requires.room in
    omega (arith, room)

pub copy_clips-many-requires : goal.copy_clips-many-requires
copy_clips-many-requires t c =
    let N = c.args.self.now.places.items in let es = copied_of c.loop-entry.invariant in
    let p = within_up N c.args.height c.args.e c.if-height-eq0.false c.requires.within c.place.result c.place.ensures in
    let s : es ≡ c.entries-entries.result.now = grind (arith, common_steps) in
    let w = s ∙ read_entries N c.place.result c.index.result.now p.0 c.index.ensures _ c.entries-entries.ensures.entries in
    let room = copying_room N c.args.height c.place.result c.args.e es c.args.out.now c.loop-entry.out c.loop-entry.many c.loop-entry.entry-index
    c.if-height-eq0.false c.place.ensures w c.loop-entry.invariant c.loop-entry-test.true c.requires.room in
    let S = Within N (c.args.height - 1) in
    let part = ap length (take_rest c.loop-entry.out c.loop-entry.many) in
    (omega (arith, c.decreases, c.if-height-eq0.false), (All-get_or S es c.loop-entry.entry-index no_entry c.loop-entry-test.true (subst (AllByRecursion S) (sym w) p.2), omega (arith, room, part, length-drop c.loop-entry.many c.loop-entry.out)))

pub loop-entry-preserved : goal.loop-entry-preserved
loop-entry-preserved t c =
    let N = c.args.self.now.places.items in let es = copied_of c.loop-entry.invariant in
    let p = within_up N c.args.height c.args.e c.if-height-eq0.false c.requires.within c.place.result c.place.ensures in
    let s : es ≡ c.entries-entries.result.now = grind (arith, common_steps) in
    let w = s ∙ read_entries N c.place.result c.index.result.now p.0 c.index.ensures _ c.entries-entries.ensures.entries in
    let room = copying_room N c.args.height c.place.result c.args.e es c.args.out.now c.loop-entry.out c.loop-entry.many c.loop-entry.entry-index
    c.if-height-eq0.false c.place.ensures w c.loop-entry.invariant c.loop-entry-test.true c.requires.room in
    copying_step N (c.args.height - 1) es c.args.out.now c.loop-entry.out c.copy_clips-many.new.out c.loop-entry.many c.copy_clips-many.result c.loop-entry.entry-index
    c.loop-entry-test.true (omega (arith, room)) c.loop-entry.invariant c.copy_clips-many.ensures

pub returns : goal.returns
returns t c =
    let N = c.args.self.now.places.items in let es = copied_of c.loop-entry.invariant in
    let p = within_up N c.args.height c.args.e c.if-height-eq0.false c.requires.within c.place.result c.place.ensures in
    let s : es ≡ c.entries-entries.result.now = grind (arith, common_steps) in
    let w = s ∙ read_entries N c.place.result c.index.result.now p.0 c.index.ensures _ c.entries-entries.ensures.entries in
    copying_end N c.args.height c.place.result c.args.e es c.args.out.now c.loop-entry.out c.loop-entry.many c.loop-entry.entry-index
    c.if-height-eq0.false c.place.ensures w c.loop-entry.invariant c.loop-entry-test.false
