use Rattle.std.proofs.Common.{◌+◌, length, get_or, sym, ap, ◌∙◌, subst, subst₂, arith}
use Rattle.tree.specs.Leaving.{EachOnce, EnteredClip}
use Rattle.tree.specs.Standing.{rows_of}
use Rattle.tree.proofs.Standings.{stands_used, by_lettered, again_step}
use Rattle.tree.proofs.nodes.Nodes.enter_again.Goals as goal

pub enter_clip-after-requires : goal.enter_clip-after-requires
enter_clip-after-requires c =
    let d = c.args.self.now.dims in let N = c.args.self.now.places.items in let F = c.args.free.now in let W = c.args.worklist.now in let h = c.args.root.height in let i = c.args.root.place in
    let M = c.loop-k.self.places.items in let G = c.loop-k.free in let g = c.loop-k.after.height in let j = c.loop-k.after.place in
    let s = c.loop-k.invariant.entered.stands in
    let same = sym c.loop-k.invariant.free in
    let used = stands_used d (rows_of d N h i + W.clips) M F.places.items G.used g j s in
    record {
      clip = by_lettered W.words.now (get_or W.words.now c.loop-k.k 0) c.ordered_at.result c.ordered_at.ensures;
      sound = s.sound;
      spread = subst (λ A. EachOnce M A G.used g j) same s.spread;
      room = omega (arith, used, ap length same);
    }

pub loop-k-preserved : goal.loop-k-preserved
loop-k-preserved c =
    let d = c.args.self.now.dims in let N = c.args.self.now.places.items in let F = c.args.free.now in let W = c.args.worklist.now in let h = c.args.root.height in let i = c.args.root.place in
    let M = c.loop-k.self.places.items in let G = c.loop-k.free in let g = c.loop-k.after.height in let j = c.loop-k.after.place in let old = c.loop-k.invariant in
    let L = c.enter_clip-after.new.self.places.items in let H = c.enter_clip-after.new.free in let out = c.enter_clip-after.result in
    let entered = subst₂ (λ m A. EnteredClip m M L A G.used g j c.ordered_at.result H.used out.height out.place) old.dims old.free c.enter_clip-after.ensures.entered in
    record {
      dims = c.enter_clip-after.ensures.dims ∙ old.dims;
      free = c.enter_clip-after.ensures.free ∙ old.free;
      entered = again_step d N F.places.items W.words.now h i W.clips M L c.loop-k.k G.used g j H.used out.height out.place c.ordered_at.result
          (omega arith) (omega (arith, c.requires.words)) old.entered c.ordered_at.ensures entered;
    }
