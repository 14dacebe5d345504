use Rattle.std.proofs.Common.{arith}
use Rattle.tree.proofs.Listings.{ask_clips, clips_done}
use Rattle.tree.proofs.Wholes.{low}
use Rattle.tree.proofs.index.Index.clips.Goals as goal

pub overflow_add-self : goal.overflow_add-self
overflow_add-self c = omega (arith, low c.args.self.now)

pub copy_clips-requires : goal.copy_clips-requires
copy_clips-requires c =
    let p = ask_clips c.args.self.now c.args.out.now c.if-out-self.false in
    record { within = p.0; room = p.1 }

pub returns : goal.returns
returns c = clips_done c.args.self.now c.args.out.now c.copy_clips.new.out c.copy_clips.result c.if-out-self.false c.copy_clips.ensures
