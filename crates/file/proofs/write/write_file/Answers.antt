use Rattle.std.proofs.Common.{◌≡◌, ◌+◌, ◌*◌, length, ◌++◌, ◌∙◌, arith}
use Rattle.std.proofs.lemmas.Grind.{common_steps}
use Rattle.file.specs.Writes.{put}
use Rattle.rules.specs.File.{bytes_of, header}
use Rattle.file.proofs.Writings.{whole_put, whole_long}
use Rattle.file.proofs.write.write_file.Goals as goal

pub returns-clause-long : goal.returns-clause-long
returns-clause-long c =
    let plan = c.args.plan.now in
    let clips = c.args.clips.now in
    let long = whole_long plan clips c.args.output.now c.write_letters.ensures.long in
    omega (arith, long)

pub returns-clause-bytes : goal.returns-clause-bytes
returns-clause-bytes c =
    let plan = c.args.plan.now in
    let clips = c.args.clips.now in
    let f : c.write_front-numbers.new.output ≡ put 0 (header plan ++ bytes_of 2 (length clips)) c.args.output.now = grind (arith, common_steps) in
    whole_put plan clips c.args.output.now _ _ _ _ _ f (omega arith) (c.write_numbers-letters.ensures.bytes (length plan)) c.write_numbers-letters.ensures.end
    c.write_letters.ensures.bytes
