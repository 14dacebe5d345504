use Rattle.std.proofs.Common.{◌+◌, length, take, sym, ap, ◌∙◌, arith}
use Rattle.ranked.specs.Find.{ahead}
use Rattle.ranked.specs.Rank.{keep_first}
use Rattle.rules.specs.Finds.{hit}
use Rattle.scan.proofs.Scanned.{put_front, put_back}
use Rattle.scan.proofs.put_find.Goals as goal

pub returns-in-Some : goal.returns-in-Some
returns-in-Some c =
    let s = c.args.slots.now in
    let t = c.insert.new.list in
    let n = c.args.found in
    let is = ap (λ o. hit o c.args.clip) c.in-Some.is in
    let count = c.insert.ensures.count in
    record {
      count = sym (ap (λ l. n + length l) is);
      front = put_front s t n c.insert.result _ (omega arith) count c.insert.ensures.front ∙ ap (keep_first ahead (length s) (take n s)) (sym is);
      back = put_back s t n c.insert.result (omega arith) count c.insert.ensures.back;
    }
