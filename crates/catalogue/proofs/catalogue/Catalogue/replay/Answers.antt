use Rattle.std.proofs.Common.{◌-◌, ◌<◌, length, ◌∙◌, arith, rules}
use native.Mathlib.Nat.{min-le_left, min-le_right}
use Rattle.std.proofs.lemmas.List.{get_or-take, length-take}
use Rattle.catalogue.specs.Replays.{calls_of, Replayed}
use Rattle.catalogue.proofs.Replayings.{replay_call, runs_all}
use Rattle.catalogue.proofs.catalogue.Catalogue.replay.Goals as goal

pub loop-i-preserved : goal.loop-i-preserved
loop-i-preserved c =
    let left = min-le_left (length c.args.calls.now) (length c.args.answers.now) in
    let right = min-le_right (length c.args.calls.now) (length c.args.answers.now) in
    let n = c.min-n.result in
    let l = length-take (n - 0) c.args.calls.now in
    let i : c.loop-i.i < c.min-n.result - 0 = omega (arith, c.loop-i-test.true) in (
      replay_call c.args.self.now c.loop-i.self c.make.new.self (length c.args.worklist.now) (length c.loop-i.guard.words.now) c.args.calls.now c.args.answers.now c.loop-i.answers c.loop-i.i
          c.call-item.result c.make.result (omega (arith, c.min-n.ensures)) (omega (arith, c.min-n.ensures, c.loop-i.auto.answers)) c.loop-i.invariant.0
          (c.call-item.is ∙ get_or-take (n - 0) c.args.calls.now c.loop-i.i c.call-item.result i) c.loop-i.invariant.1 c.make.ensures,
      c.make.auto.worklist ∙ c.loop-i.invariant.1,
    )

pub returns-clause-runs : goal.returns-clause-runs
returns-clause-runs c =
    let calls = calls_of (length c.args.worklist.now) c.args.calls.now in
    let d : Replayed c.args.self.now c.loop-i.self (calls_of (length c.args.worklist.now) c.args.calls.now) c.args.answers.now c.loop-i.answers c.min-n.result = search rules in
    runs_all c.args.self.now c.loop-i.self calls c.args.answers.now c.loop-i.answers c.min-n.result d
