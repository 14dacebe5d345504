use Rattle.std.proofs.Common.{rules, ◌≡◌, None, true, false, map, length, sym, refl, ◌∙◌, arith}
use lib.ListN.{length-map}
use Rattle.std.proofs.lemmas.Bool.{and_from}
use Rattle.measures.specs.Counts.{limits, of_plan}
use Rattle.measures.proofs.Countings.{limits_parts, limits_rows, not_limits, not_plan, fault_some, fault_none, vector_small, plan_dimensions, count_most, row_at, counted_none, counted_few, counted_stop, counted_more, counted_all}
use Rattle.measures.proofs.count.Count.of.Goals as goal

pub returns-then-not-is_within_limits : goal.returns-then-not-is_within_limits
returns-then-not-is_within_limits g c =
    let plan = c.args.plan.now in
    let clips = c.args.clips.now in
    let row = g.C.Described.row (length plan) in
    not_limits plan (map row clips) (limits_rows row plan clips false c.if-not-is_within_limits.ensures)

pub returns-in_err-ok : goal.returns-in_err-ok
returns-in_err-ok g c =
    let plan = c.args.plan.now in
    let clips = c.args.clips.now in
    let row = g.C.Described.row (length plan) in
    let r = row c.clip-item.result in
    let n = length-map clips row in
    let v = c.letters-letters.result.now in
    let f = fault_some plan v c.check_vector.result c.check_vector.ensures (sym c.in_err-ok.was ∙ c.ok.ensures.value) in
    let none : c.from_residual.result ≡ None = search rules in
    rw none (not_plan plan (map row clips) (counted_stop plan (map row clips) c.loop-clip.numbers c.loop-clip.clip-index c.loop-clip.invariant r (omega arith)
    (row_at row clips c.clip-item.result c.loop-clip.clip-index (omega arith) c.clip-item.is) v c.letters-letters.ensures f))

pub count_letters-requires : goal.count_letters-requires
count_letters-requires g c =
    let plan = c.args.plan.now in
    let clips = c.args.clips.now in
    let row = g.C.Described.row (length plan) in
    let v = c.letters-letters.result.now in
    let l = limits_parts plan (length clips) (sym c.if-not-is_within_limits.ensures) in
    let s = vector_small plan v l.0 (fault_none plan v c.check_vector.result c.check_vector.ensures (sym c.in_ok-ok.was ∙ c.ok.ensures.value)) in
    let n = length-map clips row in
    let m = l.2 in
    record {
      few = s.1;
      small = s.0;
      shape = c.loop-clip.invariant.shape;
      room = counted_few plan (map row clips) c.loop-clip.numbers c.loop-clip.clip-index c.loop-clip.invariant (omega arith);
    }

pub loop-clip-init : goal.loop-clip-init
loop-clip-init g c =
    let plan = c.args.plan.now in
    counted_none plan (map (g.C.Described.row (length plan)) c.args.clips.now) c.no_numbers-numbers.result c.no_numbers-numbers.ensures.shape c.no_numbers-numbers.ensures.numbers

pub loop-clip-preserved : goal.loop-clip-preserved
loop-clip-preserved g c =
    let plan = c.args.plan.now in
    let clips = c.args.clips.now in
    let row = g.C.Described.row (length plan) in
    let r = row c.clip-item.result in
    let n = length-map clips row in
    let v = c.letters-letters.result.now in
    let f = fault_none plan v c.check_vector.result c.check_vector.ensures (sym c.in_ok-ok.was ∙ c.ok.ensures.value) in
    counted_more plan (map row clips) c.loop-clip.numbers c.loop-clip.clip-index c.loop-clip.invariant r (omega arith)
    (row_at row clips c.clip-item.result c.loop-clip.clip-index (omega arith) c.clip-item.is) v c.letters-letters.ensures f
    c.count_letters.new.numbers c.count_letters.ensures.shape c.count_letters.ensures.numbers

pub invariant_of-result : goal.invariant_of-result
invariant_of-result g c =
    let plan = c.args.plan.now in
    let clips = c.args.clips.now in
    let row = g.C.Described.row (length plan) in
    let l = limits_parts plan (length clips) (sym c.if-not-is_within_limits.ensures) in
    let d = plan_dimensions plan l.0 in
    let n = length-map clips row in
    let all = counted_all plan (map row clips) c.loop-clip.numbers c.loop-clip.clip-index c.loop-clip.invariant (omega arith) in
    record {
      least = d.0;
      most = d.1;
      some = l.1;
      few = l.2;
      shape = c.loop-clip.invariant.shape;
      each = λ i x. let e = all.1 i x in let m = count_most i x (map row clips) in omega arith;
    }

pub returns : goal.returns
returns g c =
    let plan = c.args.plan.now in
    let clips = c.args.clips.now in
    let row = g.C.Described.row (length plan) in
    let rows = map row clips in
    let n = length-map clips row in
    let t = limits_rows row plan clips true c.if-not-is_within_limits.ensures in
    let all = counted_all plan rows c.loop-clip.numbers c.loop-clip.clip-index c.loop-clip.invariant (omega arith) in (
      and_from (limits plan (length rows)) (of_plan plan rows) t all.0,
      record { dimensions = refl; total = sym n; numbers = all.1 },
    )
