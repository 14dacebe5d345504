use Rattle.std.proofs.Common.{◌≡◌, ◌<◌, length, get_or, [], None, Ok, ◌∙◌, arith, rules}
use Rattle.std.proofs.lemmas.Grind.{common_steps}
use Rattle.std.proofs.lemmas.Result.{MatchResult-at_ok}
use Rattle.rules.specs.File.{number_of, body}
use Rattle.file.proofs.Listed.{row_within}
use Rattle.file.proofs.Readings.{room_long, row_there, uncut, no_row_uncut}
use Rattle.file.proofs.read.row_at.Goals as goal

pub returns-in_err-rows : goal.returns-in_err-rows
returns-in_err-rows c =
    let f = uncut _ (length c.args.plan.now) c.in_ok-rest.rest.now c.cut_rows.result (grind (arith, common_steps)) c.cut_rows.ensures in
    let q : c.in_ok-rest.rest.now ≡ body c.args.plan.now c.args.file.now = grind (arith, common_steps) in
    let n : c.from_residual-in_err-rows.result ≡ None = search rules in
    n ∙ no_row_uncut c.args.plan.now c.args.file.now c.args.index _ q f

pub letters_at-requires : goal.letters_at-requires
letters_at-requires c =
    let e : c.cut_rows.result ≡ Ok c.in_ok-rows.rows = grind (arith, common_steps) in
    let k = MatchResult-at_ok _ _ _ e c.cut_rows.ensures in
    let l = k.many in
    let h : c.args.index < length c.in_ok-rows.rows.numbers.now = grind (arith, common_steps) in
    row_within (length c.args.plan.now) (length c.in_ok-rows.rows.numbers.now) c.args.index _ h (omega arith)

pub copy_from_slice-requires : goal.copy_from_slice-requires
copy_from_slice-requires c =
    let e : c.cut_rows.result ≡ Ok c.in_ok-rows.rows = grind (arith, common_steps) in
    let k = MatchResult-at_ok _ _ _ e c.cut_rows.ensures in
    let h : c.args.index < length c.in_ok-rows.rows.numbers.now = grind (arith, common_steps) in
    room_long (length c.args.plan.now) (length c.in_ok-rows.rows.numbers.now) c.args.index _ _ c.if-d-gt-DIMENSIONS.false h k.many c.letters_at.ensures

pub returns : goal.returns
returns c =
    let plan = c.args.plan.now in
    let file = c.args.file.now in
    let e : c.cut_rows.result ≡ Ok c.in_ok-rows.rows = grind (arith, common_steps) in
    let k = MatchResult-at_ok _ _ _ e c.cut_rows.ensures in
    let h : c.args.index < length c.in_ok-rows.rows.numbers.now = grind (arith, common_steps) in
    let q : c.in_ok-rest.rest.now ≡ body plan file = grind (arith, common_steps) in
    let n : c.number_in-number.result ≡ number_of (get_or c.in_ok-rows.rows.numbers.now c.args.index []) = grind (arith, common_steps) in
    row_there plan file c.args.index _ q _ _ k h _ _ n (c.copy_from_slice.ensures.after ∙ c.letters_at.ensures) c.if-d-gt-DIMENSIONS.false
