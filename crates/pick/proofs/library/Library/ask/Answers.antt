use Rattle.std.proofs.Common.{take, vec_items, refl, ap, ◌∙◌, ap₂, arith}
use Rattle.std.proofs.lemmas.Grind.{common_steps}
use Rattle.std.proofs.lemmas.List.{length-map}
use Rattle.measures.specs.Hammings.{hamming_distance}
use Rattle.measures.specs.Layers.{bar_distance, cut_distance}
use Rattle.rules.specs.Finds.{ranking}
use Rattle.scan.specs.Distances.{far_by}
use Rattle.space.specs.Row.{row_of, rows_of}
use Rattle.pick.specs.Libraries.{rows_in}
use Rattle.space.proofs.Faults.{fault_none}
use Rattle.pick.proofs.Findings.{answers}
use Rattle.pick.proofs.library.Library.ask.Goals as goal

pub returns : goal.returns
returns c =
    let self = c.args.self.now in
    let k = c.args.count in
    let q = vec_items c.args.query in
    let n = length-map (vec_items self.clips) row_of in
    answers self k q _ (grind (arith, common_steps, fault_none)) refl (omega arith) (cc c.in_ok-hamming.ensures) (cc c.in_ok-geh.ensures)
    (c.in_ok-barred.ensures
    ∙ ap₂ (λ v cs. take k (ranking (far_by (cut_distance c.new-spared.result.limit (bar_distance c.new-spared.result.below.bars hamming_distance)) v) (rows_of cs))) c.deref-5.ensures.value c.deref-6.ensures.value
    ∙ ap (λ m. take k (ranking (far_by (cut_distance m.limit (bar_distance m.below.bars hamming_distance)) q) (rows_in self))) c.new-spared.ensures
    ∙ ap (λ b. take k (ranking (far_by (cut_distance self.limit (bar_distance b.bars hamming_distance)) q) (rows_in self))) c.new.ensures)
