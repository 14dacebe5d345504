use Rattle.std.proofs.Common.{◌≡◌, is_ok, None, vec_items, sym, ap, ◌∙◌}
use Rattle.std.proofs.lemmas.Bool.{ltb-true}
use Rattle.space.specs.Row.{rows_of}
use Rattle.pick.specs.Libraries.{list_fault}
use Rattle.space.proofs.Faults.{fault_none}
use Rattle.pick.proofs.Checks.{new_parts}
use Rattle.pick.proofs.Listings.{Held, push_held}
use Rattle.pick.proofs.library.Library.list.Goals as goal

pub invariant_of-self : goal.invariant_of-self
invariant_of-self c =
    let self = c.args.self.now in
    let v = vec_items c.args.letters in
    let f : list_fault self c.args.number v ≡ None = ap (list_fault self c.args.number) (sym c.deref.ensures.value) ∙ fault_none _ c.in_ok-check_new.ensures in
    let p = new_parts self c.args.number v f in
    let held : Held (vec_items self.plan) (rows_of (vec_items self.clips)) = record { fits_plan = self.of_plan; once = self.once; few = self.few } in
    let h = push_held (vec_items self.plan) (vec_items self.clips) (vec_items c.push.new.self) _ (is_ok c.push.result) c.push.ensures.items held p.0 p.1 (ltb-true _ 4096 p.2) in
    record { planned = self.planned; of_plan = h.fits_plan; once = h.once; few = h.few }
