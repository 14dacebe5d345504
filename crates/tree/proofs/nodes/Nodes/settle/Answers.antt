use Rattle.std.proofs.Common.{◌≡◌, true, false, length, sym, ap, ◌∙◌, subst, arith}
use Rattle.std.specs.List.{AllByRecursion}
use Rattle.rules.specs.Tree.{sets_of}
use Rattle.rules.proofs.Groups.{all_group}
use Rattle.tree.specs.Nodes.{Sound, Written, entry_of, divided}
use Rattle.tree.proofs.Lists.{map_map}
use Rattle.tree.proofs.Fits.{settled_one, settled_two, second_side, side_few, divided_code}
use Rattle.tree.proofs.nodes.Nodes.settle.Goals as goal

pub returns-then-entries-le8-clause-fitted : goal.returns-then-entries-le8-clause-fitted
returns-then-entries-le8-clause-fitted c =
    settled_one c.args.self.now.dims c.args.self.now.places.items c.args.at.height c.args.at.place c.args.spare c.args.entries.now c.requires.within c.requires.apart c.requires.sound
    c.write.new.self.places.items c.write.ensures.written c.requires.some (omega arith)

pub write-requires-2 : goal.write-requires-2
write-requires-2 c =
    let nine : length c.args.entries.now ≡ 9 = omega arith in
    let h = divided_code c.args.self.now.dims _ _ c.best_division-code.ensures in
    let e = c.as_slice.ensures ∙ c.group_of-stay.ensures in
    let f = side_few false c.best_division-code.result c.args.entries.now _ e nine h in
    record {
      few = f.1;
      sound = subst (AllByRecursion (Sound c.args.self.now.places.items c.args.at.height)) (sym e) (all_group (Sound c.args.self.now.places.items c.args.at.height) false c.best_division-code.result c.args.entries.now c.requires.sound);
      within = c.requires.within;
    }

pub write-requires-3 : goal.write-requires-3
write-requires-3 c =
    let nine : length c.args.entries.now ≡ 9 = omega arith in
    let h = divided_code c.args.self.now.dims _ _ c.best_division-code.ensures in
    let e = c.as_slice-2.ensures ∙ c.group_of-leave.ensures in
    let g = c.as_slice.ensures ∙ c.group_of-stay.ensures in
    let f = side_few true c.best_division-code.result c.args.entries.now _ e nine h in
    let p = subst (λ x. Written c.args.self.now.dims c.args.self.now.places.items c.write-2.new.self.places.items c.args.at.height c.args.at.place x) g c.write-2.ensures.written in
    let s = second_side c.args.self.now.dims c.args.self.now.places.items c.args.at.height c.args.at.place c.args.spare c.args.entries.now c.requires.within c.requires.apart c.requires.sound
    c.write-2.new.self.places.items c.best_division-code.result p in
    record {
      few = f.1;
      sound = subst (AllByRecursion (Sound c.write-2.new.self.places.items c.args.at.height)) (sym e) s.1;
      within = omega (arith, s.0, c.requires.room);
    }

pub returns-clause-fitted : goal.returns-clause-fitted
returns-clause-fitted c =
    let nine : length c.args.entries.now ≡ 9 = omega arith in
    let h = divided_code c.args.self.now.dims _ _ c.best_division-code.ensures in
    let e = c.as_slice-2.ensures ∙ c.group_of-leave.ensures in
    let g = c.as_slice.ensures ∙ c.group_of-stay.ensures in
    let p = subst (λ x. Written c.args.self.now.dims c.args.self.now.places.items c.write-2.new.self.places.items c.args.at.height c.args.at.place x) g c.write-2.ensures.written in
    let q = subst (λ x. Written c.args.self.now.dims c.write-2.new.self.places.items c.write-3.new.self.places.items c.args.at.height c.args.spare x) e (subst (λ d. Written d c.write-2.new.self.places.items c.write-3.new.self.places.items c.args.at.height c.args.spare c.as_slice-2.result.now) c.write-2.ensures.dims c.write-3.ensures.written) in
    settled_two c.args.self.now.dims c.args.self.now.places.items c.args.at.height c.args.at.place c.args.spare c.args.entries.now c.requires.within c.requires.apart c.requires.sound
    c.write-2.new.self.places.items c.write-3.new.self.places.items c.best_division-code.result c.requires.room nine h p q
    (c.best_division-code.ensures ∙ ap (divided c.args.self.now.dims) (c.boxes_of-boxes.ensures ∙ sym (map_map (sets_of c.args.at.height) (entry_of c.args.self.now.dims c.args.self.now.places.items c.args.at.height) c.args.entries.now)))
