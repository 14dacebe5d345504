use Rattle.std.proofs.Common.{◌+◌, sym, subst, arith}
use Rattle.tree.specs.Standing.{Whole}
use Rattle.tree.specs.Seen.{plan_of}
use Rattle.tree.proofs.Changes.{whole_entered}
use Rattle.tree.proofs.Wholes.{whole_of, few, ask_enter, enter_done, same_whole}
use Rattle.tree.proofs.index.Index.enter_new.Goals as goal

pub enter_clip-self-requires : goal.enter_clip-self-requires
enter_clip-self-requires c =
    let a = ask_enter c.args.self.now in
    record { clip = c.requires.letters; sound = a.0; spread = a.1; room = a.2 }

pub overflow_add-self : goal.overflow_add-self
overflow_add-self c = omega (arith, few c.args.self.now)

pub invariant_of-self : goal.invariant_of-self
invariant_of-self c =
    let x = c.args.self.now in let M = c.enter_clip-self.new.self in let G = c.enter_clip-self.new.free in let r = c.enter_clip-self.result in
    let p = enter_done x M.places.items c.args.clip G.used r.height r.place c.enter_clip-self.ensures.entered in
    let w = whole_entered (plan_of x) x.capacity x.clips x.highest x.nodes.places.items M.places.items x.free.places.items x.free.used x.root.height x.root.place
    c.args.clip G.used r.height r.place c.requires.proper (whole_of x) p c.requires.new c.requires.room in
    let v = subst (λ A. Whole (plan_of x) x.capacity (x.clips + 1) c.max-self.result M.places.items A G.used r.height r.place) (sym c.enter_clip-self.ensures.free)
    (subst (λ m. Whole (plan_of x) x.capacity (x.clips + 1) m M.places.items x.free.places.items G.used r.height r.place) (sym c.max-self.ensures) w) in
    record { long = x.long; some = omega (arith, x.some, c.enter_clip-self.ensures.dims); whole = ∣ same_whole x M c.enter_clip-self.ensures.dims G (x.clips + 1) c.max-self.result r v ∣₁ }
