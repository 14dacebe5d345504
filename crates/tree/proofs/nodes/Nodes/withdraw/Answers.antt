use Rattle.std.proofs.Common.{◌+◌, length, refl, sym, ◌∙◌, subst, subst₂, arith}
use Rattle.tree.specs.Standing.{Stands, rows_of, EnteredAgain, Withdrew}
use Rattle.tree.proofs.Stacks.{ask_once}
use Rattle.tree.proofs.Withdrawals.{ask_listed, ask_two, ask_words, ask_room, ask_order, left_stands, withdrew}
use Rattle.tree.proofs.nodes.Nodes.withdraw.Goals as goal

pub withdraw_root-rest-requires : goal.withdraw_root-rest-requires
withdraw_root-rest-requires c =
    let d = c.args.self.now.dims in let N = c.args.self.now.places.items in let F = c.args.free.now in let at = c.args.root in
    let s = c.requires.stands in
    record {
      sound = s.sound;
      two = ask_two d N F.places.items F.used at.height at.place c.args.number s c.requires.listed;
      listed = ask_listed d N F.places.items F.used at.height at.place c.args.number s c.requires.listed;
      apart = ask_once N F.places.items F.used at.height at.place s.spread;
      room = (
        ask_words d N F.places.items F.used at.height at.place c.args.number s c.requires.listed (length c.args.words.now) c.requires.words,
        ask_room d N F.places.items F.used at.height at.place c.args.number s c.requires.listed,
      );
    }

pub order-requires : goal.order-requires
order-requires c =
    let d = c.args.self.now.dims in let N = c.args.self.now.places.items in let F = c.args.free.now in let at = c.args.root in
    let M = c.withdraw_root-rest.new.self in let V = c.withdraw_root-rest.new.worklist in let G = c.withdraw_root-rest.new.free in let low = c.withdraw_root-rest.result in
    let r = ask_order d N F.places.items F.used at.height at.place c.args.number c.requires.stands c.requires.listed c.requires.once M.places.items c.args.words.now V.words.now V.clips G.places.items G.used low.height low.place c.withdraw_root-rest.ensures.withdrawn (length c.args.words.now) c.requires.words refl in
    record { few = r.0; room = r.1 }

pub enter_again-requires : goal.enter_again-requires
enter_again-requires c =
    let d = c.args.self.now.dims in let N = c.args.self.now.places.items in let F = c.args.free.now in let at = c.args.root in
    let M = c.withdraw_root-rest.new.self in let V = c.withdraw_root-rest.new.worklist in let G = c.withdraw_root-rest.new.free in let low = c.withdraw_root-rest.result in
    let r = ask_order d N F.places.items F.used at.height at.place c.args.number c.requires.stands c.requires.listed c.requires.once M.places.items c.args.words.now V.words.now V.clips G.places.items G.used low.height low.place c.withdraw_root-rest.ensures.withdrawn (length c.args.words.now) c.requires.words refl in
    let left = left_stands d N F.places.items F.used at.height at.place c.args.number c.requires.stands c.requires.listed c.requires.once M.places.items c.args.words.now V.words.now V.clips G.places.items G.used low.height low.place c.withdraw_root-rest.ensures.withdrawn in
    record {
      stands = subst₂ (λ m n. Stands m (rows_of m M.places.items low.height low.place + n) M.places.items G.places.items G.used low.height low.place)
          (sym c.withdraw_root-rest.ensures.dims) (sym c.order.ensures.clips) left;
      words = omega (arith, r.1, c.order.ensures.order.long, c.order.ensures.clips);
    }

pub returns : goal.returns
returns c =
    let d = c.args.self.now.dims in let N = c.args.self.now.places.items in let F = c.args.free.now in let at = c.args.root in
    let M = c.withdraw_root-rest.new.self in let V = c.withdraw_root-rest.new.worklist in let G = c.withdraw_root-rest.new.free in let low = c.withdraw_root-rest.result in
    let X = c.order.new.self in let L = c.enter_again.new.self in let H = c.enter_again.new.free in let out = c.enter_again.result in
    let back = subst₂ (λ m n. EnteredAgain m M.places.items L.places.items G.places.items X.words.now low.height low.place n n H.used out.height out.place)
    c.withdraw_root-rest.ensures.dims c.order.ensures.clips c.enter_again.ensures.entered in
    let done = withdrew d N F.places.items F.used at.height at.place c.args.number c.requires.stands c.requires.listed c.requires.once M.places.items c.args.words.now V.words.now V.clips G.places.items G.used low.height low.place c.withdraw_root-rest.ensures.withdrawn X.words.now L.places.items H.used out.height out.place c.order.ensures.order back in
    record {
      withdrew = subst (λ B. Withdrew d N L.places.items F.places.items B F.used at.height at.place c.args.number H.used out.height out.place) (sym c.enter_again.ensures.free) done;
      dims = c.enter_again.ensures.dims ∙ c.withdraw_root-rest.ensures.dims;
    }
