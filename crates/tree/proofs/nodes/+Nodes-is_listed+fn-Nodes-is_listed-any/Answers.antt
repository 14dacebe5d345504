use Rattle.std.proofs.Common.{◌≡◌, ◌-◌, eqb, sym, ap, ◌∙◌, subst, arith, rules, tests}
use Rattle.std.specs.List.{AllByRecursion, All, list_any}
use Rattle.std.proofs.ByRecursion.{All-get_or}
use Rattle.std.proofs.iter.Serving.{serving}
use Rattle.std.proofs.lemmas.Iterator.{YieldsList-from_slice}
use Rattle.std.proofs.lemmas.Iterator.Search.{any_from_yields_List}
use Rattle.space.specs.declared.clip.StoredClip.{StoredClip}
use Rattle.tree.specs.Nodes.{Sound}
use Rattle.tree.specs.Leaving.{listed_in}
use Rattle.tree.proofs.ReadNodes.{read_entries}
use Rattle.tree.proofs.Looks.{listed_leaf}
use Rattle.tree.proofs.SetsAside.{sound_up, listed_any}
use Rattle.tree.proofs.nodes.+Nodes-is_listed+fn-Nodes-is_listed-any.Goals as goal

pub returns-then-height-eq0 : goal.returns-then-height-eq0
returns-then-height-eq0 t c =
    ap (λ (x : StoredClip). eqb x.number c.args.number) c.clip.ensures ∙ sym (listed_leaf c.args.self.now.dims c.args.self.now.places.items c.args.number c.args.height c.args.e c.if-height-eq0.true)

pub index-requires : goal.index-requires
index-requires t c = omega (arith, (sound_up c.args.self.now.places.items c.args.height c.args.e c.if-height-eq0.false c.requires c.place.result c.place.ensures).0)

pub any-requires-clause-callable : goal.any-requires-clause-callable
any-requires-clause-callable t c =
    let p = sound_up c.args.self.now.places.items c.args.height c.args.e c.if-height-eq0.false c.requires c.place.result c.place.ensures in
    let w = read_entries c.args.self.now.places.items c.place.result c.index.result.now p.0 c.index.ensures _ c.entries.ensures.entries in
    let all : All (Sound c.args.self.now.places.items (c.args.height - 1)) c.entries.result.now = λ k x l. All-get_or (Sound c.args.self.now.places.items (c.args.height - 1)) c.entries.result.now k x l
    (subst (AllByRecursion (Sound c.args.self.now.places.items (c.args.height - 1))) (sym w) p.2) in
    grind serving

pub returns : goal.returns
returns t c =
    let p = sound_up c.args.self.now.places.items c.args.height c.args.e c.if-height-eq0.false c.requires c.place.result c.place.ensures in
    let w = read_entries c.args.self.now.places.items c.place.result c.index.result.now p.0 c.index.ensures _ c.entries.ensures.entries in
    let e : c.any.result ≡ list_any (listed_in c.args.self.now.dims c.args.self.now.places.items (c.args.height - 1) c.args.number) c.entries.result.now =
    any_from_yields_List (listed_in c.args.self.now.dims c.args.self.now.places.items (c.args.height - 1) c.args.number) _ _ c.any.result c.any.ensures.ran (YieldsList-from_slice c.entries.result.now (cc)) (λ x b q k. search (rules, tests)) in
    e ∙ listed_any c.args.self.now.places.items c.args.number c.args.height c.args.e c.place.result c.if-height-eq0.false c.place.ensures c.entries.result.now w c.args.self.now.dims
