use Rattle.std.proofs.Common.{◌∙◌, ◌+◌, ◌++◌, ◌∷◌, [], List, ap, sym, subst, take, arith, slice_get}
use Rattle.std.proofs.lemmas.List.{take_all, take_more}
use Rattle.dbtg_cells.specs.declared.name.CellName.{CellName}
use Rattle.dbtg_interned.specs.Arrays.{elements}
use Rattle.dbtg_states.specs.declared.transitions.Look.{Look}
use Rattle.dbtg_states.specs.Transitions.{AreLooks}
use Rattle.dbtg_states.proofs.States.Looks.{one_more_look, own_look}
use Rattle.dbtg_states.proofs.looks.Places.looks_at.Goals as goal

pub loop-name-init : goal.loop-name-init
loop-name-init c =
    let kept = c.args.numbers.now in
    let passage = c.args.passage in
    let own = c.in-Some.own in
    let place = c.in-Some.ensures.place in
    subst (λ (looks : List Look). AreLooks c.args.self.now.schema.now c.args.self.now.capacity c.args.self.now.units kept passage [] looks) (sym (c.in_ok-push.ensures.ok ∙ ap (λ (l : List Look). l ++ own ∷ []) (c.of-looks.ensures ∙ c.new.ensures.items)))
    (own_look c.args.self.now.schema.now c.args.self.now.capacity c.args.self.now.units kept passage own place (ap (slice_get (elements kept.arrays passage.before)) place ∙ c.in-Some.ensures.before) (ap (slice_get (elements kept.arrays passage.after)) place ∙ c.in-Some.ensures.after))

pub loop-name-preserved : goal.loop-name-preserved
loop-name-preserved c =
    let places = c.args.self.now in
    let kept = c.args.numbers.now in
    let names = c.args.names.now in
    let i = c.loop-name.name-index in
    let look = c.in-Some-look_at_cell.look in
    let at = c.in-Some-look_at_cell.ensures in
    let name = c.name-item.result in
    subst (λ (looks : List Look). AreLooks places.schema.now places.capacity places.units kept c.args.passage (take (i + 1) names) looks) (sym c.in_ok-push-2.ensures.ok)
    (subst (λ (ns : List CellName). AreLooks places.schema.now places.capacity places.units kept c.args.passage ns (c.loop-name.looks ++ look ∷ [])) (sym (take_more names i name (omega (arith, c.loop-name-test.true)) ∙ ap (λ (n : CellName). take i names ++ n ∷ []) (sym c.name-item.is)))
    (one_more_look places.schema.now places.capacity places.units kept c.args.passage (take i names) name c.loop-name.looks look c.loop-name.invariant at.place at.before at.after))

pub returns : goal.returns
returns c =
    let names = c.args.names.now in
    subst (λ (ns : List CellName). AreLooks c.args.self.now.schema.now c.args.self.now.capacity c.args.self.now.units c.args.numbers.now c.args.passage ns c.loop-name.looks) (take_all c.loop-name.name-index names (omega (arith, c.loop-name-test.false))) c.loop-name.invariant
