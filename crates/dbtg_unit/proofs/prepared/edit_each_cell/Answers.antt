use Rattle.std.proofs.Common.{◌≡◌, ◌∷◌, [], ap, sym, subst, ◌∙◌, length, arith}
use Rattle.std.proofs.lemmas.Grind.{common_steps}
use Rattle.std.specs.Vec.Iter.{into_iter_items}
use Rattle.dbtg_unit.specs.Hands.Making.{AreMade, CanMake}
use Rattle.dbtg_unit.proofs.Hands.Holding.WhileEditing.{can_make_rest, made_append}
use Rattle.dbtg_unit.proofs.prepared.edit_each_cell.Goals as goal

pub loop-edit-preserved : goal.loop-edit-preserved
loop-edit-preserved c =
    let was = c.loop-edit.invariant in
    let e = c.in-Some.edit in
    let es = into_iter_items c.next.new.self in
    let cells = c.loop-edit.held.cells in
    let next = c.edit_held.new.held.cells in
    let left : into_iter_items c.loop-edit.edit-iterator ≡ e ∷ es = c.in-Some.ensures.steps.0 in
    record {
      can_make = can_make_rest (e ∷ []) es cells next (subst (λ l. CanMake l cells) left was.can_make) c.edit_held.ensures.made;
      leads = λ new made. was.leads new (subst (λ l. AreMade l cells new) (sym left) (made_append (e ∷ []) es cells next new c.edit_held.ensures.made made));
      areas = c.edit_held.ensures.areas ∙ was.areas;
      guesses = c.edit_held.ensures.guesses ∙ was.guesses;
      as_many = let many = was.as_many in let gone = c.in-Some.ensures.steps.1 in let shorter = ap length left in omega arith;
    }

pub returns-clause-areas : goal.returns-clause-areas
returns-clause-areas c = grind (arith, common_steps)

pub returns-clause-guesses : goal.returns-clause-guesses
returns-clause-guesses c = grind (arith, common_steps)

pub returns-clause-made : goal.returns-clause-made
returns-clause-made c = grind (arith, common_steps)
