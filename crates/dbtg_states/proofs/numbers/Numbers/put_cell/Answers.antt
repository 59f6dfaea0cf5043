use Rattle.std.proofs.Common.{◌∙◌, ◌+◌, ◌++◌, ℕ, List, ap, sym, subst, arith}
use Rattle.std.proofs.lemmas.Option.{same_Some}
use Rattle.std.proofs.lemmas.Result.{IfOk-weaker}
use Rattle.dbtg_states.specs.Numbers.{HasPut}
use Rattle.dbtg_states.specs.Parts.{part_in}
use Rattle.dbtg_states.proofs.States.Numbers.{few_places}
use Rattle.dbtg_states.proofs.States.PutCells.{number_low}
use Rattle.dbtg_states.proofs.numbers.Numbers.put_cell.Goals as goal

pub overflow_add-place : goal.overflow_add-place
overflow_add-place c =
    let low = number_low c.args.database.now c.args.name.now c.in-Some.number (sym c.cell_number.ensures ∙ c.in-Some.is) in
    let few = few_places c.args.self.now c.requires.kept in
    omega (arith, low, few, c.requires.room)

pub put-requires-clause-within : goal.put-requires-clause-within
put-requires-clause-within c =
    let low = number_low c.args.database.now c.args.name.now c.in-Some.number (sym c.cell_number.ensures ∙ c.in-Some.is) in
    omega (arith, low, c.requires.room)

pub returns-in-Some : goal.returns-in-Some
returns-in-Some c =
    let d = c.args.database.now in
    let said = c.as_slice.ensures.value ∙ c.in_ok-spell_cell.ensures ∙ ap (λ l. l ++ part_in c.args.spelling.now.versions c.args.spelling.now.units d c.args.name.now) c.in_ok-content.ensures.items in
    IfOk-weaker c.put.result _ _
    (λ n put k e.
    let place = same_Some c.in-Some.number k (sym c.in-Some.is ∙ c.cell_number.ensures ∙ e) in
    subst (λ j. HasPut c.args.self.now c.put.new.self c.args.array (c.args.spelling.now.units + j) (part_in c.args.spelling.now.versions c.args.spelling.now.units d c.args.name.now) n) place
    (subst (λ (l : List ℕ). HasPut c.args.self.now c.put.new.self c.args.array (c.args.spelling.now.units + c.in-Some.number) l n) said put))
    c.put.ensures.put

pub returns : goal.returns
returns c = λ k e. absurd (let none = sym c.in-None.is ∙ c.cell_number.ensures ∙ e in cc (none))
