use Rattle.std.proofs.Common.{◌∙◌, ◌++◌, ap, sym, append-nil, refl}
use Rattle.std.specs.Prelude.{flat_map, option_to_list}
use Rattle.std.proofs.lemmas.Result.{on_ok_weaker}
use Rattle.dbtg_going.specs.Goings.{comes_of}
use Rattle.dbtg_explore.specs.Inside.Keys.{due_numbers}
use Rattle.dbtg_explore.proofs.Placed.{none_got, one_got}
use Rattle.dbtg_explore.proofs.key.spell_program.Goals as goal

pub returns-in-Some : goal.returns-in-Some
returns-in-Some c =
    let goings = c.args.goings.now in
    let going = c.in-Some.going.now in
    let found = one_got goings goings c.args.unit going c.requires refl c.in-Some.ensures.lookup.0 c.in-Some.ensures.lookup.1 in
    on_ok_weaker c.spell_going.result
    (λ is. is ∙ ap (λ l. c.args.out.now.items ++ l) (sym (append-nil (due_numbers c.args.read.now (comes_of going))) ∙ ap (λ o. flat_map (λ g. due_numbers c.args.read.now (comes_of g)) (option_to_list o)) (sym found))) c.spell_going.ensures

pub returns-in-None : goal.returns-in-None
returns-in-None c =
    let goings = c.args.goings.now in
    let none = none_got goings goings c.args.unit c.requires refl c.in-None.ensures.lookup.0 in
    sym (append-nil c.args.out.now.items) ∙ ap (λ o. c.args.out.now.items ++ flat_map (λ g. due_numbers c.args.read.now (comes_of g)) (option_to_list o)) (sym none)
