use Rattle.std.proofs.Common.{◌∙◌, ap, arith, map, sym}
use Rattle.std.proofs.lemmas.List.{length-map}
use Rattle.std.specs.Option.{option_to_list}
use Rattle.std.specs.Prelude.{reverse}
use Rattle.std.specs.Vec.{vec_items}
use Rattle.dbtg_step.proofs.MadeWhole.TurnsWhole.{is_next}
use Rattle.dbtg_step.proofs.running.make_turn.Goals as goal

pub make-requires-clause-numbered : goal.make-requires-clause-numbered
make-requires-clause-numbered c =
    let left = map (λ v. reverse (vec_items v)) c.args.left.now.items in
    let given = ap option_to_list (sym c.in-Some.is) ∙ c.next_statement.ensures.given in
    (is_next c.args.database.now.schema left c.args.unit c.in-Some.statement given).numbered

pub make-requires-clause-within : goal.make-requires-clause-within
make-requires-clause-within c =
    let left = c.args.left.now.items in
    let given = ap option_to_list (sym c.in-Some.is) ∙ c.next_statement.ensures.given in
    let next = is_next c.args.database.now.schema (map (λ v. reverse (vec_items v)) left) c.args.unit c.in-Some.statement given in
    omega (arith, next.within, c.requires.units, length-map left (λ v. reverse (vec_items v)))

pub make-requires-clause-fitting : goal.make-requires-clause-fitting
make-requires-clause-fitting c =
    let left = map (λ v. reverse (vec_items v)) c.args.left.now.items in
    let given = ap option_to_list (sym c.in-Some.is) ∙ c.next_statement.ensures.given in
    (is_next c.args.database.now.schema left c.args.unit c.in-Some.statement given).fitting c.requires.fitting
