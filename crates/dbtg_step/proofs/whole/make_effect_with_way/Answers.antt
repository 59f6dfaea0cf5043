use Rattle.std.proofs.Common.{◌∙◌, List, ap, not, sym}
use Rattle.std.specs.List.{list_all}
use Rattle.std.proofs.lemmas.Result.{IfOk-weaker}
use Rattle.dbtg_cells.specs.declared.cell.Cell.{Cell}
use Rattle.dbtg_cells.specs.declared.name.CellName.{CellName}
use Rattle.dbtg_cells.specs.Names.{name_eq}
use Rattle.dbtg_unit.specs.Database.State.Legal.{pairwise}
use Rattle.dbtg_unit.specs.Hands.Local.{holds}
use Rattle.dbtg_unit.specs.declared.unit.Answer.{Answer}
use Rattle.dbtg_step.specs.declared.way_back.WayBack.{WayBack}
use Rattle.dbtg_step.proofs.MadeWhole.Wholes.{also_guessed, held_once, made_effect, still_all}
use Rattle.dbtg_step.proofs.whole.make_effect_with_way.Goals as goal

pub returns-clause-effect : goal.returns-clause-effect
returns-clause-effect c =
    let schema = c.args.schema.now in
    let capacity = c.args.capacity in
    let old = c.args.held.now in
    let mid = c.guess_owners.new.held in
    let x = c.args.statement.now in
    let guessed = c.in_ok-guess_owners.ensures.guessed in
    let once = ap (pairwise (λ (e f : CellName × Cell). not (name_eq e.0 f.0))) c.guess_owners.ensures.cells ∙ held_once schema capacity old c.requires.all in
    IfOk-weaker c.make_with_way.result _ _
    (λ made h db a. made_effect schema capacity c.args.unit.now c.make_with_way.new.unit x old mid c.make_with_way.new.held made.0 guessed db (h once db (also_guessed schema capacity c.args.unit.now c.make_with_way.new.unit x old mid c.make_with_way.new.held made.0 guessed db a)))
    c.make_with_way.ensures.made

pub returns-clause-back : goal.returns-clause-back
returns-clause-back c =
    let guessed = c.in_ok-guess_owners.ensures.guessed in
    IfOk-weaker c.make_with_way.result _ _
    (λ made back.
    let also = also_guessed c.args.schema.now c.args.capacity c.args.unit.now c.make_with_way.new.unit c.args.statement.now c.args.held.now c.guess_owners.new.held c.make_with_way.new.held made.0 guessed in
    record {
      cells = λ db a. back.cells db (also db a);
      only = λ db a. back.only db (also db a);
      held = λ db a. ap (λ (es : List (CellName × Cell)). list_all (holds es) made.1.names) (sym c.guess_owners.ensures.cells) ∙ back.held db (also db a);
      once = back.once;
      unit_is = back.unit_is;
    })
    c.make_with_way.ensures.back

pub returns-clause-all : goal.returns-clause-all
returns-clause-all c =
    let once = ap (pairwise (λ (e f : CellName × Cell). not (name_eq e.0 f.0))) c.guess_owners.ensures.cells ∙ held_once c.args.schema.now c.args.capacity c.args.held.now c.requires.all in
    still_all c.args.schema.now c.args.capacity c.args.unit.now c.make_with_way.new.unit c.args.statement.now c.args.held.now c.guess_owners.new.held c.make_with_way.new.held c.in_ok-guess_owners.ensures.guessed c.requires.all c.requires.agrees.0 c.requires.agrees.1
    (λ (made : Answer × WayBack). made.0) c.make_with_way.result (IfOk-weaker c.make_with_way.result _ _ (λ made h. h once) c.make_with_way.ensures.made) c.make_with_way.ensures.shows
