use Rattle.std.proofs.Common.{◌∙◌, ap, not}
use Rattle.std.proofs.lemmas.Result.{IfOk-weaker}
use Rattle.dbtg_cells.specs.declared.cell.Cell.{Cell}
use Rattle.dbtg_cells.specs.declared.name.CellName.{CellName}
use Rattle.dbtg_cells.specs.Names.{name_eq}
use Rattle.dbtg_unit.specs.Database.State.Legal.{pairwise}
use Rattle.dbtg_step.proofs.MadeWhole.Wholes.{also_guessed, held_once, made_effect, still_all}
use Rattle.dbtg_step.proofs.whole.make_effect.Goals as goal

pub make-requires-clause-once : goal.make-requires-clause-once
make-requires-clause-once c =
    ap (pairwise (λ (e f : CellName × Cell). not (name_eq e.0 f.0))) c.guess_owners.ensures.cells ∙ held_once c.args.schema.now c.args.capacity c.args.held.now c.requires.all

pub returns-clause-effect : goal.returns-clause-effect
returns-clause-effect c =
    let schema = c.args.schema.now in
    let capacity = c.args.capacity in
    let old = c.args.held.now in
    let mid = c.guess_owners.new.held in
    let x = c.args.statement.now in
    let guessed = c.in_ok-guess_owners.ensures.guessed in
    IfOk-weaker c.make.result _ _
    (λ answer made db a. made_effect schema capacity c.args.unit.now c.make.new.unit x old mid c.make.new.held answer guessed db (made db (also_guessed schema capacity c.args.unit.now c.make.new.unit x old mid c.make.new.held answer guessed db a)))
    c.make.ensures.made

pub returns-clause-all : goal.returns-clause-all
returns-clause-all c =
    still_all c.args.schema.now c.args.capacity c.args.unit.now c.make.new.unit c.args.statement.now c.args.held.now c.guess_owners.new.held c.make.new.held c.in_ok-guess_owners.ensures.guessed c.requires.all c.requires.agrees.0 c.requires.agrees.1
    (λ answer. answer) c.make.result c.make.ensures.made c.make.ensures.shows
