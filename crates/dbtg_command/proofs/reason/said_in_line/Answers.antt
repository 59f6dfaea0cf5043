use Rattle.std.proofs.Common.{inl, map}
use Rattle.std.proofs.lemmas.Result.{IfOk-weaker}
use Rattle.dbtg_command.specs.Reasons.{SaysOfLine}
use Rattle.dbtg_command.specs.Sources.{order_map}
use Rattle.dbtg_command.proofs.Reasons.{no_schema, said_by_schema}
use Rattle.dbtg_command.proofs.reason.said_in_line.Goals as goal

pub returns-in-Ok : goal.returns-in-Ok
returns-in-Ok g c =
    let files = c.args.files.now in
    let has = g.F.FileReader.has files.reader.now in
    let lacks = g.F.FileReader.lacks files.reader.now in
    let paths = files.paths.now in
    IfOk-weaker c.said_in_text.result _ (λ said. SaysOfLine has lacks c.args.kind paths.schema.now c.args.number c.args.line c.args.text.now said.items)
    (λ said is. said_by_schema has lacks paths.schema.now (map (λ path. path.now) paths.scripts.now) (order_map (λ path. path.now) paths.order) c.args.kind c.in-Ok.known c.args.number c.args.line c.args.text.now said.items c.in-Ok.ensures.read is)
    c.said_in_text.ensures

pub returns-in-Err : goal.returns-in-Err
returns-in-Err g c =
    let files = c.args.files.now in
    let has = g.F.FileReader.has files.reader.now in
    let lacks = g.F.FileReader.lacks files.reader.now in
    let paths = files.paths.now in
    IfOk-weaker c.nothing_said.result _ (λ said. SaysOfLine has lacks c.args.kind paths.schema.now c.args.number c.args.line c.args.text.now said.items)
    (λ said none. inl (no_schema has lacks paths.schema.now (map (λ path. path.now) paths.scripts.now) (order_map (λ path. path.now) paths.order) c.in-Err.fault c.in-Err.ensures.refused none.1, none.0))
    c.nothing_said.ensures
