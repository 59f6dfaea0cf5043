use Rattle.std.proofs.Common.{◌≡◌, ◌++◌, [], map, sym, subst, arith}
use Rattle.std.specs.Prelude.{IfOk, if◌then◌else◌}
use Rattle.dbtg_unit.specs.Database.Laws.Replay.{entries_of}
use Rattle.dbtg_running.specs.Echoing.{lines_made}
use Rattle.dbtg_running.proofs.Echoed.{mine_first}
use Rattle.dbtg_running.proofs.echo.Followed.follow.Goals as goal

pub returns : goal.returns
returns c = λ es.
    let schema = c.args.self.now.schema.now in
    let program = c.args.self.now.program.now in
    let ls = map (λ l. l.now) c.args.self.now.lines.now in
    let mine : c.args.entry.now.unit ≡ c.args.unit = omega (arith, c.if-entry-unit.false) in
    subst
    (λ xs. IfOk c.push_made.result (λ on. c.args.made.now.items ++ lines_made schema program ls c.args.state.now xs ≡ c.push_made.new.made.items ++ (if on then lines_made schema program ls c.push_made.new.state (entries_of c.args.unit es) else [])))
    (sym (mine_first c.args.unit c.args.entry.now es mine)) (c.push_made.ensures (entries_of c.args.unit es))
