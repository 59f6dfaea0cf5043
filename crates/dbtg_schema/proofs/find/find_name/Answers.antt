use Rattle.std.proofs.Common.{sym, ap, ◌∙◌}
use Rattle.std.specs.Str.{bytes_eq}
use Rattle.dbtg_schema.proofs.Indexes.Places.{here, further}
use Rattle.dbtg_schema.proofs.find.find_name.Goals as goal

pub returns-then-eq : goal.returns-then-eq
returns-then-eq g c =
    let test = ap (bytes_eq c.args.name.now) (sym c.name.ensures) ∙ sym c.eq.ensures ∙ c.if-eq.true in
    let h = here (bytes_eq c.args.name.now) g.T.HasName.name_of c.loop-i.i c.args.things.now c.index-things-i.result c.loop-i-test.true c.index-things-i.is test in
    sym h ∙ c.loop-i.invariant

pub loop-i-preserved : goal.loop-i-preserved
loop-i-preserved g c =
    let test = ap (bytes_eq c.args.name.now) (sym c.name.ensures) ∙ sym c.eq.ensures ∙ c.if-eq.false in
    further (bytes_eq c.args.name.now) g.T.HasName.name_of c.loop-i.i c.args.things.now c.index-things-i.result c.loop-i-test.true c.index-things-i.is test ∙ c.loop-i.invariant
