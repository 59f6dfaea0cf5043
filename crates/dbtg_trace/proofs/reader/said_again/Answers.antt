use Rattle.std.proofs.Common.{◌≡◌, ◌∷◌, ◌∙◌, [], List, Some, ap, slice_get, subst, sym}
use Rattle.dbtg_unit.specs.declared.statement.Statement.{Statement}
use Rattle.dbtg_script.specs.LineCache.{IsRead}
use Rattle.dbtg_script.proofs.Public.{at_index}
use Rattle.dbtg_trace.specs.declared.traced.Traced.{Traced}
use Rattle.dbtg_trace.specs.Inside.Reading.{statements_in}
use Rattle.dbtg_trace.proofs.CachedSteps.{on_err, read_again}
use Rattle.dbtg_trace.proofs.reader.said_again.Goals as goal

pub returns-in_ok-copy-in-Some-get-clause-says : goal.returns-in_ok-copy-in-Some-get-clause-says
returns-in_ok-copy-in-Some-get-clause-says c = λ schema h.
    let ts = c.args.so_far.now.entries.items in
    let at = c.in-Some.at in
    let entry = c.in-Some-get.entry.now in
    let there : slice_get ts at ≡ Some entry = ap (λ (xs : List Traced). slice_get xs at) (sym c.deref.ensures.value) ∙ at_index c.deref.result.now at entry c.in-Some-get.ensures.lookup.3.0 c.in-Some-get.ensures.lookup.3.1 in
    subst (λ (s : Statement). IsRead schema (s ∷ []) c.args.line.now 0) (sym c.in_ok-copy-in-Some-get.ensures) (read_again schema ts c.args.line.now at entry (c.in-Some.ensures schema (statements_in ts) h) there)

pub returns-in_err-copy-in-Some-get-clause-memory : goal.returns-in_err-copy-in-Some-get-clause-memory
returns-in_err-copy-in-Some-get-clause-memory c = λ schema h.
    let ts = c.args.so_far.now.entries.items in
    let at = c.in-Some.at in
    let entry = c.in-Some-get.entry.now in
    let there : slice_get ts at ≡ Some entry = ap (λ (xs : List Traced). slice_get xs at) (sym c.deref.ensures.value) ∙ at_index c.deref.result.now at entry c.in-Some-get.ensures.lookup.3.0 c.in-Some-get.ensures.lookup.3.1 in
    on_err c.from_residual.result _ (entry.statement, read_again schema ts c.args.line.now at entry (c.in-Some.ensures schema (statements_in ts) h) there)
