use Rattle.std.proofs.Common.{◌≡◌, ◌∙◌, List, Some, ap, slice_get, sym}
use Rattle.dbtg_script.proofs.Public.{at_index}
use Rattle.dbtg_trace.specs.declared.traced.Said.{Said}
use Rattle.dbtg_trace.specs.declared.traced.Traced.{Traced}
use Rattle.dbtg_trace.proofs.CachedAnswers.{said_there}
use Rattle.dbtg_trace.proofs.reader.read_answer.Goals as goal

pub returns-in_ok-copy-in-Some-get : goal.returns-in_ok-copy-in-Some-get
returns-in_ok-copy-in-Some-get c =
    let schema = c.args.schema.now in
    let ts = c.args.so_far.now.entries.items in
    let at = c.in-Some.at in
    let entry = c.in-Some-get.entry.now in
    let there : slice_get ts at ≡ Some entry = ap (λ (xs : List Traced). slice_get xs at) (sym c.deref.ensures.value) ∙ at_index c.deref.result.now at entry c.in-Some-get.ensures.lookup.3.0 c.in-Some-get.ensures.lookup.3.1 in
    ap (λ (x : Said). Some x) c.in_ok-copy-in-Some-get.ensures ∙ sym (said_there schema ts c.args.answer.now at entry (c.in-Some.ensures schema ts c.requires) there)
