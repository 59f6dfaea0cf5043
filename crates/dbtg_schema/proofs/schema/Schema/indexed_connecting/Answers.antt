use Rattle.std.proofs.Common.{◌≡◌, ℕ, Some, slice_get, subst, sym}
use Rattle.dbtg_schema.specs.Lists.{Lists}
use Rattle.dbtg_schema.specs.Inside.Connecting.{AreConnecting}
use Rattle.dbtg_schema.proofs.Indexes.EachAt.{one_at}
use Rattle.dbtg_schema.proofs.schema.Schema.indexed_connecting.Goals as goal

pub returns-in-Some : goal.returns-in-Some
returns-in-Some c =
    let each = c.self.inside.connecting in
    let marks = c.in-Some.sets.now in
    let at : slice_get each c.args.rtype ≡ Some marks = sym (subst (λ (t : ℕ). Some marks ≡ slice_get each t) c.index.ensures c.in-Some.ensures) in
    subst (λ (schema : Lists). AreConnecting schema c.args.rtype marks) c.self.view_is (one_at (AreConnecting _) each c.args.rtype marks c.self.invariant.3 at)
