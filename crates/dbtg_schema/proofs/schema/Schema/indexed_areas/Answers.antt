use Rattle.std.proofs.Common.{◌≡◌, ℕ, Some, slice_get, subst, sym}
use Rattle.dbtg_schema.specs.Lists.{Lists}
use Rattle.dbtg_schema.specs.Inside.Erasing.{AreErased}
use Rattle.dbtg_schema.proofs.Indexes.EachAt.{one_at}
use Rattle.dbtg_schema.proofs.schema.Schema.indexed_areas.Goals as goal

pub returns-in-Some : goal.returns-in-Some
returns-in-Some c =
    let inside = c.self.inside in
    let lists : Lists = record { name = inside.name; areas = inside.areas; types = inside.types; sets = inside.sets } in
    let each = c.self.inside.erased in
    let marks = c.in-Some.areas.now in
    let at : slice_get each c.args.rtype ≡ Some marks = sym (subst (λ (t : ℕ). Some marks ≡ slice_get each t) c.index.ensures c.in-Some.ensures) in
    subst (λ (schema : Lists). AreErased schema c.args.rtype marks) c.self.view_is (one_at (AreErased lists) each c.args.rtype marks c.self.invariant.2 at)
