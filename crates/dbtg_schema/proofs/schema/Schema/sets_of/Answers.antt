use Rattle.std.proofs.Common.{◌∙◌, ℕ, [], ap, slice_get, subst}
use Rattle.std.specs.Prelude.{IfNone, IfSome}
use Rattle.dbtg_schema.specs.Lists.{Lists}
use Rattle.dbtg_schema.specs.Inside.SetsOfTypes.{AreSetsOf}
use Rattle.dbtg_schema.proofs.Indexes.SetsOfTypes.{found_are_sets_of, none_found_is_none}
use Rattle.dbtg_schema.proofs.schema.Schema.sets_of.Goals as goal

pub returns-clause-listed : goal.returns-clause-listed
returns-clause-listed c =
    let inside = c.self.inside in
    let lists : Lists = record { name = inside.name; areas = inside.areas; types = inside.types; sets = inside.sets } in
    let t = c.args.rtype in
    let found = c.get.ensures ∙ ap (λ (k : ℕ). slice_get inside.sets_of_types k) c.index.ensures in
    subst (λ (schema : Lists). IfSome c.get.result (λ sets. AreSetsOf schema t sets.now)) c.self.view_is
    (found_are_sets_of lists c.self.invariant.0 inside.sets_of_types t c.self.invariant.4 (λ sets. sets.now) c.get.result found)

pub returns-clause-past : goal.returns-clause-past
returns-clause-past c =
    let inside = c.self.inside in
    let lists : Lists = record { name = inside.name; areas = inside.areas; types = inside.types; sets = inside.sets } in
    let t = c.args.rtype in
    let found = c.get.ensures ∙ ap (λ (k : ℕ). slice_get inside.sets_of_types k) c.index.ensures in
    subst (λ (schema : Lists). IfNone c.get.result (AreSetsOf schema t (record { automatic = []; owned = [] }))) c.self.view_is
    (none_found_is_none lists c.self.invariant.0 inside.sets_of_types t c.self.invariant.4 (λ sets. sets.now) c.get.result found)
