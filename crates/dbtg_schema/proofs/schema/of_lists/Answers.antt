use Rattle.std.proofs.Common.{ℕ, Bool, List, length, ◌∙◌, subst, sym}
use Rattle.dbtg_schema.specs.Inside.Connecting.{AreConnecting, AreConnectingOfEach}
use Rattle.dbtg_schema.specs.Inside.Erasing.{AreErased, AreErasedOfEach}
use Rattle.dbtg_schema.specs.Lists.{Lists}
use Rattle.dbtg_schema.specs.Inside.SetsOfTypes.{AreSetsOfEach}
use Rattle.dbtg_schema.specs.Inside.NameIndexes.{IsSchemaIndex}
use Rattle.dbtg_schema.specs.declared.shape.Area.{Area}
use Rattle.dbtg_schema.specs.declared.shape.RecordType.{RecordType}
use Rattle.dbtg_schema.specs.declared.shape.SetType.{SetType}
use Rattle.dbtg_schema.proofs.Indexes.EachAt.{none_at}
use Rattle.dbtg_schema.proofs.schema.of_lists.Goals as goal

pub invariant_of-schema : goal.invariant_of-schema
invariant_of-schema c =
    let lists : Lists = record { name = c.args.name; areas = c.args.areas; types = c.args.types; sets = c.args.sets } in
    let index = c.in_ok-index.index in
    let each = c.in_ok-sets_of_types.sets_of_types in (
      c.requires,
      subst (λ (sets : List SetType). IsSchemaIndex index c.args.areas c.args.types sets) c.as_slice-4.ensures
          (subst (λ (types : List RecordType). IsSchemaIndex index c.args.areas types c.as_slice-4.result.now) c.as_slice-3.ensures
          (subst (λ (areas : List Area). IsSchemaIndex index areas c.as_slice-3.result.now c.as_slice-4.result.now) c.as_slice-2.ensures c.in_ok-index.ensures)),
      subst (λ (each : List (List Bool)). AreErasedOfEach each lists) (sym (c.of-3.ensures ∙ c.new-2.ensures.items)) (none_at (AreErased lists)),
      subst (λ (each : List (List Bool)). AreConnectingOfEach each lists) (sym (c.of-2.ensures ∙ c.new.ensures.items)) (none_at (AreConnecting lists)),
      subst (λ (sets : List SetType). AreSetsOfEach each (length c.args.types) sets) c.as_slice.ensures
          (subst (λ (many : ℕ). AreSetsOfEach each many c.as_slice.result.now) c.len.ensures c.in_ok-sets_of_types.ensures),
    )
