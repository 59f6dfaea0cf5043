use Rattle.std.proofs.Common.{◌≡◌, ◌≤◌, List, length, map, sym, ap, subst, ◌∙◌, arith, rules}
use Rattle.std.specs.List.{All}
use Rattle.dbtg_schema.specs.declared.role.Role.TheVariants as role
use Rattle.dbtg_schema.specs.declared.shape.RecordType.{RecordType}
use Rattle.dbtg_schema.specs.Texts.SchemaGrammar.{Labelled}
use Rattle.dbtg_schema.specs.Texts.Labels.{until, entries}
use Rattle.dbtg_schema.specs.Texts.SchemaLists.{area_from, record_type_from, schema_of}
use Rattle.dbtg_schema.specs.Lists.{Lists}
use Rattle.dbtg_schema.specs.WellFormed.{IsSchema}
use Rattle.dbtg_schema.specs.Inside.Views.{views}
use Rattle.dbtg_schema.proofs.Indexes.Places.{length_mapped}
use Rattle.dbtg_schema.proofs.Sound.Fit.{items_fit}
use Rattle.dbtg_schema.proofs.schema.from_words.Goals as goal

pub types-requires-clause-areas_fit : goal.types-requires-clause-areas_fit
types-requires-clause-areas_fit c =
    let same = ap length c.deref.ensures.value ∙ ap length c.in_ok-areas.ensures ∙ length_mapped area_from role.AreaEntry (views c.args.words.now) in
    let h = c.requires.limits.areas in
    omega (arith, same, h)

pub sets-requires-clause-types_fit : goal.sets-requires-clause-types_fit
sets-requires-clause-types_fit c =
    let types_same = c.deref-2.ensures.value ∙ c.in_ok-types.ensures ∙ ap (λ (ws : List Labelled). map (record_type_from c.deref.result.now) (entries role.RecordEntry ws)) c.front.ensures in
    let same = ap length types_same ∙ length_mapped (record_type_from c.deref.result.now) role.RecordEntry (until role.SetEntry (views c.args.words.now)) in
    let h = c.requires.limits.types in
    omega (arith, same, h)

pub sets-requires-clause-items_fit : goal.sets-requires-clause-items_fit
sets-requires-clause-items_fit c =
    let types_same = c.deref-2.ensures.value ∙ c.in_ok-types.ensures ∙ ap (λ (ws : List Labelled). map (record_type_from c.deref.result.now) (entries role.RecordEntry ws)) c.front.ensures in
    subst (λ (ts : List RecordType). All (λ r. length r.items ≤ 16) ts) (sym types_same) (items_fit c.deref.result.now (entries role.RecordEntry (until role.SetEntry (views c.args.words.now))) c.requires.limits.items)

pub of_lists-requires : goal.of_lists-requires
of_lists-requires c =
    let same : ◌≡◌ {A = Lists} (record { name = c.in_ok-name.name; areas = c.of.result; types = c.of-2.result; sets = c.of-3.result }) (schema_of (views c.args.words.now)) = search rules in
    subst IsSchema (sym same) c.requires.sound
