use Rattle.std.proofs.Common.{◌≡◌, ◌∙◌, ℕ, List, ap, map, rules}
use Rattle.std.specs.Borrow.{Bor}
use Rattle.std.proofs.lemmas.Iterator.{YieldsList-from_map_by, YieldsList-from_slice}
use Rattle.std.proofs.lemmas.Iterator.Consumers.{YieldsList-at, map_from_collect}
use Rattle.std.proofs.lemmas.Result.{IfOk-weaker}
use Rattle.dbtg_schema.specs.declared.shape.Area.{Area}
use Rattle.dbtg_schema.specs.declared.shape.RecordType.{RecordType}
use Rattle.dbtg_schema.specs.declared.shape.SetType.{SetType}
use Rattle.dbtg_explain.proofs.offered.names_for.Goals as goal

pub returns-in-4 : goal.returns-in-4
returns-in-4 c =
    let name = λ (one : Area). one.name in
    rw c.in-4.is (IfOk-weaker c.collect.result (λ names. map (λ (one : Bor (List ℕ)). one.now) names.items ≡ map name c.areas.result.now) (λ names. map (λ (one : Bor (List ℕ)). one.now) names.items ≡ map name c.args.schema.now.areas)
    (λ names is. is ∙ ap (map name) c.areas.ensures.areas)
    (map_from_collect c.collect.result c.collect.ensures.ran (YieldsList-from_map_by _ (λ (one : Bor (List ℕ)). one.now) name (YieldsList-at c.map.ensures.source (YieldsList-from_slice c.areas.result.now c.iter.ensures.rest)) c.map.ensures.closure (λ x r q k. search rules))))

pub returns-in-5 : goal.returns-in-5
returns-in-5 c =
    let name = λ (one : RecordType). one.name in
    rw c.in-5.is (IfOk-weaker c.collect-in-5.result (λ names. map (λ (one : Bor (List ℕ)). one.now) names.items ≡ map name c.types.result.now) (λ names. map (λ (one : Bor (List ℕ)). one.now) names.items ≡ map name c.args.schema.now.types)
    (λ names is. is ∙ ap (map name) c.types.ensures.types)
    (map_from_collect c.collect-in-5.result c.collect-in-5.ensures.ran (YieldsList-from_map_by _ (λ (one : Bor (List ℕ)). one.now) name (YieldsList-at c.map-in-5.ensures.source (YieldsList-from_slice c.types.result.now c.iter-in-5.ensures.rest)) c.map-in-5.ensures.closure (λ x r q k. search rules))))

pub returns-in-6 : goal.returns-in-6
returns-in-6 c =
    let name = λ (one : SetType). one.name in
    rw c.in-6.is (IfOk-weaker c.collect-in-6.result (λ names. map (λ (one : Bor (List ℕ)). one.now) names.items ≡ map name c.sets.result.now) (λ names. map (λ (one : Bor (List ℕ)). one.now) names.items ≡ map name c.args.schema.now.sets)
    (λ names is. is ∙ ap (map name) c.sets.ensures.sets)
    (map_from_collect c.collect-in-6.result c.collect-in-6.ensures.ran (YieldsList-from_map_by _ (λ (one : Bor (List ℕ)). one.now) name (YieldsList-at c.map-in-6.ensures.source (YieldsList-from_slice c.sets.result.now c.iter-in-6.ensures.rest)) c.map-in-6.ensures.closure (λ x r q k. search rules))))
