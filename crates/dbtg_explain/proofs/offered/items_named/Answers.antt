use Rattle.std.proofs.Common.{◌≡◌, ◌∙◌, ℕ, List, [], ap, map, rules}
use Rattle.std.specs.Borrow.{Bor}
use Rattle.std.proofs.lemmas.Iterator.{YieldsList-from_map_by, YieldsList-from_slice}
use Rattle.std.proofs.lemmas.Iterator.Consumers.{YieldsList-at, map_from_collect}
use Rattle.std.proofs.lemmas.Result.{IfOk-weaker}
use Rattle.std.specs.Prelude.{Option, option_map, unwrap_or}
use Rattle.dbtg_schema.specs.Structure.{item_list}
use Rattle.dbtg_schema.specs.declared.shape.Item.{Item}
use Rattle.dbtg_explain.specs.Offered.{items_named}
use Rattle.dbtg_explain.proofs.offered.items_named.Goals as goal

pub returns-in-Some : goal.returns-in-Some
returns-in-Some c =
    let schema = c.args.schema.now in
    let name = λ (item : Item). item.name in
    let items = c.items.result.now in
    let these = ap (map name) c.items.ensures.items ∙ ap (λ (place : Option ℕ). map name (unwrap_or (option_map (item_list schema) place) [])) c.in-Some.ensures in
    IfOk-weaker c.collect.result (λ names. map (λ (one : Bor (List ℕ)). one.now) names.items ≡ map name items) (λ names. map (λ (one : Bor (List ℕ)). one.now) names.items ≡ items_named schema c.args.rtype.now)
    (λ names is. is ∙ these)
    (map_from_collect c.collect.result c.collect.ensures.ran (YieldsList-from_map_by _ (λ (one : Bor (List ℕ)). one.now) name (YieldsList-at c.map.ensures.source (YieldsList-from_slice items c.iter.ensures.rest)) c.map.ensures.closure (λ x r q k. search rules)))
