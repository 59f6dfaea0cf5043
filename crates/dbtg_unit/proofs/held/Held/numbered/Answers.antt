use Rattle.std.proofs.Common.{◌≡◌, ◌∙◌, ap, length, subst, sym}
use Rattle.std.specs.Map.{lookup}
use Rattle.indexmap.specs.IndexMap.{get}
use Rattle.dbtg_unit.specs.declared.names.FirstNames.TheVariants.{Numbered}
use Rattle.dbtg_unit.specs.Hands.Hands.{StandAtNumbers}
use Rattle.dbtg_unit.specs.Inside.HeldNames.{AreNumbered, IsIndexOf, key_eq}
use Rattle.dbtg_unit.proofs.Hands.Holding.NumberedNames.{all_are_first, all_are_numbered}
use Rattle.dbtg_unit.proofs.held.Held.numbered.Goals as goal

pub invariant_of-result : goal.invariant_of-result
invariant_of-result c =
    let layout = c.args.layout in
    let names = c.from_vec-names.result.items in
    let index = get key_eq c.new-2.result in
    let count : c.len.result ≡ length names = c.len.ensures.value in
    let numbered = subst (λ ns. StandAtNumbers layout (length ns) ns) (sym c.from_vec-names.ensures.items) c.requires.numbered in (
      ap length c.from_vec.ensures.items ∙ c.requires.named ∙ ap length (sym c.from_vec-names.ensures.items),
      subst (λ n. IsIndexOf index n names) (sym count) (all_are_first index names (λ q. ap (lookup (key_eq q)) c.new-2.ensures.empty)),
      subst (λ n. AreNumbered (Numbered layout n) names) (sym count) (all_are_numbered layout names numbered),
    )
