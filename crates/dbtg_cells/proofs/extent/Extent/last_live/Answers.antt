use Rattle.std.proofs.Common.{◌≡◌, ◌∙◌, ap, arith}
use Rattle.std.proofs.lemmas.Grind.{common_steps}
use Rattle.dbtg_schema.specs.Lookups.{final}
use Rattle.dbtg_cells.specs.Numbers.{numbers_where, is_used}
use Rattle.dbtg_cells.proofs.NumbersLeftOut.{all_numbered}
use Rattle.dbtg_cells.proofs.extent.Extent.last_live.Goals as goal

pub returns : goal.returns
returns c =
    let last : c.copied.result ≡ final c.self.inside.lists.value.live.items = grind (arith, common_steps) in
    last ∙ ap final ((all_numbered _ _ _ c.self.inside.lists.value.capacity c.self.invariant.0).live_is) ∙ ap (λ e. final (numbers_where is_used e.numbers)) c.self.view_is
