use Rattle.std.proofs.Common.{◌∙◌, ap, length, refl}
use Rattle.std.specs.Prelude.{◌==◌, unwrap_or}
use Rattle.dbtg_forms.proofs.Lists.{position_found}
use Rattle.dbtg_forms.proofs.spelling.place.Goals as goal

pub returns : goal.returns
returns c =
    c.unwrap_or.ensures ∙ ap (λ o. unwrap_or o (length c.args.order.now)) c.find.ensures ∙ position_found (λ y. c.args.vertex == y) c.args.order.now (length c.args.order.now) refl
