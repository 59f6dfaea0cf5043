use Rattle.std.proofs.Common.{◌≡◌, ◌∙◌, ◌-◌, Some, ap, arith, length, refl, slice_get, sym}
use Rattle.std.specs.Prelude.{option_map}
use Rattle.std.proofs.lemmas.Option.{slice_get_read}
use Rattle.std.proofs.lemmas.Result.{IfOk-weaker}
use Rattle.dbtg_unit.specs.Database.State.Image.{image_of}
use Rattle.dbtg_step.specs.Core.Whole.{state_now}
use Rattle.dbtg_session.specs.Replies.{unit_said}
use Rattle.dbtg_session.specs.UnitWords.{unit_words}
use Rattle.dbtg_session.proofs.replies.unit_reply.Goals as goal

pub returns : goal.returns
returns c =
    let m = c.args.session.now.making in
    let said = unit_words m.schema (image_of m.schema m.capacity (state_now m).database) in
    let units = c.units.result.now in
    let shown = c.index-units-unit.result in
    let at : slice_get units (c.args.unit - 1) ≡ Some shown = slice_get_read units (length units) (c.args.unit - 1) shown refl (omega arith) c.index-units-unit.is in
    IfOk-weaker c.unit_words.result _ (λ out. unit_said m c.args.unit ≡ Some out.items)
    (λ out is.
    ap (λ us. option_map said (slice_get us (c.args.unit - 1))) (sym c.units.ensures.units) ∙ ap (option_map said) at
    ∙ ap Some (sym (is ∙ (λ i. unit_words (c.schema.ensures i) (c.in_ok-image.ensures i) shown))))
    c.unit_words.ensures
