use Rattle.std.proofs.Common.{◌∙◌, ap, map}
use Rattle.std.proofs.lemmas.Result.{IfOk-weaker}
use Rattle.dbtg_unit.specs.declared.unit.Entry.{Entry}
use Rattle.dbtg_script.specs.Printing.WordTexts.{turns_text}
use Rattle.dbtg_shell.proofs.SessionTurns.{are_turns}
use Rattle.dbtg_shell.proofs.turns.turns_of.Goals as goal

pub returns : goal.returns
returns c =
    let units = c.as_slice.ensures.value ∙ c.in_ok-units.ensures ∙ ap (map (λ (e : Entry). e.unit)) c.history.ensures.history in
    IfOk-weaker c.turns_text.result _ _ (λ turns e. are_turns c.args.session.now c.history.ensures.scripts c.history.ensures.of turns.items (e ∙ ap turns_text units)) c.turns_text.ensures
