use Rattle.std.proofs.Common.{◌∙◌, ap, refl, ◌+◌, Some, None}
use Rattle.dbtg_cells.specs.Numbers.{is_free, is_used}
use Rattle.dbtg_cells.specs.Shown.{ExtentValue}
use Rattle.dbtg_unit.specs.Hands.Edits.{entered, vacated, revalued}
use Rattle.dbtg_unit.proofs.Hands.Changes.OneEntry.{entry_is}
use Rattle.dbtg_unit.proofs.apply.edit_extent.Goals as goal

pub returns-in-EnterNumber : goal.returns-in-EnterNumber
returns-in-EnterNumber c =
    let can = rw c.in-EnterNumber.is at c.requires in
    rw c.in-EnterNumber.is (ap ExtentValue (c.enter.ensures
    ∙ entry_is (entered c.in-EnterNumber.calc) (λ last. record { last = last + 1; calc = Some c.in-EnterNumber.calc }) is_free c.in-EnterNumber.number c.args.extent.now.numbers (λ e. refl) can))

pub returns-in-LeaveNumber : goal.returns-in-LeaveNumber
returns-in-LeaveNumber c =
    let can = rw c.in-LeaveNumber.is at c.requires in
    rw c.in-LeaveNumber.is (ap ExtentValue (c.leave.ensures
    ∙ entry_is vacated (λ last. record { last = last; calc = None }) is_used c.in-LeaveNumber.number c.args.extent.now.numbers (λ e. refl) can))

pub returns-in-ChangeNumber : goal.returns-in-ChangeNumber
returns-in-ChangeNumber c =
    let can = rw c.in-ChangeNumber.is at c.requires in
    rw c.in-ChangeNumber.is (ap ExtentValue (c.set_values.ensures
    ∙ entry_is (revalued c.in-ChangeNumber.calc) (λ last. record { last = last; calc = Some c.in-ChangeNumber.calc }) is_used c.in-ChangeNumber.number c.args.extent.now.numbers (λ e. refl) can))
