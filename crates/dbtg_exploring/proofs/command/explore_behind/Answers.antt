use Rattle.std.proofs.Common.{rules, false, subst}
use Rattle.std.proofs.lemmas.Result.{IfOk-weaker}
use Rattle.dbtg_exploring.specs.Exploring.{IsListedIf, IsPrinted, meeting_of}
use Rattle.dbtg_exploring.proofs.MeetingsRead.{without_memory}
use Rattle.dbtg_exploring.proofs.command.explore_behind.Goals as goal

pub returns-in_err-begun-clause-refused : goal.returns-in_err-begun-clause-refused
returns-in_err-begun-clause-refused g c =
    let told = without_memory c.args.setting.now.schema.now c.args.setting.now.programs.now c.args.setting.now.told.now c.args.setting.now.asked in
    search (rules, told)

pub returns-clause-done : goal.returns-clause-done
returns-clause-done g c =
    let schema = c.args.setting.now.schema.now in
    let programs = c.args.setting.now.programs.now in
    let texts = c.args.setting.now.texts.now in
    let told = c.args.setting.now.told.now in
    let asked = c.args.setting.now.asked in
    let begun = c.in_ok-begun.begun.items in
    IfOk-weaker c.print_meeting.result (IsPrinted asked.wish schema programs texts told asked (meeting_of schema programs asked c.as_slice.result.now)) (IsListedIf false schema programs texts told asked)
    (λ printed is. (begun, c.in_ok-begun.ensures, subst (λ b. IsPrinted asked.wish schema programs texts told asked (meeting_of schema programs asked b) printed) c.as_slice.ensures.value is))
    c.print_meeting.ensures.done
