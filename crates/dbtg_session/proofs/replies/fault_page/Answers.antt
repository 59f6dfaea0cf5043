use Rattle.dbtg_session.proofs.ShellReplies.{page_of_fault}
use Rattle.dbtg_session.proofs.replies.fault_page.Goals as goal

pub returns-in_ok-explained-in-Some : goal.returns-in_ok-explained-in-Some
returns-in_ok-explained-in-Some c = page_of_fault c.args.number c.in-Some.topic c.in_ok-explained-in-Some.field-0.items c.in-Some.ensures c.in_ok-explained-in-Some.ensures
