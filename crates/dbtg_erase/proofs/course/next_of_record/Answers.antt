use Rattle.std.proofs.Common.{refl, subst}
use Rattle.std.specs.Prelude.{Some}
use Rattle.dbtg_erase.specs.Course.{MembersFit}
use Rattle.dbtg_erase.proofs.course.next_of_record.Goals as goal

pub next-requires : goal.next-requires
next-requires c = (subst (MembersFit c.args.schema.now c.args.held.now (Some c.args.key.now)) c.in-Some.is c.requires c.args.key.now refl).passed
