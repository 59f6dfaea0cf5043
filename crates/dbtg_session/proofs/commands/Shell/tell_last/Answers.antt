use Rattle.std.proofs.Common.{◌≡◌, ℕ, ◌<◌, List, ◌++◌, ◌∙◌, ap, arith, inl, inr, length, refl}
use Rattle.dbtg_session.specs.Replies.{answer_reply}
use Rattle.dbtg_session.specs.declared.commands.TheConstants.{ANSWER_BYTES}
use Rattle.dbtg_session.proofs.ShellReplies.{is_answered}
use Rattle.dbtg_session.proofs.commands.Shell.tell_last.Goals as goal

pub returns-in-Ok-clause-told : goal.returns-in-Ok-clause-told
returns-in-Ok-clause-told c =
    let answer = answer_reply c.schema-schema.result.now c.in-Some.entry.now in
    let whole : c.push_answer_reply.new.out.items ≡ answer = c.in-Ok.ensures.items ∙ ap (λ (before : List ℕ). before ++ answer) c.requires.empty in
    is_answered c.args.self.now.session c.schema-schema.result.now c.in-Some.entry.now c.push_answer_reply.new.out.items c.in-Some.ensures c.schema-schema.ensures (inl whole)

pub returns-clause-told : goal.returns-clause-told
returns-clause-told c =
    let none : length c.args.room.items ≡ 0 = ap length c.requires.empty in
    let long : ANSWER_BYTES < length (answer_reply c.schema-schema.result.now c.in-Some.entry.now) = omega (arith, none, c.requires.enough, c.in-Err.ensures.full) in
    is_answered c.args.self.now.session c.schema-schema.result.now c.in-Some.entry.now _ c.in-Some.ensures c.schema-schema.ensures (inr (refl, long))
