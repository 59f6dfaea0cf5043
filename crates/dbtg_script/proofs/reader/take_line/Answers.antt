use Rattle.std.proofs.Common.{◌∙◌, length, sym, true≢false}
use Rattle.dbtg_script.proofs.Reading.AtOnce.{not_a_note, not_at_once, not_where_taken}
use Rattle.dbtg_script.proofs.Reading.CachedLines.{still_cached, said_behind}
use Rattle.dbtg_script.proofs.reader.take_line.Goals as goal

pub returns-in_ok-push-in-Some-clause-cache : goal.returns-in_ok-push-in-Some-clause-cache
returns-in_ok-push-in-Some-clause-cache c =
    rw c.in_ok-push-in-Some.ensures.items (still_cached c.args.words.now.schema c.args.statements.now.items c.in-Some.said c.args.cache.now.places c.requires)

pub returns-in_ok-push-in-Some-clause-accepted : goal.returns-in_ok-push-in-Some-clause-accepted
returns-in_ok-push-in-Some-clause-accepted c =
    let found = rw (c.deref.ensures.value, c.in-Some.is, c.schema.ensures) at c.in_ok-said_at_once.ensures.says in
    found.faultless

pub returns-in_ok-push-in-Some-clause-taken : goal.returns-in_ok-push-in-Some-clause-taken
returns-in_ok-push-in-Some-clause-taken c =
    let found = rw (c.deref.ensures.value, c.in-Some.is, c.schema.ensures) at c.in_ok-said_at_once.ensures.says in
    c.in_ok-push-in-Some.ensures.items ∙ said_behind c.args.words.now.schema c.args.line.now c.args.statements.now.items c.in-Some.said found.said

pub returns-in_err-said_at_once-clause-at_once : goal.returns-in_err-said_at_once-clause-at_once
returns-in_err-said_at_once-clause-at_once c = λ cause wrong.
    let may = rw (c.deref.ensures.value, c.schema.ensures) at c.in_err-said_at_once.ensures.memory in
    absurd (not_where_taken c.args.words.now.schema (length c.args.statements.now.items) c.args.line.now cause may wrong)

pub returns-in_err-said_at_once-clause-note : goal.returns-in_err-said_at_once-clause-note
returns-in_err-said_at_once-clause-note c = λ note. absurd (true≢false (sym c.in_err-said_at_once.ensures.memory.holds_one ∙ note))

pub returns-in_err-push-in-Some-clause-at_once : goal.returns-in_err-push-in-Some-clause-at_once
returns-in_err-push-in-Some-clause-at_once c = λ cause wrong.
    let found = rw (c.deref.ensures.value, c.in-Some.is, c.schema.ensures) at c.in_ok-said_at_once.ensures.says in
    absurd (not_at_once c.args.words.now.schema (length c.args.statements.now.items) c.args.line.now cause found.faultless wrong)

pub returns-in_err-push-in-Some-clause-note : goal.returns-in_err-push-in-Some-clause-note
returns-in_err-push-in-Some-clause-note c = λ note.
    let found = rw (c.deref.ensures.value, c.in-Some.is, c.schema.ensures) at c.in_ok-said_at_once.ensures.says in
    absurd (not_a_note c.args.words.now.schema c.args.line.now c.in-Some.said found.said note)

pub returns-in_ok-push-in-Some-clause-at_once : goal.returns-in_ok-push-in-Some-clause-at_once
returns-in_ok-push-in-Some-clause-at_once c = λ cause wrong.
    let found = rw (c.deref.ensures.value, c.in-Some.is, c.schema.ensures) at c.in_ok-said_at_once.ensures.says in
    not_at_once c.args.words.now.schema (length c.args.statements.now.items) c.args.line.now cause found.faultless wrong
