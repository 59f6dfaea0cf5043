use Rattle.std.proofs.Common.{◌≡◌, ◌∷◌, ◌++◌, ◌∙◌, [], length, sym, subst, arith, ℕ}
use Rattle.dbtg_script.specs.Inside.LineCache.{Says}
use Rattle.dbtg_script.specs.LineCache.{IsRead}
use Rattle.dbtg_script.proofs.Reading.AtOnce.{not_a_note}
use Rattle.dbtg_script.proofs.Reading.CachedLines.{new_read, still_cached}
use Rattle.dbtg_script.proofs.reader.take_new_line.Goals as goal

pub returns-in_ok-push-in-Ok-Some-clause-cache : goal.returns-in_ok-push-in-Ok-Some-clause-cache
returns-in_ok-push-in-Ok-Some-clause-cache c =
    let schema = c.args.words.now.schema in
    let ss = c.args.statements.now.items in
    let s = c.in-Ok-Some.statement in
    let line = c.args.line.now in
    let count : c.len.result ≡ length ss = omega arith in
    let faultless = rw count at c.in-Ok-Some.ensures.accepted in
    let says : Says schema (length ss) line s = record { faultless = faultless; said = sym c.in-Ok-Some.ensures.statement ∙ c.in-Ok-Some.field-0-is } in
    let at : length ss ≡ c.len-in-Ok-Some.result = omega arith in
    let read : IsRead schema (ss ++ s ∷ []) line c.len-in-Ok-Some.result = subst (λ (n : ℕ). IsRead schema (ss ++ s ∷ []) line n) at (new_read schema ss s line says) in
    rw c.in_ok-push-in-Ok-Some.ensures.items (c.note.ensures schema (ss ++ s ∷ []) (still_cached schema ss s c.args.cache.now.places c.requires) read)

pub returns-in-Err-clause-at_once : goal.returns-in-Err-clause-at_once
returns-in-Err-clause-at_once c =
    let count : c.len.result ≡ length c.args.statements.now.items = omega arith in
    rw count at c.in-Err.ensures.at_once

pub returns-in-Ok-None-clause-at_once : goal.returns-in-Ok-None-clause-at_once
returns-in-Ok-None-clause-at_once c =
    let count : c.len.result ≡ length c.args.statements.now.items = omega arith in
    rw count at c.in-Ok-None.ensures.at_once

pub returns-in_err-push-in-Ok-Some-clause-at_once : goal.returns-in_err-push-in-Ok-Some-clause-at_once
returns-in_err-push-in-Ok-Some-clause-at_once c = λ cause wrong.
    let count : c.len.result ≡ length c.args.statements.now.items = omega arith in
    let told = rw count at c.in-Ok-Some.ensures.at_once in
    absurd (told cause wrong)

pub returns-in_err-push-in-Ok-Some-clause-note : goal.returns-in_err-push-in-Ok-Some-clause-note
returns-in_err-push-in-Ok-Some-clause-note c = λ note.
    absurd (not_a_note c.args.words.now.schema c.args.line.now c.in-Ok-Some.statement (sym c.in-Ok-Some.ensures.statement ∙ c.in-Ok-Some.field-0-is) note)

pub returns-in_ok-push-in-Ok-Some-clause-at_once : goal.returns-in_ok-push-in-Ok-Some-clause-at_once
returns-in_ok-push-in-Ok-Some-clause-at_once c = λ cause wrong.
    let count : c.len.result ≡ length c.args.statements.now.items = omega arith in
    let told = rw count at c.in-Ok-Some.ensures.at_once in
    told cause wrong
