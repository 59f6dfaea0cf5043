use Rattle.std.proofs.Common.{rules, ◌≡◌, List, [], ◌++◌, sym, ap, subst, ◌∙◌, arith}
use Rattle.std.proofs.lemmas.Result.{err_from_is_err_and}
use Rattle.std.specs.Prelude.{None}
use Rattle.dbtg_schema.specs.Texts.Words.{last_line, text_words, Word}
use Rattle.dbtg_schema.specs.Texts.SchemaGrammar.{schema, fits, Labelled}
use Rattle.dbtg_schema.specs.Inside.Words.{view}
use Rattle.dbtg_schema.specs.Inside.Automaton.{rest_of}
use Rattle.dbtg_schema.specs.Inside.Views.{views}
use Rattle.std.proofs.lemmas.List.{append-nil}
use Rattle.dbtg_schema.specs.Texts.Forms.{labels, Derives}
use Rattle.dbtg_schema.specs.Texts.SchemaLists.{schema_of}
use Rattle.dbtg_schema.specs.WellFormed.{IsSchema}
use Rattle.dbtg_schema.specs.Sound.{IsSound}
use Rattle.dbtg_schema.proofs.Sound.Soundness.{accepted_is_sound}
use Rattle.dbtg_schema.proofs.Sound.Keeps.{accepted_is_schema}
use Rattle.dbtg_schema.specs.Inside.Reading.{verdict, WithinLimits}
use Rattle.dbtg_schema.proofs.Forms.Walks.{clean}
use Rattle.dbtg_schema.proofs.Sound.Limits.{within_limits}
use Rattle.dbtg_schema.proofs.Forms.Accepted.{derived}
use Rattle.dbtg_schema.proofs.Forms.Seen.{first_word, not_at_end, seen, seen_noise, seen_word, seen_end, short_text, at_the_end}
use Rattle.dbtg_schema.proofs.reader.read.Goals as goal

pub returns-in_err-state-clause-refused : goal.returns-in_err-state-clause-refused
returns-in_err-state-clause-refused c =
    let p = err_from_is_err_and c.from_residual.result c.from_residual.ensures.1 in
    let end = last_line c.args.text.now in
    let ws = views c.loop-word.words.items in
    let f = rest_of c.loop-word.state in
    let left = seen c.scan.new.self.line c.scan.new.self.rest.now in
    let e = seen_word c.loop-word.scanner.line c.scan.new.self.line c.loop-word.scanner.rest.now c.scan.new.self.rest.now (view c.in-Some.word) c.in-Some.ensures.found (sym c.is_noise.ensures ∙ c.if-not-is_noise.true) in
    let whole = short_text c.args.text.now (omega arith) ∙ sym c.loop-word.invariant.reached ∙ ap (λ x. verdict end ws f x) e in
    rw (p.1, p.2, whole) (c.in_err-state.ensures.reached end left)

pub returns-in-Some-at_end-clause-refused : goal.returns-in-Some-at_end-clause-refused
returns-in-Some-at_end-clause-refused c =
    let end = last_line c.args.text.now in
    let ws = views c.loop-word.words.items in
    let f = rest_of c.loop-word.state in
    let e = seen_end c.loop-word.scanner.line c.loop-word.scanner.rest.now c.in_default.ensures.found in
    rw c.of-in-Some-at_end.ensures (short_text c.args.text.now (omega arith) ∙ sym c.loop-word.invariant.reached ∙ ap (λ x. verdict end ws f x) e ∙ at_the_end end ws f ∙ sym (rw (c.last_line-end.ensures, c.deref.ensures.value) at c.in-Some-at_end.ensures))

pub returns-clause-accepted : goal.returns-clause-accepted
returns-clause-accepted c =
    let end = last_line c.args.text.now in
    let ws = views c.loop-word.words.items in
    let f = rest_of c.loop-word.state in
    let e = seen_end c.loop-word.scanner.line c.loop-word.scanner.rest.now c.in_default.ensures.found in
    short_text c.args.text.now (omega arith) ∙ sym c.loop-word.invariant.reached ∙ ap (λ x. verdict end ws f x) e ∙ at_the_end end ws f ∙ sym (rw (c.last_line-end.ensures, c.deref.ensures.value) at c.in-None.ensures)

all_words : (c : goal.In-None) → views c.loop-word.words.items ≡ labels fits schema (text_words c.args.text.now)
all_words c =
    let e = seen_end c.loop-word.scanner.line c.loop-word.scanner.rest.now c.in_default.ensures.found in
    sym (append-nil (views c.loop-word.words.items)) ∙ ap (λ (x : List Word). views c.loop-word.words.items ++ labels fits (rest_of c.loop-word.state) x) (sym e) ∙ c.loop-word.invariant.labelled

no_fault : (c : goal.In-None) → verdict (last_line c.args.text.now) [] schema (text_words c.args.text.now) ≡ None
no_fault c = sym (short_text c.args.text.now (omega arith)) ∙ returns-clause-accepted c

pub returns-clause-derived : goal.returns-clause-derived
returns-clause-derived c = subst (Derives fits schema) (sym (all_words c)) (derived (text_words c.args.text.now) (last_line c.args.text.now) [] schema (no_fault c))

pub returns-clause-limits : goal.returns-clause-limits
returns-clause-limits c = subst WithinLimits (sym (all_words c)) (within_limits (labels fits schema (text_words c.args.text.now)) (clean (text_words c.args.text.now) (last_line c.args.text.now) [] schema (no_fault c)))

pub returns-clause-sound : goal.returns-clause-sound
returns-clause-sound c = subst (λ (ws : List Labelled). IsSchema (schema_of ws)) (sym (all_words c)) (accepted_is_schema (text_words c.args.text.now) (last_line c.args.text.now) (no_fault c))

pub returns-clause-fitting : goal.returns-clause-fitting
returns-clause-fitting c = subst (λ (ws : List Labelled). IsSound (schema_of ws)) (sym (all_words c)) (accepted_is_sound (text_words c.args.text.now) (last_line c.args.text.now) (no_fault c))

pub returns-in_err-state-clause-at_once : goal.returns-in_err-state-clause-at_once
returns-in_err-state-clause-at_once c = λ w ws fault is wrong.
    let p = err_from_is_err_and c.from_residual.result c.from_residual.ensures.1 in
    let e = seen_word c.loop-word.scanner.line c.scan.new.self.line c.loop-word.scanner.rest.now c.scan.new.self.rest.now (view c.in-Some.word) c.in-Some.ensures.found (sym c.is_noise.ensures ∙ c.if-not-is_noise.true) in
    let told = c.in_err-state.ensures.faulty fault (first_word (views c.loop-word.words.items) (rest_of c.loop-word.state) w (view c.in-Some.word) ws (text_words c.args.text.now) (seen c.loop-word.scanner.line c.loop-word.scanner.rest.now) fault is wrong (c.loop-word.invariant.first w ws fault is wrong) (seen c.scan.new.self.line c.scan.new.self.rest.now) e) in
    rw (p.1, p.2) (λ m. let no = sym told ∙ m in cc)

pub returns-clause-at_once : goal.returns-clause-at_once
returns-clause-at_once c = λ w ws fault is wrong.
    not_at_end w ws (text_words c.args.text.now) (seen c.loop-word.scanner.line c.loop-word.scanner.rest.now) is (c.loop-word.invariant.first w ws fault is wrong).2
    (seen_end c.loop-word.scanner.line c.loop-word.scanner.rest.now c.in_default.ensures.found)

pub loop-word-preserved-then-not-is_noise : goal.loop-word-preserved-then-not-is_noise
loop-word-preserved-then-not-is_noise c = record {
  reached = search rules;
  labelled = search rules;
  first = λ w ws fault is wrong.
      let e = seen_word c.loop-word.scanner.line c.scan.new.self.line c.loop-word.scanner.rest.now c.scan.new.self.rest.now (view c.in-Some.word) c.in-Some.ensures.found (sym c.is_noise.ensures ∙ c.if-not-is_noise.true) in
      absurd (c.in_ok-state.ensures.faulty fault (first_word (views c.loop-word.words.items) (rest_of c.loop-word.state) w (view c.in-Some.word) ws (text_words c.args.text.now) (seen c.loop-word.scanner.line c.loop-word.scanner.rest.now) fault is wrong (c.loop-word.invariant.first w ws fault is wrong) (seen c.scan.new.self.line c.scan.new.self.rest.now) e));
}

pub loop-word-preserved : goal.loop-word-preserved
loop-word-preserved c = record {
  reached = search rules;
  labelled = search rules;
  first = λ w ws fault is wrong.
      let at = c.loop-word.invariant.first w ws fault is wrong in
      let e = seen_noise c.loop-word.scanner.line c.scan.new.self.line c.loop-word.scanner.rest.now c.scan.new.self.rest.now (view c.in-Some.word) c.in-Some.ensures.found (sym c.is_noise.ensures ∙ c.if-not-is_noise.false) in
      (at.0, at.1, sym e ∙ at.2);
}
