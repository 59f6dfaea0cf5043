use Rattle.std.proofs.Common.{rules, ◌≡◌, sym, ap, ◌∙◌, List, ◌++◌, ℕ, None, append_assoc, length, map}
use Rattle.dbtg_script.specs.Moves.{moves_of, repeated, spelled_move, words}
use Rattle.dbtg_script.proofs.Reading.MoveSteps.{first_is_taken, no_words}
use Rattle.dbtg_script.proofs.moves.read_moves.Goals as goal

pub returns-clause-accepted : goal.returns-clause-accepted
returns-clause-accepted c =
    sym c.loop-word.invariant.reached ∙ no_words (length c.loop-word.moves.items) c.loop-word.number (map spelled_move (words c.loop-word.left.rest.now)) (ap (map spelled_move) c.in_default.ensures.found)

pub returns-in_err-take_word-clause-at_once : goal.returns-in_err-take_word-clause-at_once
returns-in_err-take_word-clause-at_once c = λ w ws first_is none.
    let first = c.loop-word.invariant.first w ws first_is none in
    let taken : c.in-Some.word.now ≡ w = first_is_taken w c.in-Some.word.now ws (words c.next.new.self.rest.now) (words c.args.text.now) (words c.loop-word.left.rest.now) first_is first.1 c.in-Some.ensures.found in
    let said : c.spelled_move.result ≡ None = c.spelled_move.ensures.value ∙ ap spelled_move taken ∙ none in
    let told = c.in_err-take_word.ensures.at_once said in
    let number_is = first.0 in
    search rules

pub loop-word-preserved : goal.loop-word-preserved
loop-word-preserved c = record {
  reached = search rules;
  said =
      let rest = words c.next.new.self.rest.now in
      ap (λ es. es ++ moves_of rest) c.in_ok-take_word.ensures.taken
      ∙ append_assoc c.loop-word.moves.items (repeated c.spelled_move.result) (moves_of rest)
      ∙ ap (λ es. c.loop-word.moves.items ++ es) (ap (λ said. repeated said ++ moves_of rest) c.spelled_move.ensures.value ∙ sym (ap moves_of c.in-Some.ensures.found))
      ∙ c.loop-word.invariant.said;
  first = λ w ws first_is none.
      let first = c.loop-word.invariant.first w ws first_is none in
      let taken : c.in-Some.word.now ≡ w = first_is_taken w c.in-Some.word.now ws (words c.next.new.self.rest.now) (words c.args.text.now) (words c.loop-word.left.rest.now) first_is first.1 c.in-Some.ensures.found in
      absurd (c.in_ok-take_word.ensures.at_once (c.spelled_move.ensures.value ∙ ap spelled_move taken ∙ none));
  in_range = search rules;
}
