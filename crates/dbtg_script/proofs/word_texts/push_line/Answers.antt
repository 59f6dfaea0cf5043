use Rattle.std.proofs.Common.{◌≡◌, ◌+◌, ◌++◌, ◌<◌, ◌∷◌, List, ℕ, [], length, get_or, drop, sym, ap, ◌∙◌, arith, append_assoc, add-one, drop-cons, refl}
use Rattle.dbtg_unit.specs.declared.moves.Move.{Move}
use Rattle.dbtg_unit.specs.declared.moves.Move.TheVariants.{Step}
use Rattle.dbtg_script.specs.Printing.WordTexts.{move_word}
use Rattle.dbtg_script.proofs.Printing.WordRuns.{line_from, line_grown, line_begun}
use Rattle.dbtg_script.proofs.word_texts.push_line.Goals as goal
use Rattle.dbtg_script.proofs.word_texts.push_line.Goals.{then-in_one_word, else-in_one_word+in_ok-push_word+in_ok-push}

split : (ms : List Move) (i : ℕ) → i < length ms → drop i ms ≡ get_or ms i (Step 0) ∷ drop (i + 1) ms
split ms i h = rw add-one (drop-cons ms i (Step 0) h)

joined : (out word line : List ℕ) → out ++ word ++ 32 ∷ [] ++ line ≡ out ++ (word ++ 32 ∷ line)
joined out word line = rw (append_assoc (out ++ word) (32 ∷ []) line, append_assoc out word (32 ∷ line)) refl

pub loop-next-preserved : goal.loop-next-preserved
loop-next-preserved c =
    let i = c.loop-next.next-index in
    let ms = c.args.rest.now in
    let next = get_or ms i (Step 0) in
    let at : drop i ms ≡ next ∷ drop (i + 1) ms = split ms i c.loop-next-test.true in
    elim c.if-in_one_word.branch [
      | then-in_one_word w ↦ record {
        written = rw (w.out-is, w.one-is, w.count-is) (ap (λ (t : List ℕ). c.loop-next.out.items ++ t)
            (line_grown c.loop-next.one next c.loop-next.count (drop i ms) (drop (i + 1) ms) at (sym c.in_one_word.ensures ∙ w.if-in_one_word.true)) ∙ c.loop-next.invariant.written);
        few = rw w.count-is (omega (arith, c.loop-next.invariant.few));
      }
      | else-in_one_word+in_ok-push_word+in_ok-push w ↦ record {
        written = rw (w.out-is, w.one-is, w.count-is, w.in_ok-push.ensures.items, w.in_ok-push_word.ensures)
            (joined c.loop-next.out.items (move_word c.loop-next.one c.loop-next.count) (line_from next 1 (drop (i + 1) ms))
            ∙ ap (λ (t : List ℕ). c.loop-next.out.items ++ t) (sym (line_begun c.loop-next.one next c.loop-next.count (drop i ms) (drop (i + 1) ms) at (sym c.in_one_word.ensures ∙ w.if-in_one_word.false)))
            ∙ c.loop-next.invariant.written);
        few = rw w.count-is (omega arith);
      }
    ]
