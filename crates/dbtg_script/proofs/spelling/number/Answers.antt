use Rattle.std.proofs.Common.{◌≡◌, ◌∙◌, ◌<◌, length, ◌^◌, ◌+◌, ◌*◌, ◌-◌, ◌∷◌, ℕ, List, drop, sym, ap, get_or, arith, add-one, drop-cons}
use Rattle.std.specs.Prelude.{min}
use Rattle.dbtg_script.specs.Printing.Spelling.{number_after}
use Rattle.dbtg_script.proofs.Reading.Numbers.{capped_again}
use Rattle.dbtg_script.proofs.spelling.number.Goals as goal

pub loop-digit-preserved : goal.loop-digit-preserved
loop-digit-preserved c =
    let text = c.args.text.now in
    let i = c.loop-digit.digit-index in
    let h : i < length text = c.loop-digit-test.true in
    let d = get_or text i 0 in
    let rest = drop (i + 1) text in
    let front : drop i text ≡ d ∷ rest = rw (add-one, drop-cons text i 0) in
    record {
      bound = omega (arith, c.number_with-n.ensures);
      value = capped_again (10 * c.loop-digit.n + (d - 48)) c.number_with-n.result rest c.number_with-n.ensures
          ∙ ap (λ (ds : List ℕ). min (number_after c.loop-digit.n ds) (10 ^ 18)) (sym front) ∙ c.loop-digit.invariant.value;
    }
