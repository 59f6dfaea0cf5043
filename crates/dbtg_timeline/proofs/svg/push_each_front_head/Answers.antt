use Rattle.std.specs.Prelude.{codes}
use Rattle.dbtg_timeline.specs.Svg.{front_heads, words_text}
use Rattle.dbtg_timeline.proofs.ThreeParts.{three_parts}
use Rattle.dbtg_timeline.proofs.svg.push_each_front_head.Goals as goal

pub returns : goal.returns
unfolding front_heads
returns c =
    three_parts c.args.out.now.items (words_text (codes "head number") 64 24 (codes "MOVE")) (words_text (codes "head number") 104 24 (codes "UNIT")) (words_text (codes "head") c.args.left 24 (codes "EVENTS")) _ _ _
    c.in_ok-push_words.ensures c.in_ok-push_words-2.ensures c.in_ok-push_words-3.ensures
