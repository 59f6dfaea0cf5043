use Rattle.std.proofs.Common.{◌+◌}
use Rattle.std.specs.Prelude.{codes}
use Rattle.dbtg_timeline.specs.Svg.{back_heads, words_text}
use Rattle.dbtg_timeline.proofs.ThreeParts.{three_parts}
use Rattle.dbtg_timeline.proofs.svg.push_back_heads.Goals as goal

pub returns : goal.returns
unfolding back_heads
returns c =
    three_parts c.args.out.now.items (words_text (codes "head number") (c.args.left + 344) 24 (codes "TICKET")) (words_text (codes "head") (c.args.left + 360) 24 (codes "STATUS"))
    (words_text (codes "head") (c.args.left + 424) 24 (codes "STATEMENT")) _ _ _
    c.in_ok-push_words.ensures c.in_ok-push_words-2.ensures c.in_ok-push_words-3.ensures
