use Rattle.dbtg_program.proofs.Gathering.{paragraph_entered}
use Rattle.dbtg_program.proofs.text.paragraphs_of.Goals as goal

pub loop-i-preserved : goal.loop-i-preserved
loop-i-preserved c =
    paragraph_entered c.loop-i.places c.enter_paragraph.new.places c.args.sentences.now c.loop-i.i _ c.loop-i-test.true c.loop-i.invariant c.in_ok-enter_paragraph.ensures
