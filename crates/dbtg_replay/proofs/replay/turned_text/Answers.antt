use Rattle.std.proofs.Common.{◌≡◌}
use Rattle.std.proofs.lemmas.Result.{IfOk-weaker}
use Rattle.dbtg_replay.specs.Replaying.{IsPrinted, RunByTurnsIs, shown_text}
use Rattle.dbtg_replay.proofs.CanBeMade.{can_show}
use Rattle.dbtg_replay.proofs.replay.turned_text.Goals as goal

pub text_of-requires : goal.text_of-requires
text_of-requires c =
    can_show c.args.schema.now c.args.capacity c.args.scripts c.in_ok-given.given c.args.shown.form c.requires.sound c.requires.units c.requires.fit c.in_ok-given.ensures.1.sequential

pub returns : goal.returns
returns c =
    let lists = c.args.schema.now in
    let form = c.args.shown.form in
    let texts = c.args.shown.texts.now in
    let made = c.in_ok-given.given in
    IfOk-weaker c.text_of.result (λ out. out.items ≡ shown_text lists form texts made) (λ out. IsPrinted (RunByTurnsIs lists c.args.capacity c.args.scripts c.args.turns.now) (shown_text lists form texts) out.items)
    (λ out text. record { given = made; is_run = c.in_ok-given.ensures; is_text = text }) c.text_of.ensures
