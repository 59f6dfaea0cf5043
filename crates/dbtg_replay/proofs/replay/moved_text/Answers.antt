use Rattle.std.proofs.Common.{◌≡◌, ◌++◌, drop, subst}
use Rattle.std.proofs.lemmas.Result.{IfOk-weaker}
use Rattle.dbtg_script.specs.Printing.Texts.{moves_text}
use Rattle.dbtg_step.specs.Machine.Headline.{RunIs}
use Rattle.dbtg_replay.specs.Replaying.{IsPrinted, shown_text}
use Rattle.dbtg_replay.proofs.CanBeMade.{can_show}
use Rattle.dbtg_replay.proofs.replay.moved_text.Goals as goal

pub text_with_moves-requires : goal.text_with_moves-requires
text_with_moves-requires c =
    can_show c.args.schema.now c.args.capacity c.args.scripts c.in_ok-given.given c.args.shown.form c.requires.sound c.requires.units c.requires.fit c.in_ok-given.ensures.sequential

pub returns : goal.returns
returns c =
    let lists = c.args.schema.now in
    let form = c.args.shown.form in
    let texts = c.args.shown.texts.now in
    let made = c.in_ok-given.given in
    IfOk-weaker c.text_with_moves.result (λ out. out.items ≡ moves_text (drop c.args.all.now.before made.results) ++ shown_text lists form texts made) (λ out. IsPrinted (RunIs lists c.args.capacity c.args.scripts c.args.all.now.moves.items) (λ given. moves_text (drop c.args.all.now.before given.results) ++ shown_text lists form texts given) out.items)
    (λ out text. record { given = made; is_run = subst (λ ms. RunIs lists c.args.capacity c.args.scripts ms made) c.as_slice.ensures.value c.in_ok-given.ensures; is_text = text }) c.text_with_moves.ensures
