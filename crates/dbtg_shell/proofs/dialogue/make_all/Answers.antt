use Rattle.std.proofs.Common.{◌∙◌, ◌<◌, ℕ, Bool, true, subst, sym}
use Rattle.dbtg_shell.specs.Inside.Programs.{MakesDue, MayHaveMade, seen}
use Rattle.dbtg_shell.specs.Programs.{Following, HasGoneOn}
use Rattle.dbtg_shell.proofs.ProgramSteps.{gone_on, in_part, left_if, less_left, stopped}
use Rattle.dbtg_session.proofs.Public.{on_err}
use Rattle.dbtg_shell.proofs.dialogue.make_all.Goals as goal

pub returns-in_err-goes_on-clause-part : goal.returns-in_err-goes_on-clause-part
returns-in_err-goes_on-clause-part c =
    let u = c.args.shell.now.turn in
    let old = c.args.shell.now.session in
    let f = seen c.args.followed.now in
    let between = c.loop-goes_on.shell.session in
    let h = seen c.loop-goes_on.followed in
    let new = c.make_due.new.shell.session in
    let part = subst (λ (n : ℕ). MayHaveMade n between h new) c.loop-goes_on.invariant.3 c.in_err-goes_on.ensures.part in
    on_err c.from_residual.result ((g : Following) × HasGoneOn u old f new g) (in_part u old f between h new c.loop-goes_on.invariant.0 part)

pub loop-goes_on-smaller : goal.loop-goes_on-smaller
loop-goes_on-smaller c =
    let u = c.loop-goes_on.shell.turn in
    let between = c.loop-goes_on.shell.session in
    let h = seen c.loop-goes_on.followed in
    let new = c.make_due.new.shell.session in
    let g = seen c.make_due.new.followed in
    let made = c.in_ok-goes_on.goes_on in
    subst (λ (b : Bool). left_if made new c.make_due.new.shell.turn < left_if b between u) (sym c.loop-goes_on-test.true)
    (subst (λ (n : ℕ). left_if made new n < left_if true between u) (sym c.make_due.ensures.turn) (less_left u between h between h new g made c.in_ok-goes_on.ensures.made))

pub loop-goes_on-preserved : goal.loop-goes_on-preserved
loop-goes_on-preserved c =
    let u = c.args.shell.now.turn in
    let old = c.args.shell.now.session in
    let f = seen c.args.followed.now in
    let between = c.loop-goes_on.shell.session in
    let h = seen c.loop-goes_on.followed in
    let new = c.make_due.new.shell.session in
    let g = seen c.make_due.new.followed in
    let made = c.in_ok-goes_on.goes_on in
    let one = subst (λ (n : ℕ). MakesDue n between h made new g) c.loop-goes_on.invariant.3 c.in_ok-goes_on.ensures.made in (
      gone_on u old f between h new g c.loop-goes_on.invariant.0 made one,
      c.in_ok-goes_on.ensures.still,
      stopped u old f between h new g made one,
      c.make_due.ensures.turn ∙ c.loop-goes_on.invariant.3,
    )
