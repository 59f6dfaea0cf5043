use Rattle.std.proofs.Common.{refl, sym, inl, ap, ◌∙◌, Some, arith}
use Rattle.dbtg_going.proofs.Turning.{nobody}
use Rattle.dbtg_explore.proofs.Placed.{none_got, one_got}
use Rattle.dbtg_exploring.proofs.wishes.text_of.Goals as goal

pub returns-then-unit-eq0 : goal.returns-then-unit-eq0
returns-then-unit-eq0 c = sym (nobody c.args.texts.now c.args.unit (inl c.if-unit-eq0.true))

pub returns-in-Some : goal.returns-in-Some
returns-in-Some c =
    let texts = c.args.texts.now in
    let found = one_got texts texts c.args.unit c.in-Some.text.now (omega (arith, c.if-unit-eq0.false)) refl c.in-Some.ensures.lookup.0 c.in-Some.ensures.lookup.1 in
    ap Some c.as_slice.ensures ∙ sym found

pub returns-in-None : goal.returns-in-None
returns-in-None c =
    let texts = c.args.texts.now in
    sym (none_got texts texts c.args.unit (omega (arith, c.if-unit-eq0.false)) refl c.in-None.ensures.lookup.0)
