use Rattle.std.proofs.Common.{rules, ◌≡◌, [], ◌∷◌}
use Rattle.dbtg_unit.specs.declared.statement.Statement.TheVariants as statement
use Rattle.dbtg_unit.specs.declared.statement.Form.TheVariants as form
use Rattle.dbtg_script.specs.Statements.{key_of}
use Rattle.dbtg_script.specs.Tokens.{plain}
use Rattle.dbtg_script.specs.Inside.Usual.{nothing, words_left}
use Rattle.dbtg_script.proofs.Reading.UsualLines.{key_said}
use Rattle.dbtg_script.proofs.usual.by_key.Goals as goal

pub returns : goal.returns
returns c =
    let t = c.in_ok-text.text.now in
    let words : words_left c.args.left.now ≡ plain t ∷ [] = search rules in
    let is : c.find.result ≡ statement.Find nothing (form.Key (key_of c.args.schema.now t)) = search rules in
    rw (words, is) (key_said c.args.schema.now t c.in_ok-key.ensures.spelled c.in_ok-key.ensures.faultless)
