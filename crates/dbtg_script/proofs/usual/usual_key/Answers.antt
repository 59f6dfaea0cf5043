use Rattle.std.proofs.Common.{◌≡◌, ◌∙◌, ℕ, List, Some, length, sym, ap, true, arith}
use Rattle.std.specs.Prelude.{nat_lt}
use Rattle.std.proofs.lemmas.Bool.Decides.{nat_tests}
use Rattle.dbtg_script.specs.Lookups.{type_named}
use Rattle.dbtg_script.specs.Printing.Spelling.{behind, is_number, key_name, number}
use Rattle.dbtg_script.proofs.Reading.Numbers.{short_key, short_key_faultless, short_key_is}
use Rattle.dbtg_script.proofs.usual.usual_key.Goals as goal

pub returns-clause-spelled : goal.returns-clause-spelled
returns-clause-spelled c =
    let t = c.args.text.now in
    let digits : is_number (behind 58 t) ≡ true = ap is_number (sym c.behind.ensures) ∙ c.in_ok-number.ensures.digits in
    let some : nat_lt 0 (length c.key_name-name.result.now) ≡ true = grind (arith, nat_tests) in
    short_key t digits (ap (λ (z : List ℕ). nat_lt 0 (length z)) (sym c.key_name-name.ensures) ∙ some)

pub returns-clause-key : goal.returns-clause-key
returns-clause-key c =
    let t = c.args.text.now in
    let schema = c.args.schema.now in
    let digits : is_number (behind 58 t) ≡ true = ap is_number (sym c.behind.ensures) ∙ c.in_ok-number.ensures.digits in
    let named : type_named schema (key_name t) ≡ Some c.in_ok-rtype.rtype = ap (type_named schema) (sym c.key_name-name.ensures) ∙ sym c.in_ok-rtype.ensures in
    let value : c.in_ok-number.number ≡ number (behind 58 t) = c.in_ok-number.ensures.value ∙ ap number c.behind.ensures in
    short_key_is t digits schema c.in_ok-rtype.rtype c.in_ok-number.number named value (omega arith)

pub returns-clause-faultless : goal.returns-clause-faultless
returns-clause-faultless c =
    let t = c.args.text.now in
    let schema = c.args.schema.now in
    let digits : is_number (behind 58 t) ≡ true = ap is_number (sym c.behind.ensures) ∙ c.in_ok-number.ensures.digits in
    let named : type_named schema (key_name t) ≡ Some c.in_ok-rtype.rtype = ap (type_named schema) (sym c.key_name-name.ensures) ∙ sym c.in_ok-rtype.ensures in
    let value : c.in_ok-number.number ≡ number (behind 58 t) = c.in_ok-number.ensures.value ∙ ap number c.behind.ensures in
    short_key_faultless t digits schema c.in_ok-rtype.rtype c.in_ok-number.number named value (omega arith) c.if-number-eq0.false
