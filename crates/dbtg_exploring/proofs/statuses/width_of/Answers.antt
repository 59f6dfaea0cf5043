use Rattle.std.proofs.Common.{◌≡◌, ◌-◌, rules, ℕ, List, Option, ap, decimal, length}
use Rattle.std.specs.Prelude.{option_map, slice_get, unwrap_or}
use Rattle.dbtg_program.specs.declared.program.Line.{Line}
use Rattle.dbtg_exploring.specs.Statuses.{width_of}
use Rattle.dbtg_exploring.proofs.statuses.width_of.Goals as goal

pub returns-in_ok-digits_of-in-Some : goal.returns-in_ok-digits_of-in-Some
returns-in_ok-digits_of-in-Some c =
    let digits : length c.in_ok-digits_of-in-Some.field-0.items ≡ length (decimal c.in-Some.line.now.number) = ap (λ (ds : List ℕ). length ds) c.in_ok-digits_of-in-Some.ensures in
    let last : length (decimal c.in-Some.line.now.number) ≡ width_of c.args.lines.now =
    ap (λ (o : Option Line). unwrap_or (option_map (λ (l : Line). length (decimal l.number)) o) 0) c.in-Some.ensures.value in
    search (rules, digits, last)
