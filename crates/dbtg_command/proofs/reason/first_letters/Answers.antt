use Rattle.std.proofs.Common.{◌∙◌, ℕ, ap, take, take_while}
use Rattle.std.specs.Char.{is_ascii_alphabetic}
use Rattle.std.proofs.lemmas.Str.Ascii.{trim_ascii_start_is}
use Rattle.dbtg_command.proofs.reason.first_letters.Goals as goal

pub returns : goal.returns
returns c =
    let text = c.trim_ascii_start-text.result.now in
    ap (λ (n : ℕ). take n text) c.count_letters.ensures.counted ∙ ap (take_while is_ascii_alphabetic) (trim_ascii_start_is c.args.text.now text c.trim_ascii_start-text.ensures.value)
