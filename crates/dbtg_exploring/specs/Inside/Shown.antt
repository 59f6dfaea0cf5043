-- How the text of a result is appended to others.
use Rattle.std.specs.Prelude.{ℕ, ◌≡◌, ◌++◌, List, Option}
use Rattle.dbtg_schema.specs.Lists.{Lists}
use Rattle.dbtg_program.specs.declared.program.Program.{Program}
use Rattle.dbtg_states.specs.declared.brief.Told.{Told}
use Rattle.dbtg_exploring.specs.declared.setting.Exploring.{Exploring}
use Rattle.dbtg_exploring.specs.Texts.{IsResultText, and_told}

-- the text of result k is appended to others, and in brief the result to the earlier ones
pub record IsShown (schema : Lists) (programs : List Program) (told : List ℕ) (asked : Exploring) (k : ℕ) (order old new : List ℕ) (before after : Option (List Told)) : Type 0 where
  pub text : List ℕ
  pub new_is : new ≡ old ++ text
  pub is_text : IsResultText schema programs told asked before k order text
  pub after_is : after ≡ and_told schema programs before is_text.given
