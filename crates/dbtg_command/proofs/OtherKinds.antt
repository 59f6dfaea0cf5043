-- Worked rows: texts of a kind other than the one wanted.
use Rattle.std.proofs.Common.{◌≡◌, [], refl}
use Rattle.std.specs.Prelude.{codes}
use Rattle.dbtg_explain.specs.declared.topic.Kind.TheVariants as kind
use Rattle.dbtg_command.specs.Reasons.{other_kind}

a_script : other_kind kind.Schema (codes "\n OPEN AREA MAIN") ≡ codes "; this is a script, and a schema is wanted"
a_script = refl

a_schema : other_kind kind.Script (codes "SCHEMA NAME IS CARD.") ≡ codes "; this is a schema, and a script is wanted"
a_schema = refl

neither : other_kind kind.Schema (codes "SCHEMA NAME IS CARD.") ≡ []
neither = refl

a_longer_word : other_kind kind.Schema (codes "OPENING") ≡ []
a_longer_word = refl
