-- A word beside `StatementGrammar` that private functions and lemmas use.
use Rattle.dbtg_schema.specs.Texts.Forms as forms
use Rattle.dbtg_script.specs.declared.role.Role.{Role}
use Rattle.dbtg_script.specs.StatementGrammar.{Kind}

-- where a form can begin
abbrev pub Start : Type 0
Start = forms.Start Kind Role
