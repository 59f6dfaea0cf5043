use Rattle.std.proofs.Common.{◌≡◌, ◌∙◌, List, ℕ, true, false, sym, ap, subst, [], ◌∷◌, ◌++◌}
use Rattle.std.specs.Prelude.{IfSome}
use Rattle.dbtg_script.specs.Labels.{has, is}
use Rattle.dbtg_script.specs.Lookups.{type_named}
use Rattle.dbtg_script.specs.StatementFaults.{type_text}
use Rattle.dbtg_script.specs.Inside.Views.{view_labelled}
use Rattle.dbtg_script.specs.Inside.Words.{LineWords}
use Rattle.dbtg_script.specs.declared.role.Role.TheVariants as role
use Rattle.dbtg_script.proofs.Reading.WordSteps.{record_there, type_kept, type_there}
use Rattle.dbtg_script.proofs.words.Words.type_behind.Goals as goal

pub returns-then-has_role : goal.returns-then-has_role
returns-then-has_role c =
    let w = view_labelled c.args.word.now in
    let h : is role.TypeName w ≡ true = sym c.has_role.ensures ∙ c.if-has_role.true in
    c.requires.type_is h ∙ ap (type_named c.args.self.now.schema) (sym (type_there c.args.self.now.words w h))

pub returns-else-has : goal.returns-else-has
returns-else-has c =
    let w = view_labelled c.args.word.now in
    let ws = c.args.self.now.words in
    let other : is role.TypeName w ≡ false = sym c.has_role.ensures ∙ c.if-has_role.false in
    let none : has role.TypeName ws ≡ false = sym c.has.ensures ∙ c.if-has.false in
    let h : is role.RecordName w ≡ true = sym c.has_role-else-has_role.ensures ∙ c.if-has_role-2.true in
    c.requires.record_is h ∙ ap (type_named c.args.self.now.schema) (sym (record_there ws w other none h))

pub returns-else-has_role-2 : goal.returns-else-has_role-2
returns-else-has_role-2 c =
    let w = view_labelled c.args.word.now in
    let ws = c.args.self.now.words in
    let schema = c.args.self.now.schema in
    let other : is role.TypeName w ≡ false = sym c.has_role.ensures ∙ c.if-has_role.false in
    let h : is role.RecordName w ≡ false = sym c.has_role-else-has_role.ensures ∙ c.if-has_role-2.false in
    let cache : IfSome c.self.inside.rtype (λ r. r ≡ type_named schema (type_text ws)) =
    subst (λ (v : LineWords). IfSome c.self.inside.rtype (λ r. r ≡ type_named v.schema (type_text v.words))) c.self.view_is c.self.invariant.type_is in
    subst (λ (t : List ℕ). IfSome c.self.inside.rtype (λ r. r ≡ type_named schema t)) (sym (type_kept ws w other h)) cache
