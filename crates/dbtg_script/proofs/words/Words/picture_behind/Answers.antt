use Rattle.std.proofs.Common.{◌≡◌, ◌∙◌, List, ℕ, Option, true, false, sym, ap, subst, [], ◌∷◌, ◌++◌, ◌||◌}
use Rattle.std.specs.Prelude.{IfSome, option_and_then}
use Rattle.std.proofs.lemmas.Bool.{or_parts}
use Rattle.dbtg_schema.specs.Lists.{Lists}
use Rattle.dbtg_schema.specs.Structure.{picture_of}
use Rattle.dbtg_script.specs.Labels.{is, named, text_of}
use Rattle.dbtg_script.specs.Lookups.{item_picture, type_no}
use Rattle.dbtg_script.specs.StatementFaults.{type_in}
use Rattle.dbtg_script.specs.Inside.Views.{view_labelled}
use Rattle.dbtg_script.specs.Inside.Words.{LineWords}
use Rattle.dbtg_script.specs.declared.role.Role.TheVariants as role
use Rattle.dbtg_script.proofs.Reading.WordSteps.{named_kept, named_there, no_record, no_type, type_kept}
use Rattle.dbtg_script.proofs.words.Words.picture_behind.Goals as goal

pub returns-then-has_role : goal.returns-then-has_role
returns-then-has_role c =
    let w = view_labelled c.args.word.now in
    let ws = c.args.self.now.words in
    let schema = c.args.self.now.schema in
    let item = c.args.names.now.item in
    let h : is role.ItemName w ≡ true = sym c.has_role.ensures ∙ c.if-has_role.true in
    let same : type_in schema (ws ++ w ∷ []) ≡ type_in schema ws = ap (type_no schema) (type_kept ws w (no_type w h) (no_record w h)) in
    c.picture_of.ensures
    ∙ ap (λ (v : LineWords). option_and_then (λ i. picture_of v.schema c.type_in.result i) item) c.self.view_is
    ∙ ap (λ (r : ℕ). option_and_then (λ i. picture_of schema r i) item) c.type_in.ensures
    ∙ ap (λ (o : Option ℕ). option_and_then (λ i. picture_of schema (type_in schema ws) i) o) (c.requires.item_is h)
    ∙ ap (λ (r : ℕ). item_picture schema r (text_of w.word)) (sym same)
    ∙ ap (λ (t : List ℕ). item_picture schema (type_in schema (ws ++ w ∷ [])) t) (sym (named_there role.ItemName ws w h))

pub returns-else-has_role-2 : goal.returns-else-has_role-2
returns-else-has_role-2 c =
    let w = view_labelled c.args.word.now in
    let ws = c.args.self.now.words in
    let schema = c.args.self.now.schema in
    let h : is role.ItemName w ≡ false = sym c.has_role.ensures ∙ c.if-has_role.false in
    let both : (is role.TypeName w || is role.RecordName w) ≡ false = rw (← c.has_role-else-has_role.ensures, ← c.has_role-else-has_role-2.ensures) c.if-has_role-2.false in
    let p = or_parts (is role.TypeName w) (is role.RecordName w) both in
    let cache : IfSome c.self.inside.picture (λ p. p ≡ item_picture schema (type_in schema ws) (named role.ItemName ws)) =
    subst (λ (v : LineWords). IfSome c.self.inside.picture (λ p. p ≡ item_picture v.schema (type_in v.schema v.words) (named role.ItemName v.words))) c.self.view_is c.self.invariant.picture_is in
    let typed : IfSome c.self.inside.picture (λ p. p ≡ item_picture schema (type_in schema (ws ++ w ∷ [])) (named role.ItemName ws)) =
    subst (λ (r : ℕ). IfSome c.self.inside.picture (λ p. p ≡ item_picture schema r (named role.ItemName ws))) (sym (ap (type_no schema) (type_kept ws w p.0 p.1))) cache in
    subst (λ (t : List ℕ). IfSome c.self.inside.picture (λ p. p ≡ item_picture schema (type_in schema (ws ++ w ∷ [])) t)) (sym (named_kept role.ItemName ws w h)) typed
