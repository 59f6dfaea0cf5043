use Rattle.std.proofs.Common.{◌≡◌, ◌∙◌, List, ℕ, ◌<◌, [], ◌∷◌, ◌++◌, length, refl, sym, subst, arith}
use Rattle.std.specs.Prelude.{IfSome}
use Rattle.std.proofs.lemmas.List.{map_push}
use Rattle.dbtg_script.specs.Labels.{named}
use Rattle.dbtg_script.specs.Lookups.{item_picture, type_named}
use Rattle.dbtg_script.specs.StatementFaults.{type_in, type_text}
use Rattle.dbtg_script.specs.Inside.Views.{view_labelled, views}
use Rattle.dbtg_script.specs.Inside.Words.{LineWords}
use Rattle.dbtg_script.specs.declared.role.Role.TheVariants as role
use Rattle.dbtg_script.proofs.Reading.WordSteps.{noted_behind}
use Rattle.dbtg_script.proofs.words.Words.push.Goals as goal

pub invariant_of-self-2 : goal.invariant_of-self-2
invariant_of-self-2 c =
    let w = view_labelled c.args.word.now in
    let roles = c.self.inside.roles in
    let rtype = c.type_behind-rtype.result in
    let picture = c.picture_behind-picture.result in
    let old : LineWords = record { schema = c.self.inside.schema.now; words = views c.self.inside.list.items } in
    let room : c.place_of.result < length roles = omega arith in
    let typed = subst (λ (v : LineWords). IfSome rtype (λ r. r ≡ type_named v.schema (type_text (v.words ++ w ∷ [])))) (sym c.self.view_is) c.type_behind-rtype.ensures in
    let pictured = subst (λ (v : LineWords). IfSome picture (λ p. p ≡ item_picture v.schema (type_in v.schema (v.words ++ w ∷ [])) (named role.ItemName (v.words ++ w ∷ [])))) (sym c.self.view_is) c.picture_behind-picture.ensures in
    let list : views c.push.new.self.items ≡ old.words ++ w ∷ [] = rw (c.in_ok-push.ensures.items, map_push) refl in
    noted_behind old roles rtype picture w c.place_of.result (views c.push.new.self.items) c.place_of.ensures.place room c.self.invariant.roles_are typed pictured list
