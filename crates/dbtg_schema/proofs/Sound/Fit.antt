-- What is made of entries within the limits is within them.
use Rattle.std.proofs.Common.{ℕ, ◌≤◌, List, [], ◌∷◌, length, map, sym, subst}
use Rattle.std.specs.List.{All, AllByRecursion}
use Rattle.std.proofs.lemmas.List.Elements.{All-nil, All-cons}
use Rattle.dbtg_schema.specs.declared.role.Role.TheVariants as role
use Rattle.dbtg_schema.specs.declared.shape.Area.{Area}
use Rattle.dbtg_schema.specs.Texts.SchemaGrammar.{Labelled}
use Rattle.dbtg_schema.specs.Texts.Labels.{count_of}
use Rattle.dbtg_schema.specs.Texts.SchemaLists.{item_from, record_type_from}
use Rattle.dbtg_schema.proofs.Indexes.Places.{length_mapped}

pub items_fit : (areas : List Area) (es : List (List Labelled)) → AllByRecursion (λ e. count_of role.ItemEntry e ≤ 16) es → All (λ r. length r.items ≤ 16) (map (record_type_from areas) es)
items_fit areas [] h = All-nil (λ r. length r.items ≤ 16)
items_fit areas (e ∷ es) h =
    All-cons (λ r. length r.items ≤ 16) (record_type_from areas e) (map (record_type_from areas) es)
    (subst (λ (n : ℕ). n ≤ 16) (sym (length_mapped item_from role.ItemEntry e)) h.0) (items_fit areas es h.1)
