use Rattle.std.proofs.Common.{◌≡◌, sym, ◌∙◌, ap, List, ◌++◌, map, append_assoc}
use Rattle.std.proofs.lemmas.List.{map-append, map-id}
use Rattle.dbtg_cells.specs.declared.key.DbKey.{DbKey}
use Rattle.dbtg_cells.specs.declared.name.CellName.{CellName}
use Rattle.dbtg_cells.specs.declared.name.CellName.TheVariants.{Extent}
use Rattle.dbtg_cells.proofs.Public.{map_twice}
use Rattle.dbtg_unit.specs.declared.edit.CellEdit.{CellEdit}
use Rattle.dbtg_unit.specs.declared.edit.Edit.TheVariants.{Vacate}
use Rattle.dbtg_unit.specs.declared.erased.Erased.{Erased}
use Rattle.dbtg_unit.specs.Database.State.CellNames.{slot_name}
use Rattle.dbtg_unit.specs.Hands.EditsOf.{close_ring, edits_of_erased, leave_number, slot_edit}
use Rattle.dbtg_unit.proofs.edited_names.add_erased.Goals as goal

abbrev names_in : List CellEdit → List CellName
names_in = map (λ e. e.name)

abbrev extents : List DbKey → List CellName
extents = map (λ d. Extent d.rtype)

-- the names of the edits by which records go, part by part
names_of_parts : (e : Erased) → names_in (edits_of_erased e) ≡ extents e.gone ++ (names_in e.places ++ (e.rings ++ map slot_name e.gone))
names_of_parts e =
    let left = map leave_number e.gone in
    let closed = map close_ring e.rings in
    let vacated = map (λ d. slot_edit d Vacate) e.gone in
    map-append (λ (x : CellEdit). x.name) left (e.places ++ (closed ++ vacated))
    ∙ ap (λ l. l ++ names_in (e.places ++ (closed ++ vacated))) (map_twice (λ (x : CellEdit). x.name) leave_number e.gone)
    ∙ ap (λ l. extents e.gone ++ l)
    (map-append (λ (x : CellEdit). x.name) e.places (closed ++ vacated)
    ∙ ap (λ l. names_in e.places ++ l)
    (map-append (λ (x : CellEdit). x.name) closed vacated
    ∙ ap (λ l. l ++ names_in vacated) (map_twice (λ (x : CellEdit). x.name) close_ring e.rings ∙ map-id e.rings)
    ∙ ap (λ l. e.rings ++ l) (map_twice (λ (x : CellEdit). x.name) (λ d. slot_edit d Vacate) e.gone)))

in_turn : (us vs ws xs ys : List CellName) → (((us ++ vs) ++ ws) ++ xs) ++ ys ≡ us ++ (vs ++ (ws ++ (xs ++ ys)))
in_turn us vs ws xs ys = append_assoc ((us ++ vs) ++ ws) xs ys ∙ append_assoc (us ++ vs) ws (xs ++ ys) ∙ append_assoc us vs (ws ++ (xs ++ ys))

pub returns : goal.returns
returns c =
    let e = c.args.erased.now in
    let old = c.args.names.now.items in
    let left = c.in_ok-add_extents.ensures ∙ ap (λ l. old ++ extents l) c.as_slice.ensures in
    let placed = c.in_ok-add_names.ensures ∙ ap (λ l. l ++ names_in c.as_slice-2.result.now) left ∙ ap (λ l. (old ++ extents e.gone) ++ names_in l) c.as_slice-2.ensures in
    let closed = c.in_ok-extend_from_slice.ensures.items ∙ ap (λ l. l ++ c.as_slice-3.result.now) placed ∙ ap (λ l. ((old ++ extents e.gone) ++ names_in e.places) ++ l) c.as_slice-3.ensures in
    let vacated = c.in_ok-add_slots.ensures ∙ ap (λ l. l ++ map slot_name c.as_slice-4.result.now) closed ∙ ap (λ l. (((old ++ extents e.gone) ++ names_in e.places) ++ e.rings) ++ map slot_name l) c.as_slice-4.ensures in
    vacated ∙ in_turn old (extents e.gone) (names_in e.places) e.rings (map slot_name e.gone) ∙ ap (λ l. old ++ l) (sym (names_of_parts e))
