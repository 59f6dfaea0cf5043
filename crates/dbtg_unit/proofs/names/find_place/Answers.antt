use Rattle.std.proofs.Common.{◌≡◌, ◌∙◌, ◌<◌, ap, sym, Some, arith, true, false, true≢false}
use Rattle.std.specs.Prelude.{slice_get}
use Rattle.std.specs.List.{position_from}
use Rattle.indexmap.specs.IndexMap.{get}
use Rattle.dbtg_cells.specs.Names.{name_eq}
use Rattle.dbtg_cells.specs.CellNumbers.{place_in}
use Rattle.dbtg_unit.specs.Inside.HeldNames.{first_count, key_eq, past}
use Rattle.dbtg_unit.proofs.Hands.Holding.NumberedNames.{compares_alike, found_at_number, found_past_numbers, held_there}
use Rattle.dbtg_unit.proofs.names.find_place.Goals as goal
use Rattle.dbtg_unit.proofs.names.find_place.Goals.{else-at-count-via-then-at-count+else-stands_at, else-at-count-via-else-at-count}

pub returns-then-stands_at : goal.returns-then-stands_at
returns-then-stands_at c =
    let name = c.args.name.now in
    let names = c.args.names.now in
    let layout = c.in-Numbered.layout in
    let count = c.in-Numbered.count in
    let numbered = (c.requires.numbered layout count c.in-Numbered.is).1 in
    let place : c.number-at.result ≡ place_in layout name = c.number-at.ensures in
    let within : place_in layout name < count = omega (arith, place, c.if-at-count.true) in
    let there : slice_get names (place_in layout name) ≡ Some name = ap (slice_get names) (sym place) ∙ held_there name (slice_get names c.number-at.result) (sym c.stands_at.ensures ∙ c.if-stands_at.true) in
    ap Some place ∙ sym (found_at_number layout count names numbered name within there)

pub returns-else-at-count : goal.returns-else-at-count
returns-else-at-count c =
    let name = c.args.name.now in
    let names = c.args.names.now in
    let layout = c.in-Numbered.layout in
    let count = c.in-Numbered.count in
    let numbered = (c.requires.numbered layout count c.in-Numbered.is).1 in
    let place : c.number-at.result ≡ place_in layout name = c.number-at.ensures in
    c.find_key.ensures ∙ ap (get key_eq c.args.index.now) c.name_key.ensures ∙ c.requires.index name
    ∙ ap (λ first. past (first_count first) (position_from (name_eq name) 0 names)) c.in-Numbered.is
    ∙ found_past_numbers layout count names numbered name
    (λ within there.
    elim c.else-at-count.branch [
      | else-at-count-via-then-at-count+else-stands_at w ↦
          true≢false (sym (compares_alike name (slice_get names c.number-at.result) (ap (slice_get names) place ∙ there)) ∙ sym w.stands_at.ensures ∙ w.if-stands_at.false)
      | else-at-count-via-else-at-count w ↦ absurd (omega (arith, within, place, w.if-at-count.false))
    ])
