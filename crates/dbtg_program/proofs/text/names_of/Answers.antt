use Rattle.std.proofs.Common.{◌≡◌, ◌≤◌, ◌++◌, List, ap, drop, length, map, subst, sym, ◌∙◌}
use Rattle.std.specs.List.{flat_map}
use Rattle.dbtg_schema.specs.declared.shape.Item.{Item}
use Rattle.dbtg_program.specs.Inside.Views.{view_holding}
use Rattle.dbtg_program.specs.Sentences.{counters_of, field_named}
use Rattle.dbtg_program.specs.States.{beginning_with}
use Rattle.dbtg_program.specs.Values.{fields_of, records_from}
use Rattle.dbtg_program.proofs.Gathering.{behind_front, front_within}
use Rattle.dbtg_program.proofs.text.names_of.Goals as goal

pub returns : goal.returns
returns c =
    let counters = counters_of (map view_holding c.args.sentences.now) in
    let front = c.in_ok-fields.fields.items.items in
    let first = length c.as_slice-first_counter.result.now in
    let count : first ≡ length front = ap (λ (xs : List Item). length xs) c.as_slice-first_counter.ensures.value in
    let pushed : c.push_counters.new.fields.items ≡ front ++ counters = c.in_ok-push_counters.ensures in
    let all : c.push_counters.new.fields.items ≡ flat_map fields_of c.args.schema.now.types ++ counters =
    pushed ∙ ap (λ (xs : List Item). xs ++ counters) (c.in_ok-fields.ensures.items ∙ ap (flat_map fields_of) c.types.ensures.types) in
    record {
      fields_are = all;
      firsts_are = c.in_ok-fields.ensures.firsts ∙ ap (records_from 0) c.types.ensures.types;
      within = subst (λ (xs : List Item). first ≤ length xs) (sym pushed) (front_within front counters first count);
      counters_are = ap (drop first) pushed ∙ behind_front front counters first count;
      fields_lead = λ name. c.in_ok-places.ensures name ∙ ap (λ (xs : List Item). field_named xs name) (c.as_slice.ensures.value ∙ all);
      beginning_is = c.in_ok-beginning.ensures ∙ ap beginning_with (c.as_slice-2.ensures.value ∙ all);
    }
