use Rattle.std.proofs.Common.{ℕ, List, Some, None, cond, not, sym, ap, ◌∙◌}
use Rattle.std.specs.Map.{lookup}
use Rattle.std.specs.Option.{option_or}
use Rattle.std.specs.Str.{bytes_eq}
use Rattle.indexmap.proofs.CallerLemmas.{insert_entry-new}
use Rattle.dbtg_schema.specs.Inside.NameIndexes.{leads_to}
use Rattle.dbtg_schema.proofs.Indexes.NameIndexes.{lookup_more}
use Rattle.dbtg_schema.proofs.index.NameIndex.enter.Goals as goal
use Rattle.dbtg_schema.proofs.Options.{none_is}

pub returns-in_ok-insert : goal.returns-in_ok-insert
returns-in_ok-insert c q =
    let old = c.args.self.now in
    let key = c.in_ok-key.key in
    let is_name = c.in_ok-key.ensures.items in
    let absent = ap (leads_to old) is_name ∙ sym c.number.ensures ∙ none_is c.number.result (c.is_none.ensures ∙ ap not c.if-is_none.true) in
    ap (lookup (λ k. bytes_eq q k.items)) (c.in_ok-insert.ensures.entries ∙ insert_entry-new (λ a b. bytes_eq a.items b.items) old.numbers key c.args.number absent)
    ∙ lookup_more (λ k. bytes_eq q k.items) old.numbers.entries key c.args.number
    ∙ ap (λ (n : List ℕ). option_or (leads_to old q) (cond (bytes_eq q n) (Some c.args.number) None)) is_name
