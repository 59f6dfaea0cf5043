use Rattle.std.proofs.Common.{◌∙◌, ◌++◌, ◌∷◌, [], ℕ, List, ap, refl, sym, subst, get_or}
use Rattle.std.proofs.lemmas.Bool.{true≢false}
use Rattle.std.proofs.lemmas.List.Elements.{Contains-get_or}
use Rattle.dbtg_unit.specs.declared.unit.Entry.{Entry}
use Rattle.dbtg_explore.specs.Orders.{can_turn, history_of}
use Rattle.dbtg_explore.specs.Wishes.{BreaksBy, breaks}
use Rattle.dbtg_explore.proofs.Judging.{made_last, next_both, next_there, turned_there}
use Rattle.dbtg_explore.proofs.Walks.{stands}
use Rattle.dbtg_explore.proofs.Ways.{among_one}
use Rattle.dbtg_explore.proofs.wishes.Wish.broken_at.Goals as goal

pub returns-then-not-is_next-clause-judged : goal.returns-then-not-is_next-clause-judged
returns-then-not-is_next-clause-judged c = λ b.
    true≢false (sym (next_there c.args.meeting.now c.args.self (get_or c.args.search.now.found.orders c.args.place []) b) ∙ sym c.is_next.ensures ∙ c.if-not-is_next.true)

pub go_to-requires-clause-order : goal.go_to-requires-clause-order
go_to-requires-clause-order c =
    let os = c.args.search.now.found.orders in
    c.requires.at.1.under_way.are_orders (get_or os c.args.place []) (Contains-get_or os c.args.place [] c.requires.within)

pub take_turn-requires-clause-stands : goal.take_turn-requires-clause-stands
take_turn-requires-clause-stands c = c.in_ok-go_to.ensures.among.stands

pub take_turn-requires-clause-turn : goal.take_turn-requires-clause-turn
take_turn-requires-clause-turn c =
    let m = c.args.meeting.now in
    let w = c.args.self in
    let both = next_both m w (history_of m (get_or c.args.search.now.found.orders c.args.place [])) (sym c.is_next.ensures ∙ c.if-not-is_next.false) in
    (λ i. can_turn m (c.in_ok-go_to.ensures.stands.history_is i) (c.in_ok-turn.ensures i).unit) ∙ both.can

pub returns-then-not-breaks-clause-judged : goal.returns-then-not-breaks-clause-judged
returns-then-not-breaks-clause-judged c = λ b.
    let m = c.args.meeting.now in
    let w = c.args.self in
    let o = get_or c.args.search.now.found.orders c.args.place [] in
    let there = turned_there m o c.args.place w.unit c.in_ok-turn.turn c.go_to.new.walk c.take_turn.new.walk c.in_ok-go_to.ensures.stands c.in_ok-turn.ensures c.in_ok-take_turn.ensures.stands in
    true≢false (sym b.breaks_is ∙ sym (ap (breaks w) (c.last_status.ensures (history_of m o) b.made.entry (there.history_is ∙ made_last m w o b))) ∙ sym c.breaks.ensures ∙ c.if-not-breaks.true)

pub returns-then-not-breaks-clause-stands : goal.returns-then-not-breaks-clause-stands
returns-then-not-breaks-clause-stands c =
    let m = c.args.meeting.now in
    let there = c.in_ok-go_to.ensures in
    let after = c.in_ok-take_turn.ensures in
    among_one m c.args.search.now.found.orders c.args.place c.args.self.unit c.in_ok-turn.turn c.go_to.new.walk c.take_turn.new.walk there.among c.requires.within (sym there.stands.order_is) c.in_ok-turn.ensures after.links (stands m _ c.take_turn.new.walk after.stands)

pub returns-clause-judged : goal.returns-clause-judged
returns-clause-judged c =
    let m = c.args.meeting.now in
    let w = c.args.self in
    let o = get_or c.args.search.now.found.orders c.args.place [] in
    let here = c.in_ok-go_to.ensures.stands in
    let after = c.in_ok-take_turn.ensures in
    let there = turned_there m o c.args.place w.unit c.in_ok-turn.turn c.go_to.new.walk c.take_turn.new.walk here c.in_ok-turn.ensures after.stands in
    let both = next_both m w (history_of m o) (sym c.is_next.ensures ∙ c.if-not-is_next.false) in
    let made = after.turned.one_more ∙ ap (λ (es : List Entry). es ++ after.turned.entry ∷ []) here.history_is in
    let turns = c.of.ensures ∙ c.in_ok-push.ensures.items ∙ ap (λ (l : List ℕ). l ++ w.unit ∷ []) c.in_ok-turns.ensures in (
      turns,
      subst (BreaksBy m w) (sym turns)
          (record {
            made = record {
              before = o;
              order_is = refl;
              is_order = there.is_order;
              line_is = both.line_is;
              entry = after.turned.entry;
              history_is = sym there.history_is ∙ made;
            };
            breaks_is = ap (breaks w) (sym (c.last_status.ensures (history_of m o) after.turned.entry made)) ∙ sym c.breaks.ensures ∙ c.if-not-breaks.false;
          }),
    )

pub returns-clause-stands : goal.returns-clause-stands
returns-clause-stands c =
    let m = c.args.meeting.now in
    let there = c.in_ok-go_to.ensures in
    let after = c.in_ok-take_turn.ensures in
    among_one m c.args.search.now.found.orders c.args.place c.args.self.unit c.in_ok-turn.turn c.go_to.new.walk c.take_turn.new.walk there.among c.requires.within (sym there.stands.order_is) c.in_ok-turn.ensures after.links (stands m _ c.take_turn.new.walk after.stands)
