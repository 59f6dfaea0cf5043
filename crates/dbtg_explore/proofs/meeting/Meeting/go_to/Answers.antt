use Rattle.std.proofs.Common.{◌≡◌, ◌++◌, List, [], ap, get_or, length, subst, sym, arith}
use Rattle.std.proofs.lemmas.Result.{on_ok_weaker}
use Rattle.dbtg_going.proofs.Turning.{if_both}
use Rattle.dbtg_explore.specs.declared.orders.Link.{Link}
use Rattle.dbtg_explore.specs.declared.walk.Taken.{Taken}
use Rattle.dbtg_explore.specs.Inside.Links.{GoOn, IsWay, units_of}
use Rattle.dbtg_explore.specs.Inside.Walks.{StandsAt, links_of, order_of}
use Rattle.dbtg_explore.specs.Orders.{CanFollow}
use Rattle.dbtg_explore.proofs.Walks.{arrives, arrives_among, rest_follows, whole_way}
use Rattle.dbtg_explore.proofs.Ways.{long_links}
use Rattle.dbtg_explore.proofs.meeting.Meeting.go_to.Goals as goal

pub way_to-requires-clause-on : goal.way_to-requires-clause-on
way_to-requires-clause-on c = subst (λ (ts : List Taken). GoOn c.args.found.now.orders [] (links_of ts)) (sym c.as_slice.ensures.value) c.requires.stands.go_on

pub take_back_to-requires-clause-stands : goal.take_back_to-requires-clause-stands
take_back_to-requires-clause-stands c = (c.args.self.now, c.requires.stands.stands)

pub take_back_to-requires-clause-within : goal.take_back_to-requires-clause-within
take_back_to-requires-clause-within c =
    let same = ap (λ (ts : List Taken). length ts) c.as_slice.ensures.value in
    omega (arith, c.in_ok-way.ensures.within, long_links c.as_slice.result.now, same)

pub take_turns-requires-clause-stands : goal.take_turns-requires-clause-stands
take_turns-requires-clause-stands c = c.take_back_to.ensures.stands c.args.self.now c.requires.stands.stands

pub take_turns-requires-clause-turns : goal.take_turns-requires-clause-turns
take_turns-requires-clause-turns c =
    let m = c.args.self.now in
    let os = c.args.found.now.orders in
    let way = c.in_ok-way.way in
    let mid = c.take_back_to.new.self in
    let is = subst (λ (ts : List Taken). IsWay os (links_of ts) c.args.place way) c.as_slice.ensures.value c.in_ok-way.ensures in
    subst (λ (ls : List Link). CanFollow m mid.database.making.history (units_of ls)) (sym c.as_slice-2.ensures.value)
    (rest_follows m (get_or os c.args.place []) (units_of way.turns.items) mid c.requires.order (c.take_back_to.ensures.stands m c.requires.stands.stands)
    (whole_way m os c.args.place way c.args.walk.now mid mid is c.take_back_to.ensures.turns))

pub returns-clause-stands : goal.returns-clause-stands
returns-clause-stands c =
    let m = c.args.self.now in
    let os = c.args.found.now.orders in
    let way = c.in_ok-way.way in
    let mid = c.take_back_to.new.self in
    let new = c.take_turns.new.walk in
    let is = subst (λ (ts : List Taken). IsWay os (links_of ts) c.args.place way) c.as_slice.ensures.value c.in_ok-way.ensures in
    on_ok_weaker c.take_turns.result
    (λ h. arrives m os c.args.place way c.args.walk.now mid new is c.take_back_to.ensures.turns
    (subst (λ (ls : List Link). StandsAt m (order_of mid.turns.items ++ units_of ls) new) c.as_slice-2.ensures.value h))
    c.take_turns.ensures.stands

pub returns-clause-among : goal.returns-clause-among
returns-clause-among c =
    let m = c.args.self.now in
    let os = c.args.found.now.orders in
    let way = c.in_ok-way.way in
    let mid = c.take_back_to.new.self in
    let new = c.take_turns.new.walk in
    let is = subst (λ (ts : List Taken). IsWay os (links_of ts) c.args.place way) c.as_slice.ensures.value c.in_ok-way.ensures in
    if_both c.take_turns.result
    (λ _ h more. arrives_among m os c.args.place way c.args.walk.now mid new is c.take_back_to.ensures.turns c.requires.stands
    (subst (λ (ls : List Link). StandsAt m (order_of mid.turns.items ++ units_of ls) new) c.as_slice-2.ensures.value h)
    (subst (λ (ls : List Link). links_of new.turns.items ≡ links_of mid.turns.items ++ ls) c.as_slice-2.ensures.value more))
    c.take_turns.ensures.stands c.take_turns.ensures.links
