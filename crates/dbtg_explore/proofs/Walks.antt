-- A walk: where it stands after turns are taken, and taken back.
-- m is a meeting, u a unit, t a turn that was taken, ts are turns, w is a walk, o an order.
use Rattle.std.proofs.Common.{◌≡◌, refl, sym, ◌∙◌, ap, subst, ℕ, ◌+◌, ◌-◌, ◌<◌, ◌≤◌, true, false, List, [], ◌∷◌, ◌++◌, length, length-append, get_or, take, drop, take-append-drop, append-nil, append_assoc, Option, Some, None, arith, true≢false}
use Rattle.std.proofs.lemmas.List.{length-take-le, map_push, take-append-le, take-take, take_all, take_more}
use Rattle.dbtg_unit.specs.declared.unit.Entry.{Entry}
use Rattle.dbtg_unit.specs.Database.Laws.Replay.{entries_of}
use Rattle.dbtg_program.specs.declared.program.Program.{Program}
use Rattle.dbtg_step.specs.Core.Reversible.{Reversible, made_first}
use Rattle.dbtg_step.specs.Core.Whole.{Making}
use Rattle.dbtg_step.specs.Machine.SequentialDatabase.{unit_at, with_unit_at}
use Rattle.dbtg_going.specs.declared.member.Going.{Going}
use Rattle.dbtg_going.specs.Goings.{AreAfter, AreGoing, IsGoing}
use Rattle.dbtg_going.specs.Turns.{making_by}
use Rattle.dbtg_going.proofs.Turning.{one_less}
use Rattle.dbtg_explore.specs.declared.walk.Taken.{Taken}
use Rattle.dbtg_explore.specs.declared.walk.Walk.{Walk}
use Rattle.dbtg_explore.specs.Orders.{CanFollow, IsOrder, Meeting, after_order, after_turn, beginning, can_turn, history_of}
use Rattle.dbtg_explore.specs.declared.way.Way.{Way}
use Rattle.dbtg_explore.specs.Inside.Links.{GoOn, IsWay, units_of}
use Rattle.dbtg_explore.specs.Inside.Walks.{AreStanding, AreTaken, HasTurned, IsTaken, KnowsReads, Stands, StandsAmong, StandsAt, links_of, order_of}
use Rattle.dbtg_explore.proofs.Placed.{has_number}
use Rattle.dbtg_explore.proofs.Ways.{first_links, go_first, taken_on, units_are}
use Rattle.dbtg_explore.proofs.Turning.{first_can, follow_front, follow_rest, history_on, no_turn, none_follow, order_behind, order_on}

-- some elements from the beginning of all, without the last of them
pub one_less_left : {X : Type 0} (all some less : List X) → 0 < length some → some ≡ take (length some) all → less ≡ take (length some - 1) some → (length less ≡ length some - 1) × (less ≡ take (length less) all)
one_less_left all some less there some_are less_are =
    let long : length less ≡ length some - 1 = ap length less_are ∙ length-take-le (length some - 1) some (omega arith) in
    (long, less_are ∙ ap (take (length some - 1)) some_are ∙ take-take (length some - 1) (length some) all (omega arith) ∙ ap (λ n. take n all) (sym long))

module _ (m : Meeting) where
  -- TURNS IN TWO PARTS

  none_taken : (history : List Entry) → AreTaken m history []
  unfolding AreTaken
  none_taken history = tt

  one_taken : (history : List Entry) (t : Taken) → IsTaken m history t → AreTaken m history (t ∷ [])
  unfolding AreTaken
  one_taken history t is = (is, tt)

  taken_front : (history : List Entry) (ts us : List Taken) → AreTaken m history (ts ++ us) → AreTaken m history ts
  unfolding AreTaken
  taken_front history [] us a = tt
  taken_front history (t ∷ ts) us a = (a.0, taken_front (after_turn m history t.unit) ts us a.1)

  taken_last : (history : List Entry) (ts : List Taken) (t : Taken) → AreTaken m history (ts ++ t ∷ []) → IsTaken m (after_order m history (order_of ts)) t
  unfolding AreTaken after_order
  taken_last history [] t a = a.0
  taken_last history (s ∷ ts) t a = taken_last (after_turn m history s.unit) ts t a.1

  taken_both : (history : List Entry) (ts us : List Taken) → AreTaken m history ts → AreTaken m (after_order m history (order_of ts)) us → AreTaken m history (ts ++ us)
  unfolding AreTaken after_order
  taken_both history [] us a b = b
  taken_both history (t ∷ ts) us a b = (a.0, taken_both (after_turn m history t.unit) ts us a.1 b)

  -- they can follow one another, and none takes an entry away
  taken_follow : (history : List Entry) (ts : List Taken) → AreTaken m history ts → CanFollow m history (order_of ts)
  unfolding AreTaken CanFollow
  taken_follow history [] a = tt
  taken_follow history (t ∷ ts) a = (a.0.could, taken_follow (after_turn m history t.unit) ts a.1)

  taken_long : (history : List Entry) (ts : List Taken) → AreTaken m history ts → length history ≤ length (after_order m history (order_of ts))
  unfolding AreTaken after_order
  taken_long history [] a = omega arith
  taken_long history (t ∷ ts) a =
      let more = ap length a.0.history_is in
      let both = length-append history (a.0.entry ∷ []) in
      let rest = taken_long (after_turn m history t.unit) ts a.1 in
      omega (arith, more, both, rest)

  -- WHERE A WALK STANDS

  pub stands : (o : List ℕ) (w : Walk) → StandsAt m o w → Stands m w
  stands o w h = subst (λ p. StandsAt m p w) (sym h.order_is) h

  -- no turn is taken
  pub among_first : (os : List (List ℕ)) (w : Walk) → StandsAt m [] w → StandsAmong m os w
  among_first os w h = record { stands = stands [] w h; go_on = none w.turns.items h.order_is } where
    none : (ts : List Taken) → order_of ts ≡ [] → GoOn os [] (links_of ts)
    none [] is = tt
    none (t ∷ ts) is = absurd (cc (is))

  pub stands_first : (database : Making) (goings : List Going) (w : Walk) → AreAfter m.schema m.capacity m.programs m.begun database goings → w.database ≡ record { making = database; stays = length database.history } → w.goings.items ≡ goings → w.turns.items ≡ [] → KnowsReads m w → StandsAt m [] w
  stands_first database goings w a d g none knows =
      let history : database.history ≡ beginning m = ap (λ (n : Making). n.history) a.database_is in
      let making : w.database.making ≡ database = ap (λ (r : Reversible). r.making) d in
      let standing : AreStanding m database goings = record {
        database_is = a.database_is ∙ (λ i. record (making_by m.schema m.capacity m.programs m.begun) { history = (sym history) i });
        are_going = a.are_going;
      } in
      record {
        is_order = none_follow m (beginning m);
        is_place = subst (λ (n : Making). AreStanding m n w.goings.items) (sym making) (subst (λ (gs : List Going). AreStanding m database gs) (sym g) standing);
        history_is = ap (λ (n : Making). n.history) making ∙ history ∙ sym (no_turn m (beginning m));
        order_is = ap order_of none;
        are_taken = subst (AreTaken m (beginning m)) (sym none) (none_taken (beginning m));
        stays_are = ap (λ (r : Reversible). r.stays) d ∙ ap (λ (es : List Entry). length es) history;
        knows = knows;
      }

  -- the history before a turn
  pub history_before : (u : ℕ) (old new : Making) (goings : List Going) → HasTurned m u old new goings → take (length new.history - 1) new.history ≡ old.history
  history_before u old new goings turned =
      let long = ap (λ (es : List Entry). length es) turned.one_more ∙ length-append old.history (turned.entry ∷ []) in
      let count : length new.history - 1 ≡ length old.history = omega (arith, long) in
      (λ i. take (count i) (turned.one_more i)) ∙ take-append-le (length old.history) old.history (turned.entry ∷ []) (omega arith) ∙ take_all (length old.history) old.history (omega arith)

  -- the turn can be taken back
  pub turn_above : (o : List ℕ) (u : ℕ) (old new : Walk) → Stands m old → StandsAt m o new → HasTurned m u old.database.making new.database.making new.goings.items → new.database.stays < length new.database.making.history
  turn_above o u old new h g turned =
      let long = ap (λ (es : List Entry). length es) turned.one_more ∙ length-append old.database.making.history (turned.entry ∷ []) in
      let most = taken_long (beginning m) old.turns.items h.are_taken in
      let history = ap (λ (es : List Entry). length es) h.history_is in
      omega (arith, long, most, history, g.stays_are)

  -- one turn more
  pub stands_on : (place u : ℕ) (old new : Walk) (before : Going) → Stands m old → can_turn m old.database.making.history u ≡ true → HasTurned m u old.database.making new.database.making new.goings.items → new.database.stays ≡ old.database.stays
      → unit_at old.goings.items u ≡ Some before → new.turns.items ≡ old.turns.items ++ record { place = place; unit = u; before = before } ∷ [] → new.reads.items ≡ old.reads.items → StandsAt m (order_of old.turns.items ++ u ∷ []) new
  stands_on place u old new before h can turned stays found pushed reads =
      let order = order_of old.turns.items in
      let t : Taken = record { place = place; unit = u; before = before } in
      let could : can_turn m (history_of m order) u ≡ true = ap (λ (es : List Entry). can_turn m es u) (sym h.history_is) ∙ can in
      let going : (program : Program) → unit_at m.programs u ≡ Some program → IsGoing m.schema program (entries_of u old.database.making.history) before = λ program is.
      let there = h.is_place.are_going.each u program is in
      let same : there.0 ≡ before = cc (there.1, found) in
      subst (IsGoing m.schema program (entries_of u old.database.making.history)) same there.2 in
      let taken : IsTaken m old.database.making.history t = record {
        could = can;
        entry = turned.entry;
        of_unit = turned.of_unit;
        history_is = sym turned.history_is ∙ turned.one_more;
        before = going;
      } in
      record {
        is_order = order_on m order u h.is_order could;
        is_place = turned.standing;
        history_is = turned.history_is ∙ ap (λ (es : List Entry). after_turn m es u) h.history_is ∙ sym (history_on m order u);
        order_is = ap order_of pushed ∙ map_push (λ (x : Taken). x.unit) old.turns.items t;
        are_taken = subst (AreTaken m (beginning m)) (sym pushed) (taken_both (beginning m) old.turns.items (t ∷ []) h.are_taken (one_taken (history_of m order) t (subst (λ (es : List Entry). IsTaken m es t) h.history_is taken)));
        stays_are = stays ∙ h.stays_are;
        knows = reads ∙ h.knows;
      }

  -- turns one after another
  pub stands_still : (w : Walk) → Stands m w → StandsAt m (order_of w.turns.items ++ []) w
  stands_still w h = subst (λ o. StandsAt m o w) (sym (append-nil (order_of w.turns.items))) h

  pub stands_further : (o us : List ℕ) (i : ℕ) (mid new : Walk) → i < length us → StandsAt m (o ++ take i us) mid → StandsAt m (order_of mid.turns.items ++ get_or us i 0 ∷ []) new → StandsAt m (o ++ take (i + 1) us) new
  stands_further o us i mid new low h g =
      let front : order_of mid.turns.items ++ get_or us i 0 ∷ [] ≡ o ++ take (i + 1) us =
      ap (λ p. p ++ get_or us i 0 ∷ []) h.order_is ∙ append_assoc o (take i us) (get_or us i 0 ∷ []) ∙ ap (λ p. o ++ p) (sym (take_more us i 0 low)) in
      subst (λ p. StandsAt m p new) front g

  pub next_can : (old mid : Walk) (us : List ℕ) (i : ℕ) → Stands m old → i < length us → CanFollow m old.database.making.history us → StandsAt m (order_of old.turns.items ++ take i us) mid → can_turn m mid.database.making.history (get_or us i 0) ≡ true
  next_can old mid us i h low f g =
      let history = old.database.making.history in
      let u = get_or us i 0 in
      let front : CanFollow m history (take (i + 1) us) = follow_front m history (take (i + 1) us) (drop (i + 1) us) (subst (CanFollow m history) (sym (take-append-drop (i + 1) us)) f) in
      let parts : CanFollow m history (take i us ++ u ∷ []) = subst (CanFollow m history) (take_more us i 0 low) front in
      let there : mid.database.making.history ≡ after_order m history (take i us) =
      g.history_is ∙ order_behind m (beginning m) (order_of old.turns.items) (take i us) ∙ ap (λ (es : List Entry). after_order m es (take i us)) (sym h.history_is) in
      ap (λ (es : List Entry). can_turn m es u) there ∙ first_can m (after_order m history (take i us)) u [] (follow_rest m history (take i us) (u ∷ []) parts)

  -- THE LAST TURN TAKEN BACK

  -- what there is to take back
  pub record IsLast (w : Walk) (t : Taken) : Type 0 where
    pub numbered : 0 < t.unit
    pub within : t.unit ≤ length w.goings.items
    pub some : 0 < length w.database.making.history
    pub above : w.database.stays ≤ length w.database.making.history - 1

  turner : (history : List Entry) (u : ℕ) → can_turn m history u ≡ true → (program : Program) × (unit_at m.programs u ≡ Some program)
  turner history u can = by (unit_at m.programs u) refl where
    by : (o : Option Program) → unit_at m.programs u ≡ o → (program : Program) × (unit_at m.programs u ≡ Some program)
    by (Some program) e = (program, e)
    by None e =
        let cannot : can_turn m history u ≡ false = rw e refl in
        absurd (true≢false (sym can ∙ cannot))

  module _ (w : Walk) (ts : List Taken) (t : Taken) (h : Stands m w) (last : w.turns.items ≡ ts ++ t ∷ []) where
    are : AreTaken m (beginning m) (ts ++ t ∷ [])
    are = subst (AreTaken m (beginning m)) last h.are_taken

    is : IsTaken m (history_of m (order_of ts)) t
    is = taken_last (beginning m) ts t are

    -- the history before it
    before_is : w.database.making.history ≡ history_of m (order_of ts) ++ is.entry ∷ []
    before_is = h.history_is ∙ ap (history_of m) (ap order_of last ∙ map_push (λ (x : Taken). x.unit) ts t) ∙ history_on m (order_of ts) t.unit ∙ is.history_is

    long : length w.database.making.history ≡ length (history_of m (order_of ts)) + 1
    long = ap (λ (es : List Entry). length es) before_is ∙ length-append (history_of m (order_of ts)) (is.entry ∷ [])

    pub is_last : IsLast w t
    is_last =
        let there = turner (history_of m (order_of ts)) t.unit is.could in
        let number = has_number m.programs t.unit there.0 there.1 in
        let most = taken_long (beginning m) ts (taken_front (beginning m) ts (t ∷ []) are) in
        record {
          numbered = number.0;
          within = omega (arith, number.1, h.is_place.are_going.count);
          some = omega (arith, long);
          above = omega (arith, long, most, h.stays_are);
        }

    pub stands_back : (new : Walk) → new.turns.items ≡ ts → new.database ≡ record w.database { making = made_first (length w.database.making.history - 1) w.database.making } → new.goings.items ≡ with_unit_at w.goings.items t.unit t.before → new.reads.items ≡ w.reads.items → Stands m new
    stands_back new turns database goings reads =
        let history = history_of m (order_of ts) in
        let making : new.database.making ≡ made_first (length w.database.making.history - 1) w.database.making = ap (λ (r : Reversible). r.making) database in
        let count : length w.database.making.history - 1 ≡ length history = omega (arith, long) in
        let back : take (length w.database.making.history - 1) w.database.making.history ≡ history =
        (λ i. take (count i) (before_is i)) ∙ take-append-le (length history) history (is.entry ∷ []) (omega arith) ∙ take_all (length history) history (omega arith) in
        let history_is : new.database.making.history ≡ history = ap (λ (n : Making). n.history) making ∙ back in
        let front = taken_front (beginning m) ts (t ∷ []) are in
        let order : order_of new.turns.items ≡ order_of ts = ap order_of turns in
        let are_going : AreGoing m.schema m.programs history (with_unit_at w.goings.items t.unit t.before) =
        one_less (IsGoing m.schema) m.programs history w.goings.items t.unit is.entry is.of_unit (subst (λ (es : List Entry). AreGoing m.schema m.programs es w.goings.items) before_is h.is_place.are_going) t.before is.before in
        let history_back : take (length w.database.making.history - 1) w.database.making.history ≡ new.database.making.history = ap (λ (n : Making). n.history) (sym making) in
        let place : AreStanding m new.database.making new.goings.items = record {
          database_is = making ∙ (λ i. record (h.is_place.database_is i) { history = history_back i });
          are_going = subst (λ (es : List Entry). AreGoing m.schema m.programs es new.goings.items) (sym history_is) (subst (λ (gs : List Going). AreGoing m.schema m.programs history gs) (sym goings) are_going);
        } in
        record {
          is_order = subst (IsOrder m) (sym order) (taken_follow (beginning m) ts front);
          is_place = place;
          history_is = history_is ∙ ap (history_of m) (sym order);
          order_is = refl;
          are_taken = subst (AreTaken m (beginning m)) (sym turns) front;
          stays_are = ap (λ (r : Reversible). r.stays) database ∙ h.stays_are;
          knows = reads ∙ h.knows;
        }

  -- FROM ONE ORDER TO ANOTHER

  -- what an order has behind the turns of a walk can follow them
  pub rest_follows : (o us : List ℕ) (w : Walk) → IsOrder m o → Stands m w → order_of w.turns.items ++ us ≡ o → CanFollow m w.database.making.history us
  rest_follows o us w is h parts =
      subst (λ (es : List Entry). CanFollow m es us) (sym h.history_is) (follow_rest m (beginning m) (order_of w.turns.items) us (subst (CanFollow m (beginning m)) (sym parts) is))

  -- the turns that stay of a way, and those behind them
  module _ (os : List (List ℕ)) (place : ℕ) (way : Way) (old mid new : Walk) (is : IsWay os (links_of old.turns.items) place way) (stay : mid.turns.items ≡ take way.stay old.turns.items) where
    stay_links : links_of mid.turns.items ≡ take way.stay (links_of old.turns.items)
    stay_links = first_links way.stay old.turns.items mid.turns.items stay

    stay_units : order_of mid.turns.items ≡ units_of (take way.stay (links_of old.turns.items))
    stay_units = sym (units_are mid.turns.items) ∙ ap units_of stay_links

    pub whole_way : order_of mid.turns.items ++ units_of way.turns.items ≡ get_or os place []
    whole_way = ap (λ o. o ++ units_of way.turns.items) stay_units ∙ is.order_is

    pub arrives : StandsAt m (order_of mid.turns.items ++ units_of way.turns.items) new → StandsAt m (get_or os place []) new
    arrives h = subst (λ p. StandsAt m p new) whole_way h

    pub arrives_among : StandsAmong m os old → StandsAt m (order_of mid.turns.items ++ units_of way.turns.items) new → links_of new.turns.items ≡ links_of mid.turns.items ++ way.turns.items → StandsAmong m os new
    arrives_among among h more =
        let front = subst (GoOn os []) (sym stay_links) (go_first os [] (links_of old.turns.items) way.stay among.go_on) in
        record {
          stands = stands (order_of mid.turns.items ++ units_of way.turns.items) new h;
          go_on = taken_on os mid.turns.items new.turns.items way.turns.items front (subst (λ o. GoOn os o way.turns.items) (sym stay_units) is.go_on) more;
        }
