-- Journals that grow by statements, and the orders that are filled in them.
use Rattle.std.proofs.Common.{◌≡◌, ℕ, ◌+◌, ◌<◌, ◌≤◌, List, [], ◌∷◌, ◌++◌, length, take, get_or, refl, sym, ap, ◌∙◌, subst, append_assoc, Bool, true}
use Rattle.std.specs.Prelude.{Result, Ok, Err, IfOk}
use Rattle.std.proofs.lemmas.List.{map-append, take_all, take_more}
use Rattle.dbtg_unit.specs.declared.statement.Statement.{Statement}
use Rattle.dbtg_unit.specs.declared.statement.Statement.TheVariants.{Keep}
use Rattle.dbtg_unit.specs.declared.unit.Answer.{Answer}
use Rattle.dbtg_unit.specs.declared.unit.Status.TheVariants.{Done}
use Rattle.dbtg_unit.specs.declared.unit.Entry.{Entry}
use Rattle.dbtg_unit.specs.declared.unit.Unit.{Unit}
use Rattle.dbtg_run.specs.declared.view.About.{About}
use Rattle.dbtg_run.specs.Drawn.{IsDone}
use Rattle.dbtg_run.specs.Entries.{entry}
use Rattle.inventory_clerks.specs.Orders.{AreFilled, Begins, HasKept, HasMade, HasRead, HasWritten, IsFilled, find_of}
use Rattle.inventory_clerks.specs.declared.order.Order.{Order}
use Rattle.inventory_clerks.specs.declared.order.Stop.{Stop}

append_none : (xs : List Entry) → xs ≡ xs ++ []
append_none [] = refl
append_none (x ∷ xs) = ap (λ l. x ∷ l) (append_none xs)

begins_here : (a : List Entry) → Begins a a
begins_here a = record { more = []; is = append_none a }

-- the ware is found, kept, read and then changed: if the change is done, the order is filled
pub filled_if : (order : Order) (stock : ℕ) (finding : Statement) (a b c d : List Entry) (r : Result Bool Stop) → finding ≡ find_of order.code
    → HasKept finding a b → HasRead stock b c → IfOk r (λ done. done ≡ true → HasWritten order stock c d) → IfOk r (λ done. done ≡ true → IsFilled a d order)
filled_if order stock finding a b c d (Ok done) is kept read written = λ yes. record {
  before = a;
  kept = b;
  read = c;
  stock = stock;
  behind = begins_here a;
  has_kept = subst (λ f. HasKept f a b) is kept;
  has_read = read;
  has_written = written yes;
}
filled_if order stock finding a b c d (Err stop) is kept read written = tt

pub begins_on : (a b c : List Entry) → Begins a b → Begins b c → Begins a c
begins_on a b c p q = record { more = p.more ++ q.more; is = q.is ∙ (ap (λ l. l ++ q.more) p.is ∙ append_assoc a p.more q.more) }

-- a record is found and kept by two statements
pub kept_by : (about : About) (a b c : List Entry) (u w : Unit) (finding : Statement) (one other : Answer) → IsDone about a b u finding one
    → IsDone about b c w Keep other → one.status ≡ Done → other.status ≡ Done → HasKept finding a c
kept_by about a b c u w finding one other D E one_done other_done =
    let e = entry (length D.before) u.number finding one in
    let f = entry (length E.before) w.number Keep other in
    record {
      found = e;
      kept = f;
      journal = E.journal ∙ (ap (λ l. l ++ f ∷ []) D.journal ∙ append_assoc a (e ∷ []) (f ∷ []));
      found_is = refl;
      kept_is = refl;
      found_done = one_done;
      kept_done = other_done;
    }

-- an order that is filled after a list is also filled after a list with which that begins
pub filled_behind : (a b c : List Entry) (order : Order) → Begins a b → IsFilled b c order → IsFilled a c order
filled_behind a b c order p f = record {
  before = f.before;
  kept = f.kept;
  read = f.read;
  stock = f.stock;
  behind = begins_on a b f.before p f.behind;
  has_kept = f.has_kept;
  has_read = f.has_read;
  has_written = f.has_written;
}

pub none_filled : (a : List Entry) → AreFilled a a []
unfolding AreFilled
none_filled a = begins_here a

-- one more order
filled_next : (a b c : List Entry) (orders : List Order) (order : Order) → AreFilled a b orders → IsFilled b c order → AreFilled a c (orders ++ order ∷ [])
unfolding AreFilled
filled_next a b c [] order p f = (c, filled_behind a b c order p f, begins_here c)
filled_next a b c (o ∷ orders) order p f = (p.0, p.1, filled_next p.0 b c orders order p.2 f)

-- one more order of those in a list
pub filled_more : (a b c : List Entry) (orders : List Order) (i : ℕ) (d : Order) → i < length orders → AreFilled a b (take i orders) → IsFilled b c (get_or orders i d)
    → AreFilled a c (take (i + 1) orders)
filled_more a b c orders i d below all filled =
    subst (AreFilled a c) (sym (take_more orders i d below)) (filled_next a b c (take i orders) (get_or orders i d) all filled)

pub all_filled : (a b : List Entry) (orders : List Order) (i : ℕ) → length orders ≤ i → AreFilled a b (take i orders) → AreFilled a b orders
all_filled a b orders i end all = subst (AreFilled a b) (take_all i orders end) all

-- orders that are filled after a list are also filled after the empty list
pub filled_in_all : (a b : List Entry) (orders : List Order) → AreFilled a b orders → AreFilled [] b orders
unfolding AreFilled
filled_in_all a b [] p = record { more = b; is = refl }
filled_in_all a b (o ∷ orders) p = (p.0, filled_behind [] a p.0 o (record { more = a; is = refl }) p.1, p.2)

pub none_made : (a : List Entry) → HasMade [] a a
none_made a = record { made = []; journal = append_none a; statements = refl }

pub one_made : (about : About) (script : List Statement) (a b c : List Entry) (u : Unit) (x : Statement) (answer : Answer)
    → HasMade script a b → IsDone about b c u x answer → HasMade (script ++ x ∷ []) a c
one_made about script a b c u x answer m D =
    let e = entry (length D.before) u.number x answer in
    record {
      made = m.made ++ e ∷ [];
      journal = D.journal ∙ (ap (λ l. l ++ e ∷ []) m.journal ∙ append_assoc a m.made (e ∷ []));
      statements = map-append (λ (y : Entry). y.statement) m.made (e ∷ []) ∙ ap (λ l. l ++ x ∷ []) m.statements;
    }

-- one more statement of those in a list
pub made_more : (about : About) (statements : List Statement) (i : ℕ) (a b c : List Entry) (u : Unit) (x : Statement) (answer : Answer)
    → i < length statements → x ≡ get_or statements i x → HasMade (take i statements) a b → IsDone about b c u x answer → HasMade (take (i + 1) statements) a c
made_more about statements i a b c u x answer below is m D =
    subst (λ l. HasMade l a c) (sym (take_more statements i x below ∙ ap (λ y. take i statements ++ y ∷ []) (sym is))) (one_made about (take i statements) a b c u x answer m D)

pub all_made : (statements : List Statement) (i : ℕ) (a b : List Entry) → length statements ≤ i → HasMade (take i statements) a b → HasMade statements a b
all_made statements i a b end m = subst (λ l. HasMade l a b) (take_all i statements end) m
