-- Items that stand in their order, with their values, say the statement that they are read as.
use Rattle.std.proofs.Common.{◌≡◌, ℕ, zero, suc, ◌+◌, ◌<◌, ◌≤◌, true, false, eqb, List, [], ◌∷◌, ◌++◌, length, get_or, drop, Some, None, refl, sym, ap, subst, ◌∙◌, inl, inr, arith, codes, append_assoc}
use Rattle.std.specs.Prelude.{option_and_then, option_map, slice_get, unwrap_or}
use Rattle.std.specs.Str.{bytes_eq}
use Rattle.std.proofs.lemmas.Bool.{cases_Bool}
use Rattle.std.proofs.lemmas.List.{append-nil, drop_more}
use Rattle.std.proofs.lemmas.Option.{slice_get-map}
use Rattle.std.proofs.lemmas.Slice.Eq.{bytes_eq-Decides}
use Rattle.dbtg_schema.specs.declared.shape.Item.{Item}
use Rattle.dbtg_schema.specs.declared.shape.Picture.{Picture}
use Rattle.dbtg_schema.specs.declared.shape.Picture.TheVariants.{Number, Text as TextPicture}
use Rattle.dbtg_schema.specs.Lists.{Lists}
use Rattle.dbtg_schema.specs.Lookups.{first}
use Rattle.dbtg_schema.specs.Structure.{item_list, picture_of}
use Rattle.dbtg_schema.specs.Texts.Forms.{labelled, labels, start_with, starts}
use Rattle.dbtg_schema.specs.Texts.Spelling.{among}
use Rattle.dbtg_schema.proofs.Public.{bytes_same}
use Rattle.dbtg_cells.specs.declared.key.Value.{Value}
use Rattle.dbtg_unit.specs.declared.statement.Statement.TheVariants as statement
use Rattle.dbtg_script.specs.declared.automaton.State.TheVariants as state
use Rattle.dbtg_script.specs.declared.role.Role.{Role}
use Rattle.dbtg_script.specs.declared.role.Role.TheVariants as role
use Rattle.dbtg_script.specs.Inside.Automaton.{rest_of}
use Rattle.dbtg_script.specs.Labels.{first_word, given, has, last_text, named, number, texts}
use Rattle.dbtg_script.specs.Lookups.{item_named, item_picture, type_named, type_no}
use Rattle.dbtg_script.specs.Reading.{verdict}
use Rattle.dbtg_script.specs.StatementFaults.{said, type_in, value_faults}
use Rattle.dbtg_script.specs.StatementGrammar.{fits, value, Form, Kind, Labelled}
use Rattle.dbtg_script.specs.StatementGrammar as grammar
use Rattle.dbtg_script.specs.Statements.{statement_of, values_of}
use Rattle.dbtg_script.specs.Tokens.{Token, plain, equals, literal}
use Rattle.dbtg_script.specs.Inside.Usual.{AreAssigned, AreSaid, IsAssigned, IsGiven, nothing}
use Rattle.dbtg_script.specs.Values.{blank, spelled, value_for}
use Rattle.dbtg_script.proofs.Reading.Steps.{goes_on}
use Rattle.dbtg_script.proofs.Reading.Suppressed.{none_suppressed}
use Rattle.dbtg_script.proofs.Fitting.Derivations.{named_last}

-- WORDS OF ASSIGNMENTS

-- a name and the value that is given to it
abbrev pub Pair : Type 0
Pair = List ℕ × Token

abbrev item_word : List ℕ → Labelled
item_word n = labelled role.ItemName (plain n)

abbrev sign : Labelled
sign = labelled role.Plain equals

abbrev value_word : Token → Labelled
value_word t = labelled role.Value t

abbrev pub assigned : List Pair → List Labelled
assigned [] = []
assigned (a ∷ ps) = item_word a.0 ∷ sign ∷ value_word a.1 ∷ assigned ps

-- the words of an assignment up to its sign, after others
abbrev begun : List Pair → List ℕ → List Labelled
begun ps n = (assigned ps ++ item_word n ∷ []) ++ sign ∷ []

pub no_role : (r : Role) (ps : List Pair) → eqb (number role.ItemName) (number r) ≡ false → eqb (number role.Plain) (number r) ≡ false → eqb (number role.Value) (number r) ≡ false → has r (assigned ps) ≡ false
no_role r [] a b c = refl
no_role r (x ∷ ps) a b c = rw (a, b, c, no_role r ps a b c) refl

begun_no_role : (r : Role) (ps : List Pair) (n : List ℕ) → eqb (number role.ItemName) (number r) ≡ false → eqb (number role.Plain) (number r) ≡ false → eqb (number role.Value) (number r) ≡ false → has r (begun ps n) ≡ false
begun_no_role r [] n a b c = rw (a, b) refl
begun_no_role r (x ∷ ps) n a b c = rw (a, b, c, begun_no_role r ps n a b c) refl

pub no_sort_value : (ps : List Pair) → first_word role.SortedValue (assigned ps) ≡ None
no_sort_value [] = refl
no_sort_value (a ∷ ps) = no_sort_value ps

one_more : (ps : List Pair) (n : List ℕ) (t : Token) → begun ps n ++ value_word t ∷ [] ≡ assigned (ps ++ (n, t) ∷ [])
one_more [] n t = refl
one_more (a ∷ ps) n t = ap (λ ws. item_word a.0 ∷ sign ∷ value_word a.1 ∷ ws) (one_more ps n t)

last_item : (t n : List ℕ) (ps : List Pair) → last_text role.ItemName t (begun ps n) ≡ n
last_item t n [] = refl
last_item t n (a ∷ ps) = last_item a.0 n ps

-- a value that is spelled has no fault
pub spelled_faultless : (p : Picture) (t : Token) (v : Value) → spelled p t ≡ Some v → first (value_faults (Some p) t) ≡ None
spelled_faultless (Number n) (plain t) v h = rw h refl
spelled_faultless (Number n) equals v h = absurd cc
spelled_faultless (Number n) (literal t) v h = absurd cc
spelled_faultless (TextPicture n) (plain t) v h = absurd cc
spelled_faultless (TextPicture n) equals v h = absurd cc
spelled_faultless (TextPicture n) (literal t) v h = rw h refl

-- THE ITEMS OF A RECORD TYPE

next_item : (xs is : List Item) (k : ℕ) (i : Item) → drop k xs ≡ i ∷ is → (slice_get xs k ≡ Some i) × (drop (k + 1) xs ≡ is)
next_item [] is zero i h = absurd cc
next_item [] is (suc k) i h = absurd cc
next_item (x ∷ xs) is zero i h = (cc, cc)
next_item (x ∷ xs) is (suc k) i h =
    let r = next_item xs is k i h in
    let e : suc k + 1 ≡ suc (k + 1) = omega arith in
    (r.0, ap (λ n. drop n (x ∷ xs)) e ∙ r.1)

module _ (schema : Lists) (r : ℕ) where
  -- each of these names is an item's, and P holds of the item's number
  abbrev pub Numbered : (ℕ → Type 0) → List Pair → Type 0
  Numbered P [] = Unit {0}
  Numbered P (a ∷ ps) = (j : ℕ) × (item_named schema r a.0 ≡ Some j) × P j × Numbered P ps

  weaker : (P Q : ℕ → Type 0) → ((j : ℕ) → P j → Q j) → (ps : List Pair) → Numbered P ps → Numbered Q ps
  weaker P Q f [] h = tt
  weaker P Q f (a ∷ ps) h = (h.0, h.1, f h.0 h.2, weaker P Q f ps h.3)

  both : (P : ℕ → Type 0) (ps bs : List Pair) → Numbered P ps → Numbered P bs → Numbered P (ps ++ bs)
  both P [] bs h g = g
  both P (a ∷ ps) bs h g = (h.0, h.1, h.2, both P ps bs h.3 g)

  other_name : (n m : List ℕ) (k j : ℕ) → item_named schema r n ≡ Some k → item_named schema r m ≡ Some j → (j ≡ k → ⊥) → bytes_eq n m ≡ false
  other_name n m k j e f differ = elim (cases_Bool (bytes_eq n m)) [
    | inl same ↦ absurd (differ (let g : Some j ≡ Some k = sym f ∙ ap (item_named schema r) (sym ((bytes_eq-Decides n m).0 same)) ∙ e in cc))
    | inr apart ↦ apart
  ]

  not_named : (n : List ℕ) (k : ℕ) (ps : List Pair) → item_named schema r n ≡ Some k → Numbered (λ j. j ≡ k → ⊥) ps → among n (texts role.ItemName (assigned ps)) ≡ false
  not_named n k [] e h = refl
  not_named n k (a ∷ ps) e h = rw (other_name n a.0 k h.0 e h.1 h.2, not_named n k ps e h.3) refl

  given_behind : (n : List ℕ) (k : ℕ) (ps bs : List Pair) → item_named schema r n ≡ Some k → Numbered (λ j. j ≡ k → ⊥) ps → given n (assigned (ps ++ bs)) ≡ given n (assigned bs)
  given_behind n k [] bs e h = refl
  given_behind n k (a ∷ ps) bs e h = rw (other_name n a.0 k h.0 e h.1 h.2) (given_behind n k ps bs e h.3)

  given_here : (n : List ℕ) (t : Token) (ps : List Pair) → given n (assigned ((n, t) ∷ ps)) ≡ Some t
  given_here n t ps = rw (bytes_same n) refl

  given_nowhere : (n : List ℕ) (k : ℕ) (ps : List Pair) → item_named schema r n ≡ Some k → Numbered (λ j. j ≡ k → ⊥) ps → given n (assigned ps) ≡ None
  given_nowhere n k ps e h = ap (λ z. given n (assigned z)) (sym (append-nil ps)) ∙ given_behind n k ps [] e h

  -- words before assignments that name the record type, and no item
  pub record IsFront (front : List Labelled → List Labelled) : Type 0 where
    pub behind : (xs ys : List Labelled) → front xs ++ ys ≡ front (xs ++ ys)
    pub texts_are : (xs : List Labelled) → texts role.ItemName (front xs) ≡ texts role.ItemName xs
    pub named_is : (xs : List Labelled) → named role.ItemName (front xs) ≡ named role.ItemName xs
    pub typed : (xs : List Labelled) → has role.TypeName xs ≡ false → has role.RecordName xs ≡ false → type_in schema (front xs) ≡ r

  -- forms that go on with an assignment, its sign, its value, and then as the first
  pub record GoRound (f e v : Form) : Type 0 where
    pub kinds : Kind × Kind × Kind
    pub with_item : (n : List ℕ) → bytes_eq n (codes "SUPPRESS") ≡ false → start_with fits (plain n) (starts f) ≡ Some (record { kind = kinds.0; role = role.ItemName; rest = e })
    pub with_sign : start_with fits equals (starts e) ≡ Some (record { kind = kinds.1; role = role.Plain; rest = v })
    pub with_value : (t : Token) → fits value t ≡ true → start_with fits t (starts v) ≡ Some (record { kind = kinds.2; role = role.Value; rest = f })

  module _ (front : List Labelled → List Labelled) (is_front : IsFront front) (f e v : Form) (round : GoRound f e v) where
    -- ONE ASSIGNMENT

    item_faultless : (ps : List Pair) (n : List ℕ) (k : ℕ) → item_named schema r n ≡ Some k → Numbered (λ j. j ≡ k → ⊥) ps → first (said schema (front (assigned ps)) (plain n) role.ItemName) ≡ None
    item_faultless ps n k is apart =
        rw (is_front.typed (assigned ps) (no_role role.TypeName ps refl refl refl) (no_role role.RecordName ps refl refl refl), is, is_front.texts_are (assigned ps), not_named n k ps is apart) refl

    value_faultless : (ps : List Pair) (i : Item) (k : ℕ) (t : Token) (x : Value) → item_named schema r i.name ≡ Some k → slice_get (item_list schema r) k ≡ Some i → spelled i.picture t ≡ Some x
        → first (said schema (front (begun ps i.name)) t role.Value) ≡ None
    value_faultless ps i k t x is at h =
        let picture : item_picture schema r i.name ≡ Some i.picture =
        ap (option_and_then (λ j. picture_of schema r j)) is ∙ slice_get-map (λ (x : Item). x.picture) (item_list schema r) k ∙ ap (option_map (λ (x : Item). x.picture)) at in
        let type_is = is_front.typed (begun ps i.name) (begun_no_role role.TypeName ps i.name refl refl refl) (begun_no_role role.RecordName ps i.name refl refl refl) in
        let item_is : named role.ItemName (front (begun ps i.name)) ≡ i.name = is_front.named_is (begun ps i.name) ∙ last_item [] i.name ps in
        (λ x. first (value_faults (item_picture schema (type_is x) (item_is x)) t)) ∙ ap (λ p. first (value_faults p t)) picture ∙ spelled_faultless i.picture t x h

    assignment_read : (ps : List Pair) (i : Item) (k : ℕ) (before left : List Token) (x : Value) → item_named schema r i.name ≡ Some k → slice_get (item_list schema r) k ≡ Some i → Numbered (λ j. j ≡ k → ⊥) ps → (g : IsGiven i before left x)
        → verdict schema (front (assigned ps)) f before ≡ verdict schema (front (assigned (ps ++ (i.name, g.token) ∷ []))) f left
    assignment_read ps i k before left x is at apart g =
        let t = g.token in
        let one : front (assigned ps) ++ item_word i.name ∷ [] ≡ front (assigned ps ++ item_word i.name ∷ []) = is_front.behind (assigned ps) (item_word i.name ∷ []) in
        let two : front (assigned ps ++ item_word i.name ∷ []) ++ sign ∷ [] ≡ front (begun ps i.name) = is_front.behind (assigned ps ++ item_word i.name ∷ []) (sign ∷ []) in
        let three : front (begun ps i.name) ++ value_word t ∷ [] ≡ front (assigned (ps ++ (i.name, t) ∷ [])) = is_front.behind (begun ps i.name) (value_word t ∷ []) ∙ ap front (one_more ps i.name t) in
        ap (verdict schema (front (assigned ps)) f) g.words
        ∙ goes_on schema (front (assigned ps)) f (plain i.name) (equals ∷ t ∷ left) _ (round.with_item i.name g.other) (item_faultless ps i.name k is apart)
        ∙ ap (λ ws. verdict schema ws e (equals ∷ t ∷ left)) one
        ∙ goes_on schema (front (assigned ps ++ item_word i.name ∷ [])) e equals (t ∷ left) _ round.with_sign refl
        ∙ ap (λ ws. verdict schema ws v (t ∷ left)) two
        ∙ goes_on schema (front (begun ps i.name)) v t left _ (round.with_value t g.value_word) (value_faultless ps i k t x is at g.value_is)
        ∙ ap (λ ws. verdict schema ws f left) three

    assignment_labelled : (i : Item) (before left : List Token) (x : Value) → (g : IsGiven i before left x)
        → labels fits f before ≡ item_word i.name ∷ sign ∷ value_word g.token ∷ labels fits f left
    assignment_labelled i before left x g =
        ap (labels fits f) g.words ∙ rw (round.with_item i.name g.other, round.with_sign, round.with_value g.token g.value_word) refl

    -- ALL OF THEM

    module _ (ended : (ps : List Pair) → verdict schema (front (assigned ps)) f [] ≡ None) where
      pub record AreRead (items : List Item) (k : ℕ) (done : List Pair) (ts : List Token) (vs : List Value) : Type 0 where
        pub pairs : List Pair
        pub numbered : Numbered (λ j. k ≤ j) pairs
        pub faultless : verdict schema (front (assigned done)) f ts ≡ None
        pub words : labels fits f ts ≡ assigned pairs
        pub values : values_of (assigned (done ++ pairs)) items ≡ vs

      all_read : (items : List Item) (k : ℕ) (done : List Pair) (ts : List Token) (vs : List Value) → drop k (item_list schema r) ≡ items → Numbered (λ j. j < k) done → AreAssigned schema r k items ts vs → AreRead items k done ts vs
      all_read [] k done ts vs at h g = record {
        pairs = [];
        numbered = tt;
        faultless = ap (verdict schema (front (assigned done)) f) g.0 ∙ ended done;
        words = ap (labels fits f) g.0;
        values = sym g.1;
      }
      all_read (i ∷ items) k done ts vs at h g = by (λ d n. all_read items (k + 1) d g.2 g.1 (next_item (item_list schema r) items k i at).1 n g.6) g.5
        where
          here : (slice_get (item_list schema r) k ≡ Some i) × (drop (k + 1) (item_list schema r) ≡ items)
          here = next_item (item_list schema r) items k i at

          earlier : Numbered (λ j. j ≡ k → ⊥) done
          earlier = weaker (λ j. j < k) (λ j. j ≡ k → ⊥) (λ j low e. omega (arith, low, e)) done h

          by : ((d : List Pair) → Numbered (λ j. j < k + 1) d → AreRead items (k + 1) d g.2 g.1) → IsAssigned i ts g.2 g.0 → AreRead (i ∷ items) k done ts vs
          by others (inr b) =
              let rest = others done (weaker (λ j. j < k) (λ j. j < k + 1) (λ j low. omega (arith, low)) done h) in
              let later = weaker (λ j. k + 1 ≤ j) (λ j. j ≡ k → ⊥) (λ j high e. omega (arith, high, e)) rest.pairs rest.numbered in
              let none : given i.name (assigned (done ++ rest.pairs)) ≡ None = given_behind i.name k done rest.pairs g.4 earlier ∙ given_nowhere i.name k rest.pairs g.4 later in
              record {
                pairs = rest.pairs;
                numbered = weaker (λ j. k + 1 ≤ j) (λ j. k ≤ j) (λ j high. omega (arith, high)) rest.pairs rest.numbered;
                faultless = ap (verdict schema (front (assigned done)) f) b.0 ∙ rest.faultless;
                words = ap (labels fits f) b.0 ∙ rest.words;
                values = (λ x. (ap (value_for i.picture) none ∙ sym b.1) x ∷ rest.values x) ∙ sym g.3;
              }
          by others (inl s) =
              let t = s.token in
              let more = done ++ (i.name, t) ∷ [] in
              let pair : Numbered (λ j. j < k + 1) ((i.name, t) ∷ []) = (k, g.4, omega arith, tt) in
              let rest = others more (both (λ j. j < k + 1) done ((i.name, t) ∷ []) (weaker (λ j. j < k) (λ j. j < k + 1) (λ j low. omega (arith, low)) done h) pair) in
              let all : more ++ rest.pairs ≡ done ++ (i.name, t) ∷ rest.pairs = append_assoc done ((i.name, t) ∷ []) rest.pairs in
              let this : given i.name (assigned (done ++ (i.name, t) ∷ rest.pairs)) ≡ Some t = given_behind i.name k done ((i.name, t) ∷ rest.pairs) g.4 earlier ∙ given_here i.name t rest.pairs in
              let value_is : value_for i.picture (Some t) ≡ g.0 = ap (λ o. unwrap_or o (blank i.picture)) s.value_is in
              record {
                pairs = (i.name, t) ∷ rest.pairs;
                numbered = (k, g.4, omega arith, weaker (λ j. k + 1 ≤ j) (λ j. k ≤ j) (λ j high. omega (arith, high)) rest.pairs rest.numbered);
                faultless = assignment_read done i k ts g.2 g.0 g.4 here.0 earlier s ∙ rest.faultless;
                words = assignment_labelled i ts g.2 g.0 s ∙ ap (λ ws. item_word i.name ∷ sign ∷ value_word t ∷ ws) rest.words;
                values = (λ x. (ap (value_for i.picture) this ∙ value_is) x ∷ (ap (λ z. values_of (assigned z) items) (sym all) ∙ rest.values) x) ∙ sym g.3;
              }

-- what the words that are left give to the items that are left, all give to all: one value more
pub one_value_more : (schema : Lists) (r i : ℕ) (items : List Item) (item : Item) (before after all : List Token) (values : List Value) (v : Value) → i < length items → item ≡ get_or items i item
    → item_named schema r item.name ≡ Some i → IsAssigned item before after v
    → ((more : List Value) → AreAssigned schema r i (drop i items) before more → AreAssigned schema r 0 items all (values ++ more))
    → (more : List Value) → AreAssigned schema r (i + 1) (drop (i + 1) items) after more → AreAssigned schema r 0 items all ((values ++ v ∷ []) ++ more)
one_value_more schema r i items item before after all values v lt is named is_assigned so_far more h =
    let here : drop i items ≡ item ∷ drop (i + 1) items = drop_more items i item lt ∙ ap (λ z. z ∷ drop (i + 1) items) (sym is) in
    subst (λ z. AreAssigned schema r 0 items all z) (sym (append_assoc values (v ∷ []) more))
    (so_far (v ∷ more) (subst (λ z. AreAssigned schema r i z before (v ∷ more)) (sym here) (v, more, after, refl, named, is_assigned, h)))

-- STORE

abbrev store_front : List ℕ → List Labelled → List Labelled
store_front name ws = labelled role.Store (plain (codes "STORE")) ∷ labelled role.TypeName (plain name) ∷ ws

store_is_front : (schema : Lists) (r : ℕ) (name : List ℕ) → type_named schema name ≡ Some r → IsFront schema r (store_front name)
store_is_front schema r name cache = record {
  behind = λ xs ys. refl;
  texts_are = λ xs. refl;
  named_is = λ xs. refl;
  typed = λ xs h g. ap (type_no schema) (named_last role.TypeName (labelled role.Store (plain (codes "STORE")) ∷ []) (labelled role.TypeName (plain name)) xs refl h) ∙ ap (λ o. unwrap_or o 0) cache;
}

store_goes_round : (schema : Lists) (r : ℕ) → GoRound schema r (rest_of state.MoreItems) (rest_of state.ItemEquals) (rest_of state.ItemValue)
store_goes_round schema r = record {
  kinds = (grammar.other_than (codes "SUPPRESS"), grammar.equals_sign, value);
  with_item = λ n h. rw h refl;
  with_sign = refl;
  with_value = λ t h. rw h refl;
}

store_ended : (schema : Lists) (name : List ℕ) (ps : List Pair) → verdict schema (store_front name (assigned ps)) (rest_of state.MoreItems) [] ≡ None
unfolding verdict
store_ended schema name ps =
    rw (
      no_role role.RecordName ps refl refl refl,
      no_role role.FindCalc ps refl refl refl,
      no_role role.FindDuplicate ps refl refl refl,
      no_role role.FindSorted ps refl refl refl,
      no_role role.FindOwner ps refl refl refl,
      no_sort_value ps,
    ) refl

pub store_is_said : (schema : Lists) (r : ℕ) (name : List ℕ) (ts : List Token) (vs : List Value) → type_named schema name ≡ Some r → AreAssigned schema r 0 (item_list schema r) ts vs
    → AreSaid schema (plain (codes "STORE") ∷ plain name ∷ ts) (statement.Store r vs nothing)
store_is_said schema r name ts vs cache h =
    let front = store_is_front schema r name cache in
    let read = all_read schema r (store_front name) front (rest_of state.MoreItems) (rest_of state.ItemEquals) (rest_of state.ItemValue) (store_goes_round schema r) (store_ended schema name) (item_list schema r) 0 [] ts vs refl tt h in
    let ps = read.pairs in
    let typed = front.typed (assigned ps) (no_role role.TypeName ps refl refl refl) (no_role role.RecordName ps refl refl refl) in
    record {
      faultless =
          goes_on schema [] grammar.statement (plain (codes "STORE")) (plain name ∷ ts) _ refl refl
          ∙ goes_on schema (labelled role.Store (plain (codes "STORE")) ∷ []) (rest_of state.StoreType) (plain name) ts _ refl (rw cache refl)
          ∙ read.faultless;
      said =
          ap (λ ws. statement_of schema (store_front name ws)) read.words
          ∙ rw (
            typed,
            read.values,
            no_role role.SuppressAll ps refl refl refl,
            no_role role.SuppressTypes ps refl refl refl,
            no_role role.SuppressAreas ps refl refl refl,
            none_suppressed (store_front name (assigned ps)) schema.sets (rw (no_role role.SuppressAll ps refl refl refl, no_role role.SuppressSet ps refl refl refl) refl),
          ) refl;
    }
