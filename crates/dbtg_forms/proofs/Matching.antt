-- Components that are spelled alike are matched vertex by vertex, and so are graphs that have each spelling of a root equally often.
-- C and D are components, A and B what is left of two graphs.
use Rattle.std.proofs.Common.{◌≡◌, refl, sym, ◌∙◌, ap, subst, ℕ, zero, suc, ◌+◌, ◌<◌, ◌≤◌, arith, Bool, true, false, List, [], ◌∷◌, ◌++◌, length, map, get_or, inl, inr, if◌then◌else◌}
use Rattle.std.specs.Prelude.{◌==◌, ◌&&◌, not, filter, flat_map, nat_le}
use Rattle.std.specs.List.{list_all, range_with_len}
use Rattle.std.specs.Str.{bytes_eq}
use Rattle.std.proofs.lemmas.Bool.{and_from, and_parts, cases_Bool, cases_lt, eqb-true, le-leb, or_cases, or_right}
use Rattle.std.proofs.lemmas.List.{length-map}
use Rattle.std.proofs.lemmas.Slice.Eq.{bytes_eq-Decides}
use Rattle.dbtg_forms.specs.declared.vertex.Vertex.{Vertex}
use Rattle.dbtg_forms.specs.Graphs.{IsGraph, Isomorphic, has, label_of, links_of}
use Rattle.dbtg_forms.specs.Forms.{component, is_root, place, spelling, vertex_numbers}
use Rattle.dbtg_forms.proofs.Lists.{Once, at_place, filter_keeps, filter_once, from_filter, from_map, from_range, has_at, has_first, has_map, has_range, length_part, map_along, no_is_not_yes, once_map, place_at, place_in, range_once, some_tally, tally, tally_along, tally_map, tally_part, tally_same, tally_some}
use Rattle.dbtg_forms.proofs.Reaching.{by_first, by_least, by_once, component_closed}
use Rattle.dbtg_forms.proofs.Carrying.{Carries, map_map_along, root_carried, spelling_carried}

-- the vertices of A go to those of B, one to one, with their labels and links
pub record Matches (g h : List Vertex) (A B : List ℕ) (there back : ℕ → ℕ) : Type 0 where
  pub within : (x : ℕ) → has A x ≡ true → has B (there x) ≡ true
  pub back_within : (y : ℕ) → has B y ≡ true → has A (back y) ≡ true
  pub there_and_back : (x : ℕ) → has A x ≡ true → back (there x) ≡ x
  pub back_and_there : (y : ℕ) → has B y ≡ true → there (back y) ≡ y
  pub labels : (x : ℕ) → has A x ≡ true → label_of h (there x) ≡ label_of g x
  pub links : (x : ℕ) → has A x ≡ true → links_of h (there x) ≡ map there (links_of g x)

-- no link leads out of A
abbrev pub IsClosed : List Vertex → List ℕ → Type 0
IsClosed g A = (y z : ℕ) → has A y ≡ true → has (links_of g y) z ≡ true → has A z ≡ true

-- SPELLED ALIKE

pub split : (xs ys a b : List ℕ) → length xs ≡ length ys → xs ++ a ≡ ys ++ b → (xs ≡ ys) × (a ≡ b)
split [] [] a b e h = (refl, h)
split [] (y ∷ ys) a b e h = absurd (omega (arith, e))
split (x ∷ xs) [] a b e h = absurd (omega (arith, e))
split (x ∷ xs) (y ∷ ys) a b e h =
    let heads : x ≡ y = cc in
    let tails : xs ++ a ≡ ys ++ b = cc in
    let rest = split xs ys a b (omega (arith, e)) tails in
    ((λ i. heads i ∷ rest.0 i), rest.1)

module _ (g h : List Vertex) (C D : List ℕ) where
  abbrev Alike : ℕ → ℕ → Type 0
  Alike x y = (label_of g x ≡ label_of h y) × (map (place C) (links_of g x) ≡ map (place D) (links_of h y))

  one_apart : (x y : ℕ) (a b : List ℕ) → vertex_numbers g C x ++ a ≡ vertex_numbers h D y ++ b → Alike x y × (a ≡ b)
  one_apart x y a b e =
      let labels : label_of g x ≡ label_of h y = cc in
      let lengths : length (links_of g x) ≡ length (links_of h y) = cc in
      let rest : map (place C) (links_of g x) ++ a ≡ map (place D) (links_of h y) ++ b = cc in
      let parts = split (map (place C) (links_of g x)) (map (place D) (links_of h y)) a b (length-map (links_of g x) (place C) ∙ lengths ∙ sym (length-map (links_of h y) (place D))) rest in
      ((labels, parts.0), parts.1)

  at_each : (x y : ℕ) (xs ys : List ℕ) → Alike x y → ((i : ℕ) → i < length xs → Alike (get_or xs i 0) (get_or ys i 0)) → (i : ℕ) → i < length (x ∷ xs) → Alike (get_or (x ∷ xs) i 0) (get_or (y ∷ ys) i 0)
  at_each x y xs ys first rest zero low = first
  at_each x y xs ys first rest (suc i) low = rest i (omega (arith, low))

  each_apart : (xs ys : List ℕ) → flat_map (vertex_numbers g C) xs ≡ flat_map (vertex_numbers h D) ys
      → (length xs ≡ length ys) × ((i : ℕ) → i < length xs → Alike (get_or xs i 0) (get_or ys i 0))
  each_apart [] [] e = (refl, λ i low. absurd (omega (arith, low)))
  each_apart [] (y ∷ ys) e = absurd (cc)
  each_apart (x ∷ xs) [] e = absurd (cc)
  each_apart (x ∷ xs) (y ∷ ys) e =
      let first = one_apart x y (flat_map (vertex_numbers g C) xs) (flat_map (vertex_numbers h D) ys) e in
      let rest = each_apart xs ys first.1 in
      (ap suc rest.0, at_each x y xs ys first.0 rest.1)

-- the vertex of ys that stands where x stands in xs
abbrev across : List ℕ → List ℕ → ℕ → ℕ
across xs ys x = get_or ys (place xs x) 0

across_in : (xs ys : List ℕ) (x : ℕ) → length xs ≡ length ys → has xs x ≡ true → has ys (across xs ys x) ≡ true
across_in xs ys x e m = has_at ys (place xs x) (omega (arith, e, place_in xs x m))

across_back : (xs ys : List ℕ) (x : ℕ) → length xs ≡ length ys → Once ys → has xs x ≡ true → across ys xs (across xs ys x) ≡ x
across_back xs ys x e once m = ap (λ i. get_or xs i 0) (place_at ys (place xs x) once (omega (arith, e, place_in xs x m))) ∙ at_place xs x m

map_twice : (f k : ℕ → ℕ) (xs : List ℕ) → map f (map k xs) ≡ map (λ z. f (k z)) xs
map_twice f k xs = map_map_along k f (λ z. f (k z)) xs (λ z m. refl)

map_same : (f : ℕ → ℕ) (xs : List ℕ) → ((z : ℕ) → has xs z ≡ true → f z ≡ z) → map f xs ≡ xs
map_same f [] same = refl
map_same f (x ∷ xs) same = λ i. same x (has_first x xs) i ∷ map_same f xs (λ z m. same z (or_right (z == x) (has xs z) m)) i

module _ (g h : List Vertex) (C D : List ℕ) (once : Once C) (others : Once D) (closed : IsClosed h D) (e : flat_map (vertex_numbers g C) C ≡ flat_map (vertex_numbers h D) D) where
  pub spelled_alike : Matches g h C D (across C D) (across D C)
  spelled_alike =
      let apart = each_apart g h C D C D e in
      let alike : (x : ℕ) → has C x ≡ true → Alike g h C D x (across C D x) =
      λ x m. subst (λ z. Alike g h C D z (across C D x)) (at_place C x m) (apart.1 (place C x) (place_in C x m)) in
      record {
        within = λ x m. across_in C D x apart.0 m;
        back_within = λ y m. across_in D C y (sym apart.0) m;
        there_and_back = λ x m. across_back C D x apart.0 others m;
        back_and_there = λ y m. across_back D C y (sym apart.0) once m;
        labels = λ x m. sym (alike x m).0;
        links = λ x m.
            sym (map_same (λ z. get_or D (place D z) 0) (links_of h (across C D x)) (λ z n. at_place D z (closed (across C D x) z (across_in C D x apart.0 m) n)))
            ∙ sym (map_twice (λ i. get_or D i 0) (place D) (links_of h (across C D x)))
            ∙ ap (map (λ i. get_or D i 0)) (sym (alike x m).1)
            ∙ map_twice (λ i. get_or D i 0) (place C) (links_of g x);
      }

-- HOW OFTEN A ROOT IS SPELLED SO

-- x is a root, and its spelling is this
abbrev pub passes : List Vertex → List ℕ → ℕ → Bool
passes g s x = is_root g x && bytes_eq (spelling g x) s

carries_of : (g h : List Vertex) (A B : List ℕ) (there back : ℕ → ℕ) → IsClosed g A → Matches g h A B there back → Carries g h there (λ x. has A x ≡ true)
carries_of g h A B there back closed m =
    record {
      goes = closed;
      one = λ y z p q same. sym (m.there_and_back y p) ∙ ap back same ∙ m.there_and_back z q;
      labels = m.labels;
      links = m.links;
    }

module _ (g h : List Vertex) (is : IsGraph g) (are : IsGraph h) (A B : List ℕ) (there back : ℕ → ℕ) (once : Once A) (others : Once B) (closed : IsClosed g A)
    (inside : (z : ℕ) → has A z ≡ true → z < length g) (outside : (z : ℕ) → has B z ≡ true → z < length h) (m : Matches g h A B there back) where
  -- what is matched has each spelling equally often
  pub matched_tally : (s : List ℕ) → tally (passes g s) A ≡ tally (passes h s) B
  matched_tally s =
      let c = carries_of g h A B there back closed m in
      tally_along (passes g s) (λ x. passes h s (there x)) A (λ x p i.
      sym (root_carried g h there (λ z. has A z ≡ true) c x p) i
      && bytes_eq (sym (spelling_carried g h there (λ z. has A z ≡ true) c x p is are (inside x p) (outside (there x) (m.within x p))) i) s)
      ∙ sym (tally_map (passes h s) there A)
      ∙ tally_same (passes h s) (map there A) B (once_map there A c.one once) others
      (λ y p. let from = from_map there A y p in ap (has B) from.2 ∙ m.within from.0 from.1)
      (λ y p. ap (has (map there A)) (sym (m.back_and_there y p)) ∙ has_map there A (back y) (m.back_within y p))

-- ONE COMPONENT AND THE REST

abbrev either : List ℕ → (ℕ → ℕ) → (ℕ → ℕ) → ℕ → ℕ
either C t u x = if has C x then t x else u x

either_in : (C : List ℕ) (t u : ℕ → ℕ) (x : ℕ) → has C x ≡ true → either C t u x ≡ t x
either_in C t u x e = ap (λ b. if b then t x else u x) e

either_out : (C : List ℕ) (t u : ℕ → ℕ) (x : ℕ) → has C x ≡ false → either C t u x ≡ u x
either_out C t u x e = ap (λ b. if b then t x else u x) e

-- what is left of A without C
abbrev pub rest_of : List ℕ → List ℕ → List ℕ
rest_of C A = filter (λ y. not (has C y)) A

in_rest : (C A : List ℕ) (x : ℕ) → has A x ≡ true → has C x ≡ false → has (rest_of C A) x ≡ true
in_rest C A x m e = filter_keeps (λ y. not (has C y)) A x m (ap not e)

not_false : (b : Bool) → not b ≡ true → b ≡ false
not_false true e = absurd (cc)
not_false false e = refl

from_rest : (C A : List ℕ) (x : ℕ) → has (rest_of C A) x ≡ true → (has A x ≡ true) × (has C x ≡ false)
from_rest C A x m = let parts = from_filter (λ y. not (has C y)) A x m in (parts.0, not_false (has C x) parts.1)

module _ (g h : List Vertex) (A B C D : List ℕ) (t b t' b' : ℕ → ℕ)
    (part : (z : ℕ) → has C z ≡ true → has A z ≡ true) (piece : (z : ℕ) → has D z ≡ true → has B z ≡ true)
    (closed : IsClosed g C) (left : IsClosed g (rest_of C A)) (m : Matches g h C D t b) (n : Matches g h (rest_of C A) (rest_of D B) t' b') where
  pub joined_matches : Matches g h A B (either C t t') (either D b b')
  joined_matches =
      record {
        within = λ x p. elim (cases_Bool (has C x)) [
          | inl e ↦ ap (has B) (either_in C t t' x e) ∙ piece (t x) (m.within x e)
          | inr e ↦ ap (has B) (either_out C t t' x e) ∙ (from_rest D B (t' x) (n.within x (in_rest C A x p e))).0
        ];
        back_within = λ y p. elim (cases_Bool (has D y)) [
          | inl e ↦ ap (has A) (either_in D b b' y e) ∙ part (b y) (m.back_within y e)
          | inr e ↦ ap (has A) (either_out D b b' y e) ∙ (from_rest C A (b' y) (n.back_within y (in_rest D B y p e))).0
        ];
        there_and_back = λ x p. elim (cases_Bool (has C x)) [
          | inl e ↦ ap (either D b b') (either_in C t t' x e) ∙ either_in D b b' (t x) (m.within x e) ∙ m.there_and_back x e
          | inr e ↦ ap (either D b b') (either_out C t t' x e) ∙ either_out D b b' (t' x) (from_rest D B (t' x) (n.within x (in_rest C A x p e))).1 ∙ n.there_and_back x (in_rest C A x p e)
        ];
        back_and_there = λ y p. elim (cases_Bool (has D y)) [
          | inl e ↦ ap (either C t t') (either_in D b b' y e) ∙ either_in C t t' (b y) (m.back_within y e) ∙ m.back_and_there y e
          | inr e ↦ ap (either C t t') (either_out D b b' y e) ∙ either_out C t t' (b' y) (from_rest C A (b' y) (n.back_within y (in_rest D B y p e))).1 ∙ n.back_and_there y (in_rest D B y p e)
        ];
        labels = λ x p. elim (cases_Bool (has C x)) [
          | inl e ↦ ap (label_of h) (either_in C t t' x e) ∙ m.labels x e
          | inr e ↦ ap (label_of h) (either_out C t t' x e) ∙ n.labels x (in_rest C A x p e)
        ];
        links = λ x p. elim (cases_Bool (has C x)) [
          | inl e ↦ ap (links_of h) (either_in C t t' x e) ∙ m.links x e ∙ map_along t (either C t t') (links_of g x) (λ z q. sym (either_in C t t' z (closed x z e q)))
          | inr e ↦
              let own = in_rest C A x p e in
              ap (links_of h) (either_out C t t' x e) ∙ n.links x own ∙ map_along t' (either C t t') (links_of g x) (λ z q. sym (either_out C t t' z (from_rest C A z (left x z own q)).1))
        ];
      }

-- ROOTS

module _ (g : List Vertex) where
  abbrev degree : ℕ → ℕ
  degree x = length (links_of g x)

  most : (x : ℕ) (xs : List ℕ) → (r : ℕ) × (has (x ∷ xs) r ≡ true) × ((z : ℕ) → has (x ∷ xs) z ≡ true → degree z ≤ degree r)
  most x [] = (x, has_first x [], λ z m. elim (or_cases (z == x) false m) [ inl e ↦ omega (arith, ap degree (eqb-true z x e)) | inr e ↦ absurd (cc) ])
  most x (y ∷ ys) =
      let r = most y ys in
      elim (cases_lt (degree r.0) (degree x)) [
        | inl more ↦ (x, has_first x (y ∷ ys), λ z m. elim (or_cases (z == x) (has (y ∷ ys) z) m) [ inl e ↦ omega (arith, ap degree (eqb-true z x e)) | inr e ↦ omega (arith, r.2 z e, more) ])
        | inr less ↦ (r.0, or_right (r.0 == x) (has (y ∷ ys) r.0) r.1, λ z m. elim (or_cases (z == x) (has (y ∷ ys) z) m) [ inl e ↦ omega (arith, ap degree (eqb-true z x e), less) | inr e ↦ r.2 z e ])
      ]

  all_true : (test : ℕ → Bool) (xs : List ℕ) → ((z : ℕ) → has xs z ≡ true → test z ≡ true) → list_all test xs ≡ true
  all_true test [] all = refl
  all_true test (x ∷ xs) all = and_from (test x) (list_all test xs) (all x (has_first x xs)) (all_true test xs (λ z m. all z (or_right (z == x) (has xs z) m)))

  -- where no link leads out there is a root
  pub has_root : (x : ℕ) (xs : List ℕ) → IsClosed g (x ∷ xs) → (r : ℕ) × (has (x ∷ xs) r ≡ true) × (is_root g r ≡ true)
  has_root x xs closed =
      let r = most x xs in
      (r.0, r.1, all_true (λ y. nat_le (degree y) (degree r.0)) (links_of g r.0) (λ z m. le-leb (degree z) (degree r.0) (r.2 z (closed r.0 z r.1 m))))

  passes_itself : (x : ℕ) → is_root g x ≡ true → passes g (spelling g x) x ≡ true
  passes_itself x root = and_from (is_root g x) (bytes_eq (spelling g x) (spelling g x)) root ((bytes_eq-Decides (spelling g x) (spelling g x)).1 refl)

-- COMPONENT AFTER COMPONENT

-- what is left of a graph: vertices of it, each once, with all to which links lead
pub record IsLeft (g : List Vertex) (A : List ℕ) : Type 0 where
  pub once : Once A
  pub inside : (z : ℕ) → has A z ≡ true → z < length g
  pub closed : IsClosed g A

module _ (g : List Vertex) (is : IsGraph g) (A : List ℕ) (left : IsLeft g A) (r : ℕ) (own : has A r ≡ true) where
  component_part : (z : ℕ) → has (component g r) z ≡ true → has A z ≡ true
  component_part = by_least (links_of g) r (λ z. has A z ≡ true) own left.closed (length g)

  component_left : IsLeft g (component g r)
  component_left = record {
    once = by_once (links_of g) r (length g);
    inside = λ z m. left.inside z (component_part z m);
    closed = component_closed g is r (left.inside r own);
  }

  less_left : IsLeft g (rest_of (component g r) A)
  less_left = record {
    once = filter_once (λ y. not (has (component g r) y)) A left.once;
    inside = λ z m. left.inside z (from_rest (component g r) A z m).0;
    closed = λ y z m link.
        let from = from_rest (component g r) A y m in
        in_rest (component g r) A z (left.closed y z from.0 link) (elim (cases_Bool (has (component g r) z)) [
          | inl e ↦ absurd (no_is_not_yes from.1 (component_left.closed z y e (is.both_ways y z link)))
          | inr e ↦ e
        ]);
  }

  shorter : length (rest_of (component g r) A) < length A
  shorter =
      let C = component g r in
      omega (arith, length_part C A component_left.once left.once component_part, place_in C r (by_first (links_of g) r (length g)))

  tally_left : (s : List ℕ) → tally (passes g s) A ≡ tally (passes g s) (component g r) + tally (passes g s) (rest_of (component g r) A)
  tally_left s = tally_part (passes g s) (component g r) A component_left.once left.once component_part

-- nothing is matched with nothing
none_matches : (g h : List Vertex) → Matches g h [] [] (λ x. x) (λ x. x)
none_matches g h = record {
  within = λ x m. absurd (cc);
  back_within = λ x m. absurd (cc);
  there_and_back = λ x m. absurd (cc);
  back_and_there = λ x m. absurd (cc);
  labels = λ x m. absurd (cc);
  links = λ x m. absurd (cc);
}

module _ (g h : List Vertex) (is : IsGraph g) (are : IsGraph h) where
  abbrev Found : List ℕ → List ℕ → Type 0
  Found A B = (there : ℕ → ℕ) × (back : ℕ → ℕ) × Matches g h A B there back

  -- a root of A, one of B that is spelled alike, and what is left without their components
  one_more : (A B : List ℕ) (r q : ℕ) → IsLeft g A → IsLeft h B → has A r ≡ true → has B q ≡ true → spelling g r ≡ spelling h q
      → ((s : List ℕ) → tally (passes g s) A ≡ tally (passes h s) B)
      → (IsLeft g (rest_of (component g r) A) → IsLeft h (rest_of (component h q) B)
      → ((s : List ℕ) → tally (passes g s) (rest_of (component g r) A) ≡ tally (passes h s) (rest_of (component h q) B)) → Found (rest_of (component g r) A) (rest_of (component h q) B))
      → Found A B
  one_more A B r q left right own other alike equal go =
      let C = component g r in
      let D = component h q in
      let cl = component_left g is A left r own in
      let dl = component_left h are B right q other in
      let local = spelled_alike g h C D cl.once dl.once dl.closed alike in
      let ll = less_left g is A left r own in
      let rest = go ll (less_left h are B right q other) (λ s.
      omega (
        arith,
        tally_left g is A left r own s,
        tally_left h are B right q other s,
        equal s,
        matched_tally g h is are C D (across C D) (across D C) cl.once dl.once cl.closed cl.inside dl.inside local s,
      )) in (
        either C (across C D) rest.0,
        either D (across D C) rest.1,
        joined_matches g h A B C D (across C D) (across D C) rest.0 rest.1 (component_part g is A left r own) (component_part h are B right q other) cl.closed ll.closed local rest.2,
      )

  pub found : (n : ℕ) (A B : List ℕ) → length A ≤ n → IsLeft g A → IsLeft h B → ((s : List ℕ) → tally (passes g s) A ≡ tally (passes h s) B) → Found A B
  found n [] [] short left right equal = (λ x. x, λ x. x, none_matches g h)
  found n [] (b ∷ bs) short left right equal =
      let root = has_root h b bs right.closed in
      absurd (omega (arith, equal (spelling h root.0), some_tally (passes h (spelling h root.0)) (b ∷ bs) root.0 root.1 (passes_itself h root.0 root.2)))
  found zero (a ∷ rest) B short left right equal = absurd (omega (arith, short))
  found (suc n) (a ∷ rest) B short left right equal =
      let root = has_root g a rest left.closed in
      let s = spelling g root.0 in
      let other = tally_some (passes h s) B (omega (arith, equal s, some_tally (passes g s) (a ∷ rest) root.0 root.1 (passes_itself g root.0 root.2))) in
      let alike = (bytes_eq-Decides (spelling h other.0) s).0 (and_parts (is_root h other.0) (bytes_eq (spelling h other.0) s) other.2).1 in
      one_more (a ∷ rest) B root.0 other.0 left right root.1 other.1 (sym alike) equal
      (λ l r e. found n (rest_of (component g root.0) (a ∷ rest)) (rest_of (component h other.0) B) (omega (arith, short, shorter g is (a ∷ rest) left root.0 root.1)) l r e)

-- WHOLE GRAPHS

abbrev pub whole : List Vertex → List ℕ
whole g = range_with_len 0 (length g)

whole_left : (g : List Vertex) → IsGraph g → IsLeft g (whole g)
whole_left g is = record {
  once = range_once (length g);
  inside = from_range (length g);
  closed = λ y z m link. has_range (length g) z (is.within y z link);
}

-- graphs that have each spelling of a root equally often are isomorphic
pub isomorphic_from : (g h : List Vertex) → IsGraph g → IsGraph h → ((s : List ℕ) → tally (passes g s) (whole g) ≡ tally (passes h s) (whole h)) → Isomorphic g h
isomorphic_from g h is are equal =
    let f = found g h is are (length (whole g)) (whole g) (whole h) (omega arith) (whole_left g is) (whole_left h are) equal in (
      f.0,
      f.1,
      record {
        within = λ x low. from_range (length h) (f.0 x) (f.2.within x (has_range (length g) x low));
        back_within = λ y low. from_range (length g) (f.1 y) (f.2.back_within y (has_range (length h) y low));
        there_and_back = λ x low. f.2.there_and_back x (has_range (length g) x low);
        back_and_there = λ y low. f.2.back_and_there y (has_range (length h) y low);
        labels = λ x low. f.2.labels x (has_range (length g) x low);
        links = λ x low. f.2.links x (has_range (length g) x low);
      },
    )

-- and the other way round
pub equally_often : (g h : List Vertex) → IsGraph g → IsGraph h → Isomorphic g h → (s : List ℕ) → tally (passes g s) (whole g) ≡ tally (passes h s) (whole h)
equally_often g h is are i s =
    let inside = from_range (length g) in
    let outside = from_range (length h) in
    matched_tally g h is are (whole g) (whole h) i.0 i.1 (range_once (length g)) (range_once (length h)) (whole_left g is).closed inside outside (record {
      within = λ x m. has_range (length h) (i.0 x) (i.2.within x (inside x m));
      back_within = λ y m. has_range (length g) (i.1 y) (i.2.back_within y (outside y m));
      there_and_back = λ x m. i.2.there_and_back x (inside x m);
      back_and_there = λ y m. i.2.back_and_there y (outside y m);
      labels = λ x m. i.2.labels x (inside x m);
      links = λ x m. i.2.links x (inside x m);
    }) s
