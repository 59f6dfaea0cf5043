-- What is read along the links of a ring.
use Rattle.std.proofs.Common.{◌≡◌, ℕ, zero, suc, ◌+◌, ◌-◌, ◌<◌, ◌≤◌, Bool, true, false, not, cond, ◌||◌, List, [], ◌∷◌, ◌++◌, map, filter, reverse, length, Option, Some, None, Contains, inl, inr, refl, sym, ap, ◌∙◌, arith, true≢false, subst, slice_get, drop, take, is_some}
use Rattle.std.proofs.lemmas.List.{append-nil, append_assoc, length-append, reverse-append, take_at}
use Rattle.std.proofs.lemmas.List.Elements.{filter-append}
use Rattle.std.specs.Option.{option_map}
use Rattle.std.specs.List.{list_any, find}
use Rattle.std.proofs.lemmas.Option.{same_Some}
use Rattle.dbtg_schema.specs.Lookups.{first, final, behind, in_front}
use Rattle.dbtg_cells.specs.declared.key.DbKey.{DbKey}
use Rattle.dbtg_cells.specs.declared.links.Direction.{Direction}
use Rattle.dbtg_cells.specs.declared.links.Direction.TheVariants.{Next, Prior}
use Rattle.dbtg_cells.specs.declared.links.Node.{Node}
use Rattle.dbtg_cells.specs.declared.ring.Occurrence.{Occurrence}
use Rattle.dbtg_cells.specs.Keys.{key_eq}
use Rattle.dbtg_cells.specs.Members.{Entry, members_in, keys_in, has_key, with_members, without_key}
use Rattle.dbtg_cells.specs.Inside.Chain.{Slots, Link, slot, neighbour, read, follow, follow_back}
use Rattle.dbtg_cells.specs.Keys.{is_member}
use Rattle.dbtg_cells.specs.Inside.Chain.{head_at, last_at, Seg, Avoids, Apart, IsRing, unlinked_keys, key_at}
use Rattle.dbtg_cells.proofs.KeysAlike.{key_eq_refl, same_key}
use Rattle.dbtg_cells.proofs.PlainLists.{behind_drop, in_front_take, map_reverse}
use Rattle.dbtg_cells.proofs.Places.{place_of, OnceEach}
use Rattle.dbtg_cells.proofs.LinksWritten.{Seg_left, Seg_right, follow_back_Seg, Apart_without, Avoids_left, Avoids_right}
use Rattle.dbtg_cells.proofs.WholeRings.{members, place_here, whole_members, found_link, reserved_at, reserved_key}
use Rattle.slab.proofs.SlabLemmas.{Contains-cons, Contains-cons_cases}

-- one node more is read
pub read_one : (d : Direction) (m n : ℕ) (s : Slots) (at : Option ℕ) (i : ℕ) (node : Node) → m ≡ suc n → at ≡ Some i → slot s i ≡ Some node → read d m s at ≡ node.member ∷ read d n s (neighbour d node)
read_one d m n s at i node is here there = rw (is, here) (rw there refl)

-- the same is read from the same node on, as far
pub same_reading : (d : Direction) (s : Slots) (m n : ℕ) (at to : Option ℕ) → m ≡ n → at ≡ to → read d m s at ≡ read d n s to
same_reading d s m n at to far start = ap (λ k. read d k s at) far ∙ ap (read d n s) start

-- nothing more is read
pub read_end : (d : Direction) (m : ℕ) (s : Slots) (at : Option ℕ) → m ≡ 0 → read d m s at ≡ []
read_end d m s at is = ap (λ n. read d n s at) is

pub read_none : (d : Direction) (m : ℕ) (s : Slots) (at : Option ℕ) → at ≡ None → read d m s at ≡ []
read_none d zero s at is = refl
read_none d (suc n) s at is = rw is refl

pub read_vacant : (d : Direction) (m : ℕ) (s : Slots) (at : Option ℕ) (i : ℕ) → at ≡ Some i → slot s i ≡ None → read d m s at ≡ []
read_vacant d zero s at i is there = refl
read_vacant d (suc n) s at i is there = rw is (rw there refl)

-- how the first member read counts
module _ (t : DbKey → Bool) (x : Entry) (r : List Entry) where
  pub first_later : t x.0 ≡ false → first (filter t (map (λ e. e.0) (x ∷ r))) ≡ first (filter t (map (λ e. e.0) r))
  first_later fails = rw fails refl

  pub nth_here : (left : ℕ) → left < cond (t x.0) 1 0 → Some x.0 ≡ slice_get (filter t (map (λ e. e.0) (x ∷ r))) left
  nth_here left less = by (t x.0) refl
    where
      by : (b : Bool) → t x.0 ≡ b → Some x.0 ≡ slice_get (filter t (map (λ e. e.0) (x ∷ r))) left
      by true p = let zero_is : left ≡ 0 = let h : left < 1 = rw p at less in omega (arith, h) in rw (p, zero_is) refl
      by false p = let h : left < 0 = rw p at less in absurd (omega (arith, h))

  pub nth_later : (left : ℕ) → cond (t x.0) 1 0 ≤ left → slice_get (filter t (map (λ e. e.0) (x ∷ r))) left ≡ slice_get (filter t (map (λ e. e.0) r)) (left - cond (t x.0) 1 0)
  nth_later left more = by (t x.0) refl
    where
      by : (b : Bool) → t x.0 ≡ b → slice_get (filter t (map (λ e. e.0) (x ∷ r))) left ≡ slice_get (filter t (map (λ e. e.0) r)) (left - cond (t x.0) 1 0)
      by false p = rw p (ap (slice_get (filter t (map (λ e. e.0) r))) (same left))
        where
          same : (n : ℕ) → n ≡ n - 0
          same n = omega arith
      by true p =
          let h : 1 ≤ left = rw p at more in
          let is : left ≡ suc (left - 1) = omega (arith, h) in
          rw p (ap (slice_get (x.0 ∷ filter t (map (λ e. e.0) r))) is)

pub found_later : (t : Entry → Bool) (x : Entry) (r : List Entry) → t x ≡ false → option_map (λ e. e.0) (find t (x ∷ r)) ≡ option_map (λ e. e.0) (find t r)
found_later t x r fails = rw fails refl

pub any_later : (t : Entry → Bool) (x : Entry) (r : List Entry) → t x ≡ false → list_any t (x ∷ r) ≡ list_any t r
any_later t x r fails = rw fails refl

pub keys_later : (keys : List DbKey) (x : Entry) (r : List Entry) → (keys ++ x.0 ∷ []) ++ map (λ e. e.0) r ≡ keys ++ map (λ e. e.0) (x ∷ r)
keys_later keys x r = append_assoc keys (x.0 ∷ []) (map (λ e. e.0) r)

pub keys_end : (keys : List DbKey) (l : List Entry) (whole : List DbKey) → keys ++ map (λ e. e.0) l ≡ whole → l ≡ [] → keys ≡ whole
keys_end keys l whole is end = sym (append-nil keys) ∙ ap (λ m. keys ++ map (λ e. e.0) m) (sym end) ∙ is

-- reserved keys, by the test and by place
pub any_contains : (k : DbKey) (xs : List DbKey) → list_any (key_eq k) xs ≡ true → Contains xs k
any_contains k [] h = absurd (true≢false (sym h))
any_contains k (x ∷ xs) h = by (key_eq k x) refl (λ p. any_contains k xs (rw p at h))
  where
    by : (b : Bool) → key_eq k x ≡ b → (key_eq k x ≡ false → Contains xs k) → Contains (x ∷ xs) k
    by true p rest = (0, omega arith, sym (same_key k x p))
    by false p rest = Contains-cons _ _ _ (rest p)

pub contains_any : (k : DbKey) (xs : List DbKey) → Contains xs k → list_any (key_eq k) xs ≡ true
contains_any k [] h = absurd (omega (arith, h.1))
contains_any k (x ∷ xs) h = elim (Contains-cons_cases _ _ _ h) [
  | inl here ↦ ap (λ y. key_eq k y || list_any (key_eq k) xs) here ∙ ap (λ b. b || list_any (key_eq k) xs) (key_eq_refl k)
  | inr later ↦ ap (λ b. key_eq k x || b) (contains_any k xs later) ∙ or_true (key_eq k x)
]
  where
    or_true : (b : Bool) → b || true ≡ true
    or_true true = refl
    or_true false = refl

pub filter_reverse : {X : Type 0} (t : X → Bool) (xs : List X) → filter t (reverse xs) ≡ reverse (filter t xs)
filter_reverse t [] = refl
filter_reverse t (x ∷ xs) =
    ap (filter t) (reverse-append (x ∷ []) xs) ∙ filter-append t (reverse xs) (x ∷ []) ∙ ap (λ l. l ++ cond (t x) (x ∷ []) []) (filter_reverse t xs) ∙ by (t x)
  where
    by : (b : Bool) → reverse (filter t xs) ++ cond b (x ∷ []) [] ≡ reverse (cond b (x ∷ filter t xs) (filter t xs))
    by true = sym (reverse-append (x ∷ []) (filter t xs))
    by false = append-nil (reverse (filter t xs))

-- from the end, the last is the first
pub back_final : (t : DbKey → Bool) (l : List Entry) → first (filter t (map (λ e. e.0) (reverse l))) ≡ final (filter t (map (λ e. e.0) l))
back_final t l = ap (λ m. first (filter t m)) (map_reverse (λ e. e.0) l) ∙ ap first (filter_reverse t (map (λ e. e.0) l))

pub back_nth : (t : DbKey → Bool) (l : List Entry) (n : ℕ) → slice_get (filter t (map (λ e. e.0) (reverse l))) n ≡ slice_get (reverse (filter t (map (λ e. e.0) l))) n
back_nth t l n = ap (λ m. slice_get (filter t m) n) (map_reverse (λ e. e.0) l) ∙ ap (λ m. slice_get m n) (filter_reverse t (map (λ e. e.0) l))

-- reading further than the end reads no more
pub follow_more : (s : Slots) (p : Option ℕ) (es : List Link) (m : ℕ) → Seg s p es None → follow (length es + m) s (head_at es None) ≡ members es
follow_more s p [] m h = read_none Next (0 + m) s None refl
follow_more s p (e ∷ es) m h =
    let n : length (e ∷ es) + m ≡ suc (length es + m) = omega arith in
    read_one Next (length (e ∷ es) + m) (length es + m) s (Some e.at) e.at _ n refl h.0 ∙ ap (λ ms. e.member ∷ ms) (follow_more s (Some e.at) es m h.1)

pub follow_back_more : (s : Slots) (es : List Link) (q : Option ℕ) (m : ℕ) → Seg s None es q → follow_back (length es + m) s (last_at None es) ≡ reverse (members es)
follow_back_more s es q m h = follow_back_Seg s None es q m h ∙ ap (λ l. reverse (members es) ++ l) (read_none Prior m s None refl) ∙ append-nil (reverse (members es))

drop_behind : {X : Type 0} (xs : List X) (y : X) (ys : List X) → drop (suc (length xs)) (xs ++ y ∷ ys) ≡ ys
drop_behind [] y ys = refl
drop_behind (x ∷ xs) y ys = drop_behind xs y ys

-- a key whose node is none of them is the key of none of them
without_none : (find : DbKey → Option ℕ) (s : Slots) → ((k : DbKey) (i : ℕ) → key_at s i ≡ Some k → find k ≡ Some i) → (p : Option ℕ) (es : List Link) (q : Option ℕ) (k : DbKey) (x : ℕ)
    → find k ≡ Some x → Avoids x es → Seg s p es q → without_key k (members es) ≡ members es
without_none find s keyed p [] q k x at away h = refl
without_none find s keyed p (e ∷ es) q k x at away h = by (has_key k e.member) refl (without_none find s keyed (Some e.at) es q k x at away.1 h.1)
  where
    by : (b : Bool) → has_key k e.member ≡ b → without_key k (members es) ≡ members es → without_key k (members (e ∷ es)) ≡ members (e ∷ es)
    by false same rest = rw same (ap (λ ms. e.member ∷ ms) rest)
    by true same rest =
        let key : k ≡ e.member.0 = same_key _ _ same in
        let here : find e.member.0 ≡ Some e.at = keyed e.member.0 e.at (ap (option_map (λ n. n.member.0)) h.0) in
        absurd (away.0 (same_Some _ _ (sym here ∙ sym (ap find key) ∙ at)))

module _ (find : DbKey → Option ℕ) (s : Slots) (first last : Option ℕ) (len : ℕ) (R : IsRing find s first last len) where
  module _ (a : List Link) (e : Link) (b : List Link) (split : R.chain ≡ a ++ e ∷ b) where
    -- what is read after a node, and before it
    pub reads_behind : follow len s (head_at b None) ≡ members b
    reads_behind =
        let links : Seg s None (a ++ e ∷ b) None = subst (λ c. Seg s None c None) split R.links in
        let n : len ≡ length b + (length a + 1) = omega (arith, R.counted, ap length split, length-append a (e ∷ b)) in
        ap (λ m. follow m s (head_at b None)) n ∙ follow_more s (Some e.at) b (length a + 1) (Seg_right None s None a (e ∷ b) links).1

    pub reads_in_front : follow_back len s (last_at None a) ≡ reverse (members a)
    reads_in_front =
        let links : Seg s None (a ++ e ∷ b) None = subst (λ c. Seg s None c None) split R.links in
        let n : len ≡ length a + (length b + 1) = omega (arith, R.counted, ap length split, length-append a (e ∷ b)) in
        ap (λ m. follow_back m s (last_at None a)) n ∙ follow_back_more s a (head_at (e ∷ b) None) (length b + 1) (Seg_left None s None a (e ∷ b) links)

    module _ (k : DbKey) (key : e.member.0 ≡ k) where
      place : place_of k (members R.chain) ≡ length (members a)
      place = place_here find s first last len R a e b split k key

      whole : members R.chain ≡ members a ++ e.member ∷ members b
      whole = whole_members find s first last len R a e b split k key

      pub behind_here : behind (has_key k) (members R.chain) ≡ members b
      behind_here =
          behind_drop (has_key k) (members R.chain) ∙ ap (λ n. drop (suc n) (members R.chain)) place ∙ ap (drop (suc (length (members a)))) whole ∙ drop_behind (members a) e.member (members b)

      pub in_front_here : in_front (has_key k) (members R.chain) ≡ members a
      in_front_here =
          in_front_take (has_key k) (members R.chain) ∙ ap (λ n. take n (members R.chain)) place ∙ ap (take (length (members a))) whole ∙ take_at (members a) (e.member ∷ members b) (length (members a)) refl

      pub without_here : without_key k (members R.chain) ≡ members a ++ members b
      without_here =
          let links : Seg s None (a ++ e ∷ b) None = subst (λ c. Seg s None c None) split R.links in
          let apart : Apart (a ++ e ∷ b) = subst Apart split R.apart in
          let away = (Apart_without a e b apart).1 in
          let at : find k ≡ Some e.at = ap find (sym key) ∙ found_link find s first last len R a e b split in
          let front = without_none find s R.keyed None a (head_at (e ∷ b) None) k e.at at (Avoids_left e.at a b away) (Seg_left None s None a (e ∷ b) links) in
          let rest = without_none find s R.keyed (Some e.at) b None k e.at at (Avoids_right e.at a b away) (Seg_right None s None a (e ∷ b) links).1 in
          let gone : without_key k (e.member ∷ members b) ≡ without_key k (members b) = ap (λ t. cond (not t) (e.member ∷ without_key k (members b)) (without_key k (members b))) (ap (key_eq k) key ∙ key_eq_refl k) in
          ap (without_key k) whole ∙ filter-append (λ x. not (has_key k x)) (members a) (e.member ∷ members b) ∙ ap (λ l. without_key k (members a) ++ l) (gone ∙ rest) ∙ ap (λ l. l ++ members b) front

-- the same change of the members that are there
pub same_change : (f g : List Entry → List Entry) (occ : Option Occurrence) → f (members_in occ) ≡ g (members_in occ) → with_members f occ ≡ with_members g occ
same_change f g None h = refl
same_change f g (Some o) h = ap (λ ms. Some (record { owner = o.owner; members = ms })) h

module _ (find : DbKey → Option ℕ) (s : Slots) (first last : Option ℕ) (len : ℕ) (R : IsRing find s first last len) where
  pub free_reserved : (k : DbKey) (at : ℕ) (n : Node) → find k ≡ Some at → slot s at ≡ Some n → not n.linked ≡ true → Contains (unlinked_keys s) k
  free_reserved k at n found there off =
      let key : n.member.0 ≡ k = same_Some _ _ (sym (ap (option_map (λ n. n.member.0)) there) ∙ R.found k at found) in
      reserved_key s k at (record { node = n; there = there; off = by n.linked off; key = key })
    where
      by : (b : Bool) → not b ≡ true → b ≡ false
      by true h = absurd (true≢false (sym h))
      by false h = refl

  pub reserved_free : (k : DbKey) (at : ℕ) (n : Node) → find k ≡ Some at → slot s at ≡ Some n → Contains (unlinked_keys s) k → not n.linked ≡ true
  reserved_free k at n found there room =
      let r = reserved_at find s first last len R k room at found in
      ap (λ m. not m.linked) (same_Some n r.node (sym there ∙ r.there)) ∙ ap not r.off

  -- each key stands once in the list
  pub once_each : OnceEach (members R.chain)
  once_each = by None R.chain R.links R.apart
    where
      none : (p : Option ℕ) (es : List Link) (k : DbKey) (x : ℕ) → find k ≡ Some x → Avoids x es → Seg s p es None → is_member k (map (λ e. e.0) (members es)) ≡ false
      none p [] k x at away h = refl
      none p (e ∷ es) k x at away h = differs (key_eq k e.member.0) refl (none (Some e.at) es k x at away.1 h.1)
        where
          differs : (b : Bool) → key_eq k e.member.0 ≡ b → is_member k (map (λ e. e.0) (members es)) ≡ false → is_member k (map (λ e. e.0) (members (e ∷ es))) ≡ false
          differs false q rest = ap (λ b. b || is_member k (map (λ e. e.0) (members es))) q ∙ rest
          differs true q rest =
              let key : k ≡ e.member.0 = same_key k e.member.0 q in
              let here : find e.member.0 ≡ Some e.at = R.keyed e.member.0 e.at (ap (option_map (λ n. n.member.0)) h.0) in
              absurd (away.0 (same_Some _ _ (sym here ∙ sym (ap find key) ∙ at)))

      by : (p : Option ℕ) (es : List Link) → Seg s p es None → Apart es → OnceEach (members es)
      by p [] h apart = tt
      by p (e ∷ es) h apart = (none (Some e.at) es e.member.0 e.at (R.keyed e.member.0 e.at (ap (option_map (λ n. n.member.0)) h.0)) apart.0 h.1, by (Some e.at) es h.1 apart.1)

-- where there is a member, there is an occurrence
pub present_with : (k : DbKey) (occ : Option Occurrence) → is_member k (keys_in occ) ≡ true → is_some occ ≡ true
present_with k None h = absurd (true≢false (sym h))
present_with k (Some o) h = refl
