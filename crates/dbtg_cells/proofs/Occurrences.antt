-- What a ring shows of its owner and its members.
use Rattle.std.proofs.Common.{◌≡◌, true, List, map, Option, Some, None, sym, ap, ◌∙◌, option_map}
use Rattle.std.specs.List.{list_any}
use Rattle.dbtg_cells.specs.declared.key.DbKey.{DbKey}
use Rattle.dbtg_cells.specs.declared.key.Owner.{Owner}
use Rattle.dbtg_cells.specs.declared.ring.Occurrence.{Occurrence}
use Rattle.dbtg_cells.specs.Keys.{is_member, key_eq}
use Rattle.dbtg_cells.specs.Members.{Entry, members_in, keys_in, has_key, with_members}
use Rattle.dbtg_cells.proofs.PlainLists.{any_map}

abbrev pub shown_as : Option Owner → List Entry → Option Occurrence
shown_as owner members = option_map (λ o. record { owner = o; members = members }) owner

pub changed : (owner : Option Owner) (ms ms' : List Entry) (occ : Option Occurrence) (f : List Entry → List Entry) → shown_as owner ms ≡ occ → ms' ≡ f ms → shown_as owner ms' ≡ with_members f occ
changed None ms ms' occ f view is = ap (with_members f) view
changed (Some o) ms ms' occ f view is = ap (λ l. shown_as (Some o) l) is ∙ ap (with_members f) view

pub members_shown : (owner : Option Owner) (o : Owner) (ms : List Entry) (occ : Option Occurrence) → shown_as owner ms ≡ occ → owner ≡ Some o → members_in occ ≡ ms
members_shown owner o ms occ view is = sym (ap members_in view) ∙ ap (λ w. members_in (shown_as w ms)) is

pub keys_shown : (owner : Option Owner) (o : Owner) (ms : List Entry) (occ : Option Occurrence) → shown_as owner ms ≡ occ → owner ≡ Some o → keys_in occ ≡ map (λ e. e.0) ms
keys_shown owner o ms occ view is = ap (map (λ e. e.0)) (members_shown owner o ms occ view is)

pub member_there : (ms shown : List Entry) (k : DbKey) → ms ≡ shown → is_member k (map (λ e. e.0) shown) ≡ true → list_any (has_key k) ms ≡ true
member_there ms shown k view h = ap (list_any (has_key k)) view ∙ sym (any_map (λ e. e.0) (key_eq k) shown) ∙ h
