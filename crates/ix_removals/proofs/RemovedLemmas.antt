-- A removal that takes its place among others, and what they remove then.
use Rattle.std.proofs.Common.{◌≡◌, ◌≢◌, ◌⊎◌, ◌↔◌, inl, inr, ℕ, zero, suc, ◌<◌, ◌^◌, List, [], ◌∷◌, ◌++◌, Ordering, Less, Equal, Greater, All, Contains, length, get_or, take, map, Bool, true, false, Some, cond, ◌+◌, refl, sym, ap, ◌∙◌, subst, arith, max}
use Rattle.std.specs.Prelude.{String, string_bytes, unwrap_or}
use Rattle.std.proofs.lemmas.Bool.{cases_Bool, cases_lt, false≢true}
use Rattle.std.proofs.lemmas.Cmp.{nat_list_cmp_total, on_total, tied_itself}
use Rattle.std.proofs.lemmas.List.{map-append, take_more}
use Rattle.std.proofs.lemmas.List.Elements.{All-cons, All-contains, All-contains_itself, All-head, All-nil, All-tail, All-weaker, Contains-append_left, Contains-push, Contains-push_cases, recursion_from_All}
use Rattle.std.proofs.lemmas.Map.Lookups.{exact_bytes}
use Rattle.std.proofs.lemmas.Slice.Eq.{bytes_eq-Decides}
use Rattle.std.specs.BTreeMap.{insert_entry, is_at}
use Rattle.std.specs.Cmp.{IsTotalOrder}
use Rattle.std.specs.Cmp.Lexicographic.{slice_cmp}
use Rattle.std.specs.List.{AllByRecursion, AllZip, slice_get}
use Rattle.std.specs.List.Sorted.{IsStrictlySortedBy}
use Rattle.std.specs.Map.{keys_of, lookup}
use Rattle.std.specs.Ordering.{is_eq, is_lt, match_ordering, nat_cmp, ordering_reverse}
use Rattle.std.specs.Str.{bytes_eq}
use Rattle.std.specs.String.{string_cmp}
use Rattle.ix_text.proofs.AscendingLists.{all_below, contains_cases, contains_first, contains_later, contains_map, contains_none, not_below_itself}
use Rattle.ix_removals.specs.RemovalEntries.{removals_of}
use Rattle.ix_removals.specs.RemovalsText.{AreRemovals, IsRemoval, IsRemoved, Removal, name_cmp}

-- ---- the order of names

pub order : IsTotalOrder name_cmp
order = on_total (λ (removal : Removal). removal.name) nat_list_cmp_total

pub not_same_if_below : (one other : List ℕ) → slice_cmp nat_cmp one other ≡ Less → other ≢ one
not_same_if_below one other less same = not_below_itself nat_list_cmp_total one (subst (λ (name : List ℕ). slice_cmp nat_cmp one name ≡ Less) same less)

not_same_if_above : (one other : List ℕ) → slice_cmp nat_cmp other one ≡ Less → other ≢ one
not_same_if_above one other less same = not_same_if_below other one less (sym same)

flipped : (one other : Removal) → name_cmp one other ≡ Greater → name_cmp other one ≡ Less
flipped one other more = order.antisymm other one ∙ ap ordering_reverse more

-- ---- a removal in its place

-- the removals with one in its place, which replaces one of the same name
abbrev pub put : List Removal → Removal → List Removal
put [] one = one ∷ []
put (first ∷ others) one = match_ordering (name_cmp one first) (one ∷ first ∷ others) (one ∷ others) (first ∷ put others one)

-- the cases of `put`
abbrev Put : Removal → List Removal → Removal → Ordering → List Removal
Put first others one way = match_ordering way (one ∷ first ∷ others) (one ∷ others) (first ∷ put others one)

pub put_inside : (removals : List Removal) (one other : Removal) → IsStrictlySortedBy name_cmp removals → Contains (put removals one) other → (other ≡ one) ⊎ (Contains removals other × (other.name ≢ one.name))
unfolding IsStrictlySortedBy
put_inside [] one other up has = elim (contains_cases one [] other has) [ inl same ↦ inl (sym same) | inr later ↦ absurd (contains_none other later) ]
put_inside (first ∷ others) one other up has =
    let goal : Type 0 = (other ≡ one) ⊎ (Contains (first ∷ others) other × (other.name ≢ one.name)) in
    let by : (way : Ordering) → name_cmp one first ≡ way → Contains (Put first others one way) other → goal = λ way.
    elim way as (λ way. name_cmp one first ≡ way → Contains (Put first others one way) other → goal) [
      | Less ↦ λ less has. elim (contains_cases one (first ∷ others) other has) [
        | inl same ↦ inl (sym same)
        | inr later ↦ inr (
          later,
          elim (contains_cases first others other later) [
            | inl same ↦ subst (λ (r : Removal). r.name ≢ one.name) same (not_same_if_below one.name first.name less)
            | inr further ↦ not_same_if_below one.name other.name (order.trans one first other less (all_below name_cmp first others other up.0 further))
          ],
        )
      ]
      | Equal ↦ λ tie has. elim (contains_cases one others other has) [
        | inl same ↦ inl (sym same)
        | inr later ↦ inr (
          contains_later first others other later,
          not_same_if_below one.name other.name (order.congr one first other tie ∙ all_below name_cmp first others other up.0 later),
        )
      ]
      | Greater ↦ λ more has. elim (contains_cases first (put others one) other has) [
        | inl same ↦ inr (
          subst (Contains (first ∷ others)) same (contains_first first others),
          subst (λ (r : Removal). r.name ≢ one.name) same (not_same_if_above one.name first.name (flipped one first more)),
        )
        | inr later ↦ elim (put_inside others one other up.1 later) [
          | inl same ↦ inl same
          | inr old ↦ inr (contains_later first others other old.0, old.1)
        ]
      ]
    ] in
    by (name_cmp one first) refl has

pub put_there : (removals : List Removal) (one : Removal) → Contains (put removals one) one
put_there [] one = contains_first one []
put_there (first ∷ others) one =
    elim (name_cmp one first) as (λ way. Contains (Put first others one way) one) [
      | Less ↦ contains_first one (first ∷ others)
      | Equal ↦ contains_first one others
      | Greater ↦ contains_later first (put others one) one (put_there others one)
    ]

pub put_others : (removals : List Removal) (one other : Removal) → Contains removals other → other.name ≢ one.name → Contains (put removals one) other
put_others [] one other has differ = absurd (contains_none other has)
put_others (first ∷ others) one other has differ =
    elim (name_cmp one first) as (λ way. name_cmp one first ≡ way → Contains (Put first others one way) other) [
      | Less ↦ λ less. contains_later one (first ∷ others) other has
      | Equal ↦ λ tie. elim (contains_cases first others other has) [
        | inl same ↦ absurd (differ (ap (λ (r : Removal). r.name) (sym same) ∙ sym (exact_bytes one.name first.name tie)))
        | inr later ↦ contains_later one others other later
      ]
      | Greater ↦ λ more. elim (contains_cases first others other has) [
        | inl same ↦ subst (Contains (first ∷ put others one)) same (contains_first first (put others one))
        | inr later ↦ contains_later first (put others one) other (put_others others one other later differ)
      ]
    ] refl

-- what holds of each element, by recursion on the list
by_recursion : {A : Type 0} (P : A → Type 0) (xs : List A) → ((x : A) → Contains xs x → P x) → AllByRecursion P xs
by_recursion P xs all = recursion_from_All P xs (All-weaker (Contains xs) P all xs (All-contains_itself xs))

put_ascends : (removals : List Removal) (one : Removal) → IsStrictlySortedBy name_cmp removals → IsStrictlySortedBy name_cmp (put removals one)
unfolding IsStrictlySortedBy
put_ascends [] one up = (tt, tt)
put_ascends (first ∷ others) one up =
    elim (name_cmp one first) as (λ way. name_cmp one first ≡ way → IsStrictlySortedBy name_cmp (Put first others one way)) [
      | Less ↦ λ less. ((less, by_recursion (λ y. name_cmp one y ≡ Less) others (λ y has. order.trans one first y less (all_below name_cmp first others y up.0 has))), up)
      | Equal ↦ λ tie. (by_recursion (λ y. name_cmp one y ≡ Less) others (λ y has. order.congr one first y tie ∙ all_below name_cmp first others y up.0 has), up.1)
      | Greater ↦ λ more. (
        by_recursion (λ y. name_cmp first y ≡ Less) (put others one)
            (λ y has. elim (put_inside others one y up.1 has) [
              | inl same ↦ subst (λ (r : Removal). name_cmp first r ≡ Less) (sym same) (flipped one first more)
              | inr old ↦ all_below name_cmp first others y up.0 old.0
            ]),
        put_ascends others one up.1,
      )
    ] refl

pub lawful_put : (removals : List Removal) (one : Removal) → AreRemovals removals → IsRemoval one → AreRemovals (put removals one)
lawful_put removals one are is = record {
  each = All-weaker (Contains (put removals one)) IsRemoval
      (λ other has. elim (put_inside removals one other are.ascending has) [
        | inl same ↦ subst IsRemoval (sym same) is
        | inr old ↦ All-contains IsRemoval removals other are.each old.0
      ])
      (put removals one) (All-contains_itself (put removals one));
  ascending = put_ascends removals one are.ascending;
}

-- a removal whose name is above all others goes behind them
put_last : (removals : List Removal) (one : Removal) → All (λ other. slice_cmp nat_cmp other.name one.name ≡ Less) removals → put removals one ≡ removals ++ one ∷ []
put_last [] one above = refl
put_last (first ∷ others) one above =
    let P : Removal → Type 0 = λ other. slice_cmp nat_cmp other.name one.name ≡ Less in
    let more : name_cmp one first ≡ Greater = order.antisymm one first ∙ ap ordering_reverse (All-head P first others above) in
    ap (Put first others one) more ∙ ap (λ (l : List Removal). first ∷ l) (put_last others one (All-tail P first others above))

-- ---- what is removed

abbrev pub IsBound : List Removal → List ℕ → ℕ → Type 0
IsBound removals name bound = (number : ℕ) → (number < bound) ↔ IsRemoved removals name number

renamed : (removals : List Removal) (one other : List ℕ) (number : ℕ) → one ≡ other → IsRemoved removals one number → IsRemoved removals other number
renamed removals one other number same removed =
    record { removal = removed.removal; among = removed.among; named = removed.named ∙ same; earlier = removed.earlier }

module _ (removals : List Removal) (name : List ℕ) (old below : ℕ) (ascending : IsStrictlySortedBy name_cmp removals) (bound : IsBound removals name old) where
  -- the removal of the name
  abbrev pub wider : Removal
  wider = record { name = name; below = max old below }

  put_removes : (other : List ℕ) (number : ℕ) → IsRemoved (put removals wider) other number → IsRemoved removals other number ⊎ ((other ≡ name) × (number < below))
  put_removes other number removed =
      elim (put_inside removals wider removed.removal ascending removed.among) [
        | inl same ↦
            let at : other ≡ name = sym removed.named ∙ ap (λ (r : Removal). r.name) same in
            let early : number < max old below = subst (λ (r : Removal). number < r.below) same removed.earlier in
            elim (cases_lt number below) [
              | inl low ↦ inr (at, low)
              | inr high ↦ let before : number < old = omega arith in inl (renamed removals name other number (sym at) ((bound number).0 before))
            ]
        | inr kept ↦ inl (record { removal = removed.removal; among = kept.0; named = removed.named; earlier = removed.earlier })
      ]

  put_keeps : (other : List ℕ) (number : ℕ) → IsRemoved removals other number → IsRemoved (put removals wider) other number
  put_keeps other number removed =
      elim (cases_Bool (bytes_eq other name)) [
        | inl equal ↦
            let at : other ≡ name = (bytes_eq-Decides other name).0 equal in
            let early : number < old = (bound number).1 (renamed removals other name number at removed) in
            record { removal = wider; among = put_there removals wider; named = sym at; earlier = omega arith }
        | inr differ ↦
            let apart : removed.removal.name ≢ name = λ same. false≢true (sym differ ∙ (bytes_eq-Decides other name).1 (sym removed.named ∙ same)) in
            record { removal = removed.removal; among = put_others removals wider removed.removal removed.among apart; named = removed.named; earlier = removed.earlier }
      ]

  put_adds : (other : List ℕ) (number : ℕ) → other ≡ name → number < below → IsRemoved (put removals wider) other number
  put_adds other number at low = record { removal = wider; among = put_there removals wider; named = sym at; earlier = omega arith }

  pub put_removed : (other : List ℕ) (number : ℕ) → IsRemoved (put removals wider) other number ↔ (IsRemoved removals other number ⊎ ((other ≡ name) × (number < below)))
  put_removed other number = (
    put_removes other number,
    λ either. elim either [ inl removed ↦ put_keeps other number removed | inr added ↦ put_adds other number added.0 added.1 ],
  )

  pub put_above : All (λ other. slice_cmp nat_cmp other.name name ≡ Less) removals → put removals wider ≡ removals ++ record { name = name; below = below } ∷ []
  put_above above =
      let none : ¬ (IsRemoved removals name 0) = λ removed.
      not_same_if_above name removed.removal.name (All-contains (λ (other : Removal). slice_cmp nat_cmp other.name name ≡ Less) removals removed.removal above removed.among) removed.named in
      let not_some : ¬ (0 < old) = λ some. none ((bound 0).0 some) in
      let only : max old below ≡ below = omega arith in
      put_last removals wider above ∙ ap (λ (n : ℕ). let one : Removal = record { name = name; below = n } in removals ++ one ∷ []) only

-- ---- a map of removals

pub entries_put : {Y : Type 0} (entries : List (String Y × ℕ)) (key : String Y) (bound : ℕ) → removals_of (insert_entry string_cmp entries key bound) ≡ put (removals_of entries) (record { name = string_bytes key; below = bound })
entries_put [] key bound = refl
entries_put {Y} (entry ∷ entries) key bound =
    let one : Removal = record { name = string_bytes key; below = bound } in
    let first : Removal = record { name = string_bytes entry.0; below = entry.1 } in
    elim (string_cmp key entry.0) as (λ way. string_cmp key entry.0 ≡ way → removals_of (match_ordering way ((key, bound) ∷ entry ∷ entries) ((entry.0, bound) ∷ entries) (entry ∷ insert_entry string_cmp entries key bound)) ≡ Put first (removals_of entries) one way) [
      | Less ↦ λ less. refl
      | Equal ↦ λ tie. ap (λ (name : List ℕ). let same : Removal = record { name = name; below = bound } in same ∷ removals_of entries) (sym (exact_bytes (string_bytes key) (string_bytes entry.0) tie))
      | Greater ↦ λ more. ap (λ (l : List Removal). first ∷ l) (entries_put entries key bound)
    ] refl

pub entries_cloned : {Y : Type 0} (entries others : List (String Y × ℕ)) → AllZip (λ (one other : String Y × ℕ). (string_bytes other.0 ≡ string_bytes one.0) × (other.1 ≡ one.1)) entries others → removals_of others ≡ removals_of entries
entries_cloned [] [] same = refl
entries_cloned [] (other ∷ others) same = absurd same
entries_cloned (entry ∷ entries) [] same = absurd same
entries_cloned (entry ∷ entries) (other ∷ others) same =
    let rest = entries_cloned entries others same.1 in
    let one : string_bytes other.0 ≡ string_bytes entry.0 = same.0.0 in
    let two : other.1 ≡ entry.1 = same.0.1 in
    rw (one, two, rest) refl

first_bound : (first : Removal) (others : List Removal) (name : List ℕ) → first.name ≡ name → IsStrictlySortedBy name_cmp (first ∷ others) → IsBound (first ∷ others) name first.below
unfolding IsStrictlySortedBy
first_bound first others name named up number = (
  λ early. record { removal = first; among = contains_first first others; named = named; earlier = early },
  λ removed. elim (contains_cases first others removed.removal removed.among) [
    | inl same ↦ subst (λ (r : Removal). number < r.below) (sym same) removed.earlier
    | inr later ↦ absurd (not_same_if_below first.name removed.removal.name (all_below name_cmp first others removed.removal up.0 later) (removed.named ∙ sym named))
  ],
)

later_bound : (first : Removal) (others : List Removal) (name : List ℕ) (bound : ℕ) → first.name ≢ name → IsBound others name bound → IsBound (first ∷ others) name bound
later_bound first others name bound differ is number = (
  λ early. let removed = (is number).0 early in
      record { removal = removed.removal; among = contains_later first others removed.removal removed.among; named = removed.named; earlier = removed.earlier },
  λ removed. elim (contains_cases first others removed.removal removed.among) [
    | inl same ↦ absurd (differ (ap (λ (r : Removal). r.name) same ∙ removed.named))
    | inr later ↦ (is number).1 (record { removal = removed.removal; among = later; named = removed.named; earlier = removed.earlier })
  ],
)

no_bound : (name : List ℕ) → IsBound [] name 0
no_bound name number = (λ early. absurd (omega arith), λ removed. absurd (contains_none removed.removal removed.among))

abbrev Looked : {Y : Type 0} → List (String Y × ℕ) → List ℕ → ℕ
Looked entries name = unwrap_or (lookup (is_at (λ key. slice_cmp nat_cmp name (string_bytes key))) entries) 0

not_tied : (one other : List ℕ) (way : Ordering) → slice_cmp nat_cmp one other ≡ way → way ≢ Equal → other ≢ one
not_tied one other way is not same = not (sym is ∙ ap (slice_cmp nat_cmp one) same ∙ tied_itself nat_list_cmp_total one)

pub looked_bound : {Y : Type 0} (entries : List (String Y × ℕ)) (name : List ℕ) → IsStrictlySortedBy name_cmp (removals_of entries) → IsBound (removals_of entries) name (Looked entries name)
unfolding IsStrictlySortedBy
looked_bound [] name up = no_bound name
looked_bound (entry ∷ entries) name up =
    let first : Removal = record { name = string_bytes entry.0; below = entry.1 } in
    elim (slice_cmp nat_cmp name (string_bytes entry.0)) as (λ way. slice_cmp nat_cmp name (string_bytes entry.0) ≡ way
    → IsBound (first ∷ removals_of entries) name (unwrap_or (cond (is_eq way) (Some entry.1) (lookup (is_at (λ key. slice_cmp nat_cmp name (string_bytes key))) entries)) 0)) [
      | Less ↦ λ less. later_bound first (removals_of entries) name (Looked entries name) (not_tied name first.name Less less (λ clash. cc)) (looked_bound entries name up.1)
      | Equal ↦ λ tie. first_bound first (removals_of entries) name (sym (exact_bytes name first.name tie)) up
      | Greater ↦ λ more. later_bound first (removals_of entries) name (Looked entries name) (not_tied name first.name Greater more (λ clash. cc)) (looked_bound entries name up.1)
    ] refl

-- the bound that is found
pub bound_found : {Y : Type 0} (entries : List (String Y × ℕ)) (removals : List Removal) (name : List ℕ) (bound : ℕ) → removals_of entries ≡ removals → AreRemovals (removals_of entries) → bound ≡ Looked entries name → IsBound removals name bound
bound_found entries removals name bound seen are is =
    subst (λ (l : List Removal). IsBound l name bound) seen
    (subst (λ (n : ℕ). IsBound (removals_of entries) name n) (sym is) (looked_bound entries name are.ascending))

-- a removal was put in its place
pub seen_insert : {Y : Type 0} (old new : List (String Y × ℕ)) (removals : List Removal) (key : String Y) (name : List ℕ) (before below bound : ℕ) → new ≡ insert_entry string_cmp old key bound → string_bytes key ≡ name → bound ≡ max before below
    → removals_of old ≡ removals → removals_of new ≡ put removals (record { name = name; below = max before below })
seen_insert old new removals key name before below bound is named wide seen =
    ap removals_of is ∙ entries_put old key bound
    ∙ ap (λ (l : List Removal). put l (record { name = string_bytes key; below = bound })) seen
    ∙ ap (λ (n : List ℕ). put removals (record { name = n; below = bound })) named
    ∙ ap (λ (n : ℕ). put removals (record { name = name; below = n })) wide

pub wider_lawful : (name : List ℕ) (before below : ℕ) → before < 2 ^ 64 → let narrow : Removal = record { name = name; below = below } in IsRemoval narrow → let wide : Removal = record { name = name; below = max before below } in IsRemoval wide
wider_lawful name before below fits is =
    let some : 0 < below = is.some_number in
    let low : below < 2 ^ 64 = is.fits in
    record { name = is.name; some_number = omega arith; fits = omega arith }

-- ---- the last entry

at_place : {A : Type 0} (xs : List A) (i : ℕ) (x : A) → slice_get xs i ≡ Some x → Contains xs x
at_place [] i x is = absurd (cc)
at_place (y ∷ xs) zero x is = let same : y ≡ x = cc in (0, omega arith, same)
at_place (y ∷ xs) (suc i) x is = contains_later y xs x (at_place xs i x is)

one_below : (last other name : List ℕ) → is_lt (slice_cmp nat_cmp last other) ≡ false → slice_cmp nat_cmp last name ≡ Less → slice_cmp nat_cmp other name ≡ Less
one_below last other name up less =
    let total = nat_list_cmp_total in
    elim (slice_cmp nat_cmp last other) as (λ way. slice_cmp nat_cmp last other ≡ way → is_lt way ≡ false → slice_cmp nat_cmp other name ≡ Less) [
      | Less ↦ λ is below. absurd (cc)
      | Equal ↦ λ tie below. sym (total.congr last other name tie) ∙ less
      | Greater ↦ λ more below. total.trans other last name (total.antisymm other last ∙ ap ordering_reverse more) less
    ] refl up

all_up_to : {Y : Type 0} (entries : List (String Y × ℕ)) (last : String Y) (name : List ℕ) → All (λ key. is_lt (string_cmp last key) ≡ false) (keys_of entries) → slice_cmp nat_cmp (string_bytes last) name ≡ Less
    → All (λ one. slice_cmp nat_cmp one.name name ≡ Less) (removals_of entries)
all_up_to [] last name up less = All-nil (λ (one : Removal). slice_cmp nat_cmp one.name name ≡ Less)
all_up_to {Y} (entry ∷ entries) last name up less =
    let P : String Y → Type 0 = λ key. is_lt (string_cmp last key) ≡ false in
    All-cons (λ (one : Removal). slice_cmp nat_cmp one.name name ≡ Less) (record { name = string_bytes entry.0; below = entry.1 }) (removals_of entries)
    (one_below (string_bytes last) (string_bytes entry.0) name (All-head P entry.0 (keys_of entries) up) less)
    (all_up_to entries last name (All-tail P entry.0 (keys_of entries) up) less)

less_from_test : (way : Ordering) → is_lt way ≡ true → way ≡ Less
less_from_test Less is = refl
less_from_test Equal is = absurd (cc)
less_from_test Greater is = absurd (cc)

-- a name is above all if it is above the last
pub above_last : {Y : Type 0} (entries : List (String Y × ℕ)) (removals : List Removal) (place : ℕ) (last : String Y) (bound : ℕ) (name : List ℕ) (way : Ordering) (answer : Bool) → removals_of entries ≡ removals → slice_get entries place ≡ Some (last, bound)
    → All (λ key. is_lt (string_cmp last key) ≡ false) (keys_of entries) → way ≡ slice_cmp nat_cmp (string_bytes last) name → answer ≡ is_lt way → (answer ≡ true) ↔ All (λ one. slice_cmp nat_cmp one.name name ≡ Less) removals
above_last entries removals place last bound name way answer seen there up is tested =
    let P : Removal → Type 0 = λ one. slice_cmp nat_cmp one.name name ≡ Less in (
      λ yes. subst (All P) seen (all_up_to entries last name up (sym is ∙ less_from_test way (sym tested ∙ yes))),
      λ all.
          let among = contains_map (λ entry. let one : Removal = record { name = string_bytes entry.0; below = entry.1 } in one) entries (last, bound) (at_place entries place (last, bound) there) in
          let less : slice_cmp nat_cmp (string_bytes last) name ≡ Less = All-contains P (removals_of entries) (record { name = string_bytes last; below = bound }) (subst (All P) (sym seen) all) among in
          tested ∙ ap is_lt (is ∙ less),
    )

-- ---- many names

-- one more name
pub names_more : {A : Type 0} (named : A → List ℕ) (names : List A) (k : ℕ) (d : A) (first now next : List Removal) (below : ℕ) → k < length names
    → ((name : List ℕ) (number : ℕ) → IsRemoved now name number ↔ (IsRemoved first name number ⊎ (Contains (map named (take k names)) name × (number < below))))
    → ((name : List ℕ) (number : ℕ) → IsRemoved next name number ↔ (IsRemoved now name number ⊎ ((name ≡ named (get_or names k d)) × (number < below))))
    → (name : List ℕ) (number : ℕ) → IsRemoved next name number ↔ (IsRemoved first name number ⊎ (Contains (map named (take (k + 1) names)) name × (number < below)))
names_more named names k d first now next below within before step name number =
    let more : map named (take (k + 1) names) ≡ map named (take k names) ++ named (get_or names k d) ∷ [] =
    ap (map named) (take_more names k d within) ∙ map-append named (take k names) (get_or names k d ∷ []) in
    let have : List (List ℕ) → Type 0 = λ l. Contains l name in (
      λ removed. elim ((step name number).0 removed) [
        | inl old ↦ elim ((before name number).0 old) [
          | inl there ↦ inl there
          | inr added ↦ inr (subst have (sym more) (Contains-append_left (map named (take k names)) (named (get_or names k d) ∷ []) name added.0), added.1)
        ]
        | inr this ↦ inr (subst have (sym more) (subst (Contains (map named (take k names) ++ named (get_or names k d) ∷ [])) (sym this.0) (Contains-push (map named (take k names)) (named (get_or names k d)))), this.1)
      ],
      λ either. elim either [
        | inl there ↦ (step name number).1 (inl ((before name number).1 (inl there)))
        | inr added ↦ elim (Contains-push_cases (map named (take k names)) (named (get_or names k d)) name (subst have more added.0)) [
          | inl old ↦ (step name number).1 (inl ((before name number).1 (inr (old, added.1))))
          | inr this ↦ (step name number).1 (inr (sym this, added.1))
        ]
      ],
    )

-- a bound is that of a removal
pub bound_fits : (removals : List Removal) (name : List ℕ) (bound : ℕ) → AreRemovals removals → IsBound removals name bound → bound < 2 ^ 64
bound_fits removals name zero are is = omega arith
bound_fits removals name (suc number) are is =
    let removed = (is number).0 (omega arith) in
    let lawful = All-contains IsRemoval removals removed.removal are.each removed.among in
    omega (arith, removed.earlier, lawful.fits)
