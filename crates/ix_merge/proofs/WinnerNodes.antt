-- The winners of the nodes of a tree are found one by one, from the leaves up.
use Rattle.std.proofs.Common.{◌≡◌, ◌≢◌, ℕ, zero, suc, ◌+◌, ◌*◌, ◌-◌, ◌/◌, ◌<◌, ◌≤◌, ◌⊎◌, Bool, List, length, set, Option, Some, None, MatchOption, inl, inr, refl, sym, ap, ◌∙◌, subst, ⊎_elim, arith, length-set}
use Rattle.std.proofs.lemmas.Bool.{cases_lt, cases_eq}
use Rattle.std.specs.Bool.{then_some}
use Rattle.std.specs.Prelude.{⊤}
use Rattle.std.proofs.lemmas.List.{get_or-set_same, get_or-set_other, get_or_past}
use Rattle.ix_merge.specs.Keys.{Key, ComesFirst, HoldsFirst, key_at}
use Rattle.ix_merge.specs.WinnerTrees.{key_under, holder_at, leaf_of, HasKey, IsWinner, Wins, above, IsOver, IsSettledBut, IsWinnerTree, HasAdvanced}
use Rattle.ix_merge.proofs.KeyOrder.{first_itself, first_further}

-- ---- which node is above which

above-first : (levels node : ℕ) → above (suc levels) node ≡ above levels (node / 2)
above-first zero node = refl
above-first (suc levels) node = ap (λ n. n / 2) (above-first levels node)

above-le : (levels node : ℕ) → above levels node ≤ node
above-le zero node = omega arith
above-le (suc levels) node = let h = above-le levels node in omega arith

-- a node above another is no greater than its half
over_half : (high low : ℕ) → IsOver high low → high ≢ low → high ≤ low / 2
over_half high low (zero, is) other = absurd (other (sym is))
over_half high low (suc levels, is) other = let h = above-le levels low in omega arith

-- it is above the next one, or that one
over_next : (high low : ℕ) → IsOver high low → (high ≡ low) ⊎ IsOver high (low / 2)
over_next high low (zero, is) = inl (sym is)
over_next high low (suc levels, is) = inr (levels, sym (above-first levels low) ∙ is)

-- and so is one of its two children
over_child : (high low : ℕ) → IsOver high low → high ≢ low → IsOver (2 * high) low ⊎ IsOver (2 * high + 1) low
over_child high low (zero, is) other = absurd (other (sym is))
over_child high low (suc levels, is) other = elim (cases_eq (above levels low) (2 * high)) [
  | inl even ↦ inl (levels, even)
  | inr odd ↦ inr (levels, let o = odd in omega arith)
]

over_parent : (high child low : ℕ) → child / 2 ≡ high → IsOver child low → IsOver high low
over_parent high child low half (levels, is) = (suc levels, ap (λ n. n / 2) is ∙ half)

-- the root is above each node
root_over : (fuel low : ℕ) → low ≤ fuel → 1 ≤ low → IsOver 1 low
root_over zero low few some = absurd (omega arith)
root_over (suc fuel) low few some = elim (cases_lt 1 low) [
  | inl more ↦ let over = root_over fuel (low / 2) (omega arith) (omega arith) in (suc over.0, above-first over.0 low ∙ over.1)
  | inr one ↦ (zero, omega arith)
]

-- ---- the winner of one node

module _ (keys : List (Option Key)) where
  -- that of a leaf
  pub leaf_wins : (node : ℕ) → length keys ≤ node → node < 2 * length keys → Wins keys node (leaf_of keys (node - length keys))
  leaf_wins node behind within = by (key_at keys (node - length keys)) refl
    where
      alone : (place : ℕ) → place < length keys → IsOver node (length keys + place) → place ≡ node - length keys
      alone place low over = elim (cases_eq node (length keys + place)) [
        | inl same ↦ omega arith
        | inr other ↦ absurd (let h = over_half node (length keys + place) over other in omega arith)
      ]

      by : (key : Option Key) → key_at keys (node - length keys) ≡ key → Wins keys node (leaf_of keys (node - length keys))
      by None is = rw is (record { has_key = tt; below = tt; first = λ place low over. rw (alone place low over, is) tt })
      by (Some key) is = rw is
          (record {
            has_key = (omega arith, rw is refl);
            below = (zero, omega arith);
            first = λ place low over. rw (alone place low over) (first_itself (key_at keys (node - length keys)));
          })

  -- that of a node whose children have winners
  pub winner_wins : (node : ℕ) (one left right : Option ℕ) → node < length keys → IsWinner keys one left right → Wins keys (2 * node) left → Wins keys (2 * node + 1) right → Wins keys node one
  winner_wins node one left right within wins on_left on_right = record {
    has_key = of_two (HasKey keys) on_left.has_key on_right.has_key;
    below = of_two (λ holder. MatchOption holder ⊤ (λ place. IsOver node (length keys + place))) (raised left (2 * node) (omega arith) on_left.below) (raised right (2 * node + 1) (omega arith) on_right.below);
    first = λ place low over.
        ⊎_elim (λ under. first_further (key_under keys one) (key_under keys left) (key_at keys place) wins.first (on_left.first place low under))
        (λ under. first_further (key_under keys one) (key_under keys right) (key_at keys place) wins.first_too (on_right.first place low under))
        (over_child node (length keys + place) over (λ same. omega arith));
  }
    where
      of_two : (P : Option ℕ → Type 0) → P left → P right → P one
      of_two P l r = ⊎_elim (λ is. subst P (sym is) l) (λ is. subst P (sym is) r) wins.of_two

      raised : (holder : Option ℕ) (child : ℕ) → child / 2 ≡ node → MatchOption holder ⊤ (λ place. IsOver child (length keys + place)) → MatchOption holder ⊤ (λ place. IsOver node (length keys + place))
      raised None child half below = tt
      raised (Some place) child half below = over_parent node child (length keys + place) half below

  -- that of each node if no place has a key
  pub none_wins : (tree : List (Option ℕ)) → length tree ≡ 2 * length keys → ((node : ℕ) → holder_at tree node ≡ None) → ((place : ℕ) → key_at keys place ≡ None) → IsWinnerTree keys tree
  none_wins tree sized empty none = record {
    sized = sized;
    settled = λ node some within. subst (Wins keys node) (sym (empty node)) (record { has_key = tt; below = tt; first = λ place low over. rw (none place) tt });
  }

  -- ---- up from one node

  pub first_settled : (tree : List (Option ℕ)) (low : ℕ) → low ≤ 1 → IsSettledBut keys tree low → IsWinnerTree keys tree
  first_settled tree low one but = record {
    sized = but.sized;
    settled = λ node some within. but.settled node some within
        (λ over. elim (cases_eq node low) [ inl same ↦ same | inr other ↦ absurd (let h = over_half node low over other in omega arith) ]);
  }

  -- both children of the next node above hold the winners of their leaves
  children_settled : (tree : List (Option ℕ)) (low child : ℕ) → IsSettledBut keys tree low → 1 < low → low < 2 * length keys → child / 2 ≡ low / 2 → Wins keys child (holder_at tree child)
  children_settled tree low child but more within half = but.settled child (omega arith) (omega arith)
      (λ over. elim (cases_eq child low) [ inl same ↦ same | inr other ↦ absurd (let h = over_half child low over other in omega arith) ])

  pub still_have_keys : (tree : List (Option ℕ)) (low : ℕ) → IsSettledBut keys tree low → 1 < low → low < 2 * length keys
      → HasKey keys (holder_at tree (2 * (low / 2))) × HasKey keys (holder_at tree (2 * (low / 2) + 1))
  still_have_keys tree low but more within =
      ((children_settled tree low (2 * (low / 2)) but more within (omega arith)).has_key, (children_settled tree low (2 * (low / 2) + 1) but more within (omega arith)).has_key)

  pub next_settled : (tree : List (Option ℕ)) (low : ℕ) (one : Option ℕ) → IsSettledBut keys tree low → 1 < low → low < 2 * length keys
      → IsWinner keys one (holder_at tree (2 * (low / 2))) (holder_at tree (2 * (low / 2) + 1)) → IsSettledBut keys (set tree (low / 2) one) (low / 2)
  next_settled tree low one but more within wins = record {
    sized = length-set tree (low / 2) one ∙ but.sized;
    settled = λ node some w free. elim (cases_eq node (low / 2)) [
      | inl same ↦
          let here : holder_at (set tree (low / 2) one) (low / 2) ≡ one = get_or-set_same tree (low / 2) one None (omega (arith, but.sized)) in
          let left = children_settled tree low (2 * (low / 2)) but more within (omega arith) in
          let right = children_settled tree low (2 * (low / 2) + 1) but more within (omega arith) in
          subst (λ n. Wins keys n (holder_at (set tree (low / 2) one) n)) (sym same)
          (subst (Wins keys (low / 2)) (sym here) (winner_wins (low / 2) one (holder_at tree (2 * (low / 2))) (holder_at tree (2 * (low / 2) + 1)) (omega arith) wins left right))
      | inr other ↦
          subst (Wins keys node) (sym (get_or-set_other tree (low / 2) node one None other))
          (but.settled node some w (λ over. ⊎_elim (λ same. same) (λ up. absurd (other (free up))) (over_next node low over)))
    ];
  }

  -- ---- the root

  -- what the root holds comes first of all
  root_first : (tree : List (Option ℕ)) → IsWinnerTree keys tree → (place : ℕ) → place < length keys → ComesFirst (key_under keys (holder_at tree 1)) (key_at keys place)
  root_first tree played place within = (played.settled 1 (omega arith) (omega arith)).first place within (root_over (length keys + place) (length keys + place) (omega arith) (omega arith))

  -- the place that it holds has the least key
  pub holds_first : (tree : List (Option ℕ)) (place : ℕ) → IsWinnerTree keys tree → holder_at tree 1 ≡ Some place → HoldsFirst keys place
  holds_first tree place played is =
      let has = rw is at (played.settled 1 (omega arith) (some_node (length keys) refl)).has_key in
      record {
        within = has.0;
        there = has.1;
        first = λ other within. rw is at (root_first tree played other within);
      }
    where
      some_node : (n : ℕ) → length keys ≡ n → 1 < 2 * length keys
      some_node zero none =
          let past : holder_at tree 1 ≡ None = get_or_past tree 1 None (omega (arith, played.sized)) in
          let e : Some place ≡ None = sym is ∙ past in
          absurd cc
      some_node (suc n) more = omega arith

  pub holds_none : (tree : List (Option ℕ)) → IsWinnerTree keys tree → holder_at tree 1 ≡ None → (place : ℕ) → place < length keys → key_at keys place ≡ None
  holds_none tree played is place within = none (key_at keys place) (rw is at (root_first tree played place within))
    where
      none : (key : Option Key) → ComesFirst None key → key ≡ None
      none None first = refl
      none (Some key) first = absurd first

-- ---- one key changes

-- The key at a place was another one: if its leaf is set, all nodes but those above that are settled.
module _ (keys : List (Option Key)) (tree : List (Option ℕ)) (place : ℕ) (more : Bool) (but : HasAdvanced keys tree place more) where
  abbrev before : List (Option Key)
  before = set keys place but.before

  many : length before ≡ length keys
  many = length-set keys place but.before

  -- what wins at a node that is not above the leaf
  still : (node : ℕ) (holder : Option ℕ) → ¬ (IsOver node (length keys + place)) → Wins before node holder → Wins keys node holder
  still node holder free wins = record {
    has_key = has holder wins.has_key below;
    below = below;
    first = λ other low over.
        let e : key_at before other ≡ key_at keys other = there other over in
        let f : key_under before holder ≡ key_under keys holder = under holder below in
        rw (e, f) at (wins.first other (omega (arith, many)) (subst (λ n. IsOver node (n + other)) (sym many) over));
  }
    where
      below : MatchOption holder ⊤ (λ at. IsOver node (length keys + at))
      below = rw many at wins.below

      there : (other : ℕ) → IsOver node (length keys + other) → key_at before other ≡ key_at keys other
      there other over = get_or-set_other keys place other but.before None (λ same. free (subst (λ n. IsOver node (length keys + n)) same over))

      under : (one : Option ℕ) → MatchOption one ⊤ (λ at. IsOver node (length keys + at)) → key_under before one ≡ key_under keys one
      under None on = refl
      under (Some at) on = there at on

      has : (one : Option ℕ) → HasKey before one → MatchOption one ⊤ (λ at. IsOver node (length keys + at)) → HasKey keys one
      has None has_key on = tt
      has (Some at) has_key on = let e = there at on in (let l = has_key.0 in omega (arith, many), rw e at has_key.1)

  pub leaf_settled : IsSettledBut keys (set tree (length keys + place) (then_some more place)) (length keys + place)
  leaf_settled = record {
    sized = length-set tree (length keys + place) (then_some more place) ∙ but.settled.sized ∙ ap (λ n. 2 * n) many;
    settled = λ node some low free. elim (cases_eq node (length keys + place)) [
      | inl same ↦
          let within = but.within in
          let here : holder_at (set tree (length keys + place) (then_some more place)) (length keys + place) ≡ then_some more place =
          get_or-set_same tree (length keys + place) (then_some more place) None (omega (arith, but.settled.sized, many)) in
          let at : (length keys + place) - length keys ≡ place = omega arith in
          let told : leaf_of keys ((length keys + place) - length keys) ≡ then_some more place = ap (leaf_of keys) at ∙ sym (ap (λ b. then_some b place) but.more_is) in
          subst (λ n. Wins keys n (holder_at (set tree (length keys + place) (then_some more place)) n)) (sym same)
          (subst (Wins keys (length keys + place)) (told ∙ sym here) (leaf_wins keys (length keys + place) (omega arith) (omega arith)))
      | inr other ↦
          subst (Wins keys node) (sym (get_or-set_other tree (length keys + place) node (then_some more place) None other))
          (still node (holder_at tree node) (λ over. other (free over)) (but.settled.settled node some (omega (arith, many))))
    ];
  }
