-- What the tree of winners and the order of the sources keep from turn to turn.
use Rattle.std.proofs.Common.{◌≡◌, ℕ, ◌*◌, ◌<◌, List, [], ◌∷◌, length, get_or, set, All, Bool, Option, Some, None, IsSome, is_some, inl, inr, refl, sym, ap, subst, ◌∙◌, option_map, arith, length-set}
use Rattle.std.proofs.lemmas.Bool.{cases_lt}
use Rattle.std.proofs.lemmas.List.{get_or-map, get_or-set_same, get_or_past, length-map, map-set, set-get_or, set-set}
use Rattle.ix_text.specs.Parts.{DictionaryEntry}
use Rattle.ix_run.specs.Heads.{Heading}
use Rattle.ix_run.specs.Sources.{Giving, IsLawfulFront, IsUnread, Yielding, entry_with}
use Rattle.ix_merge.specs.Keys.{Key, key_at, key_of, keys_of}
use Rattle.ix_merge.specs.Starting.{HaveStarted}
use Rattle.ix_merge.specs.WinnerTrees.{HasAdvanced, IsWinnerTree, holder_at}
use Rattle.ix_merge.specs.Turns.{bare_entry}
use Rattle.ix_merge.proofs.Behind.{AreBehind, IsBehind}
use Rattle.ix_merge.proofs.WinnerNodes.{holds_none, none_wins}
use Rattle.ix_merge.proofs.Readings.{Below}

-- a text of some byte is above the one of none
above_none : (text : List ℕ) → 0 < length text → Below [] text
above_none [] some = absurd (omega arith)
above_none (x ∷ xs) some = refl

module _ {S : Type 0} (heading : S → Heading) (current : S → Option (List ℕ)) where
  some_key : (source : S) (o : Option (List ℕ)) → current source ≡ o → is_some (key_of heading current source) ≡ is_some (current source)
  some_key source None e = rw e refl
  some_key source (Some term) e = rw e refl

  -- a source advanced: the tree is one of winners but for its key
  pub advanced : (now : List S) (tree : List (Option ℕ)) (place : ℕ) (new : S) (more : Bool) → place < length now → IsWinnerTree (keys_of heading current now) tree → more ≡ is_some (current new)
      → HasAdvanced (keys_of heading current (set now place new)) tree place more
  advanced now tree place new more within played is =
      let keys = keys_of heading current now in
      let many : length keys ≡ length now = length-map now (key_of heading current) in
      let same : keys_of heading current (set now place new) ≡ set keys place (key_of heading current new) = map-set (key_of heading current) now place new in
      let there : key_at (set keys place (key_of heading current new)) place ≡ key_of heading current new = get_or-set_same keys place (key_of heading current new) None (omega arith) in
      subst (λ (ks : List (Option Key)). HasAdvanced ks tree place more) (sym same)
      (record {
        within = omega (arith, length-set keys place (key_of heading current new));
        more_is = is ∙ sym (ap is_some there ∙ some_key new (current new) refl);
        before = key_at keys place;
        settled = subst (λ (ks : List (Option Key)). IsWinnerTree ks tree) (sym (set-set keys place (key_of heading current new) (key_at keys place) ∙ set-get_or keys place None)) played;
      })

  -- before the first source is asked
  pub advanced_none : (gives : Giving S) (of_term : (source : S) (finished : List DictionaryEntry) (at_hand : Option DictionaryEntry) → gives source finished at_hand → option_map (λ entry. entry.term) at_hand ≡ current source)
      (now : List S) (tree : List (Option ℕ)) → length tree ≡ 2 * length now → All (λ holder. holder ≡ None) tree → All (IsUnread gives) now → IsWinnerTree (keys_of heading current now) tree
  advanced_none gives of_term now tree sized empty unread =
      none_wins (keys_of heading current now) tree (sized ∙ ap (λ n. 2 * n) (sym (length-map now (key_of heading current)))) holder key
    where
      holder : (node : ℕ) → holder_at tree node ≡ None
      holder node = elim (cases_lt node (length tree)) [ inl low ↦ empty node None low | inr past ↦ get_or_past tree node None past ]

      by : (one : S) → IsUnread gives one → key_of heading current one ≡ None
      by one is = let e : current one ≡ None = sym (of_term one [] None is) in rw e refl

      key : (place : ℕ) → key_at (keys_of heading current now) place ≡ None
      key place = elim (cases_lt place (length now)) [
        | inl low ↦ at now place low unread
        | inr past ↦ get_or_past (keys_of heading current now) place None (omega (arith, length-map now (key_of heading current)))
      ]
        where
          at : (sources : List S) (k : ℕ) → k < length sources → All (IsUnread gives) sources → key_at (keys_of heading current sources) k ≡ None
          at [] k within all = absurd (omega arith)
          at (source ∷ sources) k within all = get_or-map (key_of heading current) (source ∷ sources) k source None within ∙ by (get_or (source ∷ sources) k source) (all k source within)

  -- a source whose place has a key has a term
  pub has_term : (now : List S) (place : ℕ) (source : S) → place < length now → get_or now place source ≡ source → IsSome (key_at (keys_of heading current now) place) → IsSome (current source)
  has_term now place source within here some = by (current source) refl
    where
      by : (o : Option (List ℕ)) → current source ≡ o → IsSome (current source)
      by None is =
          let none : key_of heading current source ≡ None = rw is refl in
          let there : key_at (keys_of heading current now) place ≡ None = get_or-map (key_of heading current) now place source None within ∙ ap (key_of heading current) here ∙ none in
          let off = rw there at some in absurd cc
      by (Some term) is = rw is refl

  -- no source has a term
  pub none_left : (now : List S) (tree : List (Option ℕ)) → IsWinnerTree (keys_of heading current now) tree → holder_at tree 1 ≡ None → (place : ℕ) (source : S) → place < length now → current (get_or now place source) ≡ None
  none_left now tree played none place source within =
      let many : length (keys_of heading current now) ≡ length now = length-map now (key_of heading current) in
      let e = holds_none (keys_of heading current now) tree played none place (omega arith) in
      let f : key_of heading current (get_or now place source) ≡ None = sym (get_or-map (key_of heading current) now place source None within) ∙ e in
      by (get_or now place source) (current (get_or now place source)) refl f
    where
      by : (one : S) (o : Option (List ℕ)) → current one ≡ o → key_of heading current one ≡ None → current one ≡ None
      by one None is none' = is
      by one (Some term) is none' = let e : is_some (key_of heading current one) ≡ is_some (current one) = some_key one (Some term) is in let f = ap is_some none' in let h = ap is_some is in absurd cc

  module _ (yields : Yielding S) (gives : Giving S)
      (lawfully : (source : S) (finished : List DictionaryEntry) (at_hand : Option DictionaryEntry) → gives source finished at_hand → IsLawfulFront (heading source) finished at_hand) where
    -- before the first turn
    pub behind_first : (begun now : List S) (last : List ℕ) (next : ℕ) → HaveStarted heading current yields gives begun now → last ≡ [] → AreBehind heading current last next now
    behind_first begun now last next started empty place source within =
        let is = started.each place source (omega (arith, started.as_many)) in
        by (get_or now place source) is.gives_none (current (get_or now place source)) refl
      where
        by : (one : S) → gives one [] (bare_entry (current one)) → (o : Option (List ℕ)) → current one ≡ o → IsBehind heading current last next one
        by one has None is = rw is tt
        by one has (Some term) is =
            let front = lawfully one [] (Some (entry_with term [])) (subst (λ (o : Option DictionaryEntry). gives one [] o) (ap bare_entry is) has) in
            let below : Below last term = subst (λ (t : List ℕ). Below t term) (sym empty) (above_none term front.begun.term.some_byte) in
            rw is (inl below)
