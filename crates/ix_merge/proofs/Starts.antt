-- The first terms of sources are read, one after the other.
use Rattle.std.proofs.Common.{◌≡◌, inl, inr, ℕ, ◌+◌, ◌<◌, ◌≤◌, List, [], ◌∷◌, length, map, get_or, set, Option, Some, None, MatchOption, refl, sym, ap, subst, ◌∙◌, option_map, arith, length-set}
use Rattle.std.proofs.lemmas.Bool.{cases_eq}
use Rattle.std.proofs.lemmas.List.{get_or-map, get_or-set_same, get_or-set_other, get_or_default, length-map, same_lists}
use Rattle.ix_text.specs.Parts.{DictionaryEntry, Posting}
use Rattle.ix_run.specs.Heads.{Heading}
use Rattle.ix_run.specs.Sources.{BeginsTerm, EndsTerms, Giving, Yielding, IsUnread, entry_with}
use Rattle.ix_merge.specs.Starting.{HasStarted, HaveStarted}
use Rattle.ix_merge.specs.Turns.{bare_entry}

module _ {S : Type 0} (heading : S → Heading) (current : S → Option (List ℕ)) (yields : Yielding S) (gives : Giving S) where
  module _ (is_drained : S → Type 0)
      (drained_without_term : (source : S) → current source ≡ None → is_drained source)
      (of_term : (source : S) (finished : List DictionaryEntry) (at_hand : Option DictionaryEntry) → gives source finished at_hand → option_map (λ entry. entry.term) at_hand ≡ current source)
      (old new : S) (unread : IsUnread gives old) (same : heading new ≡ heading old) where
    drained : is_drained old
    drained = drained_without_term old (sym (of_term old [] None unread))

    -- of which nothing was asked, and which came to its first term
    pub starts : (term : List ℕ) → current new ≡ Some term → BeginsTerm yields gives is_drained old new term → HasStarted heading current yields gives old new
    starts term is begins = record {
      same = same;
      gives_none = subst (λ (o : Option DictionaryEntry). gives new [] o) (sym (ap bare_entry is)) (begins.given [] None unread);
      yielded =
          let P : Option (List ℕ) → Type 0 = λ o. MatchOption o (yields old [] [])
          (λ t. (postings : List Posting) (entries : List DictionaryEntry) → yields new postings entries → yields old [] (entry_with t postings ∷ entries)) in
          subst P (sym is) (λ postings entries has. subst (λ (ps : List Posting). yields old ps (entry_with term postings ∷ entries)) (begins.none drained) (begins.yielded postings entries has));
    }

    -- or has none
    pub starts_at_end : current new ≡ None → EndsTerms yields gives is_drained old new → HasStarted heading current yields gives old new
    starts_at_end is ends = record {
      same = same;
      gives_none = subst (λ (o : Option DictionaryEntry). gives new [] o) (sym (ap bare_entry is)) (ends.given [] None unread);
      yielded =
          let P : Option (List ℕ) → Type 0 = λ o. MatchOption o (yields old [] [])
          (λ t. (postings : List Posting) (entries : List DictionaryEntry) → yields new postings entries → yields old [] (entry_with t postings ∷ entries)) in
          subst P (sym is) (subst (λ (ps : List Posting). yields old ps []) (ends.none drained) ends.yielded);
    }

  -- their headings stay
  pub started_headed : (old new : List S) → HaveStarted heading current yields gives old new → map heading new ≡ map heading old
  started_headed old new started = same_lists (map heading new) (map heading old) (length-map new heading ∙ started.as_many ∙ sym (length-map old heading))
      (λ k d within. at old new started k d (omega (arith, length-map new heading, started.as_many)))
    where
      source_at : (xs : List S) (k : ℕ) → k < length xs → S
      source_at [] k within = absurd (omega arith)
      source_at (x ∷ xs) k within = x

      at : (xs ys : List S) → HaveStarted heading current yields gives xs ys → (k : ℕ) (d : Heading) → k < length xs → get_or (map heading ys) k d ≡ get_or (map heading xs) k d
      at xs ys st k d within =
          let source = source_at xs k within in
          get_or-map heading ys k source d (omega (arith, st.as_many)) ∙ (st.each k source within).same ∙ sym (get_or-map heading xs k source d within)

  -- Those before a place have started; the others are as they were.
  pub record HaveBegun (old now : List S) (count : ℕ) : Type 0 where
    pub as_many : length now ≡ length old
    pub started : (place : ℕ) (source : S) → place < count → place < length old → HasStarted heading current yields gives (get_or old place source) (get_or now place source)
    pub unread : (place : ℕ) (source : S) → count ≤ place → get_or now place source ≡ get_or old place source

  pub begun_none : (old : List S) → HaveBegun old old 0
  begun_none old = record {
    as_many = refl;
    started = λ place source low within. absurd (omega arith);
    unread = λ place source low. refl;
  }

  pub begun_more : (old now : List S) (count : ℕ) (source new : S) → HaveBegun old now count → count < length old → get_or now count source ≡ source
      → HasStarted heading current yields gives source new → HaveBegun old (set now count new) (count + 1)
  begun_more old now count source new begun within here started = record {
    as_many = length-set now count new ∙ begun.as_many;
    started = λ place d low w. elim (cases_eq place count) [
      | inl same ↦
          let P : ℕ → Type 0 = λ n. HasStarted heading current yields gives (get_or old n d) (get_or (set now count new) n d) in
          let e : get_or (set now count new) count d ≡ new = get_or-set_same now count new d (omega (arith, begun.as_many)) in
          let f : get_or old count d ≡ source =
          get_or_default old count d source within ∙ sym (begun.unread count source (omega arith)) ∙ here in
          subst P (sym same) (rw (e, f) started)
      | inr other ↦
          let e : get_or (set now count new) place d ≡ get_or now place d = get_or-set_other now count place new d other in
          rw e (begun.started place d (omega arith) w)
    ];
    unread = λ place d low. get_or-set_other now count place new d (λ e. omega arith) ∙ begun.unread place d (omega arith);
  }
