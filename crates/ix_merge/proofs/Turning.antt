-- A source's turn, step by step.
use Rattle.std.proofs.Common.{Result, Ok, Err, OnOk, OnErr, MatchResult, IsErrAnd, ◌≡◌, ◌≢◌, ℕ, ◌+◌, ◌-◌, ◌^◌, ◌<◌, ◌≤◌, List, [], ◌∷◌, ◌++◌, length, Option, Some, None, MatchOption, refl, sym, ap, subst, ◌∙◌, ⊎_elim, arith}
use Rattle.std.proofs.lemmas.List.Elements.{Contains-push}
use Rattle.ix_file.specs.Gaps.{next_after}
use Rattle.ix_file.specs.Postings.{ArePostings, documents_of, list_bytes_from}
use Rattle.ix_text.specs.Parts.{DictionaryEntry, Posting}
use Rattle.ix_text.specs.Terms.{IsTerm}
use Rattle.ix_file.specs.Telling.{MayList}
use Rattle.ix_file.specs.Told.{Told, entries_of, position_total, with_term}
use Rattle.ix_file.proofs.TellingLemmas.{position_total-term}
use Rattle.ix_file.specs.WriterSections.{WriterSections}
use Rattle.ix_file.specs.IndexWriter.{IndexWriter}
use Rattle.ix_run.specs.Heads.{Heading}
use Rattle.ix_run.specs.Sources.{AreWhole, BeginsTerm, EndsTerms, Giving, Yielding, IsLawfulFront, YieldsMore, closed, entry_with}
use Rattle.ix_run.proofs.ReadFronts.{closed-none}
use Rattle.ix_run.specs.Sources.{GivesList}
use Rattle.ix_file.specs.Postings.{shifted}
use Rattle.ix_merge.specs.Gathered.{HasGathered}
use Rattle.ix_merge.specs.Turns.{Begins, BeginsEntry, GivesEntry, GoesOn, IsAtHand, MayTurn, bare_entry, told_then}
use Rattle.ix_merge.specs.Unfinished.{YieldsBehind}
use Rattle.ix_merge.specs.declared.pending_entry.PendingEntry.{PendingEntry}
use Rattle.ix_merge.proofs.GatheredLists.{documents_fit, gathered_more}
use Rattle.ix_merge.proofs.ShiftedLists.{IsListUnder, length-shifted, list_under, position_count-shifted, raised_list}

-- the pending entry, once a term was begun
pub record HasHand (begun : Told) (term : List ℕ) (from total : ℕ) : Type 0 where
  pub entry : DictionaryEntry
  pub at_hand : begun.at_hand ≡ Some entry
  pub of_term : entry.term ≡ term
  pub from_there : from ≡ next_after 0 (documents_of entry.postings)
  pub total_kept : position_total (entries_of begun) ≡ total

pub has_hand : (told : Told) (last : List ℕ) (next : ℕ) (term : List ℕ) (begun : Told) (from : ℕ) → 0 < length term → IsAtHand told last next → Begins told last next term begun from → HasHand begun term from (position_total (entries_of told))
has_hand told last next term begun from some at begins = ⊎_elim same new begins.is
  where
    same : (last ≡ term) × (begun ≡ told) × (from ≡ next) → HasHand begun term from (position_total (entries_of told))
    same is = by told.at_hand refl
      where
        by : (o : Option DictionaryEntry) → told.at_hand ≡ o → HasHand begun term from (position_total (entries_of told))
        by None none =
            let empty : last ≡ [] = rw none at at in
            let e : length term ≡ 0 = ap (λ (t : List ℕ). length t) (sym is.0 ∙ empty) in
            absurd (omega arith)
        by (Some entry) some =
            let there : (last ≡ entry.term) × (next ≡ next_after 0 (documents_of entry.postings)) = rw some at at in
            record {
              entry = entry;
              at_hand = ap (λ (t : Told). t.at_hand) is.1 ∙ some;
              of_term = sym there.0 ∙ is.0;
              from_there = is.2 ∙ there.1;
              total_kept = ap (λ (t : Told). position_total (entries_of t)) is.1;
            }

    new : (last ≢ term) × (begun ≡ with_term told term) × (from ≡ 0) → HasHand begun term from (position_total (entries_of told))
    new is = record {
      entry = entry_with term [];
      at_hand = ap (λ (t : Told). t.at_hand) is.1;
      of_term = refl;
      from_there = is.2;
      total_kept = ap (λ (t : Told). position_total (entries_of t)) is.1 ∙ position_total-term (entries_of told) term;
    }

module _ {S : Type 0} (heading : S → Heading) (current : S → Option (List ℕ)) (yields : Yielding S) (gives : Giving S) (is_drained : S → Type 0)
    (lawfully : (source : S) (finished : List DictionaryEntry) (at_hand : Option DictionaryEntry) → gives source finished at_hand → IsLawfulFront (heading source) finished at_hand)
    (old : S) (given : List DictionaryEntry) (told : Told) (last : List ℕ) (next : ℕ) (may : MayTurn heading current gives old given told last next) (term : List ℕ) (at : current old ≡ Some term) where
  -- nothing was given yet of the current term
  pub gives_bare : gives old given (Some (entry_with term []))
  gives_bare = subst (λ (o : Option DictionaryEntry). gives old given o) (ap bare_entry at) may.gives_these

  pub is_term : IsTerm term
  is_term = (lawfully old given (Some (entry_with term [])) gives_bare).begun.term

  module _ (begun : Told) (from : ℕ) (begins : Begins told last next term begun from) where
    pub hand : HasHand begun term from (position_total (entries_of told))
    hand = has_hand told last next term begun from is_term.some_byte may.at_hand begins

    -- what was told of the term lies before the source's documents
    pub from_low : from ≤ (heading old).first
    from_low = ⊎_elim (λ is. let f = may.follows term at is.0 in let e = is.2 in omega arith) (λ is. let e = is.2 in omega arith) begins.is

    module _ (mid : S) (headed : heading mid ≡ heading old) (documents to : ℕ) (bytes : List ℕ) (list : GivesList yields gives old mid (heading old).first from documents to [] bytes) where
      abbrev entry : DictionaryEntry
      entry = entry_with term list.postings

      gives_list : gives mid given (Some entry) × (0 < length list.postings)
      gives_list = list.given given (entry_with term []) gives_bare

      pub whole : AreWhole (heading old) (given ++ entry ∷ [])
      whole = subst (λ (h : Heading). AreWhole h (given ++ entry ∷ [])) headed ((lawfully mid given (Some entry) gives_list.0).begun.posted gives_list.1)

      pub under : IsListUnder (heading old) list.postings
      under = list_under (heading old) (given ++ entry ∷ []) entry whole (Contains-push given entry)

      pub raised : ArePostings (next_after 0 (documents_of hand.entry.postings)) (2 ^ 32 - 1) (shifted (heading old).first list.postings)
      raised = subst (λ n. ArePostings n (2 ^ 32 - 1) (shifted (heading old).first list.postings)) hand.from_there (raised_list (heading old) list.postings from under from_low)

      may_list : MayList begun (shifted (heading old).first list.postings) documents to bytes
      may_list = record {
        entry = hand.entry;
        at_hand = hand.at_hand;
        follow = raised;
        few = let a = may.few entry whole in let b = hand.total_kept in let c = position_count-shifted (heading old).first list.postings in omega arith;
        count = list.count ∙ sym (length-shifted (heading old).first list.postings);
        last = list.last ∙ ap (λ n. next_after n (documents_of (shifted (heading old).first list.postings))) hand.from_there;
        coded = list.coded ∙ ap (λ n. list_bytes_from n (shifted (heading old).first list.postings)) hand.from_there;
      }

      module _ (new : S) (drained : is_drained mid) where
        pub goes_on : (term' : List ℕ) → current new ≡ Some term' → BeginsTerm yields gives is_drained mid new term' → GoesOn current yields gives old new given entry
        goes_on term' is begins =
            let none : begins.skipped ≡ [] = begins.none drained in
            let behind : closed given (Some entry) begins.skipped ≡ given ++ entry ∷ [] = ap (closed given (Some entry)) none ∙ closed-none given entry in
            record {
              gives_more =
                  subst (λ (o : Option DictionaryEntry). gives new (given ++ entry ∷ []) o) (sym (ap bare_entry is))
                  (subst (λ (es : List DictionaryEntry). gives new es (Some (entry_with term' []))) behind (begins.given given (Some entry) gives_list.0));
              yielded =
                  let P : Option (List ℕ) → Type 0 = λ o. MatchOption o (yields old list.postings [])
                  (λ t. (postings : List Posting) (entries : List DictionaryEntry) → yields new postings entries → yields old list.postings (entry_with t postings ∷ entries)) in
                  subst P (sym is)
                  (λ postings entries has.
                  (list.yielded [] (entry_with term' postings ∷ entries)
                  (subst (λ (ps : List Posting). yields mid ps (entry_with term' postings ∷ entries)) none (begins.yielded postings entries has))).1);
            }

        pub goes_to_end : current new ≡ None → EndsTerms yields gives is_drained mid new → GoesOn current yields gives old new given entry
        goes_to_end is ends =
            let none : ends.skipped ≡ [] = ends.none drained in
            let behind : closed given (Some entry) ends.skipped ≡ given ++ entry ∷ [] = ap (closed given (Some entry)) none ∙ closed-none given entry in
            record {
              gives_more =
                  subst (λ (o : Option DictionaryEntry). gives new (given ++ entry ∷ []) o) (sym (ap bare_entry is))
                  (subst (λ (es : List DictionaryEntry). gives new es None) behind (ends.given given (Some entry) gives_list.0));
              yielded =
                  let P : Option (List ℕ) → Type 0 = λ o. MatchOption o (yields old list.postings [])
                  (λ t. (postings : List Posting) (entries : List DictionaryEntry) → yields new postings entries → yields old list.postings (entry_with t postings ∷ entries)) in
                  subst P (sym is) ((list.yielded [] [] (subst (λ (ps : List Posting). yields mid ps []) none ends.yielded)).1);
            }

  -- The list of a source was taken, behind what was told and gathered of its term, and is gathered now.
  pub record HasTaken {W : Type 0} (contents : W → Option (List ℕ)) (before : Option (List ℕ)) (writer : IndexWriter W WriterSections) (mid : S) (then : PendingEntry) : Type 0 where
    pub gave : GivesEntry heading current old given told last next
    pub of_term : gave.term ≡ term
    pub was : HasGathered contents before writer then (told_then gave.begun (heading old).first gave.postings)
    pub told_to : then.end ≡ next_after gave.from (documents_of (shifted (heading old).first gave.postings))
    pub on_more : (new : S) (next_term : List ℕ) → is_drained mid → current new ≡ Some next_term → BeginsTerm yields gives is_drained mid new next_term
        → GoesOn current yields gives old new given (entry_with gave.term gave.postings)
    pub goes : (gives mid given (Some (entry_with gave.term gave.postings)) → YieldsMore yields mid) → YieldsBehind yields old gave.postings
    pub on_end : (new : S) → is_drained mid → current new ≡ None → EndsTerms yields gives is_drained mid new → GoesOn current yields gives old new given (entry_with gave.term gave.postings)

  module _ {W : Type 0} (contents : W → Option (List ℕ)) (before : Option (List ℕ)) (writer : IndexWriter W WriterSections) (hand : PendingEntry) (begins : BeginsEntry contents before writer told last next term hand)
      (mid : S) (headed : heading mid ≡ heading old) (documents to : ℕ) (taken : List ℕ) (list : GivesList yields gives old mid (heading old).first hand.end documents to hand.list.items taken) where
    abbrev raised_postings : List Posting
    raised_postings = shifted (heading old).first list.postings

    -- the list by itself
    abbrev list_alone : GivesList yields gives old mid (heading old).first hand.end documents to [] (list_bytes_from hand.end raised_postings)
    list_alone = record { postings = list.postings; yielded = list.yielded; given = list.given; count = list.count; last = list.last; coded = refl }

    may_be_told : MayList begins.begun raised_postings documents to (list_bytes_from hand.end raised_postings)
    may_be_told = may_list begins.begun hand.end begins.begins mid headed documents to (list_bytes_from hand.end raised_postings) list_alone

    -- its documents can be counted with those before
    pub taken_fits : hand.documents + documents < 2 ^ 32
    taken_fits = documents_fit contents before writer hand begins.begun begins.was raised_postings documents to (list_bytes_from hand.end raised_postings) may_be_told

    pub has_taken : (then : PendingEntry) → then.documents ≡ hand.documents + documents → then.end ≡ to → then.list.items ≡ taken → HasTaken contents before writer mid then
    has_taken then count last coded =
        let bytes : List ℕ = list_bytes_from hand.end raised_postings in
        let is = under begins.begun hand.end begins.begins mid headed documents to bytes list_alone in
        let some : 0 < documents = omega (arith, is.some, list.count) in
        record {
          gave = record { term = term; is = at; postings = list.postings; whole = whole begins.begun hand.end begins.begins mid headed documents to bytes list_alone; begun = begins.begun; from = hand.end; begins = begins.begins };
          of_term = refl;
          was =
              gathered_more contents before writer hand begins.begun begins.was raised_postings documents to bytes may_be_told then some count last (coded ∙ list.coded);
          told_to = last ∙ list.last;
          on_more = λ new next_term drained. goes_on begins.begun hand.end begins.begins mid headed documents to bytes list_alone new drained next_term;
          goes = λ yields_more.
              let more = yields_more (list.given given (entry_with term []) gives_bare).0 in
              record { entries = more.entries; yielded = (list.yielded more.postings more.entries more.yielded).1 };
          on_end = λ new drained. goes_to_end begins.begun hand.end begins.begins mid headed documents to bytes list_alone new drained;
        }

-- what a call's answer, with its error turned, says where it is Ok
pub on_ok_if : {T E D : Type 0} (given : Result T E) (turned : Result T D) (Q : E → D → Type 0) (P : Type 0) → MatchResult given (λ x. turned ≡ Ok x) (λ e. IsErrAnd turned (Q e))
    → ((x : T) → given ≡ Ok x → P) → OnOk turned P
on_ok_if (Ok x) turned Q P is holds = subst (λ r. OnOk r P) (sym is) (holds x refl)
on_ok_if (Err e) (Ok y) Q P is holds = absurd is
on_ok_if (Err e) (Err f) Q P is holds = tt

pub on_err_if : {T E : Type 0} (result : Result T E) (P : Type 0) → P → OnErr result P
on_err_if (Ok x) P holds = tt
on_err_if (Err e) P holds = holds
