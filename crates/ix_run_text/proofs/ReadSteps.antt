-- A reader of a run text with a current term.
use Rattle.std.proofs.Common.{◌≡◌, ◌≢◌, ℕ, ◌<◌, List, [], ◌∷◌, ◌++◌, Option, Some, None, IfSome, refl, sym, ap, subst, ◌∙◌, arith}
use Rattle.std.proofs.lemmas.List.{append_assoc}
use Rattle.std.specs.Io.KnownBytes.{Consumes}
use Rattle.std.specs.List.{flat_map}
use Rattle.ix_text.specs.Parts.{DictionaryEntry, Posting, terms_of}
use Rattle.ix_run_text.specs.Reading.{bytes_ahead, last_text, term_at}
use Rattle.ix_run_text.specs.RunText.{term_bytes}
use Rattle.ix_run_text.specs.Sources.{entry_with}
use Rattle.ix_run_text.specs.declared.run_reader.Place.{Place}
use Rattle.ix_run_text.specs.declared.run_reader.Place.TheVariants.{Begun, AtTerm, Ended, Failed}
use Rattle.ix_run_text.proofs.ReadFronts.{terms_push}

-- where postings are left a term is at hand
pub term_at_hand : (place : Place) (documents : ℕ) → (place ≢ AtTerm → documents ≡ 0) → 0 < documents → place ≡ AtTerm
term_at_hand Begun documents drained some = absurd (let none = drained (λ e. cc) in omega arith)
term_at_hand AtTerm documents drained some = refl
term_at_hand Ended documents drained some = absurd (let none = drained (λ e. cc) in omega arith)
term_at_hand Failed documents drained some = absurd (let none = drained (λ e. cc) in omega arith)

pub not_ended : (place : Place) → place ≡ AtTerm → place ≢ Ended
not_ended place here ended = cc

-- with an entry at hand a term is
pub no_entry : {P : Type 0} (place : Place) (last : List ℕ) → place ≡ AtTerm → None ≡ term_at place last → P
no_entry {P} place last here none =
    let Q : Place → Type 0 = λ p. None ≡ term_at p last in
    let e : None ≡ Some last = subst Q here none in absurd (cc)

-- bytes taken and then bytes that spell what follows
pub spelled_before : (left after : Option (List ℕ)) (taken list : List ℕ) (entries : List DictionaryEntry) → Consumes left after taken
    → IfSome after (λ bytes. bytes ≡ bytes_ahead list entries) → IfSome left (λ bytes. bytes ≡ bytes_ahead (taken ++ list) entries)
spelled_before None after taken list entries consumes spelled = tt
spelled_before (Some xs) None taken list entries consumes spelled = absurd consumes
spelled_before (Some xs) (Some ys) taken list entries consumes spelled =
    consumes ∙ ap (λ (bytes : List ℕ). taken ++ bytes) spelled ∙ sym (append_assoc taken list (flat_map term_bytes entries ++ 128 ∷ []))

-- the last term of a dictionary whose last entry has other postings
pub last_stays : (finished : List DictionaryEntry) (term : List ℕ) (one other : List Posting) → last_text (terms_of (finished ++ entry_with term one ∷ [])) ≡ last_text (terms_of (finished ++ entry_with term other ∷ []))
last_stays finished term one other = ap last_text (terms_push finished (entry_with term one) ∙ sym (terms_push finished (entry_with term other)))
