-- What an opened index refuses is refused of its index text, and so is what was not opened.
use Rattle.std.proofs.Common.{◌≡◌, ℕ, List, Result, Ok, Err, IfErr, IfOk, MatchResult, subst, sym}
use Rattle.ix_text.specs.Collections.{Collection}
use Rattle.ix_file.specs.IndexText.{IsIndexText}
use Rattle.ix_file.specs.Sections.{Version}
use Rattle.ix_file.specs.declared.open_error.OpenError.{OpenError}
use Rattle.ix_file.specs.declared.open_error.OpenError.TheVariants as open_error
use Rattle.ix_ask.specs.declared.refusal.EngineRefusal.{EngineRefusal}
use Rattle.ix_ask.specs.declared.refusal.EngineRefusal.TheVariants as engine
use Rattle.ix_c.specs.Searching.{IsUnopened, RefusesFinding, RefusesListing, RefusesMatching, RefusesSearching}

-- a question to the opened index
pub refuses_searching : (index query : List ℕ) (version : Version) (collection : Collection) → IsIndexText version collection index → (reason : EngineRefusal) → RefusesFinding collection query reason → RefusesSearching index query reason
refuses_searching index query version collection spelled (engine.Query error) fails = record { version = version; collection = collection; spelled = spelled; fails = fails }
refuses_searching index query version collection spelled engine.Memory fails = tt
refuses_searching index query version collection spelled _ fails = absurd fails

-- and a pattern
pub refuses_listing : (index pattern : List ℕ) (reason : EngineRefusal) → RefusesMatching pattern reason → RefusesListing index pattern reason
refuses_listing index pattern (engine.Pattern error) no_pattern = no_pattern
refuses_listing index pattern engine.Memory no_pattern = tt
refuses_listing index pattern _ no_pattern = absurd no_pattern

-- the error of opening the bytes
pub unopened : {T : Type 0} (index : List ℕ) (Q : Version → Collection → T → Type 0) (opened : Result T OpenError)
    → ((version : Version) (collection : Collection) → IsIndexText version collection index → MatchResult opened (Q version collection) (λ error. error ≡ open_error.Memory))
    → IfErr opened (IsUnopened index)
unopened index Q (Ok value) exact = tt
unopened index Q (Err error) exact = exact

-- what was opened is given, and the error is that of the index
abbrev pub IsGiven : {T : Type 0} → Result T OpenError → Result T EngineRefusal → Type 0
IsGiven opened result = MatchResult opened (λ index. result ≡ Ok index) (λ error. result ≡ Err (engine.Index error))

pub given_ok : {T : Type 0} (P : T → Type 0) (opened : Result T OpenError) (result : Result T EngineRefusal) → IsGiven opened result → IfOk opened P → IfOk result P
given_ok P (Ok index) result given holds = subst (λ (r : Result _ EngineRefusal). IfOk r P) (sym given) holds
given_ok P (Err error) result given holds = subst (λ (r : Result _ EngineRefusal). IfOk r P) (sym given) tt

pub given_err : {T : Type 0} (P : EngineRefusal → Type 0) (opened : Result T OpenError) (result : Result T EngineRefusal) → IsGiven opened result → IfErr opened (λ error. P (engine.Index error)) → IfErr result P
given_err P (Ok index) result given holds = subst (λ (r : Result _ EngineRefusal). IfErr r P) (sym given) tt
given_err P (Err error) result given holds = subst (λ (r : Result _ EngineRefusal). IfErr r P) (sym given) holds
