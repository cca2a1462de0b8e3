-- What is so of an index file that was checked as a whole is so of one that is trusted, since an index text has one collection.
use Rattle.std.proofs.Common.{◌≡◌, ◌≢◌, ℕ, ◌⊎◌, inl, sym, subst, refl, ⊎_elim, true≢false, Option, Some, Result, Ok, Err, IfOk, IfErr, IfSome, Bool, true, false}
use Rattle.std.specs.Io.KnownBytes.{Keeps}
use Rattle.clap.specs.Walk.{Text}
use Rattle.ix_text.specs.Collections.{Collection, IsLawful}
use Rattle.ix_index_text.specs.IndexText.{IsIndexText}
use Rattle.ix_index_text.specs.Sections.{Version}
use Rattle.ix_index_text.proofs.IndexTold.{index_told}
use Rattle.ix_extract.specs.Projections.{HasIndexText}
use Rattle.ix_file.specs.declared.open_error.OpenError.{OpenError}
use Rattle.ix_files.specs.Reading.{AreKnownOf, Holding}
use Rattle.ix_ask.specs.Listing.{IsPrinted, LeavesListing}
use Rattle.ix_ask.specs.Searching.{IsSearched, LeavesSearch}
use Rattle.ix_ask.specs.Trusting.{LeavesTrusting, LeavesTrustingListing}
use Rattle.ix_ask.specs.declared.ask_error.AskError.{AskError}
use Rattle.ix_ask.specs.declared.ask_error.AskError.TheVariants as asking
use Rattle.ix_ask.specs.declared.refusal.EngineRefusal.TheVariants as engine
use Rattle.ix_ask.specs.declared.trust_error.TrustError.{TrustError}
use Rattle.ix_ask.specs.declared.trust_error.TrustError.TheVariants as trusting
use Rattle.ix_command.specs.IndexFiles.{IsIndexHeld, IsListingRefused, IsPrintedFromFile, IsSearchRefused, IsSearchedFromFile, RefusesIndexText, no_index, no_lines, no_listed_index, no_names}
use Rattle.ix_command.specs.Refusals.{IsUnread, Tells, TellsTrusting}
use Rattle.ix_command.specs.TrustedFiles.{IsListingDone, IsListingUndone, IsSearchDone, IsSearchUndone, IsTrustedAnswer, IsTrustedListingRefused, IsTrustedRefused, IsTrustedSearchRefused, IsTrustedTold, LeavesTrusted, no_answer, unread}
use Rattle.ix_command.specs.declared.refusal.Refusal.{Refusal}
use Rattle.ix_command.specs.declared.refusal.Refusal.TheVariants as refusal

-- the collection of an index text is the one that the file holds
same_collection : (text : Text) (version another : Version) (one other : Collection) → IsIndexText version one text → HasIndexText (Some text) another other → one ≡ other
same_collection text version another one other is has =
    let same : has.bytes ≡ text = cc (has.known) in
    (index_told version another one other text is (subst (λ (bytes : Text). IsIndexText another other bytes) same has.text)).1

-- what is so of the collection of an index text is so of each collection that it may be of
of_each : (Holds : Collection → Type 0) (text : Text) (version : Version) (one : Collection) → IsIndexText version one text → Holds one
    → (another : Version) (other : Collection) → HasIndexText (Some text) another other → Holds other
of_each Holds text version one is holds another other has = subst Holds (same_collection text version another one other is has) holds

-- an answer of the file's collection
pub trusted_whole : (holds : Holding) (path : Text) (Answers : Collection → Type 0) (version : Version) (collection : Collection) → IsIndexHeld holds path version collection → Answers collection
    → IsTrustedAnswer (holds path) Answers
trusted_whole holds path Answers version collection held answered = record {
  contents = Some held.text;
  known = held.held;
  exact = of_each Answers held.text version collection held.spelled answered;
  some = (collection, held.spelled.lawful, answered);
}

-- what leaves nothing behind but after a write that failed, and of no index that was not opened
pub record IsOrderly (Leaves : Collection → AskError → Type 0) (old new : Option Text) : Type 0 where
  pub opens : (collection : Collection) (error : OpenError) → ¬ (Leaves collection (asking.Open error))
  pub keeps : (collection : Collection) (error : AskError) → error ≢ asking.Write → Leaves collection error → Keeps old new

module _ (holds : Holding) (path : Text) (Leaves : Collection → AskError → Type 0) (old new : Option Text) where
  leaves_trusted : (collection : Collection) (error : AskError) → IsOrderly Leaves old new → Leaves collection error → LeavesTrusted (Leaves collection) old new error
  leaves_trusted collection (asking.Open error) orderly leaves = absurd (orderly.opens collection error leaves)
  leaves_trusted collection (asking.Collection error) orderly leaves = leaves
  leaves_trusted collection (asking.Query error) orderly leaves = leaves
  leaves_trusted collection (asking.Pattern error) orderly leaves = leaves
  leaves_trusted collection (asking.Build error) orderly leaves = leaves
  leaves_trusted collection asking.Write orderly leaves = leaves
  leaves_trusted collection asking.Memory orderly leaves = leaves

  -- a question to the file's collection that was refused
  pub told_whole : (version : Version) (collection : Collection) (error : AskError) (told : Refusal) → IsOrderly Leaves old new → IsIndexHeld holds path version collection → Tells error told
      → Leaves collection error → IsTrustedTold (holds path) Leaves old new told
  told_whole version collection error told orderly held tells leaves = record {
    error = error;
    tells = tells;
    contents = Some held.text;
    known = held.held;
    exact = of_each (λ other. LeavesTrusted (Leaves other) old new error) held.text version collection held.spelled (leaves_trusted collection error orderly leaves);
    kept = λ other. orderly.keeps collection error other leaves;
  }

  -- a text that was not opened
  unopened : (text : Text) (told : Refusal) → holds path text → RefusesIndexText text told → Keeps old new → IsTrustedTold (holds path) Leaves old new told
  unopened text (refusal.Engine (engine.Index error)) held refuses keeps = record {
    error = asking.Open error;
    tells = refl;
    contents = Some text;
    known = held;
    exact = λ version collection has.
        let same : has.bytes ≡ text = cc (has.known) in
        (refuses version collection (subst (λ (bytes : Text). IsIndexText version collection bytes) same has.text), keeps);
    kept = λ _. keeps;
  }
  unopened text (refusal.Engine (engine.Collection error)) held refuses keeps = absurd refuses
  unopened text (refusal.Engine (engine.Stop error)) held refuses keeps = absurd refuses
  unopened text (refusal.Engine (engine.Query error)) held refuses keeps = absurd refuses
  unopened text (refusal.Engine (engine.Pattern error)) held refuses keeps = absurd refuses
  unopened text (refusal.Engine (engine.Run error)) held refuses keeps = absurd refuses
  unopened text (refusal.Engine (engine.Merge error)) held refuses keeps = absurd refuses
  unopened text (refusal.Engine (engine.Build error)) held refuses keeps = absurd refuses
  unopened text (refusal.Engine engine.Memory) held refuses keeps = absurd refuses
  unopened text refusal.Arguments held refuses keeps = absurd refuses
  unopened text (refusal.Read named) held refuses keeps = absurd refuses
  unopened text (refusal.ReadAdded named) held refuses keeps = absurd refuses
  unopened text (refusal.Write named) held refuses keeps = absurd refuses
  unopened text (refusal.NotUtf8 named) held refuses keeps = absurd refuses
  unopened text (refusal.Same named) held refuses keeps = absurd refuses
  unopened text (refusal.Locked named) held refuses keeps = absurd refuses
  unopened text (refusal.Script error) held refuses keeps = absurd refuses
  unopened text (refusal.Live error) held refuses keeps = absurd refuses
  unopened text (refusal.Archive error) held refuses keeps = absurd refuses

  -- a file that gives no index
  pub unindexed : (told : Refusal) → (IsUnread path told ⊎ ((text : Text) × holds path text × RefusesIndexText text told)) → Keeps old new → IsTrustedRefused holds path Leaves old new told
  unindexed told refuses keeps = ⊎_elim (λ why. unread why keeps) (λ (text, held, why). no_answer (unopened text told held why keeps)) refuses

  -- a question to a file that is read by ranges
  pub told_ranges : (LeavesAny : Collection → TrustError → Type 0) (contents : Option Text) (error : TrustError) (told : Refusal) → AreKnownOf (holds path) contents → TellsTrusting path error told
      → ((version : Version) (collection : Collection) → HasIndexText contents version collection → LeavesAny collection error)
      → ((collection : Collection) (wrapped : AskError) → LeavesAny collection (trusting.Ask wrapped) → LeavesTrusted (Leaves collection) old new wrapped)
      → (error ≢ trusting.Ask asking.Write → Keeps old new) → IsTrustedRefused holds path Leaves old new told
  told_ranges LeavesAny contents trusting.Read (refusal.Read named) known tells leaves wraps kept = unread tells (kept (λ e. cc))
  told_ranges LeavesAny contents trusting.Read (refusal.Engine error) known tells leaves wraps kept = absurd tells
  told_ranges LeavesAny contents trusting.Read refusal.Arguments known tells leaves wraps kept = absurd tells
  told_ranges LeavesAny contents trusting.Read (refusal.ReadAdded named) known tells leaves wraps kept = absurd tells
  told_ranges LeavesAny contents trusting.Read (refusal.Write named) known tells leaves wraps kept = absurd tells
  told_ranges LeavesAny contents trusting.Read (refusal.NotUtf8 named) known tells leaves wraps kept = absurd tells
  told_ranges LeavesAny contents trusting.Read (refusal.Same named) known tells leaves wraps kept = absurd tells
  told_ranges LeavesAny contents trusting.Read (refusal.Locked named) known tells leaves wraps kept = absurd tells
  told_ranges LeavesAny contents trusting.Read (refusal.Script error) known tells leaves wraps kept = absurd tells
  told_ranges LeavesAny contents trusting.Read (refusal.Live error) known tells leaves wraps kept = absurd tells
  told_ranges LeavesAny contents trusting.Read (refusal.Archive error) known tells leaves wraps kept = absurd tells
  told_ranges LeavesAny contents (trusting.Ask error) told known tells leaves wraps kept = no_answer (record {
    error = error;
    tells = tells;
    contents = contents;
    known = known;
    exact = λ version collection has. wraps collection error (leaves version collection has);
    kept = λ other. kept (λ e. other (cc));
  })

-- ---- search

pub search_orderly : (query : Text) (old new : Option Text) → IsOrderly (λ collection error. LeavesSearch collection query old new error) old new
search_orderly query old new = record { opens = λ collection error leaves. leaves; keeps = go }
  where
    go : (collection : Collection) (error : AskError) → error ≢ asking.Write → LeavesSearch collection query old new error → Keeps old new
    go collection (asking.Collection error) other leaves = absurd leaves
    go collection (asking.Query error) other leaves = leaves.1
    go collection (asking.Pattern error) other leaves = absurd leaves
    go collection (asking.Build error) other leaves = absurd leaves
    go collection (asking.Open error) other leaves = absurd leaves
    go collection asking.Write other leaves = absurd (other refl)
    go collection asking.Memory other leaves = leaves

pub search_wraps : (query : Text) (old new : Option Text) (collection : Collection) (error : AskError) → LeavesTrusting collection query old new (trusting.Ask error)
    → LeavesTrusted (LeavesSearch collection query old new) old new error
search_wraps query old new collection (asking.Collection error) leaves = leaves
search_wraps query old new collection (asking.Query error) leaves = leaves
search_wraps query old new collection (asking.Pattern error) leaves = leaves
search_wraps query old new collection (asking.Build error) leaves = leaves
search_wraps query old new collection (asking.Open error) leaves = leaves
search_wraps query old new collection asking.Write leaves = leaves
search_wraps query old new collection asking.Memory leaves = leaves

-- a file that was read as a whole, with or without trust
pub search_done : (trust : Bool) (holds : Holding) (path query : Text) (old new : Option Text) (result : Result ℕ Refusal) → IfOk result (IsSearchedFromFile holds path query old new)
    → IfOk result (IsSearchDone trust holds path query old new)
search_done false holds path query old new result done = done
search_done true holds path query old new (Err told) done = tt
search_done true holds path query old new (Ok count) done =
    trusted_whole holds path (λ collection. IsSearched collection query old new count) done.version done.collection done.held done.searched

search_refused_whole : (holds : Holding) (path query : Text) (old new : Option Text) (told : Refusal) → IsSearchRefused holds path query old new told → IsTrustedSearchRefused holds path query old new told
search_refused_whole holds path query old new told (no_index refuses keeps) = unindexed holds path _ old new told refuses keeps
search_refused_whole holds path query old new told (no_names version collection held question) =
    no_answer (told_whole holds path _ old new version collection question.error told (search_orderly query old new) held question.tells question.leaves)

pub search_undone : (trust : Bool) (holds : Holding) (path query : Text) (old new : Option Text) (result : Result ℕ Refusal) → IfErr result (IsSearchRefused holds path query old new)
    → IfErr result (IsSearchUndone trust holds path query old new)
search_undone false holds path query old new result refused = refused
search_undone true holds path query old new (Ok count) refused = tt
search_undone true holds path query old new (Err told) refused = search_refused_whole holds path query old new told refused

-- a file that is read by ranges
pub search_unread : (trust : Bool) (holds : Holding) (path query : Text) (old new : Option Text) (told : Refusal) → trust ≡ true → IsUnread path told → Keeps old new
    → IsSearchUndone trust holds path query old new told
search_unread false holds path query old new told with_trust why keeps = absurd (true≢false (sym with_trust))
search_unread true holds path query old new told with_trust why keeps = unread why keeps

-- a path that cannot be looked at
pub unread_at_all : (trust : Bool) (holds : Holding) (path query : Text) (old new : Option Text) (told : Refusal) → IsUnread path told → Keeps old new → IsSearchUndone trust holds path query old new told
unread_at_all false holds path query old new told why keeps = no_index (inl why) keeps
unread_at_all true holds path query old new told why keeps = unread why keeps

pub search_ranged : (trust : Bool) (holds : Holding) (path query : Text) (old new : Option Text) (count : ℕ) (contents : Option Text) → trust ≡ true → AreKnownOf (holds path) contents
    → ((version : Version) (collection : Collection) → HasIndexText contents version collection → IsSearched collection query old new count)
    → ((collection : Collection) × IsLawful collection × IsSearched collection query old new count) → IsSearchDone trust holds path query old new count
search_ranged false holds path query old new count contents with_trust known exact some = absurd (true≢false (sym with_trust))
search_ranged true holds path query old new count contents with_trust known exact some = record { contents = contents; known = known; exact = exact; some = some }

pub search_unranged : (trust : Bool) (holds : Holding) (path query : Text) (old new : Option Text) (contents : Option Text) (error : TrustError) (told : Refusal) → trust ≡ true
    → AreKnownOf (holds path) contents → TellsTrusting path error told
    → ((version : Version) (collection : Collection) → HasIndexText contents version collection → LeavesTrusting collection query old new error)
    → (error ≢ trusting.Ask asking.Write → Keeps old new) → IsSearchUndone trust holds path query old new told
search_unranged false holds path query old new contents error told with_trust known tells leaves kept = absurd (true≢false (sym with_trust))
search_unranged true holds path query old new contents error told with_trust known tells leaves kept =
    told_ranges holds path _ old new (λ collection error. LeavesTrusting collection query old new error) contents error told known tells leaves (search_wraps query old new) kept

-- ---- terms

pub listing_orderly : (pattern : Text) (old new : Option Text) → IsOrderly (λ collection error. LeavesListing collection pattern old new error) old new
listing_orderly pattern old new = record { opens = λ collection error leaves. leaves.0; keeps = go }
  where
    go : (collection : Collection) (error : AskError) → error ≢ asking.Write → LeavesListing collection pattern old new error → Keeps old new
    go collection (asking.Collection error) other leaves = leaves.1
    go collection (asking.Query error) other leaves = leaves.1
    go collection (asking.Pattern error) other leaves = leaves.1
    go collection (asking.Build error) other leaves = leaves.1
    go collection (asking.Open error) other leaves = leaves.1
    go collection asking.Write other leaves = absurd (other refl)
    go collection asking.Memory other leaves = leaves.1

pub listing_wraps : (pattern : Text) (old new : Option Text) (collection : Collection) (error : AskError) → LeavesTrustingListing collection pattern old new (trusting.Ask error)
    → LeavesTrusted (LeavesListing collection pattern old new) old new error
listing_wraps pattern old new collection (asking.Collection error) leaves = leaves
listing_wraps pattern old new collection (asking.Query error) leaves = leaves
listing_wraps pattern old new collection (asking.Pattern error) leaves = leaves
listing_wraps pattern old new collection (asking.Build error) leaves = leaves
listing_wraps pattern old new collection (asking.Open error) leaves = leaves
listing_wraps pattern old new collection asking.Write leaves = leaves
listing_wraps pattern old new collection asking.Memory leaves = leaves

-- a file that was read as a whole, with or without trust
pub listing_done : (trust : Bool) (holds : Holding) (path pattern : Text) (old new : Option Text) (result : Result ℕ Refusal) → IfOk result (IsPrintedFromFile holds path pattern old new)
    → IfOk result (IsListingDone trust holds path pattern old new)
listing_done false holds path pattern old new result done = done
listing_done true holds path pattern old new (Err told) done = tt
listing_done true holds path pattern old new (Ok count) done =
    trusted_whole holds path (λ collection. IsPrinted collection pattern old new count) done.version done.collection done.held done.printed

listing_refused_whole : (holds : Holding) (path pattern : Text) (old new : Option Text) (told : Refusal) → IsListingRefused holds path pattern old new told → IsTrustedListingRefused holds path pattern old new told
listing_refused_whole holds path pattern old new told (no_listed_index refuses keeps) = unindexed holds path _ old new told refuses keeps
listing_refused_whole holds path pattern old new told (no_lines version collection held question) =
    no_answer (told_whole holds path _ old new version collection question.error told (listing_orderly pattern old new) held question.tells question.leaves)

pub listing_undone : (trust : Bool) (holds : Holding) (path pattern : Text) (old new : Option Text) (result : Result ℕ Refusal) → IfErr result (IsListingRefused holds path pattern old new)
    → IfErr result (IsListingUndone trust holds path pattern old new)
listing_undone false holds path pattern old new result refused = refused
listing_undone true holds path pattern old new (Ok count) refused = tt
listing_undone true holds path pattern old new (Err told) refused = listing_refused_whole holds path pattern old new told refused

-- a file that is read by ranges
pub listing_unread : (trust : Bool) (holds : Holding) (path pattern : Text) (old new : Option Text) (told : Refusal) → trust ≡ true → IsUnread path told → Keeps old new
    → IsListingUndone trust holds path pattern old new told
listing_unread false holds path pattern old new told with_trust why keeps = absurd (true≢false (sym with_trust))
listing_unread true holds path pattern old new told with_trust why keeps = unread why keeps

pub listing_ranged : (trust : Bool) (holds : Holding) (path pattern : Text) (old new : Option Text) (count : ℕ) (contents : Option Text) → trust ≡ true → AreKnownOf (holds path) contents
    → ((version : Version) (collection : Collection) → HasIndexText contents version collection → IsPrinted collection pattern old new count)
    → ((collection : Collection) × IsLawful collection × IsPrinted collection pattern old new count) → IsListingDone trust holds path pattern old new count
listing_ranged false holds path pattern old new count contents with_trust known exact some = absurd (true≢false (sym with_trust))
listing_ranged true holds path pattern old new count contents with_trust known exact some = record { contents = contents; known = known; exact = exact; some = some }

pub listing_unranged : (trust : Bool) (holds : Holding) (path pattern : Text) (old new : Option Text) (contents : Option Text) (error : TrustError) (told : Refusal) → trust ≡ true
    → AreKnownOf (holds path) contents → TellsTrusting path error told
    → ((version : Version) (collection : Collection) → HasIndexText contents version collection → LeavesTrustingListing collection pattern old new error)
    → (error ≢ trusting.Ask asking.Write → Keeps old new) → IsListingUndone trust holds path pattern old new told
listing_unranged false holds path pattern old new contents error told with_trust known tells leaves kept = absurd (true≢false (sym with_trust))
listing_unranged true holds path pattern old new contents error told with_trust known tells leaves kept =
    told_ranges holds path _ old new (λ collection error. LeavesTrustingListing collection pattern old new error) contents error told known tells leaves (listing_wraps pattern old new) kept

-- what is in an option
pub from_some : {X : Type 0} (P : X → Type 0) (o : Option X) (x : X) → o ≡ Some x → IfSome o P → P x
from_some {X} P o x is holds = subst (λ (p : Option X). IfSome p P) is holds

-- what came of a question, by what it was
pub ok_at : (P : ℕ → Type 0) (result : Result ℕ Refusal) (count : ℕ) → result ≡ Ok count → P count → IfOk result P
ok_at P result count is holds = subst (λ (r : Result ℕ Refusal). IfOk r P) (sym is) holds

pub ok_not : (P : ℕ → Type 0) (result : Result ℕ Refusal) (told : Refusal) → result ≡ Err told → IfOk result P
ok_not P result told is = subst (λ (r : Result ℕ Refusal). IfOk r P) (sym is) tt

pub err_at : (P : Refusal → Type 0) (result : Result ℕ Refusal) (told : Refusal) → result ≡ Err told → P told → IfErr result P
err_at P result told is holds = subst (λ (r : Result ℕ Refusal). IfErr r P) (sym is) holds

pub err_not : (P : Refusal → Type 0) (result : Result ℕ Refusal) (count : ℕ) → result ≡ Ok count → IfErr result P
err_not P result count is = subst (λ (r : Result ℕ Refusal). IfErr r P) (sym is) tt
