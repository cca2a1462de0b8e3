-- What was read of a file against all of it: a lawful text was read whole, and one that was not is too long.
use Rattle.std.proofs.Common.{◌≡◌, ℕ, ◌+◌, ◌^◌, ◌<◌, ◌≤◌, List, length, take, Option, Some, Result, Ok, Err, IfOk, IfErr, IsErrAnd, inl, inr, sym, ◌∙◌, ap, subst, arith}
use Rattle.std.specs.Prelude.{IsSomeAnd}
use Rattle.std.specs.Borrow.{Bor}
use Rattle.std.proofs.lemmas.List.{length-take, take_all}
use Rattle.ix_text.specs.Collections.{NamedText}
use Rattle.ix_text.specs.CollectionText.{IsCollectionText}
use Rattle.ix_text.specs.CollectionFaults.{IsCollectionFault}
use Rattle.ix_text.specs.StopText.{IsStopText}
use Rattle.ix_text.specs.declared.collection.CollectionError.{CollectionError}
use Rattle.ix_text.specs.declared.collection.CollectionError.TheVariants.{TooLarge, NotUtf8, NoTab, Name, NoLineEnd, Memory}
use Rattle.ix_command.specs.AskedFiles.{IsNoStopText, IsStopHeld, RefusesStop}
use Rattle.ix_ask.specs.Asking.{IsAnswered, IsCutShort, Leaves, RefusesCollection}
use Rattle.ix_files.specs.Reading.{Holding, IsFront}
use Rattle.ix_ask.specs.declared.ask_error.AskError.{AskError}
use Rattle.ix_ask.specs.declared.ask_error.AskError.TheVariants as asking
use Rattle.ix_command.specs.declared.refusal.Refusal.{Refusal}

abbrev pub room : ℕ
room = 2 ^ 28 + 1

-- fewer bytes than there was room for are all
pub read_short : (space : ℕ) (bytes whole : List ℕ) → bytes ≡ take space whole → length bytes < space → bytes ≡ whole
read_short space bytes whole cut short =
    let same : length bytes ≡ length (take space whole) = ap length cut in
    cut ∙ take_all space whole (omega (arith, length-take space whole, same))

-- and so of a text of a lawful size
pub read_whole : (bytes whole : List ℕ) → bytes ≡ take room whole → length bytes ≤ 2 ^ 28 → bytes ≡ whole
read_whole bytes whole cut short =
    let same : length bytes ≡ length (take room whole) = ap length cut in
    cut ∙ take_all room whole (omega (arith, length-take room whole, same))

pub read_all : (bytes whole : List ℕ) → bytes ≡ take room whole → (length bytes ≡ room → ⊥) → bytes ≡ whole
read_all bytes whole cut less =
    let same : length bytes ≡ length (take room whole) = ap length cut in
    read_whole bytes whole cut (omega (arith, length-take room whole, same, less))

-- no byte was made up
pub read_within : (bytes whole : List ℕ) → bytes ≡ take room whole → 2 ^ 28 < length bytes → 2 ^ 28 < length whole
read_within bytes whole cut long =
    let same : length bytes ≡ length (take room whole) = ap length cut in
    omega (arith, length-take room whole, same)

-- ---- collections

collection_fault : (bytes whole : List ℕ) (error : CollectionError) → bytes ≡ take room whole → IsCollectionFault bytes error → IsCollectionFault whole error
collection_fault bytes whole TooLarge cut fault = read_within bytes whole cut fault
collection_fault bytes whole (NotUtf8 front) cut fault = subst (λ text. IsCollectionFault text (NotUtf8 front)) (read_whole bytes whole cut fault.0) fault
collection_fault bytes whole (NoTab line) cut fault = subst (λ text. IsCollectionFault text (NoTab line)) (read_whole bytes whole cut fault.size) fault
collection_fault bytes whole (Name line) cut fault = subst (λ text. IsCollectionFault text (Name line)) (read_whole bytes whole cut fault.size) fault
collection_fault bytes whole (NoLineEnd line) cut fault = subst (λ text. IsCollectionFault text (NoLineEnd line)) (read_whole bytes whole cut fault.size) fault
collection_fault bytes whole Memory cut fault = absurd fault

pub refuses_collection_whole : (bytes whole : List ℕ) (error : CollectionError) → bytes ≡ take room whole → RefusesCollection bytes error → RefusesCollection whole error
refuses_collection_whole bytes whole error cut refuses =
    elim refuses [ inl memory ↦ inl memory | inr fault ↦ inr (collection_fault bytes whole error cut fault) ]

-- what a refused question leaves is so of the whole file
pub leaves_whole : (workers : ℕ) (bytes whole : List ℕ) (stop : List (List ℕ)) (query : List ℕ) (old new : Option (List ℕ)) (error : AskError) → bytes ≡ take room whole
    → Leaves workers bytes stop query old new error → Leaves workers whole stop query old new error
leaves_whole workers bytes whole stop query old new (asking.Collection error) cut leaves =
    (refuses_collection_whole bytes whole error cut leaves.0, leaves.1)
leaves_whole workers bytes whole stop query old new (asking.Query error) cut leaves =
    let same = read_whole bytes whole cut leaves.0.0.1.size in
    ((subst (λ text. (documents : List NamedText) × IsCollectionText text documents) same leaves.0.0, leaves.0.1), leaves.1)
leaves_whole workers bytes whole stop query old new (asking.Pattern error) cut leaves = leaves
leaves_whole workers bytes whole stop query old new (asking.Build error) cut leaves = leaves
leaves_whole workers bytes whole stop query old new (asking.Open error) cut leaves = leaves
leaves_whole workers bytes whole stop query old new asking.Write cut leaves =
    subst (λ text. IsCutShort text stop query old new) (read_whole bytes whole cut leaves.answer.read.size) leaves
leaves_whole workers bytes whole stop query old new asking.Memory cut leaves = leaves

-- an answer to what was read is one to the whole file
pub answered_whole : (bytes whole : List ℕ) (stop : List (List ℕ)) (query : List ℕ) (old new : Option (List ℕ)) (count : ℕ) → bytes ≡ take room whole → IsAnswered bytes stop query old new count → IsAnswered whole stop query old new count
answered_whole bytes whole stop query old new count cut answered =
    subst (λ text. IsAnswered text stop query old new count) (read_whole bytes whole cut answered.answer.read.size) answered

-- ---- stop files

pub stop_held : (holds : Holding) (named : Option (Bor (List ℕ))) (path : Bor (List ℕ)) (bytes : List ℕ) (result : Result (List (List ℕ)) Refusal) → named ≡ Some path → IsFront (holds path.now) room bytes
    → ((whole : List ℕ) → bytes ≡ take room whole → IfOk result (IsStopText whole)) → IfOk result (IsStopHeld holds named)
stop_held holds named path bytes (Ok stop) is front read =
    subst (λ file. IsStopHeld holds file stop) (sym is) (front.whole, front.held, read front.whole front.cut)
stop_held holds named path bytes (Err told) is front read = tt

pub stop_refused : (holds : Holding) (named : Option (Bor (List ℕ))) (path : Bor (List ℕ)) (bytes : List ℕ) (result : Result (List (List ℕ)) Refusal) → named ≡ Some path → IsFront (holds path.now) room bytes
    → ((whole : List ℕ) → bytes ≡ take room whole → IfErr result (IsNoStopText path.now whole)) → IfErr result (λ told. IsSomeAnd named (λ file. RefusesStop holds file.now told))
stop_refused holds named path bytes (Ok stop) is front refused = tt
stop_refused holds named path bytes (Err told) is front refused =
    subst (λ (o : Option (Bor (List ℕ))). IsSomeAnd o (λ file. RefusesStop holds file.now told)) (sym is) (inr (front.whole, front.held, refused front.whole front.cut))

-- ---- a refusal that is handed up

pub handed_up : {T : Type 0} (P : Refusal → Type 0) (result : Result T Refusal) (told : Refusal) → IsErrAnd result (λ error. error ≡ told) → P told → IfErr result P
handed_up P (Ok x) told is holds = tt
handed_up P (Err error) told is holds = subst P (sym is) holds

pub told_up : {T E : Type 0} (Tells : E → Refusal → Type 0) (P : Refusal → Type 0) (result : Result T Refusal) (error : E) → IsErrAnd result (λ told. Tells error told) → ((told : Refusal) → Tells error told → P told) → IfErr result P
told_up Tells P (Ok x) error is holds = tt
told_up Tells P (Err told) error is holds = holds told is

pub err_weaker : {T : Type 0} (result : Result T Refusal) (P Q : Refusal → Type 0) → ((told : Refusal) → P told → Q told) → IfErr result P → IfErr result Q
err_weaker (Ok x) P Q weaker holds = tt
err_weaker (Err told) P Q weaker holds = weaker told holds
