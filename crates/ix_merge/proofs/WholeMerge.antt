-- The steps of a merge, from what the sources say of themselves to the text that is written.
use Rattle.std.proofs.Common.{◌≡◌, ◌≢◌, ℕ, ◌<◌, ◌≤◌, ◌^◌, List, [], length, map, Option, None, Result, Ok, Err, IfErr, OnErr, All, refl, inl, inr, sym, subst, ◌∙◌, arith}
use Rattle.std.proofs.KnownBytes.{Appends-kept, Keeps-refl}
use Rattle.std.proofs.lemmas.Bool.{cases_lt}
use Rattle.std.specs.Io.KnownBytes.{Keeps}
use Rattle.std.proofs.lemmas.List.Elements.{All-map, All-weaker}
use Rattle.std.proofs.lemmas.Option.{slice_get_within}
use Rattle.ix_text.specs.Collections.{Collection, IsLawful, IsName}
use Rattle.ix_text.specs.Parts.{ArePartsOf, DictionaryEntry, DocumentRow, GramEntry, Parts, terms_of}
use Rattle.ix_output.specs.Sinks.{AppendsFront}
use Rattle.ix_file.specs.Endings.{WritesIndexText}
use Rattle.ix_file.specs.Grams.{AreGramsOfTerms}
use Rattle.ix_file.specs.IndexText.{layout}
use Rattle.ix_file.specs.Rows.{document_row}
use Rattle.ix_file.specs.Sections.{FrontCoded}
use Rattle.ix_file.specs.Told.{Told, entries_of, parts_of}
use Rattle.ix_file.specs.DocRow.{DocRow}
use Rattle.ix_file.specs.Writers.{WasTold, sink}
use Rattle.ix_file.specs.WriterSections.{WriterSections}
use Rattle.ix_file.specs.IndexWriter.{IndexWriter}
use Rattle.ix_run.specs.Heads.{Heading, IsLawfulHeading}
use Rattle.ix_run.specs.Sources.{Faulting, Giving, IsLawfulFront, IsUnread, Yielding}
use Rattle.ix_merge.specs.Beginnings.{BeginsWith}
use Rattle.ix_merge.specs.Covers.{Cover}
use Rattle.ix_merge.specs.Merging.{AreApart, IsOfWriter, IsRefusalOf, TellsAll}
use Rattle.ix_merge.specs.Pieces.{LeavesYieldedPart, WritesConcatenation, WritesFront, WritesPart, WritesYieldedPart}
use Rattle.ix_merge.specs.Refusals.{AreMergeable, IsRefusal}
use Rattle.ix_merge.specs.Rows.{AreRowsOf}
use Rattle.ix_merge.specs.Unfinished.{LeavesMergedFront}
use Rattle.ix_merge.specs.declared.merge_error.MergeError.{MergeError}
use Rattle.ix_merge.specs.declared.merge_error.MergeError.TheVariants.{Gap, Overlap, StopDiffers, Source, TooLarge, Write, Memory}
use Rattle.ix_merge.proofs.Closing.{AreBegun, all_of_map, front_of_layout, part_of_layout, written_all, yielded_front, yielded_layout}

-- what was given of nothing says that the head is lawful
lawful_heading : (heading : Heading) → IsLawfulFront heading [] None → IsLawfulHeading heading
lawful_heading heading front =
    let lawful = front.whole.lawful in
    record {
      stop = record { few = lawful.few_stop_terms; ascending = lawful.stop_ascending; terms = lawful.stop_terms };
      names = lawful.names;
      few_tokens = lawful.few_tokens;
      few_documents = front.whole.within;
    }

pub lawful_headings : {S : Type 0} (heading : S → Heading) (gives : Giving S)
    → ((source : S) (finished : List DictionaryEntry) (at_hand : Option DictionaryEntry) → gives source finished at_hand → IsLawfulFront (heading source) finished at_hand)
    → (sources : List S) → All (IsUnread gives) sources → All IsLawfulHeading (map heading sources)
lawful_headings {S} heading gives law sources unread =
    All-map IsLawfulHeading heading sources
    (All-weaker (IsUnread gives) (λ (s : S). IsLawfulHeading (heading s)) (λ s none. lawful_heading (heading s) (law s [] None none)) sources unread)

-- names are short
pub short_names : (rows : List DocRow) → All (λ row. IsName row.name) (map document_row rows) → All (λ row. length row.name.now < 2 ^ 32) rows
short_names rows names k d within =
    let name = all_of_map (λ (row : DocumentRow). IsName row.name) document_row rows names k d within in
    omega (arith, name.short)

-- no number is covered twice
pub covered_apart : (hs : List Heading) (count : ℕ) → Cover hs count → AreApart hs
covered_apart hs count cover n =
    elim (cases_lt n count) [
      | inl below ↦ omega (arith, cover.once n below)
      | inr behind ↦ omega (arith, cover.no_other n behind)
    ]

-- an error of a source, of a write or of memory
pub late_refusal : {S E : Type 0} (hs : List Heading) (faults : Faulting S E) (sources : List S) (error : MergeError E) → AreMergeable hs → length sources ≤ length hs → IsRefusalOf faults sources error → IsRefusal hs error
late_refusal hs faults sources (Gap n) mergeable few late = absurd late
late_refusal hs faults sources (Overlap n) mergeable few late = absurd late
late_refusal hs faults sources StopDiffers mergeable few late = absurd late
late_refusal hs faults sources (Source place error) mergeable few late = (mergeable, omega (arith, few, slice_get_within sources place late.source late.is))
late_refusal hs faults sources TooLarge mergeable few late = absurd late
late_refusal hs faults sources Write mergeable few late = mergeable
late_refusal hs faults sources Memory mergeable few late = tt

-- an error of a write or of memory, at the end
pub writer_refusal : {E : Type 0} (hs : List Heading) (error : MergeError E) → AreMergeable hs → IsOfWriter error → IsRefusal hs error
writer_refusal hs (Gap n) mergeable late = absurd late
writer_refusal hs (Overlap n) mergeable late = absurd late
writer_refusal hs StopDiffers mergeable late = absurd late
writer_refusal hs (Source place error) mergeable late = absurd late
writer_refusal hs TooLarge mergeable late = absurd late
writer_refusal hs Write mergeable late = mergeable
writer_refusal hs Memory mergeable late = tt

pub on_err : {T E P : Type 0} (result : Result T E) → P → OnErr result P
on_err (Ok value) p = tt
on_err (Err error) p = p

-- what a writer was told before the first term, of sources that were borrowed three times
pub begun : {S W : Type 0} (heading : S → Heading) (contents : W → Option (List ℕ)) (before : Option (List ℕ)) (writer : IndexWriter W WriterSections) (sources one two three : List S) (rows : List DocumentRow)
    → one ≡ sources → two ≡ sources → three ≡ sources → (begins : BeginsWith contents before writer (map heading two) rows) → AreRowsOf (map heading one) rows → AreMergeable (map heading one) → AreBegun (map heading three) begins.stop rows
begun {S} heading contents before writer sources one two three rows as_one as_two as_three begins laid mergeable =
    let P : List S → Type 0 = λ xs. AreRowsOf (map heading xs) rows in
    let Q : List S → Type 0 = λ xs. AreMergeable (map heading xs) in
    let R : List S → Type 0 = λ xs. AreBegun (map heading xs) begins.stop rows in
    let same = as_one ∙ sym as_two in
    let is : R two = record { laid = subst P same laid; same = begins.same; none = begins.none; few = (subst Q same mergeable).few } in
    subst R (as_two ∙ sym as_three) is

begun_still : (hs : List Heading) (stop now : List (List ℕ)) (rows after : List DocumentRow) → now ≡ stop → after ≡ rows → AreBegun hs stop rows → AreBegun hs now after
begun_still hs stop now rows after stops same begun =
    subst (λ (s : List (List ℕ)). AreBegun hs s after) (sym stops) (subst (λ (r : List DocumentRow). AreBegun hs stop r) (sym same) begun)

module _ {S W : Type 0} (yields : Yielding S) (heading : S → Heading) (contents : W → Option (List ℕ)) (sources : List S) (before : Option (List ℕ)) (told : Told) (writer : IndexWriter W WriterSections)
    (tells : TellsAll yields heading contents sources before told writer) (begins : AreBegun (map heading sources) told.stop told.rows) where
  -- the text of all parts is that of the concatenation
  pub whole_written : (now : Option (List ℕ)) → ((collection : Collection) → IsLawful collection → ArePartsOf collection (parts_of tells.now) → WritesIndexText before now collection) → WritesConcatenation yields heading sources before now
  whole_written now writes =
      written_all yields heading sources (parts_of tells.now) tells.all
      (begun_still (map heading sources) told.stop tells.now.stop told.rows tells.now.rows tells.stop tells.rows begins) before now writes

  -- and a front of it is a front of such a text
  pub front_written : (now : Option (List ℕ)) → ((grams : List GramEntry) → AreGramsOfTerms (terms_of (entries_of tells.now)) grams → AppendsFront before now (layout FrontCoded (parts_of tells.now) grams)) → WritesFront (map heading sources) before now
  front_written now front =
      front_of_layout (map heading sources) tells.all.shares (parts_of tells.now) tells.all.are
      (begun_still (map heading sources) told.stop tells.now.stop told.rows tells.now.rows tells.stop tells.rows begins) tells.all.merge before now front

  -- and of that text if it is one of all that the sources yielded
  pub yielded_written : (now : Option (List ℕ)) (if_whole : Type 0) → ((grams : List GramEntry) → AreGramsOfTerms (terms_of (entries_of tells.now)) grams → WritesPart before now (layout FrontCoded (parts_of tells.now) grams) if_whole)
      → WritesYieldedPart yields heading sources before now if_whole
  yielded_written now if_whole part =
      yielded_layout yields heading sources (parts_of tells.now) tells.all
      (begun_still (map heading sources) told.stop tells.now.stop told.rows tells.now.rows tells.stop tells.rows begins) before now if_whole part

-- what a merge leaves that stops among the terms
pub left_yielded : {S W : Type 0} (yields : Yielding S) (heading : S → Heading) (contents : W → Option (List ℕ)) (sources : List S) (stop : List (List ℕ)) (rows : List DocumentRow) (old new : IndexWriter W WriterSections) (if_whole : Type 0)
    → AreBegun (map heading sources) stop rows → LeavesMergedFront yields heading contents sources (contents (sink old)) old new → LeavesYieldedPart yields heading sources (contents (sink old)) (contents (sink new)) if_whole
left_yielded {S} {W} yields heading contents sources stop rows old new if_whole begun (inl same) =
    inl (subst (λ (out : W). Keeps (contents (sink old)) (contents out)) (sym same) (Keeps-refl (contents (sink old))))
left_yielded yields heading contents sources stop rows old new if_whole begun (inr some) =
    let parts : Parts = record { stop = stop; rows = rows; entries = some.entries } in
    inr (yielded_front yields heading sources parts some.all begun (contents (sink old)) (contents (sink new)) if_whole some.gained)

-- what the end leaves that fails: all of the text only if the error is of a write
pub last_part : {W E : Type 0} (contents : W → Option (List ℕ)) (before : Option (List ℕ)) (writer : IndexWriter W WriterSections) (told : Told) (out : W) (error : MergeError E) (grams : List GramEntry)
    → WasTold contents before writer told → IsOfWriter error → AppendsFront before (contents out) (layout FrontCoded (parts_of told) grams) → (error ≢ Write → Keeps (contents (sink writer)) (contents out))
    → WritesPart before (contents out) (layout FrontCoded (parts_of told) grams) (error ≡ Write)
last_part contents before writer told out Write grams was late front memory = record { front = front; cut = λ none. refl }
last_part {W} {E} contents before writer told out Memory grams was late front memory =
    part_of_layout before (contents out) (parts_of told) grams (◌≡◌ {A = MergeError E} Memory Write)
    (record { front = was.written.gone; rest = writer.sections.pending.items; parts = sym was.written.spelled; gained = Appends-kept before (contents (sink writer)) (contents out) was.written.gone was.written.gained (memory (λ same. cc)) })
last_part contents before writer told out (Gap n) grams was late front memory = absurd late
last_part contents before writer told out (Overlap n) grams was late front memory = absurd late
last_part contents before writer told out StopDiffers grams was late front memory = absurd late
last_part contents before writer told out (Source place error) grams was late front memory = absurd late
last_part contents before writer told out TooLarge grams was late front memory = absurd late

pub if_err : {T E : Type 0} (result : Result T E) (P : E → Type 0) → ((error : E) → P error) → IfErr result P
if_err (Ok value) P holds = tt
if_err (Err error) P holds = holds error
