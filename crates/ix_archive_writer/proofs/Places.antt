-- The files of an archive have names of their own.
use Rattle.std.proofs.Common.{◌≡◌, ◌≢◌, ◌<◌, ◌^◌, All, List, [], ◌∷◌, ◌++◌, ℕ, Option, None, Some, ap, arith, get_or, refl}
use Rattle.std.specs.Prelude.{IfSome, codes, decimal}
use Rattle.std.proofs.lemmas.Fmt.{decimal_injective}
use Rattle.std.proofs.lemmas.List.{append_cancel_left}
use Rattle.std.proofs.lemmas.List.Elements.{All-append, All-cons, All-head, All-nil, All-tail}
use Rattle.ix_files.specs.Slots.{Place}
use Rattle.ix_folder.specs.Standings.{AreFileNames, IsFilePlace, NamedFile}
use Rattle.ix_manifest.specs.ManifestText.{IsManifest, IsRemovals, ManifestView}
use Rattle.ix_manifest.specs.declared.manifest.Removals.{Removals as RemovalsLine}
use Rattle.ix_manifest.specs.declared.manifest.Segment.{Segment}
use Rattle.ix_archive.specs.Folders.{removals_files, removals_place, segment_files, segment_place}

pub segments_apart : (folder : List ℕ) (one other : ℕ) → one < 2 ^ 64 → other < 2 ^ 64 → one ≢ other → segment_place folder one ≢ segment_place folder other
segments_apart folder one other low less apart same =
    apart (decimal_injective one other low less (append_cancel_left (codes "segment-") (decimal one) (decimal other) (ap (λ (place : Place). place.name) same)))

pub removals_apart : (folder : List ℕ) (one other : ℕ) → one < 2 ^ 64 → other < 2 ^ 64 → one ≢ other → removals_place folder one ≢ removals_place folder other
removals_apart folder one other low less apart same =
    apart (decimal_injective one other low less (append_cancel_left (codes "removals-") (decimal one) (decimal other) (ap (λ (place : Place). place.name) same)))

pub removals_no_segment : (folder : List ℕ) (one other : ℕ) → removals_place folder one ≢ segment_place folder other
removals_no_segment folder one other same = let first : 114 ≡ 115 = ap (λ (place : Place). get_or place.name 0 0) same in absurd (omega (arith, first))

pub segment_no_removals : (folder : List ℕ) (one other : ℕ) → segment_place folder one ≢ removals_place folder other
segment_no_removals folder one other same = let first : 115 ≡ 114 = ap (λ (place : Place). get_or place.name 0 0) same in absurd (omega (arith, first))

pub segment_is_file : (folder : List ℕ) (number : ℕ) → IsFilePlace folder (segment_place folder number)
segment_is_file folder number = record {
  inside = refl;
  no_manifest = λ same. let first : 115 ≡ 109 = ap (λ (place : Place). get_or place.name 0 0) same in absurd (omega (arith, first));
  no_draft = λ same. let first : 115 ≡ 109 = ap (λ (place : Place). get_or place.name 0 0) same in absurd (omega (arith, first));
  no_lock = λ same. let first : 115 ≡ 108 = ap (λ (place : Place). get_or place.name 0 0) same in absurd (omega (arith, first));
}

pub removals_is_file : (folder : List ℕ) (number : ℕ) → IsFilePlace folder (removals_place folder number)
removals_is_file folder number = record {
  inside = refl;
  no_manifest = λ same. let first : 114 ≡ 109 = ap (λ (place : Place). get_or place.name 0 0) same in absurd (omega (arith, first));
  no_draft = λ same. let first : 114 ≡ 109 = ap (λ (place : Place). get_or place.name 0 0) same in absurd (omega (arith, first));
  no_lock = λ same. let first : 114 ≡ 108 = ap (λ (place : Place). get_or place.name 0 0) same in absurd (omega (arith, first));
}

-- ---- the files of a manifest

segments_have : (P : NamedFile → Type 0) (folder : List ℕ) (segments : List Segment) (texts : List (List ℕ)) → All (λ segment. (text : List ℕ) → P (record { place = segment_place folder segment.file; bytes = text })) segments
    → All P (segment_files folder segments texts)
segments_have P folder [] [] each = All-nil P
segments_have P folder [] (text ∷ texts) each = All-nil P
segments_have P folder (segment ∷ segments) [] each = All-nil P
segments_have P folder (segment ∷ segments) (text ∷ texts) each =
    let Q : Segment → Type 0 = λ one. (text : List ℕ) → P (record { place = segment_place folder one.file; bytes = text }) in
    All-cons P (record { place = segment_place folder segment.file; bytes = text }) (segment_files folder segments texts) (All-head Q segment segments each text)
    (segments_have P folder segments texts (All-tail Q segment segments each))

removals_have : (P : NamedFile → Type 0) (folder : List ℕ) (line : Option RemovalsLine) (file : Option (List ℕ)) → IfSome line (λ line. (text : List ℕ) → P (record { place = removals_place folder line.file; bytes = text }))
    → All P (removals_files folder line file)
removals_have P folder None None each = All-nil P
removals_have P folder None (Some text) each = All-nil P
removals_have P folder (Some line) None each = All-nil P
removals_have P folder (Some line) (Some text) each = All-cons P (record { place = removals_place folder line.file; bytes = text }) [] (each text) (All-nil P)

-- what holds of each name of the manifest holds of the files
pub files_have : (P : NamedFile → Type 0) (folder : List ℕ) (view : ManifestView) (texts : List (List ℕ)) (removals_file : Option (List ℕ))
    → All (λ segment. (text : List ℕ) → P (record { place = segment_place folder segment.file; bytes = text })) view.segments
    → IfSome view.removals (λ line. (text : List ℕ) → P (record { place = removals_place folder line.file; bytes = text }))
    → All P (segment_files folder view.segments texts ++ removals_files folder view.removals removals_file)
files_have P folder view texts removals_file each line =
    All-append P (segment_files folder view.segments texts) (removals_files folder view.removals removals_file) (segments_have P folder view.segments texts each) (removals_have P folder view.removals removals_file line)

pub if_some : {X : Type 0} (P Q : X → Type 0) (o : Option X) → ((x : X) → P x → Q x) → IfSome o P → IfSome o Q
if_some P Q None within is = is
if_some P Q (Some x) within is = within x is

-- they have names of their own
pub file_names : (folder : List ℕ) (view : ManifestView) (texts : List (List ℕ)) (removals_file : Option (List ℕ)) → AreFileNames folder (segment_files folder view.segments texts ++ removals_files folder view.removals removals_file)
file_names folder view texts removals_file =
    files_have (λ (file : NamedFile). IsFilePlace folder file.place) folder view texts removals_file (λ k d within text. segment_is_file folder _) (each_line view.removals)
  where
    each_line : (line : Option RemovalsLine) → IfSome line (λ line. (text : List ℕ) → IsFilePlace folder (removals_place folder line.file))
    each_line None = tt
    each_line (Some line) = λ text. removals_is_file folder line.file

-- and none has the name of the next segment
pub no_next_segment : (folder : List ℕ) (view : ManifestView) (texts : List (List ℕ)) (removals_file : Option (List ℕ)) → IsManifest view
    → All (λ file. file.place ≢ segment_place folder view.next) (segment_files folder view.segments texts ++ removals_files folder view.removals removals_file)
no_next_segment folder view texts removals_file lawful =
    files_have (λ (file : NamedFile). file.place ≢ segment_place folder view.next) folder view texts removals_file
    (λ k d within text. let below = (lawful.segments.each k d within).fields.below in
    segments_apart folder _ view.next (omega (arith, below, lawful.bound)) lawful.bound (λ same. absurd (omega (arith, below, same))))
    (if_some (IsRemovals view.next view.segments) (λ (line : RemovalsLine). (text : List ℕ) → removals_place folder line.file ≢ segment_place folder view.next) view.removals
    (λ line is text. removals_no_segment folder line.file view.next) lawful.removals)

-- nor that of the next removals
pub no_next_removals : (folder : List ℕ) (view : ManifestView) (texts : List (List ℕ)) (removals_file : Option (List ℕ)) → IsManifest view
    → All (λ file. file.place ≢ removals_place folder view.next) (segment_files folder view.segments texts ++ removals_files folder view.removals removals_file)
no_next_removals folder view texts removals_file lawful =
    files_have (λ (file : NamedFile). file.place ≢ removals_place folder view.next) folder view texts removals_file
    (λ k d within text. segment_no_removals folder _ view.next)
    (if_some (IsRemovals view.next view.segments) (λ (line : RemovalsLine). (text : List ℕ) → removals_place folder line.file ≢ removals_place folder view.next) view.removals
    (λ line is text. removals_apart folder line.file view.next (omega (arith, is.fields.below, lawful.bound)) lawful.bound (λ same. absurd (omega (arith, is.fields.below, same)))) lawful.removals)
