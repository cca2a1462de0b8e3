-- The files of an archive that is opened.
use Rattle.std.proofs.Common.{◌≡◌, ℕ, zero, suc, ◌+◌, ◌<◌, ◌≤◌, inl, inr, List, [], ◌∷◌, ◌++◌, Some, None, Option, map, take, length, get_or, refl, sym, ap, ◌∙◌, subst, arith, add-one, length-append}
use Rattle.std.specs.Prelude.{Err, IfErr, IfOk, MatchResult, Ok, Result, option_map}
use Rattle.std.proofs.lemmas.List.{map_push, take_all}
use Rattle.ix_files.specs.Opened.{IsFoundAt}
use Rattle.ix_files.specs.Slots.{Kept, Nothing, Place, Slots, bytes_of}
use Rattle.ix_files.specs.Views.{View}
use Rattle.ix_files.specs.declared.file_error.FileError.{FileError}
use Rattle.ix_files.specs.declared.file_error.FileError.TheVariants as file
use Rattle.ix_folder.specs.FolderNames.{manifest_place}
use Rattle.ix_folder.specs.Standings.{AreKept, NamedFile}
use Rattle.ix_text.specs.Collections.{Document}
use Rattle.ix_manifest.specs.ManifestText.{ManifestView, manifest_text}
use Rattle.ix_manifest.specs.declared.manifest.Removals.{Removals as RemovalsLine}
use Rattle.ix_manifest.specs.declared.manifest.Segment.{Segment}
use Rattle.ix_removals.specs.RemovalsText.{Removal}
use Rattle.ix_archive.specs.Archives.{Archive}
use Rattle.ix_archive.specs.Folders.{removals_files, removals_place, segment_files, segment_place}
use Rattle.ix_archive.specs.Layouts.{AreRemovalsIn, AreSegmentsOf, IsRemovalsFile}
use Rattle.ix_archive.specs.Openings.{AreRemovalsAt, AreTexts, IsArchiveOf, IsOutside, IsText}
use Rattle.ix_archive.specs.ReadErrors.{error_of_file}
use Rattle.ix_archive.specs.declared.read_error.ReadError.{ReadError}
use Rattle.ix_archive.specs.declared.read_error.ReadError.TheVariants.{Memory}

-- ---- one file

Kept-Nothing : (text : List ℕ) → ¬ (Kept text ≡ Nothing)
Kept-Nothing text is = let same : Some text ≡ None = ap bytes_of is in absurd (let none = same in cc)

pub found_text : (view : View) (place : Place) (text : List ℕ) (contents : Option (List ℕ)) → IsText view place text → (view.honest → IsFoundAt (view.slots place).now (Some contents)) → contents ≡ Some text
found_text view place text contents is found = (found is.honest).1 text (ap bytes_of is.kept)

pub not_missing : (view : View) (place : Place) (text : List ℕ) → IsText view place text → (view.honest → IsFoundAt (view.slots place).now None) → ⊥
not_missing view place text is found = Kept-Nothing text (sym is.kept ∙ found is.honest)

-- what was opened of a file tells its text
pub opened_text : {S : Type 0} (view : View) (at place : Place) (text : List ℕ) (found : Option S) (source : S) (contents : S → Option (List ℕ)) → at ≡ place → found ≡ Some source
    → (view.honest → IsFoundAt (view.slots at).now (option_map contents found)) → IsText view place text → contents source ≡ Some text
opened_text {S = S} view at place text found source contents same is told there =
    let here : IsText view at text = subst (λ (p : Place). IsText view p text) (sym same) there in
    found_text view at text (contents source) here (λ honest. subst (λ (o : Option S). IsFoundAt (view.slots at).now (option_map contents o)) is (told honest))

-- what was read of the removals is what the file has
pub removals_ok : (r : Result (List Removal) ReadError) (Is : List ℕ → Type 0) (File : ℕ → List Removal → List ℕ → Type 0)
    → ((documents : ℕ) (removals : List Removal) (text : List ℕ) → Is text → File documents removals text → MatchResult r (λ read. read ≡ removals) (λ error. error ≡ Memory))
    → IfOk r (λ read. (documents : ℕ) (removals : List Removal) (text : List ℕ) → Is text → File documents removals text → read ≡ removals)
removals_ok (Ok read) Is File told = told
removals_ok (Err error) Is File told = tt

pub removals_err : (r : Result (List Removal) ReadError) (Is : List ℕ → Type 0) (File : ℕ → List Removal → List ℕ → Type 0)
    → ((documents : ℕ) (removals : List Removal) (text : List ℕ) → Is text → File documents removals text → MatchResult r (λ read. read ≡ removals) (λ error. error ≡ Memory))
    → IfErr r (λ error. (documents : ℕ) (removals : List Removal) (text : List ℕ) → Is text → File documents removals text → IsOutside error)
removals_err (Ok read) Is File told = tt
removals_err (Err error) Is File told = λ documents removals text is file. inl (told documents removals text is file)

-- ---- segments

-- the text of the segment of a place, and the texts up to it
pub record TextAt (view : View) (folder : List ℕ) (segment : Segment) (texts : List (List ℕ)) (i : ℕ) : Type 0 where
  pub text : List ℕ
  pub there : IsText view (segment_place folder segment.file) text
  pub sized : segment.bytes ≡ length text
  pub more : take (suc i) texts ≡ take i texts ++ text ∷ []

pub text_at : (view : View) (folder : List ℕ) (segments : List Segment) (texts : List (List ℕ)) (i : ℕ) (d : Segment) → AreTexts view folder segments texts → i < length segments → TextAt view folder (get_or segments i d) texts i
text_at view folder [] texts i d are within = absurd (omega arith)
text_at view folder (segment ∷ segments) [] i d are within = absurd are
text_at view folder (segment ∷ segments) (text ∷ texts) zero d are within = record { text = text; there = are.0.0; sized = are.0.1; more = refl }
text_at view folder (segment ∷ segments) (text ∷ texts) (suc i) d are within =
    let rest = text_at view folder segments texts i d are.1 (omega arith) in
    record { text = rest.text; there = rest.there; sized = rest.sized; more = ap (λ (l : List (List ℕ)). text ∷ l) rest.more }

pub texts_length : (view : View) (folder : List ℕ) (segments : List Segment) (texts : List (List ℕ)) → AreTexts view folder segments texts → length texts ≡ length segments
texts_length view folder [] [] are = refl
texts_length view folder [] (text ∷ texts) are = absurd are
texts_length view folder (segment ∷ segments) [] are = absurd are
texts_length view folder (segment ∷ segments) (text ∷ texts) are = ap suc (texts_length view folder segments texts are.1)

-- The files of the first segments were opened.
pub record OpenedSoFar {S : Type 0} (contents : S → Option (List ℕ)) (view : View) (folder : List ℕ) (segments : List Segment) (i : ℕ) (sources : List S) : Type 0 where
  pub sized : length sources ≡ i
  pub told : (texts : List (List ℕ)) → AreTexts view folder segments texts → map contents sources ≡ map (λ text. Some text) (take i texts)

pub opened_none : {S : Type 0} (contents : S → Option (List ℕ)) (view : View) (folder : List ℕ) (segments : List Segment) → OpenedSoFar contents view folder segments 0 []
opened_none contents view folder segments = record { sized = refl; told = λ texts are. refl }

pub opened_more : {S : Type 0} (contents : S → Option (List ℕ)) (view : View) (folder : List ℕ) (segments : List Segment) (i : ℕ) (sources : List S) (d : Segment) (source : S) (at : Place) → i < length segments
    → at ≡ segment_place folder (get_or segments i d).file → ((text : List ℕ) → IsText view at text → contents source ≡ Some text) → OpenedSoFar contents view folder segments i sources
    → OpenedSoFar contents view folder segments (i + 1) (sources ++ source ∷ [])
opened_more contents view folder segments i sources d source at within same told so_far = record {
  sized = length-append sources (source ∷ []) ∙ ap (λ (n : ℕ). n + 1) so_far.sized;
  told = λ texts are.
      let found = text_at view folder segments texts i d are within in
      let known : contents source ≡ Some found.text = told found.text (subst (λ (p : Place). IsText view p found.text) (sym same) found.there) in
      let some : List ℕ → Option (List ℕ) = λ text. Some text in
      map_push contents sources source ∙ ap (λ (l : List (Option (List ℕ))). l ++ contents source ∷ []) (so_far.told texts are)
      ∙ ap (λ (o : Option (List ℕ)). map some (take i texts) ++ o ∷ []) known ∙ sym (map_push some (take i texts) found.text) ∙ ap (map some) (sym found.more) ∙ ap (λ (n : ℕ). map some (take n texts)) (sym (add-one i));
}

pub all_opened : {S : Type 0} (contents : S → Option (List ℕ)) (view : View) (folder : List ℕ) (segments : List Segment) (i : ℕ) (sources : List S) (texts : List (List ℕ)) → length segments ≤ i → AreTexts view folder segments texts
    → OpenedSoFar contents view folder segments i sources → map contents sources ≡ map (λ text. Some text) texts
all_opened contents view folder segments i sources texts all are so_far =
    let size = texts_length view folder segments texts are in
    so_far.told texts are ∙ ap (λ (l : List (List ℕ)). map (λ (text : List ℕ). let o : Option (List ℕ) = Some text in o) l) (take_all i texts (omega arith))

-- ---- the folder

first_kept : (slots : Slots) (file : NamedFile) (files : List NamedFile) → AreKept (file ∷ files) slots → (slots file.place).now ≡ Kept file.bytes
first_kept slots file files are = are 0 file (omega arith)

rest_kept : (slots : Slots) (file : NamedFile) (files : List NamedFile) → AreKept (file ∷ files) slots → AreKept files slots
rest_kept slots file files are = λ k d within. are (suc k) d (omega arith)

pub texts_in : (view : View) (folder : List ℕ) (stop : List (List ℕ)) (segments : List Segment) (texts : List (List ℕ)) (lists : List (List Document)) (files : List NamedFile) → view.honest
    → AreSegmentsOf stop segments texts lists → AreKept (segment_files folder segments texts ++ files) view.slots → AreTexts view folder segments texts × AreKept files view.slots
texts_in view folder stop [] [] [] files honest of kept = (tt, kept)
texts_in view folder stop (segment ∷ segments) (text ∷ texts) (documents ∷ lists) files honest of kept =
    let file : NamedFile = record { place = segment_place folder segment.file; bytes = text } in
    let behind = segment_files folder segments texts ++ files in
    let rest = texts_in view folder stop segments texts lists files honest of.1 (rest_kept view.slots file behind kept) in
    (((record { honest = honest; kept = first_kept view.slots file behind kept }, of.0.sized), rest.0), rest.1)
texts_in view folder stop [] [] (documents ∷ lists) files honest of kept = absurd of
texts_in view folder stop [] (text ∷ texts) lists files honest of kept = absurd of
texts_in view folder stop (segment ∷ segments) [] lists files honest of kept = absurd of
texts_in view folder stop (segment ∷ segments) (text ∷ texts) [] files honest of kept = absurd of

pub removals_in : (view : View) (folder : List ℕ) (documents : ℕ) (removals : List Removal) (line : Option RemovalsLine) (removals_file : Option (List ℕ)) → view.honest → AreRemovalsIn documents removals line removals_file
    → AreKept (removals_files folder line removals_file) view.slots → AreRemovalsAt view folder documents removals line removals_file
removals_in view folder documents removals None None honest are kept = are
removals_in view folder documents removals (Some line) (Some text) honest are kept =
    (record { honest = honest; kept = first_kept view.slots (record { place = removals_place folder line.file; bytes = text }) [] kept }, are)
removals_in view folder documents removals None (Some text) honest are kept = absurd are
removals_in view folder documents removals (Some line) None honest are kept = absurd are

-- the file of the removals that a manifest names
pub record RemovalsOfLine (view : View) (folder : List ℕ) (documents : ℕ) (removals : List Removal) (line : RemovalsLine) : Type 0 where
  pub text : List ℕ
  pub there : IsText view (removals_place folder line.file) text
  pub is : IsRemovalsFile documents removals line text

pub removals_of_line : (view : View) (folder : List ℕ) (documents : ℕ) (removals : List Removal) (lines : Option RemovalsLine) (line : RemovalsLine) (removals_file : Option (List ℕ)) → lines ≡ Some line
    → AreRemovalsAt view folder documents removals lines removals_file → RemovalsOfLine view folder documents removals line
removals_of_line view folder documents removals lines line removals_file is at =
    of_some removals_file (subst (λ (o : Option RemovalsLine). AreRemovalsAt view folder documents removals o removals_file) is at)
  where
    of_some : (file : Option (List ℕ)) → AreRemovalsAt view folder documents removals (Some line) file → RemovalsOfLine view folder documents removals line
    of_some None there = absurd there
    of_some (Some text) there = record { text = text; there = there.0; is = there.1 }

pub none_of_line : (view : View) (folder : List ℕ) (documents : ℕ) (removals : List Removal) (lines : Option RemovalsLine) (removals_file : Option (List ℕ)) → lines ≡ None → AreRemovalsAt view folder documents removals lines removals_file → removals ≡ []
none_of_line view folder documents removals lines removals_file is at =
    of_none removals_file (subst (λ (o : Option RemovalsLine). AreRemovalsAt view folder documents removals o removals_file) is at)
  where
    of_none : (file : Option (List ℕ)) → AreRemovalsAt view folder documents removals None file → removals ≡ []
    of_none None there = there
    of_none (Some text) there = absurd there

-- the files of an archive that is there
pub record AreFilesOf (view : View) (folder : List ℕ) (archive : Archive) (manifest : ManifestView) (texts : List (List ℕ)) (removals_file : Option (List ℕ)) : Type 0 where
  pub manifest_is : IsText view (manifest_place folder) (manifest_text manifest)
  pub texts_are : AreTexts view folder manifest.segments texts
  pub removals_are : AreRemovalsAt view folder (length archive.documents) archive.removals manifest.removals removals_file

pub files_of_archive : (view : View) (path folder : List ℕ) (archive : Archive) (is : IsArchiveOf view path archive) → (view.honest → folder ≡ view.folder path) → AreFilesOf view folder archive is.there.view is.there.texts is.there.removals_file
files_of_archive view path folder archive is located =
    let there = is.there in
    let kept = texts_in view (view.folder path) archive.stop there.view.segments there.texts there.laid.lists (removals_files (view.folder path) there.view.removals there.removals_file) is.honest there.laid.segments there.stands.files in
    let files : AreFilesOf view (view.folder path) archive there.view there.texts there.removals_file = record {
      manifest_is = record { honest = is.honest; kept = there.stands.manifest };
      texts_are = kept.0;
      removals_are = removals_in view (view.folder path) (length archive.documents) archive.removals there.view.removals there.removals_file is.honest there.laid.removals kept.1;
    } in
    subst (λ (f : List ℕ). AreFilesOf view f archive there.view there.texts there.removals_file) (sym (located is.honest)) files

-- ---- the first attempt

-- If the archive is there, its manifest was read, and its files were not looked for yet.
pub record NotTried (view : View) (path : List ℕ) (counter : ℕ) (text : List ℕ) : Type 0 where
  pub first : (archive : Archive) (is : IsArchiveOf view path archive) → (counter ≡ 0) × (text ≡ manifest_text is.there.view)

-- ---- errors

pub outside_file : (error : FileError) → IsOutside (error_of_file error)
outside_file file.Memory = inl refl
outside_file file.Failed = inr refl
outside_file file.Exists = inr refl
outside_file file.Locked = inr refl
