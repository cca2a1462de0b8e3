-- Segments that are checked one after another.
use Rattle.std.proofs.Common.{◌≡◌, ℕ, ◌+◌, ◌<◌, ◌≤◌, List, [], ◌∷◌, ◌++◌, Some, None, Option, map, length, get_or, refl, sym, ap, ◌∙◌, subst, arith, length-append}
use Rattle.std.specs.Prelude.{◌≢◌, All, Contains, IfSome, MatchOption, option_map, sum_by, unwrap_or}
use Rattle.std.proofs.lemmas.Grind.{flat_map-append}
use Rattle.std.proofs.lemmas.List.{append-nil, get_or-map, length-map}
use Rattle.std.proofs.lemmas.List.Elements.{All-push, Contains-append_left}
use Rattle.std.proofs.lemmas.List.Sums.{sum_by-cons, sum_by_push}
use Rattle.ix_text.specs.Collections.{Document}
use Rattle.ix_manifest.specs.ManifestText.{ManifestView, view_of}
use Rattle.ix_manifest.specs.declared.manifest.Removals.{Removals as RemovalsLine}
use Rattle.ix_manifest.specs.declared.manifest.Segment.{Segment}
use Rattle.ix_removals.specs.RemovalsText.{Removal, removals_text}
use Rattle.ix_ask.specs.NameLines.{names_indexed}
use Rattle.ix_archive.specs.Archives.{Archive, IsGone, joined}
use Rattle.ix_archive.specs.Checks.{AreCounted, AreFaulty, AreRead, AreTextsOf, IsChecked, IsFaultOf, IsPassed, IsTextOfNone, files_of}
use Rattle.ix_archive.specs.Counting.{counts_with, no_counts}
use Rattle.ix_archive.specs.Findings.{IsGoneFrom}
use Rattle.ix_archive.specs.Layouts.{AreRemovalsIn, AreSegmentsOf, IsRemovalsText, IsSegmentOf}
use Rattle.ix_archive.specs.declared.archive_error.ArchiveError.{ArchiveError}
use Rattle.ix_archive.specs.declared.archive_error.ArchiveError.TheVariants as fault
use Rattle.ix_archive.specs.declared.checked.Checked.TheVariants.{Sound}
use Rattle.ix_archive.specs.declared.checked.Counts.{Counts}
use Rattle.ix_archive.specs.declared.opened.Opened.{Opened}
use Rattle.ix_archive.proofs.CountLemmas.{counted_alike, counted_joined, none_counted}
use Rattle.ix_archive.proofs.JoinedLemmas.{gone_left, gone_right, gone_within}
use Rattle.ix_archive.proofs.SearchLemmas.{gone_alike_in}

-- ---- one segment more

pub segments_added : (stop : List (List ℕ)) (segments : List Segment) (texts : List (List ℕ)) (lists : List (List Document)) (segment : Segment) (text : List ℕ) (documents : List Document)
    → AreSegmentsOf stop segments texts lists → IsSegmentOf stop segment text documents → AreSegmentsOf stop (segments ++ segment ∷ []) (texts ++ text ∷ []) (lists ++ documents ∷ [])
segments_added stop [] [] [] segment text documents are is = (is, tt)
segments_added stop [] [] (list ∷ lists) segment text documents are is = absurd are
segments_added stop [] (one ∷ texts) lists segment text documents are is = absurd are
segments_added stop (first ∷ segments) [] lists segment text documents are is = absurd are
segments_added stop (first ∷ segments) (one ∷ texts) [] segment text documents are is = absurd are
segments_added stop (first ∷ segments) (one ∷ texts) (list ∷ lists) segment text documents are is =
    (are.0, segments_added stop segments texts lists segment text documents are.1 is)

-- the documents of the last segment, and those of the segments before
pub record Parted (stop : List (List ℕ)) (segments : List Segment) (texts : List (List ℕ)) (segment : Segment) (text : List ℕ) : Type 0 where
  pub lists : List (List Document)
  pub documents : List Document
  pub before : AreSegmentsOf stop segments texts lists
  pub last : IsSegmentOf stop segment text documents

pub segments_parted : (stop : List (List ℕ)) (segments : List Segment) (texts : List (List ℕ)) (lists : List (List Document)) (segment : Segment) (text : List ℕ) → length texts ≡ length segments
    → AreSegmentsOf stop (segments ++ segment ∷ []) (texts ++ text ∷ []) lists → Parted stop segments texts segment text
segments_parted stop [] [] [] segment text sized are = absurd are
segments_parted stop [] [] (documents ∷ lists) segment text sized are = record { lists = []; documents = documents; before = tt; last = are.0 }
segments_parted stop [] (one ∷ texts) lists segment text sized are = absurd (omega arith)
segments_parted stop (first ∷ segments) [] lists segment text sized are = absurd (omega arith)
segments_parted stop (first ∷ segments) (one ∷ texts) [] segment text sized are = absurd are
segments_parted stop (first ∷ segments) (one ∷ texts) (list ∷ lists) segment text sized are =
    let rest = segments_parted stop segments texts lists segment text (omega arith) are.1 in
    record { lists = list ∷ rest.lists; documents = rest.documents; before = (are.0, rest.before); last = rest.last }

pub read_more : {S : Type 0} (contents : S → Option (List ℕ)) (sources : List S) (texts : List (List ℕ)) (source : S) (text : List ℕ) → AreRead contents sources texts → ((known : List ℕ) → contents source ≡ Some known → text ≡ known)
    → AreRead contents (sources ++ source ∷ []) (texts ++ text ∷ [])
read_more contents [] [] source text are is = (is, tt)
read_more contents [] (one ∷ texts) source text are is = absurd are
read_more contents (first ∷ sources) [] source text are is = absurd are
read_more contents (first ∷ sources) (one ∷ texts) source text are is = (are.0, read_more contents sources texts source text are.1 is)

pub joined_length : (stop : List (List ℕ)) (segments : List Segment) (texts : List (List ℕ)) (lists : List (List Document)) → AreSegmentsOf stop segments texts lists → length (joined lists) ≡ sum_by (λ segment. segment.documents) segments
joined_length stop [] [] [] are = refl
joined_length stop [] [] (documents ∷ lists) are = absurd are
joined_length stop [] (text ∷ texts) lists are = absurd are
joined_length stop (segment ∷ segments) [] lists are = absurd are
joined_length stop (segment ∷ segments) (text ∷ texts) [] are = absurd are
joined_length stop (segment ∷ segments) (text ∷ texts) (documents ∷ lists) are =
    let counted = are.0.counted in let rest = joined_length stop segments texts lists are.1 in
    omega (arith, length-append documents (joined lists), sum_by-cons (λ (one : Segment). one.documents) segment segments)

-- ---- faults

fault_in : (P Q : ℕ → Type 0) → ((file : ℕ) → P file → Q file) → (error : ArchiveError) → IsFaultOf P error → IsFaultOf Q error
fault_in P Q weaker (fault.Segment file error) is = weaker file is
fault_in P Q weaker (fault.Differs file) is = weaker file is
fault_in P Q weaker other is = absurd is

some_behind : {X : Type 0} (xs : List X) (x : X) → xs ++ x ∷ [] ≢ []
some_behind xs x none = absurd (omega (arith, ap length none, length-append xs (x ∷ [])))

-- ---- the first segments

-- The texts are those of segments, which have one stop set, that of the given terms if there are some. So many documents are removed.
pub record AreFit (stop : Option (List (List ℕ))) (segments : List Segment) (texts : List (List ℕ)) (removals : List Removal) (removed : ℕ) : Type 0 where
  pub lists : List (List Document)
  pub of : (terms : List (List ℕ)) → IfSome stop (λ given. given ≡ terms) → AreSegmentsOf terms segments texts lists
  pub counted : AreCounted (IsGoneFrom removals 0 (names_indexed (joined lists))) removed

-- These segments were read, with these stop terms, counts and faults.
pub record AreChecked {S : Type 0} (contents : S → Option (List ℕ)) (files : List ℕ) (removals : List Removal) (sources : List S) (segments : List Segment) (stop : Option (List (List ℕ))) (counts : Counts) (faults : List ArchiveError) : Type 0 where
  pub texts : List (List ℕ)
  pub sized : length texts ≡ length segments
  pub read : AreRead contents sources texts
  pub documents : counts.documents ≡ sum_by (λ segment. segment.documents) segments
  pub segments_counted : counts.segments ≡ length segments
  pub bytes : counts.bytes ≡ sum_by (λ segment. segment.bytes) segments
  pub each : All (IsFaultOf (Contains files)) faults
  pub fit : faults ≡ [] → AreFit stop segments texts removals counts.removed
  pub only : (terms : List (List ℕ)) (lists : List (List Document)) → AreSegmentsOf terms segments texts lists → (faults ≡ []) × IfSome stop (λ given. given ≡ terms)

pub none_checked : {S : Type 0} (contents : S → Option (List ℕ)) (files : List ℕ) (removals : List Removal) → AreChecked contents files removals [] [] None no_counts []
none_checked contents files removals = record {
  texts = [];
  sized = refl;
  read = tt;
  documents = refl;
  segments_counted = refl;
  bytes = refl;
  each = λ k d within. absurd (omega arith);
  fit = λ none. record {
    lists = [];
    of = λ terms is. tt;
    counted = none_counted (IsGoneFrom removals 0 []) (λ n gone. let none : None ≡ Some gone.name = gone.numbered in cc);
  };
  only = λ terms lists are. (refl, tt);
}

gone_counted : (removals : List Removal) (first : ℕ) (xs ys : List Document) (a b : ℕ) → AreCounted (IsGoneFrom removals first (names_indexed xs)) a → AreCounted (IsGoneFrom removals (first + length xs) (names_indexed ys)) b
    → AreCounted (IsGoneFrom removals first (names_indexed (xs ++ ys))) (a + b)
gone_counted removals first xs ys a b one other =
    counted_joined (length xs) (IsGoneFrom removals first (names_indexed xs)) (IsGoneFrom removals (first + length xs) (names_indexed ys)) (IsGoneFrom removals first (names_indexed (xs ++ ys))) a b
    (gone_within removals first xs ys) (gone_left removals first xs ys) (gone_right removals first xs ys) one other

joined_more : (lists : List (List Document)) (documents : List Document) → joined (lists ++ documents ∷ []) ≡ joined lists ++ documents
joined_more lists documents = flat_map-append (λ (list : List Document). list) lists (documents ∷ []) ∙ ap (λ (l : List Document). joined lists ++ l) (append-nil documents)

module _ {S : Type 0} (contents : S → Option (List ℕ)) (files : List ℕ) (removals : List Removal) (sources : List S) (segments : List Segment) (stop : Option (List (List ℕ))) (counts : Counts) (faults : List ArchiveError)
    (so_far : AreChecked contents files removals sources segments stop counts faults) (source : S) (segment : Segment) (text : List ℕ) (told : (known : List ℕ) → contents source ≡ Some known → text ≡ known) where
  sized_more : length (so_far.texts ++ text ∷ []) ≡ length (segments ++ segment ∷ [])
  sized_more = let same = so_far.sized in omega (arith, length-append so_far.texts (text ∷ []), length-append segments (segment ∷ []))

  count_more : length segments + 1 ≡ length (segments ++ segment ∷ [])
  count_more = sym (length-append segments (segment ∷ []))

  summed : (f : Segment → ℕ) (n : ℕ) → n ≡ sum_by f segments → n + f segment ≡ sum_by f (segments ++ segment ∷ [])
  summed f n is = ap (λ (m : ℕ). m + f segment) is ∙ sym (sum_by_push f segments segment)

  -- one more segment is as the manifest says
  pub passed_more : (terms : List (List ℕ)) (removed : ℕ) → IsPassed stop segment text removals counts.documents terms removed
      → AreChecked contents files removals (sources ++ source ∷ []) (segments ++ segment ∷ []) (Some terms) (counts_with counts segment removed) faults
  passed_more terms removed passed = record {
    texts = so_far.texts ++ text ∷ [];
    sized = sized_more;
    read = read_more contents sources so_far.texts source text so_far.read told;
    documents = summed (λ one. one.documents) counts.documents so_far.documents;
    segments_counted = ap (λ (n : ℕ). n + 1) so_far.segments_counted ∙ count_more;
    bytes = summed (λ one. one.bytes) counts.bytes so_far.bytes;
    each = so_far.each;
    fit = λ none.
        let fit = so_far.fit none in
        let before = so_far.documents ∙ sym (joined_length terms segments so_far.texts fit.lists (fit.of terms passed.same)) in
        record {
          lists = fit.lists ++ passed.documents ∷ [];
          of = λ given is.
              segments_added given segments so_far.texts fit.lists segment text passed.documents
              (fit.of given (subst (λ (t : List (List ℕ)). IfSome stop (λ g. g ≡ t)) is passed.same))
              (subst (λ (t : List (List ℕ)). IsSegmentOf t segment text passed.documents) is passed.of);
          counted = subst (λ (ds : List Document). AreCounted (IsGoneFrom removals 0 (names_indexed ds)) (counts.removed + removed)) (sym (joined_more fit.lists passed.documents))
              (gone_counted removals 0 (joined fit.lists) passed.documents counts.removed removed fit.counted
              (subst (λ (n : ℕ). AreCounted (IsGoneFrom removals n (names_indexed passed.documents)) removed) (let first : counts.documents ≡ 0 + length (joined fit.lists) = omega arith in first) passed.counted));
        };
    only = λ other lists are.
        let parted = segments_parted other segments so_far.texts lists segment text so_far.sized are in
        ((so_far.only other parted.lists parted.before).0, passed.only other parted.documents parted.last);
  }

  -- one more segment has a fault
  pub faulty_more : (fault : ArchiveError) → IsFaultOf (λ file. file ≡ segment.file) fault → Contains files segment.file → IsTextOfNone stop segment text
      → AreChecked contents files removals (sources ++ source ∷ []) (segments ++ segment ∷ []) stop (counts_with counts segment 0) (faults ++ fault ∷ [])
  faulty_more fault is among none_of = record {
    texts = so_far.texts ++ text ∷ [];
    sized = sized_more;
    read = read_more contents sources so_far.texts source text so_far.read told;
    documents = summed (λ one. one.documents) counts.documents so_far.documents;
    segments_counted = ap (λ (n : ℕ). n + 1) so_far.segments_counted ∙ count_more;
    bytes = summed (λ one. one.bytes) counts.bytes so_far.bytes;
    each = All-push (IsFaultOf (Contains files)) faults fault so_far.each (fault_in (λ file. file ≡ segment.file) (Contains files) (λ file same. subst (Contains files) (sym same) among) fault is);
    fit = λ none. absurd (some_behind faults fault none);
    only = λ other lists are.
        let parted = segments_parted other segments so_far.texts lists segment text so_far.sized are in
        absurd (none_of other parted.documents (so_far.only other parted.lists parted.before).1 parted.last);
  }

-- ---- all segments

given_or : (stop : Option (List (List ℕ))) → IfSome stop (λ given. given ≡ unwrap_or stop [])
given_or None = tt
given_or (Some terms) = refl

removals_listed : (documents : ℕ) (removals : List Removal) (line : Option RemovalsLine) → MatchOption line (removals ≡ []) (λ one. IsRemovalsText removals one (removals_text removals)) → All (λ removal. removal.below ≤ documents) removals
    → AreRemovalsIn documents removals line (option_map (λ _. removals_text removals) line)
removals_listed documents removals None is within = is
removals_listed documents removals (Some line) is within =
    record { listed = is.listed; written = is.written; counted = is.counted; sized = is.sized; digested = is.digested; earlier = within }

bounds_within : (documents : ℕ) (removals : List Removal) (line : Option RemovalsLine) (file : Option (List ℕ)) → AreRemovalsIn documents removals line file → All (λ removal. removal.below ≤ documents) removals
bounds_within documents removals None None are = subst (All (λ removal. removal.below ≤ documents)) (sym are) (λ k d within. absurd (omega arith))
bounds_within documents removals (Some line) (Some text) are = are.earlier
bounds_within documents removals None (Some text) are = absurd are
bounds_within documents removals (Some line) None are = absurd are

-- the file of a segment is one that the manifest names
pub segment_named : (view : ManifestView) (i : ℕ) (segment : Segment) → i < length view.segments → segment ≡ get_or view.segments i segment → Contains (files_of view) segment.file
segment_named view i segment within is =
    let file : Segment → ℕ = λ one. one.file in
    Contains-append_left (map file view.segments) _ segment.file (i, (let same = length-map view.segments file in omega arith), get_or-map file view.segments i segment segment.file within ∙ ap file (sym is))

module _ {S : Type 0} (contents : S → Option (List ℕ)) (opened : Opened S) (stop : Option (List (List ℕ))) (counts : Counts) (faults : List ArchiveError)
    (checked : AreChecked contents (files_of (view_of opened.manifest)) opened.removals opened.sources.items opened.manifest.segments.items stop counts faults) where
  -- All is as it must be.
  pub sound_of : faults ≡ [] → All (λ removal. removal.below ≤ counts.documents) opened.removals → IsChecked contents opened (Sound counts)
  sound_of none within =
      let fit = checked.fit none in
      let segments = opened.manifest.segments.items in
      let of = fit.of (unwrap_or stop []) (given_or stop) in
      let archive : Archive = record { stop = unwrap_or stop []; documents = joined fit.lists; removals = opened.removals } in
      let counted : counts.documents ≡ length (joined fit.lists) = checked.documents ∙ sym (joined_length archive.stop segments checked.texts fit.lists of) in
      record {
        texts = checked.texts;
        read = checked.read;
        found = record {
          archive = archive;
          of = record {
            removals_file = option_map (λ _. removals_text opened.removals) opened.manifest.removals;
            laid = record {
              lawful = opened.lawful;
              has_segment = opened.has_segment;
              lists = fit.lists;
              segments = of;
              documents = refl;
              removals = removals_listed (length (joined fit.lists)) opened.removals opened.manifest.removals opened.listed (subst (λ (n : ℕ). All (λ removal. removal.below ≤ n) opened.removals) counted within);
            };
            removals = refl;
          };
          counted = record {
            documents = counted;
            removed = counted_alike (IsGoneFrom opened.removals 0 (names_indexed (joined fit.lists))) (IsGone archive) counts.removed (gone_alike_in archive) fit.counted;
            segments = checked.segments_counted;
            bytes = checked.bytes;
          };
        };
      }

  -- A segment has a fault.
  none_of_segments : faults ≢ [] → (archive : Archive) → ¬ (AreTextsOf archive opened checked.texts)
  none_of_segments some archive are = some (checked.only archive.stop are.laid.lists are.laid.segments).0

  -- A removal has a bound above the number of documents.
  none_of_bounds : ¬ (All (λ removal. removal.below ≤ counts.documents) opened.removals) → (archive : Archive) → ¬ (AreTextsOf archive opened checked.texts)
  none_of_bounds above archive are =
      let laid = are.laid in
      let count : length archive.documents ≡ counts.documents = ap length laid.documents ∙ joined_length archive.stop opened.manifest.segments.items checked.texts laid.lists laid.segments ∙ sym checked.documents in
      above (subst (λ (n : ℕ). All (λ removal. removal.below ≤ n) opened.removals) count
      (subst (All (λ removal. removal.below ≤ length archive.documents)) (sym are.removals) (bounds_within (length archive.documents) archive.removals opened.manifest.removals are.removals_file laid.removals)))

  pub segments_faulty : faults ≢ [] → AreFaulty opened checked.texts faults
  segments_faulty some = record { some = some; each = checked.each; of_none = none_of_segments some }

  pub removals_faulty : (fault : ArchiveError) → IsFaultOf (Contains (files_of (view_of opened.manifest))) fault → ¬ (All (λ removal. removal.below ≤ counts.documents) opened.removals)
      → AreFaulty opened checked.texts (faults ++ fault ∷ [])
  removals_faulty fault is above = record {
    some = some_behind faults fault;
    each = All-push (IsFaultOf (Contains (files_of (view_of opened.manifest)))) faults fault checked.each is;
    of_none = none_of_bounds above;
  }
