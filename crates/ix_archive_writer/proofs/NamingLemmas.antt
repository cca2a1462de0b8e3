-- The names of the files of a manifest are gathered.
use Rattle.std.proofs.Common.{◌≡◌, ◌+◌, ◌<◌, List, [], ◌∷◌, ◌++◌, All, Contains, ℕ, Option, length, subst, sym, take}
use Rattle.std.specs.Prelude.{IfSome, codes, decimal, get_or}
use Rattle.std.proofs.lemmas.List.Elements.{All-more, All-weaker, Contains-append_left, Contains-push}
use Rattle.ix_manifest.specs.declared.manifest.Removals.{Removals as RemovalsLine}
use Rattle.ix_manifest.specs.declared.manifest.Segment.{Segment}
use Rattle.ix_archive_writer.proofs.Places.{if_some}

-- the name of a segment's file is among these
abbrev pub HasSegment : List (List ℕ) → Segment → Type 0
HasSegment names segment = Contains names (codes "segment-" ++ decimal segment.file)

-- the name of one segment more was added
pub segment_named : (names all : List (List ℕ)) (segments : List Segment) (index : ℕ) (default : Segment) (name : List ℕ) → index < length segments → name ≡ codes "segment-" ++ decimal (get_or segments index default).file
    → all ≡ names ++ name ∷ [] → All (HasSegment names) (take index segments) → All (HasSegment all) (take (index + 1) segments)
segment_named names all segments index default name within is more named =
    All-more (HasSegment all) segments index default within
    (All-weaker (HasSegment names) (HasSegment all) (λ segment has. subst (λ (l : List (List ℕ)). HasSegment l segment) (sym more) (Contains-append_left names (name ∷ []) _ has)) (take index segments) named)
    (subst (λ (l : List (List ℕ)). HasSegment l (get_or segments index default)) (sym more) (subst (Contains (names ++ name ∷ [])) is (Contains-push names name)))

-- and that of the removals stays
pub removals_named : (names all : List (List ℕ)) (line : Option RemovalsLine) (name : List ℕ) → all ≡ names ++ name ∷ [] → IfSome line (λ line. Contains names (codes "removals-" ++ decimal line.file))
    → IfSome line (λ line. Contains all (codes "removals-" ++ decimal line.file))
removals_named names all line name more = if_some (λ (l : RemovalsLine). Contains names (codes "removals-" ++ decimal l.file)) (λ (l : RemovalsLine). Contains all (codes "removals-" ++ decimal l.file)) line
    (λ l has. subst (λ (k : List (List ℕ)). Contains k (codes "removals-" ++ decimal l.file)) (sym more) (Contains-append_left names (name ∷ []) _ has))
