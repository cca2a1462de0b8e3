-- The parts of a manifest's text, one behind another.
use Rattle.std.proofs.Common.{◌≡◌, ℕ, List, [], ◌∷◌, ◌++◌, get_or, Option, Some, None, Result, Ok, refl, sym, ap, ◌∙◌, arith, append_assoc}
use Rattle.std.specs.Prelude.{IfSome, codes}
use Rattle.std.specs.List.{flat_map}
use Rattle.std.proofs.lemmas.List.Elements.{All-head, All-tail}
use Rattle.ix_manifest.specs.ManifestParts.{AreSegmentsOf, IsBehind}
use Rattle.ix_manifest.specs.ManifestText.{AreFields, IsManifest, IsRemovals, IsSegment, ManifestView, body_text, end_text, fields_text, head_text, manifest_text, removals_text, segment_fields, segment_text}
use Rattle.ix_manifest.specs.declared.manifest.Removals.{Removals}
use Rattle.ix_manifest.specs.declared.manifest.Segment.{Segment}

-- ---- segments

-- the first segment of a text that begins with the line of a segment
pub record HasSegment (next : ℕ) (segments : List Segment) (fields rest : List ℕ) : Type 0 where
  pub one : Segment
  pub others : List Segment
  pub are : segments ≡ one ∷ others
  pub is : IsSegment next one
  pub before : fields ≡ segment_fields one ++ (flat_map segment_text others ++ rest)
  pub after : AreSegmentsOf next (flat_map segment_text others ++ rest) others rest

pub next_segment : (next : ℕ) (text : List ℕ) (segments : List Segment) (rest fields : List ℕ) → AreSegmentsOf next text segments rest → text ≡ codes "segment " ++ fields → HasSegment next segments fields rest
next_segment next text [] rest fields are is = absurd (are.ended fields (sym are.joined ∙ is))
next_segment next text (one ∷ others) rest fields are is =
    let whole : codes "segment " ++ fields ≡ codes "segment " ++ ((segment_fields one ++ flat_map segment_text others) ++ rest) = sym is ∙ are.joined in
    let same : fields ≡ (segment_fields one ++ flat_map segment_text others) ++ rest = cc in
    record {
      one = one;
      others = others;
      are = refl;
      is = All-head (IsSegment next) one others are.each;
      before = same ∙ append_assoc (segment_fields one) (flat_map segment_text others) rest;
      after = record { bound = are.bound; each = All-tail (IsSegment next) one others are.each; joined = refl; ended = are.ended };
    }

pub no_segment : (next : ℕ) (text : List ℕ) (segments : List Segment) (rest : List ℕ) → AreSegmentsOf next text segments rest → IsBehind (codes "segment ") text → (segments ≡ []) × (text ≡ rest)
no_segment next text [] rest are behind = (refl, are.joined)
no_segment next text (one ∷ others) rest are behind = absurd (behind ((segment_fields one ++ flat_map segment_text others) ++ rest) are.joined)

-- one segment is read, and the others follow
pub segment_read : (next : ℕ) (all done : List Segment) (left : List Segment) (segment : Segment) (text fields rest : List ℕ) (more : HasSegment next left fields rest) → all ≡ done ++ left
    → segment ≡ more.one → text ≡ flat_map segment_text more.others ++ rest
    → (others : List Segment) × (all ≡ (done ++ segment ∷ []) ++ others) × AreSegmentsOf next text others rest
segment_read next all done left segment text fields rest more joined same follows = (
  more.others,
  joined ∙ ap (λ l. done ++ l) (more.are ∙ ap (λ (one : Segment). one ∷ more.others) (sym same)) ∙ sym (append_assoc done (segment ∷ []) more.others),
  rw follows more.after,
)

-- ---- the removals

-- the removals of a text that begins with their line
pub record HasRemovals (next : ℕ) (removals : Option Removals) (fields rest : List ℕ) : Type 0 where
  pub one : Removals
  pub is : removals ≡ Some one
  pub are : AreFields next one.file one.count one.bytes one.digest
  pub before : fields ≡ fields_text one.file one.count one.bytes one.digest ++ rest

pub removals_there : (next : ℕ) (segments : List Segment) (text rest fields : List ℕ) (removals : Option Removals) → IfSome removals (IsRemovals next segments) → text ≡ removals_text removals ++ rest
    → IsBehind (codes "removals ") rest → text ≡ codes "removals " ++ fields → HasRemovals next removals fields rest
removals_there next segments text rest fields None lawful is behind begins = absurd (behind fields (sym is ∙ begins))
removals_there next segments text rest fields (Some one) lawful is behind begins =
    let whole : codes "removals " ++ fields ≡ codes "removals " ++ (fields_text one.file one.count one.bytes one.digest ++ rest) = sym begins ∙ is in
    record { one = one; is = refl; are = lawful.fields; before = cc }

-- ---- the whole text

regroup : (head segments removals last : List ℕ) → ((head ++ segments) ++ removals) ++ last ≡ head ++ (segments ++ (removals ++ last))
regroup head segments removals last = append_assoc (head ++ segments) removals last ∙ append_assoc head segments (removals ++ last)

-- what is behind the head
abbrev pub behind_segments : ManifestView → List ℕ
behind_segments view = removals_text view.removals ++ end_text (body_text view)

pub manifest_parts : (view : ManifestView) → manifest_text view ≡ head_text view.next ++ (flat_map segment_text view.segments ++ behind_segments view)
unfolding manifest_text body_text
manifest_parts view = regroup (head_text view.next) (flat_map segment_text view.segments) (removals_text view.removals) (end_text (body_text view))

pub end_behind : (bytes : List ℕ) → IsBehind (codes "removals ") (end_text bytes)
end_behind bytes rest same = let first : ◌≡◌ {A = ℕ} 101 114 = ap (λ (l : List ℕ). get_or l 0 0) same in absurd (omega arith)

removals_behind : (removals : Option Removals) (bytes : List ℕ) → IsBehind (codes "segment ") (removals_text removals ++ end_text bytes)
removals_behind None bytes rest same = let first : ◌≡◌ {A = ℕ} 101 115 = ap (λ (l : List ℕ). get_or l 0 0) same in absurd (omega arith)
removals_behind (Some removals) bytes rest same = let first : ◌≡◌ {A = ℕ} 114 115 = ap (λ (l : List ℕ). get_or l 0 0) same in absurd (omega arith)

pub segments_there : (view : ManifestView) (text : List ℕ) → IsManifest view → text ≡ flat_map segment_text view.segments ++ behind_segments view → AreSegmentsOf view.next text view.segments (behind_segments view)
segments_there view text is begins =
    record { bound = is.bound; each = is.segments.each; joined = begins; ended = removals_behind view.removals (body_text view) }

-- what was read is what the manifest says
pub same_view : {E : Type 0} (next : ℕ) (segments : List Segment) (removals : Option Removals) (view : ManifestView) (read : Result (Option Removals) E) → next ≡ view.next → segments ≡ view.segments
    → read ≡ Ok removals → read ≡ Ok view.removals → let own : ManifestView = record { next = next; segments = segments; removals = removals } in own ≡ view
same_view next segments removals view read same_next same_segments was is = let same_removals : removals ≡ view.removals = cc in rw (same_next, same_segments, same_removals) refl

-- ---- writing

pub removals_written : (old begun written : List ℕ) (removals : Option Removals) (one : Removals) → removals ≡ Some one → begun ≡ old ++ codes "removals "
    → written ≡ begun ++ fields_text one.file one.count one.bytes one.digest → written ≡ old ++ removals_text removals
removals_written old begun written removals one is begins follows =
    rw is (follows ∙ ap (λ l. l ++ fields_text one.file one.count one.bytes one.digest) begins ∙ append_assoc old (codes "removals ") (fields_text one.file one.count one.bytes one.digest))
