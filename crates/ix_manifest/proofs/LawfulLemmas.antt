-- Segments that are lawful, one after another.
use Rattle.std.proofs.Common.{◌≡◌, ◌≢◌, ℕ, ◌+◌, ◌<◌, List, [], ◌∷◌, ◌++◌, length, get_or, take, sym, ap, ◌∙◌, add-one, arith}
use Rattle.std.specs.Prelude.{Any}
use Rattle.std.proofs.Math.Seq.{take-suc}
use Rattle.std.proofs.lemmas.List.{get_or-take, get_or_default, length-take}
use Rattle.std.proofs.lemmas.List.Elements.{All-push}
use Rattle.std.proofs.lemmas.List.Quantifiers.{all_pairs_push}
use Rattle.ix_manifest.specs.ManifestText.{AreSegments, IsSegment}
use Rattle.ix_manifest.specs.declared.manifest.Segment.{Segment}

pub no_segments : (next : ℕ) → AreSegments next []
no_segments next = record { each = λ k d within. absurd (omega arith); apart = λ i j d before within. absurd (omega arith) }

lawful_push : (next : ℕ) (segments : List Segment) (segment : Segment) → AreSegments next segments → IsSegment next segment → ¬ (Any (λ one. one.file ≡ segment.file) segments)
    → AreSegments next (segments ++ segment ∷ [])
lawful_push next segments segment before is other =
    record {
      each = All-push (IsSegment next) segments segment before.each is;
      apart = all_pairs_push (λ one another. one.file ≢ another.file) segments segment before.apart
          (λ k d within same. other (k, get_or segments k d, within, get_or_default segments k (get_or segments k d) d within, same));
    }

-- one more segment is lawful
pub lawful_more : (next : ℕ) (segments : List Segment) (place width : ℕ) (none : Segment) → place < length segments → width ≡ place → AreSegments next (take place segments) → IsSegment next (get_or segments place none)
    → ¬ (Any (λ one. one.file ≡ (get_or segments place none).file) (take width segments)) → AreSegments next (take (place + 1) segments)
lawful_more next segments place width none within same before is other =
    rw (add-one, take-suc segments place none within) (lawful_push next (take place segments) (get_or segments place none) before is (rw same at other))

-- a segment has the file of one before it
pub file_taken : (next : ℕ) (segments : List Segment) (place width : ℕ) (none : Segment) → place < length segments → width ≡ place → Any (λ one. one.file ≡ (get_or segments place none).file) (take width segments)
    → ¬ (AreSegments next segments)
file_taken next segments place width none within whole (k, one, before, at, same) are =
    let bound : k < width = omega (arith, length-take {A = Segment}) in
    let low : k < place = omega arith in
    let found : get_or segments k none ≡ one = get_or_default segments k none one (omega arith) ∙ sym (get_or-take width segments k one bound) ∙ at in
    are.apart k place none low within (ap (λ (segment : Segment). segment.file) found ∙ same)
