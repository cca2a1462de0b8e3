use Rattle.std.proofs.Common.{◌≡◌, ◌∙◌, ◌+◌, List, [], ◌∷◌, ◌++◌, arith, ap, length, subst, sym, take}
use Rattle.std.specs.Prelude.{All, map, string_bytes}
use Rattle.std.proofs.lemmas.List.{map-append, take_all}
use Rattle.ix_manifest.specs.declared.manifest.Segment.{Segment}
use Rattle.ix_archive_writer.proofs.NamingLemmas.{HasSegment, removals_named, segment_named}
use Rattle.ix_archive_writer.proofs.opening.names_of.Goals as goal

pub loop-segment-preserved : goal.loop-segment-preserved
loop-segment-preserved c =
    let names = map string_bytes c.loop-segment.names.items in
    let all = map string_bytes c.push-in-loop-segment.new.self.items in
    let name = string_bytes c.in_ok-format-2.field-0 in
    let more : all ≡ names ++ name ∷ [] = ap (map string_bytes) c.in_ok-push-2.ensures.items ∙ map-append string_bytes c.loop-segment.names.items (c.in_ok-format-2.field-0 ∷ []) in
    let index = c.loop-segment.segment-index in
    record {
      segments = subst (λ (l : List Segment). All (HasSegment all) (take (index + 1) l)) c.deref-segment-items.ensures.value
          (segment_named names all c.deref-segment-items.result.now index _ name c.loop-segment-test.true c.in_ok-format-2.ensures.ok more
          (subst (λ (l : List Segment). All (HasSegment names) (take index l)) (sym c.deref-segment-items.ensures.value) c.loop-segment.invariant.segments));
      removals = removals_named names all c.args.manifest.now.removals name more c.loop-segment.invariant.removals;
    }

pub returns-clause-segments : goal.returns-clause-segments
returns-clause-segments c =
    subst (All (HasSegment (map string_bytes c.loop-segment.names.items)))
    (take_all c.loop-segment.segment-index c.args.manifest.now.segments.items (omega (arith, c.loop-segment-test.false, ap length c.deref-segment-items.ensures.value))) c.loop-segment.invariant.segments
